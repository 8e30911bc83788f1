-- Heads left out, computed: of four heads, the first and the third closed.
use Rattle.std.specs.Prelude.{ℕ, true, false, List, [], ◌∷◌, ◌≡◌, refl, pos, ℤ, replicate}
use Rattle.heads.specs.declared.Head.{Head}
use Rattle.lists.specs.Kept.{all_but, remaining, place, kept_below}
use Rattle.lists.specs.Lists.{keep}
use Rattle.masks.specs.Spread.{spread}
use Rattle.plan.specs.declared.Ground.{Ground}
use Rattle.plan.specs.declared.Plan.{Plan}
use Rattle.plan.specs.Limits.{no_head}
use Rattle.plan.specs.Without.{lifted, heads_not_closed, plan_not_closed, places_not_closed}
use Rattle.sets.specs.Examples.{All}

abbrev pub head : ℤ → Head
head radius = record { x = pos 3; y = pos 4; radius = radius }

abbrev pub plan : List Head → ℕ → Plan
plan heads n =
    let ground : Ground = record { x = pos 0; y = pos 0; width = pos 9; height = pos 9 } in
    record { ground = ground; n = n; heads = heads }

-- heads 0 and 2 are closed; places 4 to 9 are not looked at
abbrev pub two_closed : Plan
two_closed = plan (head (pos 0) ∷ head (pos 5) ∷ head (pos 0) ∷ head (pos 7) ∷ replicate 6 (head (pos 8))) 4

abbrev pub examples : List (Type 0)
examples =
    -- a zero bit is put in at place 0, 1 and 3
    (spread (all_but 0) 5 ≡ 10)
    ∷ (spread (all_but 1) 3 ≡ 5)
    ∷ (spread (all_but 3) 13 ≡ 21)
    -- heads 0 and 1 of those kept are heads 1 and 3 of all
    ∷ (places_not_closed two_closed ≡ false ∷ true ∷ false ∷ true ∷ [])
    ∷ (place (places_not_closed two_closed) 0 ≡ 1)
    ∷ (place (places_not_closed two_closed) 1 ≡ 3)
    ∷ (spread (places_not_closed two_closed) 1 ≡ 2)
    ∷ (spread (places_not_closed two_closed) 2 ≡ 8)
    ∷ (spread (places_not_closed two_closed) 3 ≡ 10)
    ∷ (plan_not_closed two_closed ≡ plan (head (pos 5) ∷ head (pos 7) ∷ replicate 8 no_head) 2)
    -- head 2 alone taken out
    ∷ (lifted two_closed 2
    ≡ plan (head (pos 0) ∷ head (pos 5) ∷ head (pos 7) ∷ no_head ∷ replicate 6 (head (pos 8))) 3)
    ∷ []

pub worked : All examples
unfolding spread place remaining kept_below keep heads_not_closed plan_not_closed lifted
worked = (refl, (refl, (refl, (refl, (refl, (refl, (refl, (refl, (refl, (refl, (refl, tt)))))))))))
