-- What sets there are for some answers about three or four heads: one list, `examples`, of cases that tell the rules of
-- specs/Sets.antt from the slips that this trade makes. Both sides of each equation are computed.
use Prim.{Unit, tt}
use Rattle.std.specs.Prelude.{ℕ, Bool, true, false, ◌||◌, List, [], ◌∷◌, ◌≡◌, refl, eqb}
use Rattle.std.specs.Int.Count.{ones}
use Rattle.lists.specs.Some.{any}
use Rattle.masks.specs.Mask.{in_set, gather, every}
use Rattle.sets.specs.Sets.{is_set}
use Rattle.sets.specs.Regions.{is_one_head}

-- the mask is one of these
abbrev pub one_of : List ℕ → ℕ → Bool
one_of masks S = any (eqb S) masks

-- nobody meets or contains anybody; everybody does
abbrev pub nobody : ℕ → ℕ → Bool
nobody i j = false

abbrev pub everybody : ℕ → ℕ → Bool
everybody i j = true

-- all contain head 0
abbrev pub containing_head0 : ℕ → ℕ → Bool
containing_head0 i j = eqb j 0

-- heads 0 and 1 meet, and heads 0 and 2
abbrev pub with_head0 : ℕ → ℕ → Bool
with_head0 i j = eqb i 0 || eqb j 0

-- S is among the sets of n heads, of which these are closed, with these adopter masks, pairs that meet and heads that
-- contain others
abbrev pub sets_of : ℕ → (ℕ → Bool) → List ℕ → (ℕ → ℕ → Bool) → (ℕ → ℕ → Bool) → ℕ → Bool
sets_of n closed adopters meets contains S = is_set n (is_one_head n closed) (one_of adopters) meets contains S

-- none of them closed
abbrev pub set : ℕ → List ℕ → (ℕ → ℕ → Bool) → (ℕ → ℕ → Bool) → ℕ → Bool
set n adopters meets contains S = sets_of n (λ i. false) adopters meets contains S

-- all propositions of a list hold
abbrev pub All : List (Type 0) → Type 0
All [] = Unit {0}
All (P ∷ Ps) = P × All Ps

abbrev pub examples : List (Type 0)
examples =
    -- a single, a pair that meets, one of which one head contains the other, one that does neither; not the empty mask
    (set 2 [] nobody nobody 2 ≡ true)
    ∷ (set 2 [] everybody nobody 3 ≡ true)
    ∷ (set 2 [] nobody containing_head0 3 ≡ true)
    ∷ (set 2 [] nobody nobody 3 ≡ false)
    ∷ (set 2 [] everybody everybody 0 ≡ false)
    -- adopters of three heads: a pair is left when one is taken away, but no more than one is taken away
    ∷ (set 3 (7 ∷ []) nobody nobody 5 ≡ true)
    ∷ (set 4 (15 ∷ []) nobody nobody 13 ≡ true)
    ∷ (set 4 (15 ∷ []) nobody nobody 5 ≡ false)
    -- level by level: all pairs, and head 0 in all others; not where heads 1 and 2 are no pair; not where no head is in
    -- all others
    ∷ (set 3 [] everybody containing_head0 7 ≡ true)
    ∷ (set 3 [] with_head0 containing_head0 7 ≡ false)
    ∷ (set 3 [] everybody nobody 7 ≡ false)
    -- four heads come from three that are new; from three that were found before, the Rust does not go on
    ∷ (set 4 [] everybody containing_head0 15 ≡ true)
    ∷ (set 4 (7 ∷ 11 ∷ 13 ∷ 14 ∷ []) everybody containing_head0 15 ≡ false)
    ∷ []

pub worked : All examples
unfolding any ones in_set gather every is_one_head is_set
worked = (refl, (refl, (refl, (refl, (refl, (refl, (refl, (refl, (refl, (refl, (refl, (refl, (refl, tt)))))))))))))

-- of two heads the second is closed: it has no single, the first has
abbrev pub closed_examples : List (Type 0)
closed_examples =
    (sets_of 2 (λ i. eqb i 1) [] nobody nobody 2 ≡ false)
    ∷ (sets_of 2 (λ i. eqb i 1) [] nobody nobody 1 ≡ true)
    ∷ []

pub closed_worked : All closed_examples
unfolding any ones in_set gather every is_one_head is_set
closed_worked = (refl, (refl, tt))
