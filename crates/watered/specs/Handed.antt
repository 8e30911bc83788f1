-- A plan as a C program hands it over: the number of heads, the box as four numbers, and ten heads as thirty.
use Rattle.std.specs.Prelude.{ℕ, ◌+◌, ◌*◌, ◌/◌, ◌%◌, List, [], ◌∷◌, ℤ, pos, get_or}
use Rattle.heads.specs.declared.Head.{Head}
use Rattle.plan.specs.declared.Ground.{Ground}
use Rattle.plan.specs.declared.Plan.{Plan}
use Rattle.plan.specs.Limits.{no_head}

-- head i: x, y and radius of each in turn
unfoldable pub head_of : List ℤ → ℕ → Head
head_of l i = record {
  x = get_or l (i * 3) (pos 0);
  y = get_or l (i * 3 + 1) (pos 0);
  radius = get_or l (i * 3 + 2) (pos 0);
}

-- the ten of them
abbrev pub heads_of : List ℤ → List Head
heads_of l =
    head_of l 0 ∷ head_of l 1 ∷ head_of l 2 ∷ head_of l 3 ∷ head_of l 4
    ∷ head_of l 5 ∷ head_of l 6 ∷ head_of l 7 ∷ head_of l 8 ∷ head_of l 9 ∷ []

-- the box: centre x, centre y, width, height
unfoldable pub ground_of : List ℤ → Ground
ground_of l = record {
  x = get_or l 0 (pos 0);
  y = get_or l 1 (pos 0);
  width = get_or l 2 (pos 0);
  height = get_or l 3 (pos 0);
}

unfoldable pub plan_of : ℕ → List ℤ → List ℤ → Plan
plan_of n box heads = let ground : Ground = ground_of box in record { ground = ground; n = n; heads = heads_of heads }

-- ten heads as numbers again
abbrev pub three : Head → List ℤ → List ℤ
three h rest = h.x ∷ h.y ∷ h.radius ∷ rest

-- number i of them
unfoldable pub number_at : List Head → ℕ → ℤ
number_at l i = let h = get_or l (i / 3) no_head in get_or (h.x ∷ h.y ∷ h.radius ∷ []) (i % 3) (pos 0)

abbrev pub numbers_of : List Head → List ℤ
numbers_of l =
    three (get_or l 0 no_head) (three (get_or l 1 no_head) (three (get_or l 2 no_head)
    (three (get_or l 3 no_head) (three (get_or l 4 no_head) (three (get_or l 5 no_head)
    (three (get_or l 6 no_head) (three (get_or l 7 no_head) (three (get_or l 8 no_head)
    (three (get_or l 9 no_head) [])))))))))
