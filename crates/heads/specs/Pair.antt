-- The relation of two heads by their fields, over exact whole numbers, whatever the fields are.
use Rattle.std.specs.Prelude.{ℕ, ◌+◌, ◌-◌, ◌*◌, ◌^◌, ◌≡◌, refl, Bool, ℤ, pos, negsuc, nat_abs, ◌-ℤ◌}
use Rattle.heads.specs.declared.Head.{Head}
use Rattle.heads.specs.declared.Relation.{Relation}
use Rattle.heads.specs.Relation.{closed, relation, meets, meets_once, contains}

-- a number below zero counts as zero
abbrev pub above_zero : ℤ → ℕ
above_zero (pos n) = n
above_zero (negsuc n) = 0

-- the radius as a whole number; one below zero, which no plan has, counts as zero
abbrev pub radius_of : Head → ℕ
radius_of h = above_zero h.radius

-- a head that is switched off
abbrev pub is_closed : Head → Bool
is_closed h = closed (radius_of h)

-- D, the squared centre distance
abbrev pub squared_distance : Head → Head → ℕ
squared_distance a b =
    nat_abs (a.x -ℤ b.x) * nat_abs (a.x -ℤ b.x) + nat_abs (a.y -ℤ b.y) * nat_abs (a.y -ℤ b.y)

-- the greatest u64
abbrev pub greatest : ℕ
greatest = 0xFFFF_FFFF_FFFF_FFFF

pub greatest_is : greatest ≡ 2 ^ 64 - 1
greatest_is = refl

-- how two heads lie to each other
abbrev pub relation_of : Head → Head → Relation
relation_of a b = relation (squared_distance a b) (radius_of a) (radius_of b)

-- two heads meet
abbrev pub meets_of : Head → Head → Bool
meets_of a b = meets (squared_distance a b) (radius_of a) (radius_of b)

-- two heads meet in one point
abbrev pub meets_once_of : Head → Head → Bool
meets_once_of a b = meets_once (squared_distance a b) (radius_of a) (radius_of b)

-- head a contains head b
abbrev pub contains_of : Head → Head → Bool
contains_of a b = contains (squared_distance a b) (radius_of a) (radius_of b)
