-- How two heads lie to each other, over whole numbers: D is the squared centre distance, a and b are the radii.
-- Document 01, "Facts to hold", with s the sum and t the difference of the radii, and document 02's slip 3: a closed
-- head meets nothing, contains nothing and is contained in nothing.
use Rattle.std.specs.Prelude.{ℕ, ◌+◌, ◌-◌, ◌*◌, Bool, true, false, not, cond, ◌&&◌, ◌||◌, ltb, leb, eqb}
use Rattle.heads.specs.declared.Relation.{Relation}
use Rattle.heads.specs.declared.Relation.TheVariants.{Apart, TouchingOutside, Crossing}
use Rattle.heads.specs.declared.Relation.TheVariants.{TouchingInside, Holding, Identical}

-- t, the difference of the radii: the larger less the smaller
unfoldable pub gap : ℕ → ℕ → ℕ
gap a b = (a - b) + (b - a)

-- a head of radius 0 is closed
abbrev pub closed : ℕ → Bool
closed r = eqb r 0

abbrev pub either_closed : ℕ → ℕ → Bool
either_closed a b = closed a || closed b

-- ---- the outlines of two circles, whatever their radii: document 01's words, which slip 3 leaves as they are for open
-- heads

-- the same circle: equal radii at distance zero
abbrev pub identical : ℕ → ℕ → ℕ → Bool
identical D a b = eqb D 0 && eqb a b

-- "Two heads meet exactly if t² ≤ D ≤ s² and they are not identical."
unfoldable pub outlines_meet : ℕ → ℕ → ℕ → Bool
outlines_meet D a b = leb (gap a b * gap a b) D && (leb D ((a + b) * (a + b)) && not (identical D a b))

-- "One point exactly if also D = t² or D = s², otherwise two."
unfoldable pub outlines_meet_once : ℕ → ℕ → ℕ → Bool
outlines_meet_once D a b = outlines_meet D a b && (eqb D (gap a b * gap a b) || eqb D ((a + b) * (a + b)))

-- "A contains B exactly if rA ≥ rB and D ≤ (rA-rB)²."
unfoldable pub covers : ℕ → ℕ → ℕ → Bool
covers D a b = leb b a && leb D ((a - b) * (a - b))

-- the one relation of two outlines: identical; else by D against t², and then against s²
unfoldable pub outline_relation : ℕ → ℕ → ℕ → Relation
outline_relation D a b =
    cond (identical D a b) Identical
    (cond (ltb D (gap a b * gap a b)) Holding
    (cond (eqb D (gap a b * gap a b)) TouchingInside
    (cond (ltb D ((a + b) * (a + b))) Crossing
    (cond (eqb D ((a + b) * (a + b))) TouchingOutside Apart))))

-- ---- two heads

unfoldable pub meets : ℕ → ℕ → ℕ → Bool
meets D a b = not (either_closed a b) && outlines_meet D a b

unfoldable pub meets_once : ℕ → ℕ → ℕ → Bool
meets_once D a b = not (either_closed a b) && outlines_meet_once D a b

-- a contains b
unfoldable pub contains : ℕ → ℕ → ℕ → Bool
contains D a b = not (either_closed a b) && covers D a b

-- how two heads lie to each other: of two of which one is closed nothing else can be said than that they are apart
unfoldable pub relation : ℕ → ℕ → ℕ → Relation
relation D a b = cond (either_closed a b) Apart (outline_relation D a b)

-- each case's number: its place in the list apart, touching outside, crossing, touching inside, holding without touch,
-- identical
abbrev pub number : Relation → ℕ
number Apart = 0
number TouchingOutside = 1
number Crossing = 2
number TouchingInside = 3
number Holding = 4
number Identical = 5

-- the number of meeting points in each case
abbrev pub points : Relation → ℕ
points Apart = 0
points TouchingOutside = 1
points Crossing = 2
points TouchingInside = 1
points Holding = 0
points Identical = 0

-- the cases in which two heads meet
abbrev pub meeting : Relation → Bool
meeting Apart = false
meeting TouchingOutside = true
meeting Crossing = true
meeting TouchingInside = true
meeting Holding = false
meeting Identical = false

-- the cases in which they touch: one meeting point
abbrev pub touching : Relation → Bool
touching Apart = false
touching TouchingOutside = true
touching Crossing = false
touching TouchingInside = true
touching Holding = false
touching Identical = false

-- the cases in which the head of the larger radius contains the other
abbrev pub covering : Relation → Bool
covering Apart = false
covering TouchingOutside = false
covering Crossing = false
covering TouchingInside = true
covering Holding = true
covering Identical = true
