-- Document 01, "Facts to hold", of the float code: D is the squared centre distance, s the sum and t the difference of
-- the radii, all whole. "On the domain below rounding changes none of these." Each statement equates what the
-- definitions of `geometry` give, with f64, with what those of `heads` give, over whole numbers. proofs/Theorem.antt
-- proves these records for every ordered pair of heads within the limits, closed heads included.
use Rattle.std.specs.Prelude.{ℕ, ◌+◌, ◌*◌, ◌≤◌, ◌<◌, ◌≡◌, refl, Bool, true}
use Rattle.std.specs.Prelude.{false, ◌&&◌, [], ◌↔◌, T, ltb, leb, Float, length}
use Rattle.heads.specs.declared.Head.{Head}
use Rattle.heads.specs.declared.Relation.TheVariants.{Crossing}
use Rattle.heads.specs.Limits.{in_limits}
use Rattle.heads.specs.Relation.{gap, either_closed, points}
use Rattle.heads.specs.Pair.{is_closed, squared_distance, radius_of, relation_of, meets_of, meets_once_of, contains_of}
use Rattle.binary64.specs.Units.{negative}
use Rattle.binary64.specs.Functions.{absolute}
use Rattle.binary64.specs.Constants.{zero64, half64, two64}
use Rattle.binary64.specs.Magnitude.{Most, Least}
use Rattle.geometry.specs.declared.circle.Circle.{Circle}
use Rattle.geometry.specs.declared.meeting.Meeting.{Meeting}
use Rattle.geometry.specs.Meeting as meeting
use Rattle.binary64.specs.Floats.{◌+ᶠ◌, ◌-ᶠ◌, ◌*ᶠ◌, ◌/ᶠ◌, ◌≤ᶠ◌}
use Rattle.elementary.specs.Arctangent.{acos}
use Rattle.elementary.specs.Root.{root}
use Rattle.geometry.specs.Point.{distance}
use Rattle.geometry.specs.Circle as circle
use Rattle.geometry.specs.Circle.{lens, intersection_area, contains, intersects, intersection_points}
use Rattle.exact.specs.Circle.{circle_of}
use Rattle.exact.specs.Points.{AllPlaced, AllOff}

-- The circles touch from outside or are apart: the Rust's `d >= r1 + r2`, at which intersection_area is zero.
abbrev pub beyond : Circle → Circle → Bool
beyond a b = a.radius +ᶠ b.radius ≤ᶠ distance a.center b.center

-- One circle lies within the other: the Rust's `d <= (r1 - r2).abs()`, at which intersection_area is that of the
-- smaller.
abbrev pub within : Circle → Circle → Bool
within a b = distance a.center b.center ≤ᶠ absolute (a.radius -ᶠ b.radius)

-- s and t of two heads
abbrev pub sum : Head → Head → ℕ
sum a b = radius_of a + radius_of b

abbrev pub difference : Head → Head → ℕ
difference a b = gap (radius_of a) (radius_of b)

-- The circles of a and b are found to lie to each other as the whole numbers say.
pub record Decided (a b : Head) : Type 0 where
  -- as many meeting points as the relation has: none, one or two
  pub count : length (intersection_points (circle_of a) (circle_of b)) ≡ points (relation_of a b)
  -- and so the answer of `intersection_points`: the number of its case, None, One or Two, is that of the relation
  pub answer : (m : Meeting) → meeting.points m ≡ intersection_points (circle_of a) (circle_of b)
      → meeting.number m ≡ points (relation_of a b)
  -- "Two heads meet exactly if t² ≤ D ≤ s² and they are not identical", and neither is closed.
  pub none : (intersection_points (circle_of a) (circle_of b) ≡ []) ↔ (meets_of a b ≡ false)
  -- "One point exactly if also D = t² or D = s²,
  pub one : (length (intersection_points (circle_of a) (circle_of b)) ≡ 1) ↔ (meets_once_of a b ≡ true)
  -- otherwise two."
  pub two : (length (intersection_points (circle_of a) (circle_of b)) ≡ 2) ↔
      ((meets_of a b ≡ true) × (meets_once_of a b ≡ false))
  -- "A contains B exactly if rA ≥ rB and D ≤ (rA-rB)²", and neither is closed.
  pub contained : contains (circle_of a) (circle_of b) ≡ contains_of a b
  -- the outlines cross exactly if t² < D < s²
  pub crossed : intersects (circle_of a) (circle_of b)
      ≡ (ltb (difference a b * difference a b) (squared_distance a b) && ltb (squared_distance a b) (sum a b * sum a b))
  pub crossing : (intersects (circle_of a) (circle_of b) ≡ true) ↔ (relation_of a b ≡ Crossing)
  -- they touch from outside or are apart exactly if D ≥ s²
  pub outside : beyond (circle_of a) (circle_of b) ≡ leb (sum a b * sum a b) (squared_distance a b)
  -- one lies within the other exactly if D ≤ t²
  pub inside : within (circle_of a) (circle_of b) ≡ leb (squared_distance a b) (difference a b * difference a b)

-- The numbers of a head's circle: the centre at most 20000 from zero along each axis, the radius from 0 to 20000, and
-- from 1 where the head is not closed. 1 is 2 ^ 1074 units. The circle is closed if the head is.
pub record Drawn (h : Head) : Type 0 where
  pub x : Most 20000 1074 (circle_of h).center.x
  pub y : Most 20000 1074 (circle_of h).center.y
  pub most : Most 20000 1074 (circle_of h).radius
  pub least : is_closed h ≡ false → Least 1 1074 (circle_of h).radius
  pub positive : negative (circle_of h).radius ≡ false
  pub closed : circle.is_closed (circle_of h) ≡ is_closed h

-- What is worked out from two heads is finite and bounded, and no divisor is near zero.
pub record Bounded (a b : Head) : Type 0 where
  -- the distance is at most 65536
  pub near : Most 65536 1074 (distance (circle_of a).center (circle_of b).center)
  -- and at least 1 where the centres differ,
  pub apart : 0 < squared_distance a b → Least 1 1074 (distance (circle_of a).center (circle_of b).center)
  -- which they do where the heads meet: only there does a distance divide
  pub divides : meets_of a b ≡ true → 0 < squared_distance a b
  -- each meeting point is finite, its coordinates at most 80000 from zero
  pub placed : AllPlaced (intersection_points (circle_of a) (circle_of b))
  -- and it is the centre of neither circle, so that it has an angle about each
  pub off : AllOff (circle_of a).center (intersection_points (circle_of a) (circle_of b))
      × AllOff (circle_of b).center (intersection_points (circle_of a) (circle_of b))

-- For every head within the limits, and for every ordered pair of them.
abbrev pub IsDrawn : Type 0
IsDrawn = (h : Head) → T (in_limits h) → Drawn h

abbrev pub DecidesExactly : Type 0
DecidesExactly = (a b : Head) → T (in_limits a) → T (in_limits b) → Decided a b

abbrev pub StaysBounded : Type 0
StaysBounded = (a b : Head) → T (in_limits a) → T (in_limits b) → Bounded a b

-- Heads that do not meet have no meeting points, in either order of the pair: what the theorem on lists of edits asks
-- of the geometry.
abbrev pub NoPointsUnlessMet : Type 0
NoPointsUnlessMet = (a b : Head) → T (in_limits a) → T (in_limits b) → meets_of a b ≡ false
    → (intersection_points (circle_of a) (circle_of b) ≡ []) × (intersection_points (circle_of b) (circle_of a) ≡ [])

-- "Giving heads that touch from outside an `intersection_area` above zero" is a slip: heads that touch from outside or
-- are apart have +0.
abbrev pub NoAreaBeyond : Type 0
NoAreaBeyond = (a b : Head) → T (in_limits a) → T (in_limits b) → sum a b * sum a b ≤ squared_distance a b
    → intersection_area (circle_of a) (circle_of b) ≡ zero64

-- A closed head shares no area with any: `intersection_area` needs no test for it.
abbrev pub NoAreaClosed : Type 0
NoAreaClosed = (a b : Head) → T (in_limits a) → T (in_limits b) → either_closed (radius_of a) (radius_of b) ≡ true
    → intersection_area (circle_of a) (circle_of b) ≡ zero64

-- ---- the area of a lens

-- what is handed to acos for the sector of a circle of radius r, beside one of radius s at the distance d
abbrev pub quotient : Float → Float → Float → Float
quotient r s d = (d *ᶠ d +ᶠ r *ᶠ r -ᶠ s *ᶠ s) /ᶠ (two64 *ᶠ d *ᶠ r)

-- the two sectors of a lens are worked out from these quotients, and from nothing else of acos
pub lens_sectors : (r s d : Float) → lens r s d
    ≡ r *ᶠ r *ᶠ acos (quotient r s d) +ᶠ s *ᶠ s *ᶠ acos (quotient s r d)
    -ᶠ half64 *ᶠ root ((r +ᶠ s -ᶠ d) *ᶠ (d +ᶠ r -ᶠ s) *ᶠ (d -ᶠ r +ᶠ s) *ᶠ (d +ᶠ r +ᶠ s))
lens_sectors r s d = refl

-- Where a lens is worked out, both quotients are within -1 to 1: acos's domain. So no area rests on the +0 outside it.
abbrev pub QuotientsWithin : Type 0
QuotientsWithin =
    (a b : Head) → T (in_limits a) → T (in_limits b) → beyond (circle_of a) (circle_of b) ≡ false
    → within (circle_of a) (circle_of b) ≡ false
    → Most 1 1074
    (quotient (circle_of a).radius (circle_of b).radius (distance (circle_of a).center (circle_of b).center))
    × Most 1 1074
    (quotient (circle_of b).radius (circle_of a).radius (distance (circle_of a).center (circle_of b).center))
