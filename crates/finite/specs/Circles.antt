-- The area of a circle and the area that two circles share are finite for heads within document 01's limits, with a bound: what is claimed, and proved
-- in proofs/Circles.antt. A bound is a whole number j: `Most j 1074 x` says that x is finite and |x| ≤ j.
use Rattle.std.specs.Prelude.{T}
use Rattle.binary64.specs.Magnitude.{Most}
use Rattle.heads.specs.declared.Head.{Head}
use Rattle.heads.specs.Limits.{in_limits}
use Rattle.geometry.specs.Circle.{area, intersection_area}
use Rattle.exact.specs.Circle.{circle_of}

-- PI × r × r is at most 4 × 20000 × 20000.
abbrev pub CircleFinite : Type 0
CircleFinite = (h : Head) → T (in_limits h) → Most 1600000000 1074 (area (circle_of h))

-- Two sectors of at most 1,600,000,000, and half the root of a product of four numbers of at most 105,536 each, which is at most 2^33. (The
-- quotients handed to acos are within its domain: `quotients_within` of exact.)
abbrev pub SharedFinite : Type 0
SharedFinite = (a b : Head) → T (in_limits a) → T (in_limits b) → Most 11789934592 1074 (intersection_area (circle_of a) (circle_of b))
