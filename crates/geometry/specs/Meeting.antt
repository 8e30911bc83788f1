-- What a meeting says: how many points, and their coordinates. Document 01: "the meeting is none, one point or two points, and carries
-- their coordinates".
use Rattle.std.specs.Prelude.{ℕ, ◌&&◌, cond, List, [], ◌∷◌, ◌≡◌, refl, length}
use Rattle.binary64.specs.Floats.{◌=ᶠ◌}
use Rattle.geometry.specs.Point.{at}
use Rattle.geometry.specs.declared.point.Point.{Point}
use Rattle.geometry.specs.declared.meeting.Meeting.{Meeting}
use Rattle.geometry.specs.declared.meeting.Meeting.TheVariants.{None, One, Two}

-- The number of points of each case.
abbrev pub number : Meeting → ℕ
number None = 0
number (One x y) = 1
number (Two x y u v) = 2

-- The points of each case, by their coordinates, in the Rust's order.
abbrev pub points : Meeting → List Point
points None = []
points (One x y) = at x y ∷ []
points (Two x y u v) = at x y ∷ at u v ∷ []

-- The number is the number of the points.
pub number-of-points : (m : Meeting) → number m ≡ length (points m)
number-of-points None = refl
number-of-points (One x y) = refl
number-of-points (Two x y u v) = refl

-- The meeting in these points, of which there are at most two.
abbrev pub meeting : List Point → Meeting
meeting [] = None
meeting (p ∷ []) = One p.x p.y
meeting (p ∷ q ∷ rest) = Two p.x p.y q.x q.y

-- The points say which case it is, and with which coordinates: where a contract gives the points, nothing is left open.
pub meeting_of_points : (m : Meeting) → meeting (points m) ≡ m
meeting_of_points None = refl
meeting_of_points (One x y) = refl
meeting_of_points (Two x y u v) = refl

-- Two points, or the first alone where both are equal.
abbrev pub distinct : Point → Point → List Point
distinct p q = cond ((p.x =ᶠ q.x) && (p.y =ᶠ q.y)) (p ∷ []) (p ∷ q ∷ [])
