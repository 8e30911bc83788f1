-- A closed circle has no meeting point and adopts none of others: no point of any circles names one of them that is
-- closed, as a parent or among its adopters. Proved in proofs/Closed.antt as `closed_named_nowhere`.
use Rattle.std.specs.Prelude.{ℕ, ◌<◌, ◌≡◌, Bool, true, false, ◌||◌, List, length}
use Rattle.geometry.specs.Circle.{is_closed}
use Rattle.geometry.specs.declared.circle.Circle.{Circle}
use Rattle.lists.specs.Some.{any}
use Rattle.masks.specs.Mask.{in_set}
use Rattle.intersections.specs.declared.points.IntersectionPoint.{IntersectionPoint}
use Rattle.intersections.specs.Members.{circle_at, has_parent}
use Rattle.intersections.specs.Points.{collected}

-- head k is a parent of the point, or adopts it
abbrev pub names : ℕ → IntersectionPoint → Bool
names k q = has_parent k q || in_set q.adopters k

abbrev pub ClosedNamedNowhere : Type 0
ClosedNamedNowhere =
    (circles : List Circle) (k : ℕ) → k < length circles → is_closed (circle_at circles k) ≡ true
    → any (names k) (collected circles) ≡ false
