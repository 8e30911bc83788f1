-- What each presence byte says: what is claimed, and proved in proofs/Bytes.antt.
use Rattle.std.specs.Prelude.{◌≡◌, false, ◌&&◌, List, ℕ, ◌^◌, ltb, get_or, length}
use Rattle.masks.specs.Presence.{byte}
use Rattle.geometry.specs.declared.circle.Circle.{Circle}
use Rattle.intersections.specs.declared.points.IntersectionPoint.{IntersectionPoint}
use Rattle.intersections.specs.Points.{collected}
use Rattle.sets.specs.Regions.{in_regions, set_bytes}

-- The byte of any number S is 1 exactly if S is a mask of the heads, below 2^n, and among the sets; else it is 0.
abbrev pub ByteSays : Type 0
ByteSays =
    (circles : List Circle) (points : List IntersectionPoint) (S : ℕ)
    → get_or (set_bytes circles points) S 0 ≡ byte (ltb S (2 ^ length circles) && in_regions circles points S)

-- The empty mask is no set: each meeting point of circles is adopted by its parents.
abbrev pub EmptyIsNoSet : Type 0
EmptyIsNoSet = (circles : List Circle) → in_regions circles (collected circles) 0 ≡ false
