-- Closed circles left out, any of them: what the circles that remain have, seen from all circles. Proved in
-- proofs/Points.antt, Members.antt and Sets.antt.
use Rattle.std.specs.Prelude.{ℕ, ◌^◌, ◌<◌, ◌≤◌, Bool, true, false, List, map, ◌≡◌, length}
use Rattle.geometry.specs.declared.circle.Circle.{Circle}
use Rattle.intersections.specs.declared.points.IntersectionPoint.{IntersectionPoint}
use Rattle.intersections.specs.Members.{members_of}
use Rattle.intersections.specs.Points.{collected}
use Rattle.sets.specs.Regions.{closed_at, in_regions}
use Rattle.lists.specs.Kept.{kept, remaining, place}
use Rattle.masks.specs.Spread.{spread}

-- every circle that is left out is closed
abbrev pub OnlyClosedCircles : List Bool → List Circle → Type 0
OnlyClosedCircles keeps circles = (i : ℕ) → kept keeps i ≡ false → closed_at circles i ≡ true

-- a meeting point of those kept, with their places as numbers
abbrev pub renumbered : List Bool → IntersectionPoint → IntersectionPoint
renumbered keeps q = record {
  point = q.point;
  first = place keeps q.first;
  second = place keeps q.second;
  adopters = spread keeps q.adopters;
}

-- all circles have the meeting points of those kept, and no others
abbrev pub PointsLeftOut : Type 0
PointsLeftOut =
    (circles : List Circle) (keeps : List Bool) → OnlyClosedCircles keeps circles
    → collected circles ≡ map (renumbered keeps) (collected (remaining keeps circles))

-- a set of those kept has the same members among all
abbrev pub MembersLeftOut : Type 0
MembersLeftOut =
    (circles : List Circle) (keeps : List Bool) → OnlyClosedCircles keeps circles → length circles ≤ 64
    → (S : ℕ) → S < 2 ^ length (remaining keeps circles)
    → members_of circles (collected circles) (spread keeps S)
    ≡ members_of (remaining keeps circles) (collected (remaining keeps circles)) S

-- the sets of all circles are those of the circles kept
abbrev pub SetsLeftOut : Type 0
SetsLeftOut =
    (circles : List Circle) (keeps : List Bool) → OnlyClosedCircles keeps circles
    → (S : ℕ) → in_regions circles (collected circles) (spread keeps S)
    ≡ in_regions (remaining keeps circles) (collected (remaining keeps circles)) S
