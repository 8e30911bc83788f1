-- What sine, cosine, atan2, acos and asin are handed lies where document 01 promises them: "Sine and cosine for |v| ≤ 16", "atan2 is promised for
-- magnitudes up to 2^20", acos and asin from -1 to 1. So no area and no gradient rests on the +0 outside these domains. Proved in proofs/Turns.antt,
-- proofs/Domains.antt and proofs/Arguments.antt; of the acos in intersection_area exact proves it (`QuotientsWithin`, specs/Decisions.antt).
use Rattle.std.specs.Prelude.{◌≡◌, true, List, ℕ, suc, ◌+◌, ◌%◌, ◌≤◌, ◌<◌, T, Float, length, get_or}
use Rattle.std.specs.Float.{nan, binary64}
use Rattle.std.specs.Float.Ieee.{fits}
use Rattle.binary64.specs.Constants.{half64, one64, two_pi}
use Rattle.binary64.specs.Functions.{absolute}
use Rattle.binary64.specs.Magnitude.{Most}
use Rattle.binary64.specs.Units.{Finite, mag}
use Rattle.elementary.specs.ArctangentPromise.{UpToPi}
use Rattle.elementary.specs.SinePromise.{Domain}
use Rattle.binary64.specs.Floats.{◌+ᶠ◌, ◌-ᶠ◌, ◌*ᶠ◌, ◌≤ᶠ◌}
use Rattle.geometry.specs.declared.bounds.Bounds.{Bounds}
use Rattle.geometry.specs.declared.circle.Circle.{Circle}
use Rattle.geometry.specs.declared.point.Point.{Point}
use Rattle.exact.specs.Points.{Off}
use Rattle.lists.specs.Every.{Every}
use Rattle.intersections.specs.declared.points.IntersectionPoint.{IntersectionPoint}
use Rattle.intersections.specs.Members.{Member}
use Rattle.boundary.specs.declared.arcs.BoundaryArc.{BoundaryArc}
use Rattle.boundary.specs.Outline.{gap, angles_of, outline}
use Rattle.boundary.specs.Set.{region_arcs}
use Rattle.inside.specs.Breaks.{breaks as breaks_of}
use Rattle.plan.specs.Table.{taken}
use Rattle.plan.specs.declared.Plan.{Plan}
use Rattle.plan.specs.Checks.{plan_answer}
use Rattle.regions.specs.Table.{plan_members}

-- ---- sine and cosine

-- t is finite, and at most 2 × PI in magnitude.
pub record UpToTurn (t : Float) : Type 0 where
  pub finite : Finite t
  pub most : mag t ≤ mag two_pi

-- The angles at which sine and cosine are taken along an arc, in any box and for any circle: both ends of the arc, wrapped and not (outline's
-- `arc_terms` and `arc_slopes`), its breaks (inside's `add_part`, clip's `add_part_with_gradient`) and the middle between two of them (inside's `summed`).
pub record ArcInDomain (arc : BoundaryArc) : Type 0 where
  pub start : UpToPi arc.phi_start
  pub turn : UpToTurn arc.delta_phi
  pub end : UpToPi arc.phi_end
  pub finish : Domain (arc.phi_start +ᶠ arc.delta_phi)
  pub breaks : (box : Bounds) (c : Circle) → Every Domain (breaks_of box c arc)
  pub middles : (box : Bounds) (c : Circle) (i : ℕ) → suc i < length (breaks_of box c arc)
      → Domain (half64 *ᶠ (get_or (breaks_of box c arc) i nan +ᶠ get_or (breaks_of box c arc) (suc i) nan))

-- the middle of the gap from the i-th angle to the next, where its owner is looked for (boundary's `arc_from`)
abbrev pub middle_of_gap : List Float → ℕ → Float
middle_of_gap phis i = let a = get_or phis i nan in a +ᶠ gap a (get_or phis ((i + 1) % length phis) nan) *ᶠ half64

-- Every angle at which sine and cosine are taken for a set, with and without a box, with and without gradient.
pub record SetInDomain (ms : List Member) : Type 0 where
  pub gaps : Every (λ m. (i : ℕ) → i < length (angles_of m) → Domain (middle_of_gap (angles_of m) i)) ms
  pub arcs : Every ArcInDomain (outline ms)

-- It is so whatever the members are, their points included;
abbrev pub AnglesInDomain : Type 0
AnglesInDomain = (ms : List Member) → SetInDomain ms

-- and of arcs under head numbers.
abbrev pub RegionInDomain : Type 0
RegionInDomain = (cs : List Circle) (points : List IntersectionPoint) (S : ℕ) → Every ArcInDomain (region_arcs cs points S)

-- ---- atan2, acos and asin

-- Both arguments of the atan2 that gives the angle of a point about a circle (boundary's `angle_about`) are at most 2^20, and "not both zero": the point
-- is not the circle's centre.
pub record PointInDomain (c : Circle) (p : Point) : Type 0 where
  pub y : Most 1048576 1074 (p.y -ᶠ c.center.y)
  pub x : Most 1048576 1074 (p.x -ᶠ c.center.x)
  pub off : Off c.center p

-- For a taken plan: at every point counted at every head of any set.
abbrev pub ArgumentsInDomain : Type 0
ArgumentsInDomain =
    (p : Plan) → length p.heads ≡ 10 → plan_answer p ≡ taken → (S : ℕ) → Every (λ m. Every (PointInDomain m.circle) m.points) (plan_members p S)

-- acos and asin are taken of a quotient that has passed the test |q| ≤ 1 (inside's `vertical_crossings` and `horizontal_crossings`): it is of their domain.
abbrev pub QuotientInDomain : Type 0
QuotientInDomain = (q : Float) → T (fits binary64 q) → (absolute q ≤ᶠ one64) ≡ true → Most 1 1074 q
