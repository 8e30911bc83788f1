-- Areas and gradients of a set in a box of the domain are finite, with a bound: what is claimed, and proved in proofs/Clipped.antt
-- and proofs/Slopes.antt. A bound is a whole number j: `Most j 1074 x` says that x is finite and |x| ≤ j.
use Rattle.std.specs.Prelude.{ℕ, ◌+◌, ◌^◌, ◌≤◌, List, Float, length}
use Rattle.binary64.specs.Constants.{zero64}
use Rattle.binary64.specs.Magnitude.{Most}
use Rattle.geometry.specs.declared.bounds.Bounds.{Bounds}
use Rattle.geometry.specs.declared.circle.Circle.{Circle}
use Rattle.boundary.specs.declared.arcs.BoundaryArc.{BoundaryArc}
use Rattle.lists.specs.Every.{Every}
use Rattle.intersections.specs.Members.{Member, circles_of}
use Rattle.boundary.specs.Outline.{outline}
use Rattle.finite.specs.Arcs.{ShortArc}
use Rattle.finite.specs.Open.{InDomain}
use Rattle.inside.specs.Parts.{clipped_arc_integral}
use Rattle.clip.specs.Area.{add_clipped_arcs, clipped_area_of, clipped_area}
use Rattle.clip.specs.Gradient.{WithGradient, clipped_with_gradient, clipped_gradient}

-- a box of the domain: its centre is at most 20000 and half a side at most 20000, so each side lies at most at 40000
pub record BoxInDomain (box : Bounds) : Type 0 where
  pub x-min : Most 40000 1074 box.x_min
  pub x-max : Most 40000 1074 box.x_max
  pub y-min : Most 40000 1074 box.y_min
  pub y-max : Most 40000 1074 box.y_max

-- the sum is at most j, and every entry of the gradient at most k
pub record GradientMost (j k : ℕ) (s : WithGradient) : Type 0 where
  pub sum : Most j 1074 s.sum
  pub entries : Every (Most k 1074) s.grad

-- ---- of arcs, and of a set by a list of arcs

-- The integral along one arc is at most 457,600,000,000: at most 26 breaks, all at most 20, and each part adds at most 17,600,000,000.
abbrev pub ArcFinite : Type 0
ArcFinite = (box : Bounds) (c : Circle) (arc : BoundaryArc) → InDomain c → ShortArc arc → Most 457600000000 1074 (clipped_arc_integral box c arc)

-- The sum over at most 180 arcs is at most 82,368,000,000,000.
abbrev pub ArcsFinite : Type 0
ArcsFinite =
    (box : Bounds) (cs : List Circle) (arcs : List BoundaryArc) → Every InDomain cs → Every ShortArc arcs → length arcs ≤ 180
    → Most 82368000000000 1074 (add_clipped_arcs box cs zero64 arcs)

-- The area is at most 41,197,685,760,000: half of the sum over the arcs and of 27,371,520,000, which the four edges add at most. An edge
-- at most at 40,000 has a span of at most 171,072.
abbrev pub ClippedAreaFinite : Type 0
ClippedAreaFinite =
    (box : Bounds) (all own : List Circle) (arcs : List BoundaryArc) → BoxInDomain box → Every InDomain all → Every InDomain own
    → Every ShortArc arcs → length arcs ≤ 180 → Most 41197685760000 1074 (clipped_area_of box all own arcs)

-- Likewise the area that goes with the gradient; and each entry of the gradient grows by at most 31,490,604,288: 880,000 for each part,
-- of which 26 are allowed an arc, of 180 arcs, and 6,843,051,072 for each of four edges, which is a span and twice a quarter of the
-- side across times it.
abbrev pub ClippedGradientFinite : Type 0
ClippedGradientFinite =
    (box : Bounds) (all own : List Circle) (arcs : List BoundaryArc) (k : ℕ) (g : List Float) → BoxInDomain box → Every InDomain all
    → Every InDomain own → Every ShortArc arcs → length arcs ≤ 180 → Every (Most k 1074) g → k + 31490604288 ≤ 2 ^ 53
    → GradientMost 41197685760000 (k + 31490604288) (clipped_with_gradient box all own arcs g)

-- ---- of a set, as the list of its members

abbrev pub AreaClippedFinite : Type 0
AreaClippedFinite =
    (box : Bounds) (ms : List Member) → BoxInDomain box → Every InDomain (circles_of ms) → length (outline ms) ≤ 180
    → Most 41197685760000 1074 (clipped_area box ms)

-- the area with its gradient by position
abbrev pub GradientClippedFinite : Type 0
GradientClippedFinite =
    (box : Bounds) (ms : List Member) → BoxInDomain box → Every InDomain (circles_of ms) → length (outline ms) ≤ 180
    → GradientMost 41197685760000 31490604288 (clipped_gradient box ms)
