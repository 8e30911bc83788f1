-- The area of a set inside the box: along the parts of its outline in the box, and along the spans of the four edges.
use Rattle.std.specs.Prelude.{Bool, ◌||◌, cond, ltb, length, get_or, Float}
use mathlib.Core.List.{List, foldl}
use Rattle.geometry.specs.declared.bounds.Bounds.{Bounds}
use Rattle.geometry.specs.declared.circle.Circle.{Circle}
use Rattle.binary64.specs.Constants.{zero64, half64}
use Rattle.binary64.specs.Floats.{◌+ᶠ◌, ◌-ᶠ◌, ◌*ᶠ◌, ◌≤ᶠ◌}
use Rattle.intersections.specs.Members.{Member, circles_of, no_circle}
use Rattle.boundary.specs.Outline.{outline}
use Rattle.boundary.specs.declared.arcs.BoundaryArc.{BoundaryArc}
use Rattle.inside.specs.Edges.{box_edges, factor_of, edge_span}
use Rattle.inside.specs.Span.{Interval, horizontal_span, vertical_span}
use Rattle.inside.specs.Parts.{clipped_arc_integral}

-- The box has no inside.
unfoldable pub empty_box : Bounds → Bool
empty_box box = (box.x_max ≤ᶠ box.x_min) || (box.y_max ≤ᶠ box.y_min)

-- one arc, added to a sum; an arc of no circle of the list adds nothing
unfoldable pub add_clipped_arc : Bounds → List Circle → Float → BoundaryArc → Float
unfolding clipped_arc_integral
add_clipped_arc box cs total arc =
    cond (ltb arc.circle (length cs)) (total +ᶠ clipped_arc_integral box (get_or cs arc.circle no_circle) arc) total

-- the arcs one after another, onto a sum
abbrev pub add_clipped_arcs : Bounds → List Circle → Float → List BoundaryArc → Float
add_clipped_arcs box cs = foldl (add_clipped_arc box cs)

-- a factor times the length of the span, added; no span adds nothing
abbrev pub add_span : Float → Float → List Interval → Float
add_span factor = foldl (λ total i. total +ᶠ factor *ᶠ (i.high -ᶠ i.low))

-- the spans of the four edges, counterclockwise from the bottom, for the circles of a set
unfoldable pub add_edges : Bounds → List Circle → Float → Float
unfolding horizontal_span vertical_span
add_edges box cs total = foldl (λ sum e. add_span (factor_of box e) sum (edge_span box e cs)) total box_edges

-- The area in the box of the set whose circles are `own`. The arcs of its outline name circles of `all`.
unfoldable pub clipped_area_of : Bounds → List Circle → List Circle → List BoundaryArc → Float
unfolding empty_box add_clipped_arc add_edges
clipped_area_of box all own arcs =
    cond (empty_box box) zero64 (half64 *ᶠ add_edges box own (add_clipped_arcs box all zero64 arcs))

-- the area that the members water together inside the box: a function of the members and the box
unfoldable pub clipped_area : Bounds → List Member → Float
unfolding clipped_area_of outline
clipped_area box ms = clipped_area_of box (circles_of ms) (circles_of ms) (outline ms)
