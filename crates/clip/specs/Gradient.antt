-- The area of a set inside the box together with its gradient: x, y and radius of each circle in turn, then centre x,
-- centre y and the two size parameters of the box. The area is summed from the differences of sines and cosines, as the
-- Rust does here, and not as in specs/Area.antt.
use Rattle.std.specs.Prelude.{ℕ, ◌+◌, ◌*◌, Bool, true, false, cond, ltb, length, get_or, replicate, Float}
use mathlib.Core.List.{List, [], ◌∷◌, foldl}
use Rattle.elementary.specs.Sine.{sine as sin, cosine as cos}
use Rattle.geometry.specs.declared.bounds.Bounds.{Bounds}
use Rattle.geometry.specs.declared.circle.Circle.{Circle}
use Rattle.binary64.specs.Constants.{zero64, half64, four64}
use Rattle.binary64.specs.Floats.{◌+ᶠ◌, ◌-ᶠ◌, ◌*ᶠ◌, ◌/ᶠ◌}
use Rattle.intersections.specs.Members.{Member, circles_of, no_circle}
use Rattle.boundary.specs.Outline.{outline}
use Rattle.outline.specs.Area.{add_at, sub_at}
use Rattle.boundary.specs.declared.arcs.BoundaryArc.{BoundaryArc}
use Rattle.outline.specs.declared.terms.Triple.{Triple}
use Rattle.outline.specs.Terms.{triple}
use Rattle.clip.specs.declared.slopes.Sum.{Sum}
use Rattle.inside.specs.declared.edges.BoxEdge.{BoxEdge}
use Rattle.inside.specs.Edges.{box_edges, is_upright, is_outward, factor_of, across_of, edge_span}
use Rattle.inside.specs.Span.{Interval, horizontal_span, vertical_span}
use Rattle.inside.specs.Breaks.{breaks}
use Rattle.lists.specs.Lists.{over_pairs}
use Rattle.inside.specs.Parts.{summed}
use Rattle.clip.specs.Area.{empty_box}

-- a sum and the gradient so far
pub record WithGradient : Type 0 where
  pub sum : Float
  pub grad : List Float

abbrev pub with_gradient : Float → List Float → WithGradient
with_gradient s g = record { sum = s; grad = g }

-- the sum and the gradient that code holds
abbrev pub so_far : Sum → WithGradient
so_far s = with_gradient s.total s.grad.now

-- ---- arcs

-- The integral of x dy - y dx along one part of a circle, from the differences of sine and cosine and the length.
unfoldable pub sub_arc_by_differences : Circle → Float → Float → Float → Float
sub_arc_by_differences c s-diff c-diff delta =
    let r = c.radius in
    c.center.x *ᶠ r *ᶠ s-diff -ᶠ c.center.y *ᶠ r *ᶠ c-diff +ᶠ r *ᶠ r *ᶠ delta

-- the part of a circle from a to b: its integral, and its shares of a gradient
unfoldable pub part_integral : Circle → Float → Float → Float
unfolding sub_arc_by_differences
part_integral c a b = sub_arc_by_differences c (sin b -ᶠ sin a) (cos b -ᶠ cos a) (b -ᶠ a)

unfoldable pub part_shares : Circle → Float → Float → Triple
part_shares c a b =
    triple (c.radius *ᶠ (sin b -ᶠ sin a)) (c.radius *ᶠ (cos b -ᶠ cos a)) (c.radius *ᶠ (b -ᶠ a))

-- one part's share of the gradient, in the three entries of its circle from `off` on
unfoldable pub part_slopes : ℕ → Float → Float → Float → Float → List Float → List Float
part_slopes off r s-diff c-diff delta g =
    add_at (sub_at (add_at g off (r *ᶠ s-diff)) (off + 1) (r *ᶠ c-diff)) (off + 2) (r *ᶠ delta)

-- One part: its integral and its share of the gradient, from the sine and cosine of its two ends and its length.
unfoldable pub sub_arc_with_gradient : Circle → ℕ → Float → Float → Float → Float → Float → WithGradient → WithGradient
unfolding sub_arc_by_differences part_slopes
sub_arc_with_gradient c off sin-a cos-a sin-b cos-b delta s =
    with_gradient
    (s.sum +ᶠ sub_arc_by_differences c (sin-b -ᶠ sin-a) (cos-b -ᶠ cos-a) delta)
    (part_slopes off c.radius (sin-b -ᶠ sin-a) (cos-b -ᶠ cos-a) delta s.grad)

-- the part from a to b, added
unfoldable pub add_part_with_gradient : Bounds → Circle → ℕ → WithGradient → Float → Float → WithGradient
unfolding summed sub_arc_with_gradient
add_part_with_gradient box c off s a b =
    cond (summed box c a b) (sub_arc_with_gradient c off (sin a) (cos a) (sin b) (cos b) (b -ᶠ a) s) s

-- the integral along the parts of an arc in the box, with the gradient added to one
unfoldable pub clipped_arc_integral_with_gradient : Bounds → Circle → BoundaryArc → List Float → WithGradient
unfolding over_pairs add_part_with_gradient breaks
clipped_arc_integral_with_gradient box c arc g =
    over_pairs (add_part_with_gradient box c (arc.circle * 3)) (with_gradient zero64 g) (breaks box c arc)

-- a number added to the sum
abbrev pub onto : Float → WithGradient → WithGradient
onto total s = with_gradient (total +ᶠ s.sum) s.grad

-- one arc, added; an arc of no circle of the list adds nothing
unfoldable pub add_clipped_arc_with_gradient : Bounds → List Circle → WithGradient → BoundaryArc → WithGradient
unfolding clipped_arc_integral_with_gradient
add_clipped_arc_with_gradient box cs s arc =
    cond
    (ltb arc.circle (length cs))
    (onto s.sum (clipped_arc_integral_with_gradient box (get_or cs arc.circle no_circle) arc s.grad))
    s

abbrev pub add_clipped_arcs_with_gradient : Bounds → List Circle → WithGradient → List BoundaryArc → WithGradient
add_clipped_arcs_with_gradient box cs = foldl (add_clipped_arc_with_gradient box cs)

-- ---- edges

-- x added to entry i, or taken from it
abbrev pub moved : Bool → List Float → ℕ → Float → List Float
moved true g i x = add_at g i x
moved false g i x = sub_at g i x

-- The share of a span of length l in the box's four entries from `at` on: the edge moves with the centre, and by a
-- quarter of the side across with each size parameter.
unfoldable pub edge_slopes : BoxEdge → Float → ℕ → Float → List Float → List Float
edge_slopes e across at l g =
    let share = across /ᶠ four64 *ᶠ l in
    let moving = moved (is_outward e) g (cond (is_upright e) at (at + 1)) l in
    moved (is_upright e) (add_at moving (at + 2) share) (at + 3) share

-- the span of an edge, added, by a factor and the side across
unfoldable pub add_span_with_gradient : BoxEdge → Float → Float → ℕ → WithGradient → List Interval → WithGradient
unfolding edge_slopes
add_span_with_gradient e factor across at s [] = s
add_span_with_gradient e factor across at s (i ∷ rest) =
    let l = i.high -ᶠ i.low in
    let next = with_gradient (s.sum +ᶠ factor *ᶠ l) (edge_slopes e across at l s.grad) in
    add_span_with_gradient e factor across at next rest

-- the spans of the four edges, counterclockwise from the bottom, for the circles of a set
unfoldable pub add_edges_with_gradient : Bounds → List Circle → ℕ → WithGradient → WithGradient
unfolding add_span_with_gradient horizontal_span vertical_span
add_edges_with_gradient box cs at s =
    foldl (λ so e. add_span_with_gradient e (factor_of box e) (across_of box e) at so (edge_span box e cs)) s box_edges

-- ---- a set

-- The area in the box of the set whose circles are `own`, with its gradient added to g. The arcs of its outline name
-- circles of `all`; the box's entries come after those of `all`.
unfoldable pub clipped_with_gradient : Bounds → List Circle → List Circle → List BoundaryArc → List Float → WithGradient
unfolding empty_box add_clipped_arc_with_gradient add_edges_with_gradient
clipped_with_gradient box all own arcs g =
    cond
    (empty_box box)
    (with_gradient zero64 g)
    (let along = add_clipped_arcs_with_gradient box all (with_gradient zero64 g) arcs in
    let s = add_edges_with_gradient box own (length all * 3) along in
    with_gradient (half64 *ᶠ s.sum) s.grad)

-- Of the members of a set, onto a gradient by position: three entries a member, then the box's four.
unfoldable pub clipped_onto : Bounds → List Member → List Float → WithGradient
unfolding clipped_with_gradient outline
clipped_onto box ms g = clipped_with_gradient box (circles_of ms) (circles_of ms) (outline ms) g

-- the area of the members inside the box and its gradient, by position: a function of the members and the box
unfoldable pub clipped_gradient : Bounds → List Member → WithGradient
unfolding clipped_onto
clipped_gradient box ms = clipped_onto box ms (replicate (length ms * 3 + 4) zero64)
