-- A gradient keeps its length, whatever is added to it.
use mathlib.Core.Path.{◌≡◌, refl, ◌∙◌}
use mathlib.Core.Bool.{Bool, true, false, cond}
use mathlib.Core.List.{List, [], ◌∷◌, map, foldl}
use Prim.Native.Nat.{ℕ, ◌*◌}
use lib.Dec.{ltb}
use lib.ListN.{length, get_or, replicate, length-set, length-replicate}
use lib.Ieee.{Float}
use Rattle.lists.specs.Lists.{over_pairs}
use Rattle.elementary.specs.Sine.{sine as sin, cosine as cos}
use Rattle.binary64.specs.Constants.{zero64, half64}
use Rattle.binary64.specs.Floats.{◌+ᶠ◌, ◌-ᶠ◌, ◌*ᶠ◌}
use Rattle.std.specs.Prelude.{Option, None, Some}
use Rattle.geometry.specs.declared.bounds.Bounds.{Bounds}
use Rattle.geometry.specs.declared.circle.Circle.{Circle}
use Rattle.intersections.specs.declared.points.IntersectionPoint.{IntersectionPoint}
use Rattle.intersections.specs.Members.{heads_of, circle_at, no_circle}
use Rattle.boundary.specs.declared.arcs.BoundaryArc.{BoundaryArc}
use Rattle.boundary.specs.Set.{region_arcs}
use Rattle.inside.specs.Breaks.{breaks}
use Rattle.inside.specs.Parts.{summed}
use Rattle.inside.specs.declared.edges.BoxEdge.{BoxEdge}
use Rattle.inside.specs.Edges.{box_edges, factor_of, across_of, edge_span}
use Rattle.inside.specs.Span.{Interval}
use Rattle.outline.specs.Area.{arc_slopes, add_slopes, add_gradient}
use Rattle.clip.specs.Area.{empty_box}
use Rattle.clip.specs.Gradient.{WithGradient, with_gradient, onto, clipped_with_gradient}
use Rattle.clip.specs.Gradient.{sub_arc_with_gradient, part_slopes, add_part_with_gradient}
use Rattle.clip.specs.Gradient.{clipped_arc_integral_with_gradient}
use Rattle.clip.specs.Gradient.{add_clipped_arc_with_gradient, add_clipped_arcs_with_gradient}
use Rattle.clip.specs.Gradient.{moved, edge_slopes, add_span_with_gradient, add_edges_with_gradient}
use Rattle.sums.specs.Gradients.{row_with}

abbrev width : WithGradient → ℕ
width s = length s.grad

-- one of two that are as wide
either : {S : Type 0} (f : S → ℕ) (n : ℕ) (b : Bool) (x y : S) → f x ≡ n → f y ≡ n → f (cond b x y) ≡ n
either f n true x y e e' = e
either f n false x y e e' = e'

-- one step after another, each of which keeps the width
fold_wide : {S A : Type 0} (f : S → ℕ) (step : S → A → S) → ((s : S) (a : A) → f (step s a) ≡ f s)
    → (l : List A) (s : S)
    → f (foldl step s l) ≡ f s
fold_wide f step keeps [] s = refl
fold_wide f step keeps (a ∷ l) s = fold_wide f step keeps l (step s a) ∙ keeps s a

-- ---- without a box

slopes : (g : List Float) (c : Circle) (arc : BoundaryArc) → length (arc_slopes g c arc) ≡ length g
unfolding arc_slopes
slopes g c arc = simp length-set

arc_open : (cs : List Circle) (g : List Float) (arc : BoundaryArc) → length (add_slopes cs g arc) ≡ length g
unfolding add_slopes
arc_open cs g arc =
    let c = get_or cs arc.circle no_circle in
    either length (length g) (ltb arc.circle (length cs)) (arc_slopes g c arc) g (slopes g c arc) refl

arcs_open : (cs : List Circle) (arcs : List BoundaryArc) (g : List Float) → length (add_gradient cs g arcs) ≡ length g
arcs_open cs = fold_wide length (add_slopes cs) (arc_open cs)

-- ---- in the box

module _ (box : Bounds) where
  module _ (c : Circle) (off : ℕ) where
    share : (sa ca sb cb delta : Float) (s : WithGradient)
        → width (sub_arc_with_gradient c off sa ca sb cb delta s) ≡ width s
    unfolding sub_arc_with_gradient part_slopes
    share sa ca sb cb delta s = simp length-set

    part : (s : WithGradient) (a b : Float) → width (add_part_with_gradient box c off s a b) ≡ width s
    unfolding add_part_with_gradient
    part s a b =
        either width (width s) (summed box c a b)
        (sub_arc_with_gradient c off (sin a) (cos a) (sin b) (cos b) (b -ᶠ a) s) s
        (share (sin a) (cos a) (sin b) (cos b) (b -ᶠ a) s) refl

    parts : (l : List Float) (s : WithGradient) → width (over_pairs (add_part_with_gradient box c off) s l) ≡ width s
    unfolding over_pairs
    parts [] s = refl
    parts (a ∷ []) s = refl
    parts (a ∷ (b ∷ l)) s = parts (b ∷ l) (add_part_with_gradient box c off s a b) ∙ part s a b

  arc_whole : (c : Circle) (arc : BoundaryArc) (g : List Float)
      → width (clipped_arc_integral_with_gradient box c arc g) ≡ length g
  unfolding clipped_arc_integral_with_gradient
  arc_whole c arc g = parts c (arc.circle * 3) (breaks box c arc) (with_gradient zero64 g)

  module _ (cs : List Circle) where
    arc_clipped : (s : WithGradient) (arc : BoundaryArc) → width (add_clipped_arc_with_gradient box cs s arc) ≡ width s
    unfolding add_clipped_arc_with_gradient
    arc_clipped s arc =
        let c = get_or cs arc.circle no_circle in
        either width (width s) (ltb arc.circle (length cs))
        (onto s.sum (clipped_arc_integral_with_gradient box c arc s.grad)) s
        (arc_whole c arc s.grad) refl

    arcs_clipped : (arcs : List BoundaryArc) (s : WithGradient)
        → width (add_clipped_arcs_with_gradient box cs s arcs) ≡ width s
    arcs_clipped = fold_wide width (add_clipped_arc_with_gradient box cs) arc_clipped

-- ---- edges

shifted : (b : Bool) (g : List Float) (i : ℕ) (x : Float) → length (moved b g i x) ≡ length g
shifted true g i x = length-set g i _
shifted false g i x = length-set g i _

edge : (e : BoxEdge) (across : Float) (at : ℕ) (l : Float) (g : List Float)
    → length (edge_slopes e across at l g) ≡ length g
unfolding edge_slopes
edge e across at l g = simp (shifted, length-set)

span : (e : BoxEdge) (factor across : Float) (at : ℕ) (l : List Interval) (s : WithGradient)
    → width (add_span_with_gradient e factor across at s l) ≡ width s
unfolding add_span_with_gradient
span e factor across at [] s = refl
span e factor across at (i ∷ rest) s =
    let l = i.high -ᶠ i.low in
    span e factor across at rest (with_gradient (s.sum +ᶠ factor *ᶠ l) (edge_slopes e across at l s.grad))
    ∙ edge e across at l s.grad

edges : (box : Bounds) (cs : List Circle) (at : ℕ) (s : WithGradient)
    → width (add_edges_with_gradient box cs at s) ≡ width s
unfolding add_edges_with_gradient
edges box cs at =
    fold_wide width
    (λ so e. add_span_with_gradient e (factor_of box e) (across_of box e) at so (edge_span box e cs))
    (λ s e. span e (factor_of box e) (across_of box e) at (edge_span box e cs) s) box_edges

-- ---- a row

clipped-width : (box : Bounds) (all own : List Circle) (arcs : List BoundaryArc) (g : List Float)
    → width (clipped_with_gradient box all own arcs g) ≡ length g
unfolding clipped_with_gradient
clipped-width box all own arcs g =
    let t = add_clipped_arcs_with_gradient box all (with_gradient zero64 g) arcs in
    let s = add_edges_with_gradient box own (length all * 3) t in
    either width (length g) (empty_box box) (with_gradient zero64 g) (with_gradient (half64 *ᶠ s.sum) s.grad) refl
    (edges box own (length all * 3) t ∙ arcs_clipped box all arcs (with_gradient zero64 g))

pub row-width : (bounds : Option Bounds) (circles : List Circle) (points : List IntersectionPoint) (n S : ℕ)
    → length (row_with bounds circles points n S).grad ≡ n
row-width (Some box) circles points n S =
    let own = map (circle_at circles) (heads_of (length circles) S) in
    clipped-width box circles own (region_arcs circles points S) (replicate n zero64) ∙ length-replicate n zero64
row-width None circles points n S =
    arcs_open circles (region_arcs circles points S) (replicate n zero64) ∙ length-replicate n zero64
