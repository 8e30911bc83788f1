-- Gradients over the arcs of a set and along the edges of the box, step by step: what is added to an entry by position is added where the
-- entry stands by head, so the one by head stays the scattered one by position.
use mathlib.Core.Path.{◌≡◌, refl, ap, ap₂}
use mathlib.Core.Bool.{Bool, true, false, cond}
use mathlib.Core.List.{List, [], ◌∷◌, map}
use Prim.Native.Nat.{ℕ, ◌+◌, ◌*◌, ◌<◌}
use native.Mathlib.Omega.{arith}
use lib.ListN.{length, get_or}
use lib.Ieee.{Float}
use Rattle.binary64.specs.Constants.{zero64, half64}
use Rattle.elementary.specs.Sine.{sine as sin, cosine as cos}
use Rattle.binary64.specs.Floats.{◌+ᶠ◌, ◌-ᶠ◌, ◌*ᶠ◌}
use Rattle.geometry.specs.declared.bounds.Bounds.{Bounds}
use Rattle.geometry.specs.declared.circle.Circle.{Circle}
use Rattle.boundary.specs.declared.arcs.BoundaryArc.{BoundaryArc}
use Rattle.lists.specs.Every.{Every}
use Rattle.intersections.specs.Members.{no_circle}
use Rattle.outline.specs.Area.{add_at, sub_at, arc_slopes, add_slopes, add_gradient}
use Rattle.boundary.specs.Set.{numbered}
use Rattle.inside.specs.declared.edges.BoxEdge.{BoxEdge}
use Rattle.inside.specs.declared.edges.BoxEdge.TheVariants.{Bottom, Right, Top, Left}
use Rattle.inside.specs.Edges.{is_upright, is_outward, factor_of, across_of}
use Rattle.inside.specs.Span.{Interval, horizontal_span, vertical_span}
use Rattle.inside.specs.Breaks.{breaks}
use Rattle.lists.specs.Lists.{over_pairs}
use Rattle.inside.specs.Parts.{summed}
use Rattle.clip.specs.Area.{empty_box}
use Rattle.clip.specs.Gradient.{WithGradient, with_gradient, sub_arc_by_differences, part_slopes, sub_arc_with_gradient, add_part_with_gradient}
use Rattle.clip.specs.Gradient.{clipped_arc_integral_with_gradient, add_clipped_arc_with_gradient, add_clipped_arcs_with_gradient, moved, edge_slopes}
use Rattle.clip.specs.Gradient.{add_span_with_gradient, add_edges_with_gradient, clipped_with_gradient}
use Rattle.clip.proofs.Naming.{own, Below, has_own, has_head, same_circle}
use Rattle.lists.proofs.Folds.{pairs_related, fold_related}
use Rattle.areas.proofs.Scattering.{Increasing, Scattered, Stands, StandFrom, stands_first, entry_changed}

-- sums with gradients, by position and by head
pub record Both (ps : List ℕ) (out : List Float) (s t : WithGradient) : Type 0 where
  pub sums : s.sum ≡ t.sum
  pub grads : Scattered ps out s.grad t.grad

-- Gradients by position, and by head over `out`: the entries by position stand at the places ps.
module _ (ps : List ℕ) (out : List Float) (increasing : Increasing ps) (inside : Every (λ p. p < length out) ps) where
  -- x added to an entry or taken from it
  add_kept : (q p : ℕ) (x : Float) (g G : List Float) → Stands ps q p → Scattered ps out g G → Scattered ps out (add_at g q x) (add_at G p x)
  add_kept q p x g G at s = entry_changed ps out g G q p (λ v. v +ᶠ x) increasing inside at s

  sub_kept : (q p : ℕ) (x : Float) (g G : List Float) → Stands ps q p → Scattered ps out g G → Scattered ps out (sub_at g q x) (sub_at G p x)
  sub_kept q p x g G at s = entry_changed ps out g G q p (λ v. v -ᶠ x) increasing inside at s

  three_kept : (off off' : ℕ) (a b c : Float) (g G : List Float) → StandFrom ps 3 off off' → Scattered ps out g G
      → Scattered ps out (add_at (sub_at (add_at g off a) (off + 1) b) (off + 2) c) (add_at (sub_at (add_at G off' a) (off' + 1) b) (off' + 2) c)
  three_kept off off' a b c g G at s =
      add_kept (off + 2) (off' + 2) c (sub_at (add_at g off a) (off + 1) b) (sub_at (add_at G off' a) (off' + 1) b) (at 2 (omega arith))
      (sub_kept (off + 1) (off' + 1) b (add_at g off a) (add_at G off' a) (at 1 (omega arith))
      (add_kept off off' a g G (stands_first ps 3 off off' (omega arith) at) s))

  -- ---- the parts of an arc

  both_if : (b : Bool) (s s' t t' : WithGradient) → Both ps out s' t' → Both ps out s t → Both ps out (cond b s' s) (cond b t' t)
  both_if true s s' t t' r' r = r'
  both_if false s s' t t' r' r = r

  sub_arc_kept : (c : Circle) (off off' : ℕ) → StandFrom ps 3 off off' → (sin-a cos-a sin-b cos-b delta : Float) (s t : WithGradient) → Both ps out s t
      → Both ps out (sub_arc_with_gradient c off sin-a cos-a sin-b cos-b delta s) (sub_arc_with_gradient c off' sin-a cos-a sin-b cos-b delta t)
  unfolding sub_arc_with_gradient part_slopes
  sub_arc_kept c off off' at sin-a cos-a sin-b cos-b delta s t r =
      record {
        sums = ap (λ v. v +ᶠ sub_arc_by_differences c (sin-b -ᶠ sin-a) (cos-b -ᶠ cos-a) delta) r.sums;
        grads = three_kept off off' (c.radius *ᶠ (sin-b -ᶠ sin-a)) (c.radius *ᶠ (cos-b -ᶠ cos-a)) (c.radius *ᶠ delta) s.grad t.grad at r.grads;
      }

  part_kept : (box : Bounds) (c : Circle) (off off' : ℕ) → StandFrom ps 3 off off' → (a b : Float) (s t : WithGradient) → Both ps out s t
      → Both ps out (add_part_with_gradient box c off s a b) (add_part_with_gradient box c off' t a b)
  unfolding add_part_with_gradient
  part_kept box c off off' at a b s t r =
      both_if (summed box c a b) s (sub_arc_with_gradient c off (sin a) (cos a) (sin b) (cos b) (b -ᶠ a) s) t
      (sub_arc_with_gradient c off' (sin a) (cos a) (sin b) (cos b) (b -ᶠ a) t)
      (sub_arc_kept c off off' at (sin a) (cos a) (sin b) (cos b) (b -ᶠ a) s t r) r

  pairs_kept : (box : Bounds) (c : Circle) (off off' : ℕ) → StandFrom ps 3 off off' → (l : List Float) (s t : WithGradient) → Both ps out s t
      → Both ps out (over_pairs (add_part_with_gradient box c off) s l) (over_pairs (add_part_with_gradient box c off') t l)
  pairs_kept box c off off' at l s t r =
      pairs_related (Both ps out) (add_part_with_gradient box c off) (add_part_with_gradient box c off') (λ s t a b. part_kept box c off off' at a b s t) l s t r

  -- ---- edges

  moved_kept : (b : Bool) (q p : ℕ) (x : Float) (g G : List Float) → Stands ps q p → Scattered ps out g G → Scattered ps out (moved b g q x) (moved b G p x)
  moved_kept true q p x g G at s = add_kept q p x g G at s
  moved_kept false q p x g G at s = sub_kept q p x g G at s

  stands_if : (b : Bool) (q q' p p' : ℕ) → Stands ps q p → Stands ps q' p' → Stands ps (cond b q q') (cond b p p')
  stands_if true q q' p p' h h' = h
  stands_if false q q' p p' h h' = h'

  module _ (at at' : ℕ) (four : StandFrom ps 4 at at') where
    edge_kept : (e : BoxEdge) (across l : Float) (g G : List Float) → Scattered ps out g G → Scattered ps out (edge_slopes e across at l g) (edge_slopes e across at' l G)
    unfolding edge_slopes
    edge_kept e across l g G s =
        moved_kept (is_upright e) (at + 3) (at' + 3) _ _ _ (four 3 (omega arith))
        (add_kept (at + 2) (at' + 2) _ _ _ (four 2 (omega arith))
        (moved_kept (is_outward e) _ _ l g G (stands_if (is_upright e) at (at + 1) at' (at' + 1) (stands_first ps 4 at at' (omega arith) four)
        (four 1 (omega arith))) s))

    span_kept : (e : BoxEdge) (factor across : Float) (l : List Interval) (s t : WithGradient) → Both ps out s t
        → Both ps out (add_span_with_gradient e factor across at s l) (add_span_with_gradient e factor across at' t l)
    unfolding add_span_with_gradient
    span_kept e factor across [] s t r = r
    span_kept e factor across (i ∷ l) s t r =
        span_kept e factor across l
        (with_gradient (s.sum +ᶠ factor *ᶠ (i.high -ᶠ i.low)) (edge_slopes e across at (i.high -ᶠ i.low) s.grad))
        (with_gradient (t.sum +ᶠ factor *ᶠ (i.high -ᶠ i.low)) (edge_slopes e across at' (i.high -ᶠ i.low) t.grad))
        (record {
          sums = ap (λ v. v +ᶠ factor *ᶠ (i.high -ᶠ i.low)) r.sums;
          grads = edge_kept e across (i.high -ᶠ i.low) s.grad t.grad r.grads;
        })

    edges_kept : (box : Bounds) (cs : List Circle) (s t : WithGradient) → Both ps out s t
        → Both ps out (add_edges_with_gradient box cs at s) (add_edges_with_gradient box cs at' t)
    unfolding add_edges_with_gradient
    edges_kept box cs s t r =
        let along : Float → List Interval = λ y. horizontal_span y box.x_min box.x_max cs in
        let up : Float → List Interval = λ x. vertical_span x box.y_min box.y_max cs in
        span_kept Left (factor_of box Left) (across_of box Left) (up box.x_min) _ _
        (span_kept Top (factor_of box Top) (across_of box Top) (along box.y_max) _ _
        (span_kept Right (factor_of box Right) (across_of box Right) (up box.x_max) _ _
        (span_kept Bottom (factor_of box Bottom) (across_of box Bottom) (along box.y_min) s t r)))

  -- ---- arcs

  module _ (circles : List Circle) (heads : List ℕ) (below : Every (λ j. j < length circles) heads)
      (stand : (k : ℕ) → k < length heads → StandFrom ps 3 (k * 3) (get_or heads k 0 * 3)) where
    slopes_kept : (g G : List Float) (arc : BoundaryArc) → Below (length heads) arc → Scattered ps out g G
        → Scattered ps out (add_slopes (own circles heads) g arc) (add_slopes circles G (numbered heads arc))
    unfolding add_slopes arc_slopes numbered
    slopes_kept g G arc at s =
        rw (has_own circles heads below arc at, has_head circles heads below arc at, same_circle circles heads below arc at)
        (three_kept (arc.circle * 3) (get_or heads arc.circle 0 * 3) _ _ _ g G (stand arc.circle at) s)

    pub gradient_kept : (arcs : List BoundaryArc) → Every (Below (length heads)) arcs → (g G : List Float) → Scattered ps out g G
        → Scattered ps out (add_gradient (own circles heads) g arcs) (add_gradient circles G (map (numbered heads) arcs))
    gradient_kept arcs h g G s =
        fold_related (Scattered ps out) (Below (length heads)) (numbered heads) (add_slopes (own circles heads)) (add_slopes circles)
        (λ a b arc at r. slopes_kept a b arc at r) arcs h g G s

    clipped_arc_kept : (box : Bounds) (s t : WithGradient) (arc : BoundaryArc) → Below (length heads) arc → Both ps out s t
        → Both ps out (add_clipped_arc_with_gradient box (own circles heads) s arc) (add_clipped_arc_with_gradient box circles t (numbered heads arc))
    unfolding add_clipped_arc_with_gradient clipped_arc_integral_with_gradient breaks numbered
    clipped_arc_kept box s t arc at r =
        let c = get_or circles (get_or heads arc.circle 0) no_circle in
        let i = pairs_kept box c (arc.circle * 3) (get_or heads arc.circle 0 * 3) (stand arc.circle at) (breaks box c arc)
        (with_gradient zero64 s.grad) (with_gradient zero64 t.grad) (record { sums = refl; grads = r.grads }) in
        rw (has_own circles heads below arc at, has_head circles heads below arc at, same_circle circles heads below arc at)
        (record { sums = ap₂ ◌+ᶠ◌ r.sums i.sums; grads = i.grads })

    clipped_arcs_kept : (box : Bounds) (arcs : List BoundaryArc) → Every (Below (length heads)) arcs → (s t : WithGradient) → Both ps out s t
        → Both ps out (add_clipped_arcs_with_gradient box (own circles heads) s arcs) (add_clipped_arcs_with_gradient box circles t (map (numbered heads) arcs))
    clipped_arcs_kept box arcs h s t r =
        fold_related (Both ps out) (Below (length heads)) (numbered heads)
        (add_clipped_arc_with_gradient box (own circles heads)) (add_clipped_arc_with_gradient box circles)
        (λ a b arc at k. clipped_arc_kept box a b arc at k) arcs h s t r

    pub clipped_kept : (box : Bounds) (arcs : List BoundaryArc) → Every (Below (length heads)) arcs
        → StandFrom ps 4 (length (own circles heads) * 3) (length circles * 3)
        → (g G : List Float) → Scattered ps out g G
        → Both ps out (clipped_with_gradient box (own circles heads) (own circles heads) arcs g)
        (clipped_with_gradient box circles (own circles heads) (map (numbered heads) arcs) G)
    unfolding clipped_with_gradient
    clipped_kept box arcs h four g G r =
        let s = add_clipped_arcs_with_gradient box (own circles heads) (with_gradient zero64 g) arcs in
        let t = add_clipped_arcs_with_gradient box circles (with_gradient zero64 G) (map (numbered heads) arcs) in
        let start : Both ps out (with_gradient zero64 g) (with_gradient zero64 G) = record { sums = refl; grads = r } in
        let end = edges_kept (length (own circles heads) * 3) (length circles * 3) four box (own circles heads) s t
        (clipped_arcs_kept box arcs h (with_gradient zero64 g) (with_gradient zero64 G) start) in
        both_if (empty_box box)
        (with_gradient (half64 *ᶠ (add_edges_with_gradient box (own circles heads) (length (own circles heads) * 3) s).sum)
        (add_edges_with_gradient box (own circles heads) (length (own circles heads) * 3) s).grad)
        (with_gradient zero64 g)
        (with_gradient (half64 *ᶠ (add_edges_with_gradient box (own circles heads) (length circles * 3) t).sum)
        (add_edges_with_gradient box (own circles heads) (length circles * 3) t).grad)
        (with_gradient zero64 G)
        start
        (record { sums = ap (λ v. half64 *ᶠ v) end.sums; grads = end.grads })
