-- `row::BoxRowsWithGradientsGradients::add`: the first arcs that the walk lists, then the edges.
use mathlib.Core.Path.{◌≡◌, sym, ap, ◌∙◌}
use Prim.Native.Nat.{ℕ, ◌*◌}
use mathlib.Core.List.{map}
use lib.ListN.{length}
use Rattle.intersections.specs.Members.{heads_of, circle_at}
use native.Mathlib.Omega.{arith}
use Rattle.lists.specs.Every.{every_take}
use Rattle.masks.specs.Subset.{subset_le}
use Rattle.boundary.specs.Set.{arcs_held, region_arcs}
use Rattle.chords.proofs.Spanning.{chorded_less}
use Rattle.sums.proofs.Edging.{edges_with_are}
use Rattle.clip.specs.Gradient.{with_gradient, add_edges_with_gradient}
use Rattle.clip.proofs.Rows.{gradient_of_nothing}
use Rattle.sums.proofs.Sloping.{row_in_box_with}
use Rattle.sums.proofs.row.BoxRowsWithGradientsGradients.add.Goals as goal

pub returns-then-empty_box : goal.returns-then-empty_box
returns-then-empty_box c =
    let r = c.args.self.now in
    let cs = r.pass.circles.now in
    let own = map (circle_at cs) (heads_of (length cs) c.args.mask) in
    gradient_of_nothing r.bounds cs own (region_arcs cs r.pass.points.now c.args.mask) c.args.grad.now
    (sym c.empty_box.ensures ∙ c.if-empty_box.true)

pub add_parts-total-requires : goal.add_parts-total-requires
add_parts-total-requires c =
    rw (c.first.ensures.value, c.deref.ensures.0) (every_take _ arcs_held _ c.walk.ensures.placed)

pub returns : goal.returns
returns c =
    let r = c.args.self.now in
    let cs = r.pass.circles.now in
    let S = c.args.mask in
    let own = map (circle_at cs) (heads_of (length cs) S) in
    let at : c.after-place.result.at ≡ length c.args.self.now.pass.circles.now * 3 =
    omega (arith, c.after-place.ensures, c.args.self.now.pass.ten) in
    let parts = with_gradient c.add_parts-total.result c.add_parts-total.new.grad in
    let edges = c.add_edges_with_gradient.ensures.added
    ∙ edges_with_are r.bounds cs S r.chords.now r.pass.ten
    (omega (arith, subset_le S r.pass.needed c.requires, r.pass.below)) (chorded_less S c.requires r.chorded)
    c.after-place.result.at parts
    ∙ ap (λ (k : ℕ). add_edges_with_gradient r.bounds own k parts) at in
    row_in_box_with r.pass S c.walk.ensures c.args.grad.now r.bounds own
    (sym c.empty_box.ensures ∙ c.if-empty_box.false)
    (rw (c.first.ensures.value, c.deref.ensures.0) at c.add_parts-total.ensures) (grind (arith, edges))
