-- `row::BoxRowsAreas::area`: the arcs that the walk lists, then the edges.
use mathlib.Core.Path.{sym, ◌∙◌}
use native.Mathlib.Omega.{arith}
use Rattle.masks.specs.Subset.{subset_le}
use Rattle.chords.proofs.Spanning.{chorded_less}
use Rattle.sums.proofs.Edging.{edges_are}
use Rattle.sums.proofs.Valuing.{area_of_none, row_in_box}
use Rattle.sums.proofs.row.BoxRowsAreas.area.Goals as goal

pub returns-then-empty_box : goal.returns-then-empty_box
returns-then-empty_box c =
    let r = c.args.self.now.integrals.now in
    area_of_none r.of.bounds r.pass.circles.now r.pass.points.now c.args.mask
    (sym c.empty_box.ensures ∙ c.if-empty_box.true)

pub sum-requires : goal.sum-requires
sum-requires c = rw c.deref.ensures.0 c.walk.ensures.placed

pub returns : goal.returns
returns c =
    let rows = c.args.self.now in
    let r = rows.integrals.now in
    let cs = r.pass.circles.now in
    let S = c.args.mask in
    row_in_box r.pass S c.walk.ensures r.of.bounds (sym c.empty_box.ensures ∙ c.if-empty_box.false)
    (rw c.deref.ensures.0 at c.sum.ensures)
    (c.add_edges.ensures
    ∙ edges_are r.of.bounds cs S rows.chords.now r.pass.ten
    (omega (arith, subset_le S r.pass.needed c.requires, r.pass.below)) (chorded_less S c.requires rows.chorded) _)
