-- `row::HeldWithSlopesGradients::add`: the first arcs that the walk lists.
use mathlib.Core.Path.{◌∙◌}
use Rattle.lists.specs.Every.{every_take}
use Rattle.boundary.specs.Set.{arcs_held}
use Rattle.sums.proofs.Sloping.{with_terms, row_open_with}
use Rattle.sums.proofs.row.HeldWithSlopesGradients.add.Goals as goal

pub add_slopes-requires : goal.add_slopes-requires
add_slopes-requires c =
    rw (c.first-arcs.ensures.value, c.deref.ensures.0) (every_take _ arcs_held _ c.walk.ensures.placed)

pub sum-requires : goal.sum-requires
sum-requires c = rw (c.first-arcs.ensures.value, c.deref.ensures.0) (every_take _ arcs_held _ c.walk.ensures.placed)

pub returns : goal.returns
returns c =
    let p = c.args.self.now.pass in
    let sum = c.sum.ensures ∙ with_terms p.circles.now p.heads.now.items c.first-arcs.result.now in
    row_open_with p c.args.mask c.walk.ensures c.args.grad.now
    (rw (c.first-arcs.ensures.value, c.deref.ensures.0) at sum)
    (rw (c.first-arcs.ensures.value, c.deref.ensures.0) at c.add_slopes.ensures)
