-- `lookup::add_slopes`: the slopes of one arc more are added.
use mathlib.Core.Path.{ap, ◌∙◌}
use native.Mathlib.Omega.{arith}
use lib.ListN.{get_or}
use Rattle.lists.proofs.Folds.{fold_suc}
use Rattle.sums.specs.Slopes.{add_slopes_at}
use Rattle.sums.proofs.Sloping.{slopes_put}
use Rattle.sums.proofs.lookup.add_slopes.Goals as goal

pub loop-place-preserved : goal.loop-place-preserved
loop-place-preserved c =
    let pass = c.args.held.now.pass in
    let cs = pass.circles.now in
    let hs = pass.heads.now.items in
    let l = c.loop-place in
    let p = get_or c.args.arcs.now l.place-index 0 in
    c.add_three.ensures
    ∙ slopes_put cs hs l.grad p c.after.ensures c.head.ensures.value (omega (arith, c.head.ensures.below, pass.ten))
    c.at.ensures
    ∙ ap (λ g. add_slopes_at cs hs g p) l.invariant
    ∙ fold_suc (add_slopes_at cs hs) c.args.grad.now c.args.arcs.now l.place-index 0 c.loop-place-test.true
