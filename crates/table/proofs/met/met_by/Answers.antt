use Rattle.std.proofs.Common.{arith}
use Rattle.intersections.proofs.Adopting.{gathered}
use Rattle.table.proofs.met.met_by.Goals as goal

pub loop-j-preserved : goal.loop-j-preserved
loop-j-preserved c =
    let was = c.loop-j.invariant in
    grind (arith, gathered)
