-- `Heads::mask`: the mask has the heads below i that pass the test.
use Rattle.std.proofs.Common.{arith}
use Rattle.intersections.proofs.Adopting.{gathered}
use Rattle.sets.proofs.heads.Heads.mask.Goals as goal

pub loop-i-preserved : goal.loop-i-preserved
loop-i-preserved g c = λ p same.
    let l = c.loop-i in
    let passes = same l.i c.test.result (omega arith) c.test.ensures in
    let was = l.invariant p same in
    grind (arith, gathered)
