-- `carry_in`: one item more moves up.
use mathlib.Core.Path.{◌∙◌}
use native.Mathlib.Omega.{arith}
use Prim.Native.Nat.{◌≤◌}
use lib.ListN.{length, drop_of_length-le}
use lib.Seq.{take_all}
use Rattle.bounded_list.proofs.Moving.{carried_on}
use Rattle.bounded_list.proofs.carry_in.Goals as goal

pub loop-i-preserved : goal.loop-i-preserved
loop-i-preserved g c =
    let l = c.loop-i in
    carried_on l.part l.i l.carry c.index-part-i.result (omega (arith, l.auto.part, c.loop-i-test.true))
    c.index-part-i.is ∙ l.invariant

pub returns : goal.returns
returns g c =
    let l = c.loop-i in
    let all : length l.part ≤ l.i = omega (arith, l.auto.part, c.loop-i-test.false) in
    rw (take_all l.i l.part all, drop_of_length-le l.part all) at l.invariant
