-- `levels::Level::add_row` meets its contract. The invariant: the sums from place lo to place i have the number or +0.
use mathlib.Core.Path.{sym, ap, ◌∙◌}
use mathlib.Core.Bool.{Bool, cond}
use native.Mathlib.Omega.{arith}
use lib.ListN.{length-set}
use Rattle.binary64.specs.Constants.{zero64}
use Rattle.exclusive.proofs.LevelSums.{adding_next}
use Rattle.exclusive.proofs.levels.Level.add_row.Goals as goal
use Rattle.exclusive.proofs.levels.Level.add_row.Goals.{then-is_subset, else-is_subset}

pub loop-i-preserved : goal.loop-i-preserved
loop-i-preserved c =
    let l = c.loop-i in let i = l.invariant in let a = c.args in
    let test = sym c.is_subset.ensures in record {
      room = length-set l.sums l.i _ ∙ i.room;
      sums =
          adding_next a.self.now.rows.now a.self.now.lo a.t a.number a.sums.now l.i l.sums c.if-is_subset.part
          (omega arith) (omega (arith, i.room))
          (elim c.if-is_subset.branch [
            | then-is_subset w ↦
                w.part-is ∙ sym (ap (λ (b : Bool). cond b a.number zero64) (test ∙ w.if-is_subset.true))
            | else-is_subset w ↦
                w.part-is ∙ sym (ap (λ (b : Bool). cond b a.number zero64) (test ∙ w.if-is_subset.false))
          ])
          i.sums;
    }
