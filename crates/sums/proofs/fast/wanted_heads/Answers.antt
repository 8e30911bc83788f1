-- `fast::wanted_heads`: the heads of the wanted sets below mask.
use native.Mathlib.Omega.{arith}
use borrow.Author.Tests.{ne_eqb}
use Rattle.sums.proofs.Passing.{wanted_with, wanted_without, or_below}
use Rattle.sums.proofs.fast.wanted_heads.Goals as goal
use Rattle.sums.proofs.fast.wanted_heads.Goals.{then-byte-eq1, else-byte-eq1}

pub loop-mask-preserved : goal.loop-mask-preserved
loop-mask-preserved c =
    let l = c.loop-mask in
    let a = c.args in
    elim c.if-byte-eq1.branch [
      | then-byte-eq1 w ↦ (
        rw w.heads-is (wanted_with a.wanted.now l.heads l.mask l.invariant.0),
        λ n h. rw w.heads-is (or_below n l.heads l.mask (l.invariant.1 n h) (omega (arith, h, c.loop-mask-test.true))),
      )
      | else-byte-eq1 w ↦ (
        rw w.heads-is (wanted_without a.wanted.now l.heads l.mask (ne_eqb _ 1 w.if-byte-eq1.false) l.invariant.0),
        λ n h. rw w.heads-is (l.invariant.1 n h),
      )
    ]
