-- `horner` meets its contract: each step is one of the definition's, and what is taken away is no more than the
-- coefficient.
use Rattle.std.proofs.Common.{ℕ, ◌-◌, get_or, sym, ap, ◌∙◌, le_trans, sub-le, arith}
use Rattle.std.proofs.lemmas.List.Sums.{fold_more}
use Rattle.series.specs.Kernel.{mulhi}
use Rattle.elementary.proofs.fixed.Rising.{rising_at}
use Rattle.elementary.proofs.fixed.horner.Goals as goal

pub loop-c-preserved : goal.loop-c-preserved
loop-c-preserved g c =
    let cs = c.args.coefficients.now in
    let z = c.args.z in
    let i = c.loop-c.c-index in
    let at = get_or cs i 0 in
    record {
      value = ap (λ (k : ℕ). at - k) (c.mulhi.ensures.value ∙ ap (mulhi z) c.loop-c.invariant.value)
          ∙ sym (fold_more (λ (h k : ℕ). k - mulhi z h) 0 cs i 0 (omega arith));
      room = λ q. le_trans (sub-le at c.mulhi.result) (rising_at cs i c.requires q);
    }
