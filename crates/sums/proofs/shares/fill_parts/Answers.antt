-- `shares::fill_parts`: the parts of one arc more are held.
use mathlib.Core.Path.{◌∙◌}
use native.Mathlib.Omega.{arith}
use lib.ListN.{length-set}
use Rattle.sums.proofs.Filling.{listed_low}
use Rattle.sums.proofs.Sloping.{parts_next}
use Rattle.sums.proofs.shares.fill_parts.Goals as goal

pub loop-place-preserved : goal.loop-place-preserved
loop-place-preserved c =
    let l = c.loop-place in
    let low = listed_low c.standing_arcs-places.ensures c.deref-place-items.ensures.0 c.loop-place-test.true in (
      length-set _ _ _ ∙ l.invariant.0,
      rw (c.len-from.ensures.value, c.len.ensures.value)
          (parts_next l.parts.along _ l.invariant.1 c.circle.ensures c.arc.ensures c.put_parts-sum.ensures
          (omega (arith, low, l.invariant.0))),
    )
