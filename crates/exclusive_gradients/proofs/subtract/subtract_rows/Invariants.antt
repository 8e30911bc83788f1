-- `subtract::subtract_rows` meets its contract. The invariants: the sums are subtracted from the first k numbers of the
-- row, and in the inner loop from those before the q-th of this turn.
use Prim.Native.Nat.{◌+◌, ◌-◌, min}
use Rattle.exclusive.specs.Entries.{row_sums, RowSubtracted}
use Rattle.exclusive_gradients.proofs.subtract.subtract_rows.Given as goal

abbrev pub invariant-loop-q : goal.invariant-loop-q
invariant-loop-q g l =
    RowSubtracted l.width l.s (row_sums l.width l.fn.numbers l.rows) (l.from + l.q) l.fn.numbers l.numbers

abbrev pub invariant-loop-k : goal.invariant-loop-k
invariant-loop-k g l =
    RowSubtracted l.width l.s (row_sums l.width l.fn.numbers l.rows) (min l.k l.width) l.fn.numbers l.numbers

abbrev pub decreases-loop-k : goal.decreases-loop-k
decreases-loop-k g l = l.width - l.k
