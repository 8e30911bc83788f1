-- `subtract::sum_rows` meets its contract. The invariant: each sum so far with what is left of the rows gives the whole
-- sum.
use mathlib.Core.Path.{◌≡◌}
use Prim.Native.Nat.{ℕ, ◌+◌, ◌<◌}
use lib.Ieee.{nan}
use lib.ListN.{length, get_or, drop}
use Rattle.exclusive.specs.Exclusive.{sum_onto}
use Rattle.exclusive.specs.Entries.{entry, row_sums}
use Rattle.exclusive_gradients.proofs.subtract.sum_rows.Given as goal

abbrev pub invariant-loop-row : goal.invariant-loop-row
invariant-loop-row g l = record {
  room : length l.sums ≡ g.row.N;
  sums : (q : ℕ) → q < g.row.N
      → sum_onto (entry l.width l.numbers (l.k + q)) (get_or l.sums q nan) (drop l.row-index l.rows)
      ≡ row_sums l.width l.numbers l.rows (l.k + q);
}
