-- `rows::row_heads` meets its contract. The invariant: the heads of the rows before place i are counted.
use mathlib.Core.Path.{◌≡◌}
use lib.Count.{ones}
use lib.ListN.{get_or, replicate}
use Rattle.lists.specs.Written.{written}
use Rattle.exclusive.proofs.rows.row_heads.Given as goal

abbrev pub invariant-loop-i : goal.invariant-loop-i
invariant-loop-i l = l.heads ≡ written (λ i. ones (get_or l.rows i 0)) l.i (replicate 1024 0)
