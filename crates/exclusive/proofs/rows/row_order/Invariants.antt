-- `rows::row_order` meets its contract. The invariants: the rows of fewer than c heads are listed, and in the inner
-- loop, with those of c heads among the rows left, the rows of c heads at most.
use mathlib.Core.Path.{◌≡◌}
use mathlib.Core.Bool.{Bool}
use mathlib.Core.List.{List, ◌++◌}
use Prim.Native.Nat.{ℕ, ◌+◌, ◌^◌}
use lib.Count.{ones}
use lib.Dec.{eqb}
use lib.ListN.{drop}
use Rattle.lists.specs.Lists.{up_to, keep}
use Rattle.masks.specs.Presence.{stands}
use Rattle.exclusive.specs.RowOrder.{rows_of}
use Rattle.exclusive.proofs.rows.row_order.Given as goal

-- the rows of fewer than c heads
abbrev pub Before : List ℕ → ℕ → ℕ → List ℕ
Before present n c = up_to (λ c. rows_of (stands present) c (2 ^ n)) c

-- a mask has c heads
abbrev pub Has : ℕ → ℕ → Bool
Has c S = eqb (ones S) c

abbrev pub invariant-loop-i : goal.invariant-loop-i
invariant-loop-i l =
    l.rows.items ++ keep (Has l.c) (drop l.i l.found) ≡ Before l.present.bytes.now l.present.n (l.c + 1)

abbrev pub invariant-loop-c : goal.invariant-loop-c
invariant-loop-c l = l.rows.items ≡ Before l.present.bytes.now l.present.n l.c
