-- `levels::subtract_levels` meets its contract. The invariants: the rows from place hi on, and in the inner loop from
-- place i on, have their unclamped exclusives, those before it are as they were; and the sums of the rows before the
-- level have not begun.
use mathlib.Core.Path.{◌≡◌}
use Prim.Native.Nat.{ℕ, ◌≤◌, ◌<◌}
use lib.Ieee.{nan}
use lib.ListN.{length, get_or}
use Rattle.masks.specs.Presence.{stands}
use Rattle.binary64.specs.Constants.{zero64}
use Rattle.exclusive.proofs.Passing.{Pass}
use Rattle.exclusive.proofs.levels.subtract_levels.Given as goal

abbrev pub invariant-loop-i : goal.invariant-loop-i
invariant-loop-i l = record {
  low : l.lo ≤ l.i;
  pass : Pass l.present.n (stands l.present.bytes.now) 1 l.i l.fn.areas l.areas;
}

abbrev pub invariant-loop-hi : goal.invariant-loop-hi
invariant-loop-hi l = record {
  within : l.hi ≤ length l.rows;
  room : length l.sums ≡ 1024;
  pass : Pass l.present.n (stands l.present.bytes.now) 1 l.hi l.fn.areas l.areas;
  unbegun : (i : ℕ) → i < l.hi → get_or l.sums i nan ≡ zero64;
}

abbrev pub decreases-loop-hi : goal.decreases-loop-hi
decreases-loop-hi l = l.hi
