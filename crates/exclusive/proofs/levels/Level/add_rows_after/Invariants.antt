-- `levels::Level::add_rows_after` meets its contract. The invariant: the sums with what is left of the rows give the
-- whole sums.
use mathlib.Core.Path.{◌≡◌}
use Prim.Native.Nat.{◌+◌}
use lib.Ieee.{nan}
use lib.ListN.{length, get_or}
use Rattle.exclusive.proofs.LevelSums.{Summing}
use Rattle.exclusive.proofs.levels.Level.add_rows_after.Given as goal

abbrev pub invariant-loop-t : goal.invariant-loop-t
invariant-loop-t l = record {
  room : length l.sums ≡ 1024;
  sums : Summing l.self.rows.now l.self.lo l.self.hi (λ T. get_or l.areas T nan) l.self.rows.now l.initial.sums
      (l.self.hi + l.t-index) l.sums;
}
