-- `levels::Level::add_row` meets its contract. The invariant: the sums from place lo to place i have the number or +0.
use mathlib.Core.Path.{◌≡◌}
use lib.ListN.{length}
use Rattle.exclusive.proofs.LevelSums.{Adding}
use Rattle.exclusive.proofs.levels.Level.add_row.Given as goal

abbrev pub invariant-loop-i : goal.invariant-loop-i
invariant-loop-i l = record {
  room : length l.sums ≡ 1024;
  sums : Adding l.rows l.self.lo l.t l.number l.initial.sums l.i l.sums;
}
