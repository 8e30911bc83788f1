-- `subtract::subtract_supersets` meets its contract. The invariant: the rows from place i on have their unclamped
-- exclusives, those before it are as they were.
use mathlib.Core.Path.{◌≡◌}
use lib.ListN.{length}
use Rattle.masks.specs.Presence.{stands}
use Rattle.exclusive.proofs.Passing.{Pass}
use Rattle.exclusive_gradients.proofs.subtract.subtract_supersets.Given as goal

abbrev pub invariant-loop-i : goal.invariant-loop-i
invariant-loop-i l = record {
  room : length l.supersets ≡ 1024;
  pass : Pass l.present.n (stands l.present.bytes.now) l.width l.i l.initial.numbers l.numbers;
}
