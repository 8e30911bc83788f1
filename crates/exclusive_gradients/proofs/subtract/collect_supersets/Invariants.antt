-- `subtract::collect_supersets` meets its contract. The invariant: those found so far, with those among the rows left,
-- are all of them.
use mathlib.Core.Path.{◌≡◌}
use mathlib.Core.List.{◌++◌}
use Prim.Native.Nat.{◌≤◌}
use lib.ListN.{length, take, drop}
use Rattle.lists.specs.Lists.{keep}
use Rattle.masks.specs.Mask.{subset}
use Rattle.exclusive_gradients.proofs.subtract.collect_supersets.Given as goal

abbrev pub invariant-loop-row : goal.invariant-loop-row
invariant-loop-row l = record {
  room : length l.supersets ≡ 1024;
  few : l.found ≤ l.row-index;
  all : take l.found l.supersets ++ keep (subset 64 l.s) (drop l.row-index l.rows) ≡ keep (subset 64 l.s) l.rows;
}
