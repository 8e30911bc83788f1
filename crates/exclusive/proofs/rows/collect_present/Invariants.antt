-- `rows::collect_present` meets its contract. The invariant: the first so many are the present rows below s.
use mathlib.Core.Path.{◌≡◌}
use Prim.Native.Nat.{◌≤◌}
use lib.ListN.{length, take}
use Rattle.masks.specs.Presence.{stands}
use Rattle.exclusive.proofs.Places.{rows_below}
use Rattle.exclusive.proofs.rows.collect_present.Given as goal

abbrev pub invariant-loop-s : goal.invariant-loop-s
invariant-loop-s l = record {
  found : l.n ≤ l.s;
  room : length l.masks ≡ 1024;
  rows : take l.n l.masks ≡ rows_below (stands l.bytes) l.s;
}
