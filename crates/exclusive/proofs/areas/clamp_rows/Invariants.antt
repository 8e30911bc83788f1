-- `areas::clamp_rows` meets its contract. The invariant: the rows below s are clamped, the others are as they were.
use mathlib.Core.Path.{◌≡◌}
use mathlib.Core.Bool.{cond}
use mathlib.Core.List.{List}
use Prim.Native.Nat.{ℕ}
use lib.Ieee.{Float, nan}
use lib.ListN.{get_or}
use Rattle.lists.specs.Written.{written}
use Rattle.masks.specs.Presence.{stands}
use Rattle.binary64.specs.Constants.{zero64}
use Rattle.binary64.specs.Functions.{clamp_to_zero}
use Rattle.exclusive.proofs.areas.clamp_rows.Given as goal

-- row S of the table
abbrev pub row : List ℕ → List Float → ℕ → Float
row present numbers S = cond (stands present S) (clamp_to_zero (get_or numbers S nan)) zero64

abbrev pub invariant-loop-s : goal.invariant-loop-s
invariant-loop-s l = l.numbers ≡ written (row l.present.bytes.now l.initial.numbers) l.s l.initial.numbers
