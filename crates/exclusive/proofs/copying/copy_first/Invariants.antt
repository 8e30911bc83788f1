-- `copying::copy_first`: the items before this one are written.
use mathlib.Core.Path.{◌≡◌}
use Rattle.std.specs.Prelude.{◌++◌, take, drop}
use Rattle.exclusive.proofs.copying.copy_first.Given as goal

abbrev pub invariant-loop-s : goal.invariant-loop-s
invariant-loop-s g l = l.to ≡ take l.s l.from ++ drop l.s l.initial.to
