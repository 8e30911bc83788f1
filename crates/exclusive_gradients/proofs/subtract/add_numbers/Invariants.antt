-- `subtract::add_numbers` meets its contract. The invariant: the first q sums have their numbers.
use mathlib.Core.Path.{◌≡◌}
use Prim.Native.Nat.{◌+◌}
use lib.Ieee.{nan}
use lib.ListN.{get_or}
use Rattle.lists.specs.Written.{written}
use Rattle.binary64.specs.Floats.{◌+ᶠ◌}
use Rattle.exclusive_gradients.proofs.subtract.add_numbers.Given as goal

abbrev pub invariant-loop-q : goal.invariant-loop-q
invariant-loop-q g l =
    l.sums ≡ written (λ q. get_or l.initial.sums q nan +ᶠ get_or l.numbers (l.at + q) nan) l.q l.initial.sums
