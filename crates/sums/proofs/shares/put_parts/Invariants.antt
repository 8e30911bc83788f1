-- `shares::put_parts`: the parts before these ends are put (`Putting`).
use mathlib.Core.Path.{◌≡◌}
use Prim.Native.Nat.{◌*◌}
use Rattle.std.specs.Slice.Iter.{windows_rest, windows_size}
use Rattle.sums.proofs.Sloping.{Putting}
use Rattle.sums.proofs.shares.put_parts.Given as goal

abbrev pub invariant-loop-ends : goal.invariant-loop-ends
invariant-loop-ends l =
    (windows_size l.ends-iterator ≡ 2)
    × Putting l.bounds l.c (l.fn.arc.circle * 3) l.initial.shares.items (windows_rest l.initial.ends-iterator)
    (windows_rest l.ends-iterator) l.sum l.shares.items
