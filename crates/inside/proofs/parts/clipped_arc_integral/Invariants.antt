-- `parts::clipped_arc_integral`: the pairs of breaks still to come, added to the sum, give the whole.
use mathlib.Core.Path.{◌≡◌}
use Rattle.std.specs.Slice.Iter.{windows_rest, windows_size}
use Rattle.binary64.specs.Constants.{zero64}
use Rattle.lists.specs.Lists.{over_pairs}
use Rattle.inside.specs.Parts.{add_part}
use Rattle.inside.proofs.parts.clipped_arc_integral.Given as goal

abbrev pub invariant-loop-part : goal.invariant-loop-part
invariant-loop-part l =
    (windows_size l.part-iterator ≡ 2)
    × (over_pairs (add_part l.bounds l.c) l.sum (windows_rest l.part-iterator)
    ≡ over_pairs (add_part l.bounds l.c) zero64 (windows_rest l.initial.part-iterator))
