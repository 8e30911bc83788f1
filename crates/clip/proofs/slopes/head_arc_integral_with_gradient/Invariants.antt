-- `slopes::head_arc_integral_with_gradient`: the parts still to come, added to sum and gradient, give the whole.
use mathlib.Core.Path.{◌≡◌}
use Rattle.std.specs.Slice.Iter.{windows_rest, windows_size}
use Rattle.binary64.specs.Constants.{zero64}
use Rattle.lists.specs.Lists.{over_pairs}
use Rattle.clip.specs.Gradient.{with_gradient, so_far, add_part_with_gradient}
use Rattle.clip.proofs.slopes.head_arc_integral_with_gradient.Given as goal

abbrev pub invariant-loop-part : goal.invariant-loop-part
invariant-loop-part l =
    let parts = over_pairs (add_part_with_gradient l.bounds l.c l.place.at) in
    record {
      same_reference : l.sum.grad.ghost_name ≡ l.initial.sum.grad.ghost_name;
      pairs : windows_size l.part-iterator ≡ 2;
      rest : parts (so_far l.sum) (windows_rest l.part-iterator)
          ≡ parts (with_gradient zero64 l.initial.sum.grad.now) (windows_rest l.initial.part-iterator);
    }
