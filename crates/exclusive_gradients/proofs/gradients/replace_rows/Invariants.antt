-- `gradients::replace_rows` meets its contract. The invariant: the rows below s are as they are left, in both tables,
-- the others as they were.
use mathlib.Core.Path.{◌≡◌}
use Prim.Native.Nat.{◌*◌}
use Rattle.lists.specs.Written.{written}
use Rattle.exclusive_gradients.proofs.Replacing.{area_left, number_left}
use Rattle.exclusive_gradients.proofs.gradients.replace_rows.Given as goal

abbrev pub invariant-loop-s : goal.invariant-loop-s
invariant-loop-s l = record {
  areas : l.areas
      ≡ written (area_left l.present.bytes.now l.initial.areas l.initial.gradients l.width) l.s l.initial.areas;
  gradients : l.gradients
      ≡ written (number_left l.present.bytes.now l.initial.areas l.initial.gradients l.width) (l.s * l.width)
      l.initial.gradients;
}
