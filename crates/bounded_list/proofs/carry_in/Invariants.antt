-- `carry_in`: the items before this one have moved up, and one of them is carried.
use mathlib.Core.Path.{◌≡◌}
use Rattle.std.specs.Prelude.{◌∷◌, ◌++◌, take, drop}
use Rattle.bounded_list.proofs.carry_in.Given as goal

abbrev pub invariant-loop-i : goal.invariant-loop-i
invariant-loop-i g l =
    take l.i l.part ++ l.carry ∷ drop l.i l.part ≡ l.fn.x ∷ l.initial.part
