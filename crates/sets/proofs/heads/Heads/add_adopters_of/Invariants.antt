-- `Heads::add_adopters_of`: the mask without each of its heads below i is marked.
use Rattle.std.proofs.Common.{◌≡◌}
use Rattle.masks.specs.Mask.{in_set, without_head}
use Rattle.sets.proofs.Marks.{marks_to}
use Rattle.sets.proofs.heads.Heads.add_adopters_of.Given as goal

abbrev pub invariant-loop-i : goal.invariant-loop-i
invariant-loop-i l = l.found ≡ marks_to (without_head l.fn.self.n l.mask) (in_set l.mask) l.i l.initial.found
