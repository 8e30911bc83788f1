-- `Heads::add_singles`: the singles of the heads below i that are not closed are marked.
use Rattle.std.proofs.Common.{◌≡◌, not}
use Rattle.masks.specs.Mask.{single}
use Rattle.sets.specs.Regions.{closed_at}
use Rattle.sets.proofs.Marks.{marks_to}
use Rattle.sets.proofs.heads.Heads.add_singles.Given as goal

abbrev pub invariant-loop-i : goal.invariant-loop-i
invariant-loop-i l = l.found ≡ marks_to (single l.fn.self.n) (λ k. not (closed_at l.circles k)) l.i l.initial.found
