-- `head::HeadOf::fill_marks`: the marks of the points before this one.
use mathlib.Core.Path.{◌≡◌}
use lib.ListN.{take}
use Rattle.gaps.specs.Marks.{marks_at}
use Rattle.gaps.proofs.head.HeadOf.fill_marks.Given as goal

abbrev pub invariant-loop-q : goal.invariant-loop-q
invariant-loop-q l = l.marks.items ≡ marks_at l.circle l.self.j (take l.q-index l.points)
