-- `marks::heads_marked`: the heads below j.
use mathlib.Core.Path.{◌≡◌}
use Rattle.gaps.proofs.Marking.{heads_to}
use Rattle.gaps.proofs.marks.heads_marked.Given as goal

abbrev pub invariant-loop-j : goal.invariant-loop-j
invariant-loop-j l = l.heads.items ≡ heads_to l.circles l.points l.needed l.j
