-- `head::HeadOf::fill_lets`: the marks before i have who lets the head have them.
use mathlib.Core.Path.{◌≡◌}
use Rattle.gaps.proofs.Marking.{let_to}
use Rattle.gaps.proofs.head.HeadOf.fill_lets.Given as goal

abbrev pub invariant-loop-i : goal.invariant-loop-i
invariant-loop-i l = l.marks ≡ let_to l.self.circles.now l.self.j l.initial.marks l.i
