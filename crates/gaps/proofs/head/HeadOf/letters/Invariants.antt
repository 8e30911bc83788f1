-- `head::HeadOf::letters`: the heads below l are gathered.
use mathlib.Core.Path.{◌≡◌}
use Rattle.masks.specs.Mask.{gather}
use Rattle.intersections.specs.Members.{circle_at}
use Rattle.boundary.specs.Outline.{lets}
use Rattle.gaps.proofs.head.HeadOf.letters.Given as goal

abbrev pub invariant-loop-l : goal.invariant-loop-l
invariant-loop-l l = l.mask ≡ gather l.l (λ i. lets l.self.j l.p i (circle_at l.self.circles.now i))
