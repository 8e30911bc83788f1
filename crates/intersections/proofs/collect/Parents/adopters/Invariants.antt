-- `collect::Parents::adopters`: the mask has the adopters below l.
use mathlib.Core.Path.{◌≡◌}
use Rattle.masks.specs.Mask.{gather}
use Rattle.intersections.specs.Points.{adopts}
use Rattle.intersections.proofs.collect.Parents.adopters.Given as goal

abbrev pub invariant-loop-l : goal.invariant-loop-l
invariant-loop-l l = l.mask ≡ gather l.l (adopts l.self.circles.now l.self.pair.first l.self.pair.second l.p)
