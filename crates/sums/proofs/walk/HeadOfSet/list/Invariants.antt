-- `walk::HeadOfSet::list`: the gaps up to the last point of the set before b are listed (`Round`).
use Rattle.sums.proofs.Walking.{Round}
use Rattle.sums.proofs.walk.HeadOfSet.list.Given as goal

abbrev pub invariant-loop-b : goal.invariant-loop-b
invariant-loop-b l = Round l.self.pass l.self.mask l.self.j l.first l.initial.list.items l.list.items l.last l.b
