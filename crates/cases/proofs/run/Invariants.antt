-- Every trial takes at least its first byte.
use Rattle.std.proofs.Common.{length}
use Rattle.cases.proofs.run.Given as goal

abbrev pub decreases-loop-rest : goal.decreases-loop-rest
decreases-loop-rest g l = length l.rest
