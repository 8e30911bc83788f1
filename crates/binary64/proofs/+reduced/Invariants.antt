-- The step doubles as long as it is no larger than x.
use Rattle.std.proofs.Common.{◌-◌}
use Rattle.binary64.specs.Units.{mag}
use Rattle.binary64.proofs.+reduced.Given as goal

abbrev pub decreases-reduced : goal.decreases-reduced
decreases-reduced l = mag l.x - mag l.m
