-- `ownership::far_in`: below the square and a bit less.
use Rattle.boundary.proofs.Far.{far-in}
use Rattle.boundary.proofs.ownership.far_in.Goals as goal

pub returns-then-measured : goal.returns-then-measured
returns-then-measured c e = far-in c.args.c c.args.squared (c.measured.ensures c.if-measured.true) e
