-- `ownership::far_out`: past the square and a bit more.
use Rattle.boundary.proofs.Far.{far-out}
use Rattle.boundary.proofs.ownership.far_out.Goals as goal

pub returns-then-measured : goal.returns-then-measured
returns-then-measured c e = far-out c.args.c c.args.squared (c.measured.ensures c.if-measured.true) e
