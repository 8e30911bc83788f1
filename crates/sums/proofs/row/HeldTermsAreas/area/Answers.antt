-- `row::HeldTermsAreas::area`: the arcs that the walk lists.
use Rattle.sums.proofs.Valuing.{row_open}
use Rattle.sums.proofs.row.HeldTermsAreas.area.Goals as goal

pub returns : goal.returns
returns c = row_open c.args.self.now.pass c.args.mask c.walk.ensures (rw c.deref.ensures.0 at c.sum.ensures)
