-- `Radicand::nearest` meets its contract: what `settle` gives is nearest, and only one number is.
use Rattle.elementary.proofs.root.Digits.{nearest_is}
use Rattle.elementary.proofs.root.Radicand.nearest.Goals as goal

pub returns : goal.returns
returns c = nearest_is c.args.self.m c.in-Some.q c.args.self.least c.args.self.below c.in-Some.ensures
