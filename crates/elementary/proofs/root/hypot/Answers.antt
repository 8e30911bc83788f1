-- `root::hypot` meets its contract.
use Rattle.elementary.specs.Root.{hypot}
use Rattle.elementary.proofs.root.hypot.Goals as goal

pub returns : goal.returns
unfolding hypot
returns c = c.root.ensures
