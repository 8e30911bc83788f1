-- `cofunction` meets its contract: the steps are those of the definition.
use Rattle.elementary.specs.Arctangent as recipe
use Rattle.elementary.proofs.arctangent.cofunction.Goals as goal

pub returns : goal.returns
unfolding recipe.cofunction
returns c = c.root.ensures
