-- `Parts::new`: nothing is held.
use Rattle.sums.specs.declared.shares.Along.{Along}
use Rattle.sums.proofs.Sloping.{none_there}
use Rattle.sums.proofs.shares.Parts.new.Goals as goal

pub returns : goal.returns
returns c p = none_there {A = Along} 330 p
