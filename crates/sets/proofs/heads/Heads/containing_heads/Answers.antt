-- `Heads::containing_heads`: the test of two heads.
use Rattle.std.proofs.Common.{rules}
use Rattle.sets.specs.Regions.{contains_at}
use Rattle.sets.proofs.heads.Heads.containing_heads.Goals as goal

pub returns : goal.returns
returns c = c.masks.ensures (λ i j. contains_at c.args.circles.now j i) (λ i j b hi hj post. search rules)
