-- `Heads::add_singles`: the loop has come to all heads.
use Rattle.std.proofs.Common.{◌∙◌, arith}
use Rattle.sets.specs.Regions.{closed_at}
use Rattle.sets.proofs.Marks.{singles_end}
use Rattle.sets.proofs.heads.Heads.add_singles.Goals as goal

pub returns : goal.returns
returns c =
    c.loop-i.invariant
    ∙ singles_end c.args.self.n c.loop-i.i c.args.found.now (closed_at c.args.circles.now) (omega arith)
