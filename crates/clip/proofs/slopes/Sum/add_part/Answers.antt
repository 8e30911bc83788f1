use mathlib.Core.Path.{◌∙◌, sym}
use Rattle.clip.specs.Gradient.{so_far}
use Rattle.clip.proofs.Rows.{part_added}
use Rattle.clip.proofs.slopes.Sum.add_part.Goals as goal

-- src/slopes.rt:53:5
pub returns-then-summed-clause-added : goal.returns-then-summed-clause-added
returns-then-summed-clause-added c =
    let part = c.part_of-part in
    part_added c.args.bounds c.args.c c.args.place.at (so_far c.args.self.now) c.args.a c.args.b part.result.integral
    part.result.share c.add_three.new.grad (sym c.summed.ensures ∙ c.if-summed.true) part.ensures.integral
    part.ensures.share c.add_three.ensures
