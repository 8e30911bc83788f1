-- The call for what all heads of a plan but the closed ones water together: checked, it gives the answer's number;
-- taken, the area is written.
use Rattle.std.specs.Prelude.{cond, eqb, Float}
use Rattle.plan.specs.declared.Plan.{Plan}
use Rattle.plan.specs.Checks.{plan_answer}
use Rattle.plan.specs.Table.{answer_number}
use Rattle.drawn.specs.Drawn.{plan_circles}
use Rattle.overlaps.specs.Overlap.{overlap}

-- what stands in the number lent: the overlap of the plan's circles, or what stood there
abbrev pub overlap_left : Plan → Float → Float
overlap_left p v = cond (eqb (answer_number (plan_answer p)) 0) (overlap (plan_circles p)) v
