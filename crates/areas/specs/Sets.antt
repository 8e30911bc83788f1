-- The list of sets of a plan: the Rust's discover_regions of its circles and their meeting points. Rows, exclusives and edits take any list
-- of sets; this is the one of the plan's own calls.
use Rattle.std.specs.Prelude.{ℕ, Bool}
use Rattle.plan.specs.declared.Plan.{Plan}
use Rattle.drawn.specs.Drawn.{plan_circles}
use Rattle.intersections.specs.Points.{collected}
use Rattle.sets.specs.Regions.{in_regions}

-- which masks are among a plan's sets
unfoldable pub plan_sets : Plan → ℕ → Bool
plan_sets p S = in_regions (plan_circles p) (collected (plan_circles p)) S
