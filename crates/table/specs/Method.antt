-- How the calls of this crate work a plan's table out: in the plan's box or without it, over any list of
-- sets, the exclusives by to_exclusive_areas. The public calls have the plan's own sets, those of
-- discover_regions.
use Rattle.std.specs.Prelude.{ℕ, Bool, true, false}
use Rattle.plan.specs.declared.Plan.{Plan}
use Rattle.areas.specs.Clipped.{clipped_method}
use Rattle.areas.specs.Exclusives.{to_exclusives}
use Rattle.areas.specs.Open.{open_method}
use Rattle.areas.specs.Sets.{plan_sets}
use Rattle.regions.specs.Table.{Method}

-- with a box or without one, over a list of sets
abbrev pub method_over : Bool → (Plan → ℕ → Bool) → Method
method_over true sets = clipped_method sets to_exclusives
method_over false sets = open_method sets to_exclusives

-- the table of rows in the box
abbrev pub clipped_table : Method
clipped_table = method_over true plan_sets

-- the table of rows without the box
abbrev pub open_table : Method
open_table = method_over false plan_sets
