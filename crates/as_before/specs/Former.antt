-- The answers of a plan as they were before a head could be closed. Nothing here asks whether one is: heads meet
-- where their outlines do, a point is adopted by each head that covers it, every head has its single, and a head
-- contains what its outline holds. The words are those of today's answers, which say by what rule circles meet and
-- adopt, and over what list of sets.
use Rattle.std.specs.Prelude.{ℕ, ◌^◌, Bool, not, ◌&&◌, ◌||◌, eqb, List, Float}
use Rattle.heads.specs.declared.Head.{Head}
use Rattle.heads.specs.Pair.{squared_distance, radius_of}
use Rattle.heads.specs.Relation.{outlines_meet}
use Rattle.masks.specs.Mask.{gather}
use Rattle.lists.specs.Run.{Step}
use Rattle.plan.specs.declared.Edit.{Edit}
use Rattle.plan.specs.declared.Gradients.TheVariants.{Clipped, Open}
use Rattle.plan.specs.declared.Plan.{Plan}
use Rattle.plan.specs.Book.{leaves, head_of, applied}
use Rattle.plan.specs.Table.{Answered}
use Rattle.drawn.specs.Drawn.{plan_circles}
use Rattle.intersections.specs.declared.points.IntersectionPoint.{IntersectionPoint}
use Rattle.intersections.specs.Members.{Member}
use Rattle.intersections.specs.Points.{collected_by, outline_rule}
use Rattle.sets.specs.Regions.{in_outline_regions}
use Rattle.overlaps.specs.Overlap.{chosen, outline_overlap}
use Rattle.diagram.specs.Rows.{Slopes}
use Rattle.regions.specs.Edit.{Row, edited_row}
use Rattle.regions.specs.Table.{Method, head_at, members_by, area_by, afresh_by, rows_over}
use Rattle.regions.specs.Slices.{PlanSlices, row_at, settled_tables, step_of, afresh_answer, slice_answer}
use Rattle.areas.specs.Exclusives.{exclusive_rows}
use Rattle.areas.specs.Gradients.{clipped_gradients_by, open_gradients_by}
use Rattle.table.specs.Method.{method_over}
use Rattle.gradients.specs.Step.{GradientSlices, gradients_step, clipped_plan_by, open_plan_by}

-- the meeting points, with parents and adopters
abbrev pub former_points : Plan → List IntersectionPoint
former_points p = collected_by outline_rule (plan_circles p)

-- which masks were among a plan's sets
unfoldable pub former_sets : Plan → ℕ → Bool
former_sets p S = in_outline_regions (plan_circles p) (former_points p) S

-- the members of a set
abbrev pub former_members : Plan → ℕ → List Member
former_members = members_by outline_rule

-- How a table was worked out, with the box or without it: the areas and exclusives of today, over the former sets.
abbrev pub former_method : Bool → Method
former_method has_box = method_over has_box former_sets

-- its rows, and their exclusives
abbrev pub former_rows : Bool → Plan → ℕ → Row
former_rows has_box = afresh_by outline_rule (former_method has_box)

abbrev pub former_exclusives : Bool → Plan → ℕ → Row
former_exclusives has_box p = exclusive_rows p.n (former_rows has_box p)

-- the gradients of the rows by head number, in the box and without it
abbrev pub former_clipped_gradients : Plan → ℕ → List Float
former_clipped_gradients = clipped_gradients_by outline_rule former_sets

abbrev pub former_open_gradients : Plan → ℕ → List Float
former_open_gradients = open_gradients_by outline_rule former_sets

-- the rows that the gradient calls work from, areas and gradients
abbrev pub former_clipped_plan : Plan → Slopes
former_clipped_plan = clipped_plan_by outline_rule former_sets

abbrev pub former_open_plan : Plan → Slopes
former_open_plan = open_plan_by outline_rule former_sets

-- what all heads water together, and what those of a mask do
abbrev pub former_overlap : Plan → Float
former_overlap p = outline_overlap (plan_circles p)

abbrev pub former_overlap_of : Plan → ℕ → Float
former_overlap_of p S = outline_overlap (chosen (plan_circles p) S)

-- ---- what the calls left and answered

-- the afresh call: rows 0 to 2^n - 1 of both tables
abbrev pub former_afresh_left : Bool → PlanSlices → PlanSlices
former_afresh_left has_box d = record {
  plan = d.plan;
  tables =
      settled_tables (former_method has_box) (2 ^ d.plan.n) d.plan.n (former_rows has_box d.plan) d.tables;
}

abbrev pub former_afresh : Bool → PlanSlices → Step PlanSlices Answered
former_afresh has_box d = step_of (leaves (afresh_answer d) d (former_afresh_left has_box d)) (afresh_answer d)

-- the gradient calls: presence bytes, exclusives and their gradients
abbrev pub former_clipped_step : Plan → GradientSlices → Step GradientSlices Answered
former_clipped_step = gradients_step Clipped former_clipped_plan

abbrev pub former_open_step : Plan → GradientSlices → Step GradientSlices Answered
former_open_step = gradients_step Open former_open_plan

-- ---- an edit

-- the outlines of two heads meet
abbrev pub outlines_meet_of : Head → Head → Bool
outlines_meet_of a b = outlines_meet (squared_distance a b) (radius_of a) (radius_of b)

-- the heads whose outlines met that of the edited head, before or after
unfoldable pub former_met : Plan → Edit → ℕ
former_met p e =
    gather p.n
    (λ j. not (eqb j e.head)
    && (outlines_meet_of (head_at p e.head) (head_at p j) || outlines_meet_of (head_of e) (head_at p j)))

-- row S after a taken edit, from the rows handed in
abbrev pub former_edited : Bool → Plan → Edit → (ℕ → Row) → ℕ → Row
former_edited has_box p e rows S =
    edited_row has_box (2 ^ e.head) (former_met p e) (area_by outline_rule (former_method has_box) (applied p e))
    (former_sets p) (former_sets (applied p e)) rows S

-- what an edit of a plan's tables left and answered
abbrev pub former_edit_left : Bool → PlanSlices → Edit → PlanSlices
former_edit_left has_box d e = record {
  plan = applied d.plan e;
  tables =
      settled_tables (former_method has_box) (rows_over d.plan e) (applied d.plan e).n
      (former_edited has_box d.plan e (row_at d.tables.rows)) d.tables;
}

abbrev pub former_edit : Bool → PlanSlices → Edit → Step PlanSlices Answered
former_edit has_box d e = step_of (leaves (slice_answer d e) d (former_edit_left has_box d e)) (slice_answer d e)
