-- Answers for radii above 0 do not move: of a plan whose radii all are, each answer is the former one, bit for bit,
-- and so is what the calls leave, whatever their slices held. It is said of the radii, not of what counts as closed.
-- (How two heads lie to each other by whole numbers, and which radii are taken, did not move either:
-- heads/specs/AsBefore.antt.)
use Rattle.std.specs.Prelude.{ℕ, ◌<◌, ◌≡◌, true, false, List, length}
use Rattle.lists.specs.Every.{Every}
use Rattle.lists.specs.Run as Run
use Rattle.heads.specs.Pair.{radius_of}
use Rattle.plan.specs.declared.Edit.{Edit}
use Rattle.plan.specs.declared.Plan.{Plan}
use Rattle.plan.specs.Book.{head_of}
use Rattle.plan.specs.Checks.{plan_answer}
use Rattle.plan.specs.Table.{taken}
use Rattle.drawn.specs.Drawn.{plan_circles}
use Rattle.intersections.specs.Points.{collected}
use Rattle.overlaps.specs.Overlap.{overlap, overlap_of}
use Rattle.regions.specs.Table.{head_at, plan_members, afresh}
use Rattle.regions.specs.Slices.{LentTables, PlanSlices, afresh_slices}
use Rattle.regions.specs.Run.{slices_after, answers_after}
use Rattle.areas.specs.Exclusives.{exclusive_rows}
use Rattle.areas.specs.Gradients.{clipped_gradients, open_gradients}
use Rattle.areas.specs.Sets.{plan_sets}
use Rattle.table.specs.Method.{clipped_table, open_table}
use Rattle.gradients.specs.Step.{GradientSlices, clipped_plan, open_plan, clipped_step, open_step}
use Rattle.as_before.specs.Former.{former_points, former_members, former_sets, former_rows, former_exclusives}
use Rattle.as_before.specs.Former.{former_clipped_gradients, former_open_gradients, former_clipped_plan}
use Rattle.as_before.specs.Former.{former_open_plan}
use Rattle.as_before.specs.Former.{former_overlap, former_overlap_of, former_afresh, former_edit}
use Rattle.as_before.specs.Former.{former_clipped_step, former_open_step}

-- a plan that the checks take, each of its radii above 0
pub record AllAbove (p : Plan) : Type 0 where
  pub room : length p.heads ≡ 10
  pub accepted : plan_answer p ≡ taken
  pub above : (i : ℕ) → i < p.n → 0 < radius_of (head_at p i)

-- an edit to a radius above 0
abbrev pub EditAbove : Edit → Type 0
EditAbove e = 0 < radius_of (head_of e)

-- a plan over lent tables
abbrev pub over : Plan → LentTables → PlanSlices
over p t = record { plan = p; tables = t }

pub record AnswersStay (p : Plan) : Type 0 where
  -- the meeting points, with parents and adopters, in their order
  pub points : collected (plan_circles p) ≡ former_points p
  -- which masks are sets, and the members of each
  pub sets : (S : ℕ) → plan_sets p S ≡ former_sets p S
  pub members : (S : ℕ) → plan_members p S ≡ former_members p S
  -- each row, its byte and its number, in the box and without it
  pub rows : (S : ℕ) → afresh clipped_table p S ≡ former_rows true p S
  pub open_rows : (S : ℕ) → afresh open_table p S ≡ former_rows false p S
  -- their exclusives
  pub exclusives : (S : ℕ) → exclusive_rows p.n (afresh clipped_table p) S ≡ former_exclusives true p S
  pub open_exclusives : (S : ℕ) → exclusive_rows p.n (afresh open_table p) S ≡ former_exclusives false p S
  -- the gradient of each row
  pub gradients : (S : ℕ) → clipped_gradients plan_sets p S ≡ former_clipped_gradients p S
  pub open_gradients : (S : ℕ) → open_gradients plan_sets p S ≡ former_open_gradients p S
  -- all that the gradient calls work from: bytes, areas and gradients
  pub slopes : clipped_plan plan_sets p ≡ former_clipped_plan p
  pub open_slopes : open_plan plan_sets p ≡ former_open_plan p
  -- what all heads water together, and what those of a mask do
  pub overlap : overlap (plan_circles p) ≡ former_overlap p
  pub overlap_of : (S : ℕ) → overlap_of (plan_circles p) S ≡ former_overlap_of p S

-- What the calls leave and answer, over any slices: the tables in the box and without it, worked out afresh and
-- edited, and the exclusives with their gradients.
pub record CallsStay (p : Plan) : Type 0 where
  pub afresh : (t : LentTables) → afresh_slices clipped_table (over p t) ≡ former_afresh true (over p t)
  pub open_afresh : (t : LentTables) → afresh_slices open_table (over p t) ≡ former_afresh false (over p t)
  -- any list of edits to radii above 0, refused ones included: what it leaves, and each answer
  pub run : (t : LentTables) (es : List Edit) → Every EditAbove es
      → (slices_after clipped_table (over p t) es ≡ Run.after (former_edit true) (over p t) es)
      × (answers_after clipped_table (over p t) es ≡ Run.answers (former_edit true) (over p t) es)
  pub open_run : (t : LentTables) (es : List Edit) → Every EditAbove es
      → (slices_after open_table (over p t) es ≡ Run.after (former_edit false) (over p t) es)
      × (answers_after open_table (over p t) es ≡ Run.answers (former_edit false) (over p t) es)
  pub gradients : (t : GradientSlices) → clipped_step plan_sets p t ≡ former_clipped_step p t
  pub open_gradients : (t : GradientSlices) → open_step plan_sets p t ≡ former_open_step p t

-- proofs/Stays.antt proves both, as `answers_stay` and `calls_stay`.
abbrev pub AllAnswersStay : Type 0
AllAnswersStay = (p : Plan) → AllAbove p → AnswersStay p

abbrev pub AllCallsStay : Type 0
AllCallsStay = (p : Plan) → AllAbove p → CallsStay p
