-- When the calls of a plan answer 5 and 11, over the steps that stand in their contracts (request 6): by the values
-- that are handed over. Proved in proofs/Refusals.antt as `five_of_calls` and `eleven_of_calls`, from `five_by_values`
-- and `eleven_by_values` (crate plan). Of files: `reading/specs/Fields.antt`.
use Rattle.std.specs.Prelude.{ℕ, ◌≡◌, Bool, List, ◌∷◌, ◌++◌, ◌↔◌, ◌⊎◌, length, get_or}
use Rattle.plan.specs.declared.Edit.{Edit}
use Rattle.plan.specs.declared.Plan.{Plan}
use Rattle.plan.specs.Checks.{plan_answer}
use Rattle.plan.specs.Fields.{SideFailsFirst, RadiusFailsFirst, EditRadiusFailsFirst}
use Rattle.plan.specs.Table.{answer_number}
use Rattle.regions.specs.Run.{slices_after, answers_written}
use Rattle.regions.specs.Slices.{PlanSlices, afresh_slices, edit_slices}
use Rattle.regions.specs.Table.{Method}
use Rattle.gradients.specs.Step.{GradientSlices, clipped_step, open_step}

-- Each call answers k exactly if OfPlan holds of its plan or, where it edits, OfEdit holds of plan and edit: whatever
-- the tables lent, and over any list of sets.
pub record CallsGiveExactly (k : ℕ) (OfPlan : Plan → Type 0) (OfEdit : Plan → Edit → Type 0) : Type 0 where
  -- afresh, in the box and without it,
  pub afresh : (m : Method) (d : PlanSlices) → length d.plan.heads ≡ 10
      → (answer_number (afresh_slices m d).answer ≡ k) ↔ OfPlan d.plan
  -- one edit,
  pub edit : (m : Method) (d : PlanSlices) (e : Edit) → length d.plan.heads ≡ 10
      → (answer_number (edit_slices m d e).answer ≡ k) ↔ (OfPlan d.plan ⊎ OfEdit d.plan e)
  -- each edit of a list, of the plan that those before it leave,
  pub run : (m : Method) (d : PlanSlices) (before : List Edit) (e : Edit) (later : List Edit) (out : List ℕ)
      → length d.plan.heads ≡ 10
      → (get_or (answers_written m d (before ++ (e ∷ later)) out) (length before) 0 ≡ k)
      ↔ (OfPlan (slices_after m d before).plan ⊎ OfEdit (slices_after m d before).plan e)
  -- the gradients, in the box and without it,
  pub gradients : (sets : Plan → ℕ → Bool) (p : Plan) (t : GradientSlices) → length p.heads ≡ 10
      → (answer_number (clipped_step sets p t).answer ≡ k) ↔ OfPlan p
  pub open_gradients : (sets : Plan → ℕ → Bool) (p : Plan) (t : GradientSlices) → length p.heads ≡ 10
      → (answer_number (open_step sets p t).answer ≡ k) ↔ OfPlan p
  -- and the overlap, whose answer is the plan's.
  pub overlap : (p : Plan) → length p.heads ≡ 10 → (answer_number (plan_answer p) ≡ k) ↔ OfPlan p

-- 5: the box's place is within the limits, and a side of it is not; an edit's own values never give 5
abbrev pub FiveOfCalls : Type 0
FiveOfCalls = CallsGiveExactly 5 SideFailsFirst (λ p e. ⊥)

-- 11: the radius of the first head that is not within the limits, or the edit's
abbrev pub ElevenOfCalls : Type 0
ElevenOfCalls = CallsGiveExactly 11 RadiusFailsFirst EditRadiusFailsFirst
