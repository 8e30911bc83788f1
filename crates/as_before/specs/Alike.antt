-- What is worked out from a plan's meeting points and its list of sets: two rules of who meets and adopts that give the
-- same points, and two lists of the same sets, give the same members, rows, exclusives and gradients, in the box and
-- without it.
use Rattle.std.specs.Prelude.{ℕ, Bool, ◌≡◌}
use Rattle.plan.specs.declared.Plan.{Plan}
use Rattle.drawn.specs.Drawn.{plan_circles}
use Rattle.intersections.specs.Points.{Rule, collected_by}
use Rattle.regions.specs.Table.{members_by, afresh_by}
use Rattle.areas.specs.Exclusives.{exclusive_rows}
use Rattle.areas.specs.Gradients.{clipped_gradients_by, open_gradients_by}
use Rattle.table.specs.Method.{method_over}
use Rattle.gradients.specs.Step.{clipped_plan_by, open_plan_by}

module _ (r s : Rule) (sets sets' : Plan → ℕ → Bool) (p : Plan) where
  pub record PlanAlike : Type 0 where
    pub members : (S : ℕ) → members_by r p S ≡ members_by s p S
    -- each row, its byte and its number; and its exclusive
    pub rows : (has_box : Bool) (S : ℕ)
        → afresh_by r (method_over has_box sets) p S ≡ afresh_by s (method_over has_box sets') p S
    pub exclusives : (has_box : Bool) (S : ℕ)
        → exclusive_rows p.n (afresh_by r (method_over has_box sets) p) S
        ≡ exclusive_rows p.n (afresh_by s (method_over has_box sets') p) S
    -- the gradient of each row
    pub clipped_gradients : (S : ℕ) → clipped_gradients_by r sets p S ≡ clipped_gradients_by s sets' p S
    pub open_gradients : (S : ℕ) → open_gradients_by r sets p S ≡ open_gradients_by s sets' p S
    -- all that the gradient calls work from: bytes, areas and gradients
    pub clipped_slopes : clipped_plan_by r sets p ≡ clipped_plan_by s sets' p
    pub open_slopes : open_plan_by r sets p ≡ open_plan_by s sets' p

-- Proved as `plan_alike`, proofs/Alike.antt. That two rules give the same points is a matter of each pair and point:
-- `CollectedAlike` of intersections/specs/Alike.antt.
abbrev pub PlansAlike : Type 0
PlansAlike =
    (r s : Rule) (sets sets' : Plan → ℕ → Bool) (p : Plan)
    → collected_by r (plan_circles p) ≡ collected_by s (plan_circles p) → ((S : ℕ) → sets p S ≡ sets' p S)
    → PlanAlike r s sets sets' p
