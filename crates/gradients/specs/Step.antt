-- The calls that give a plan's exclusives with their gradients, as a step over three lent slices, for any list of sets:
-- in the box, and without it. Refused, every slice is as it was. Taken, rows 0 to 2^n - 1 are written and everything
-- beyond stays.
use Rattle.std.specs.Prelude.{ℕ, ◌+◌, ◌*◌, Bool, true, false, List, [], ◌∷◌, Float, length}
use Rattle.lists.specs.Run.{Step}
use Rattle.binary64.specs.Constants.{zero64}
use Rattle.plan.specs.declared.Gradients.{Gradients}
use Rattle.plan.specs.declared.Gradients.TheVariants.{Clipped, Open}
use Rattle.plan.specs.declared.Lent.{Lent}
use Rattle.plan.specs.declared.Plan.{Plan}
use Rattle.plan.specs.Book.{leaves}
use Rattle.plan.specs.Checks.{call_answer}
use Rattle.plan.specs.Table.{Answered, lent_by}
use Rattle.geometry.specs.Rectangle.{area}
use Rattle.drawn.specs.Drawn.{box_of}
use Rattle.outline.specs.Area.{open_area}
use Rattle.diagram.specs.Rows.{Slopes, presence_written, areas_written, slopes_written}
use Rattle.intersections.specs.Points.{Rule, rule}
use Rattle.regions.specs.Table.{members_by}
use Rattle.areas.specs.Clipped.{clipped_gradient_row_by}
use Rattle.areas.specs.Gradients.{clipped_gradients_by, open_gradients_by}

-- ---- the rows of a plan with their gradients by head, for any list of sets

-- By any rule of who meets and adopts.
module _ (r : Rule) where
  -- In the box: row 0 has the box's area and its gradient; a set has the area that comes with its gradient.
  abbrev pub clipped_plan_by : (Plan → ℕ → Bool) → Plan → Slopes
  clipped_plan_by sets p = record {
    rows = record {
      has_box = true;
      box_area = area (box_of p.ground);
      sets = sets p;
      area = λ S. (clipped_gradient_row_by r p S).sum;
    };
    width = p.n * 3 + 4;
    box_row = clipped_gradients_by r sets p 0;
    row = clipped_gradients_by r sets p;
  }

  -- Without the box: there is no row 0.
  abbrev pub open_plan_by : (Plan → ℕ → Bool) → Plan → Slopes
  open_plan_by sets p = record {
    rows =
        record { has_box = false; box_area = zero64; sets = sets p; area = λ S. open_area (members_by r p S) };
    width = 3 * p.n;
    box_row = open_gradients_by r sets p 0;
    row = open_gradients_by r sets p;
  }

abbrev pub clipped_plan : (Plan → ℕ → Bool) → Plan → Slopes
clipped_plan = clipped_plan_by rule

abbrev pub open_plan : (Plan → ℕ → Bool) → Plan → Slopes
open_plan = open_plan_by rule

-- ---- the call

-- presence bytes, exclusives and their gradients
pub record GradientSlices : Type 0 where
  pub presence : List ℕ
  pub exclusives : List Float
  pub gradients : List Float

abbrev pub gradient_slices : List ℕ → List Float → List Float → GradientSlices
gradient_slices presence exclusives gradients =
    record { presence = presence; exclusives = exclusives; gradients = gradients }

-- what a call over them lends
abbrev pub lent_gradients : GradientSlices → Lent
lent_gradients t = lent_by (length t.presence ∷ length t.exclusives ∷ []) (length t.gradients)

-- the slices with the rows of n heads written
abbrev pub gradients_written : ℕ → Slopes → GradientSlices → GradientSlices
gradients_written n g t =
    gradient_slices (presence_written n g.rows t.presence) (areas_written n g t.exclusives)
    (slopes_written n g t.gradients)

abbrev pub step_to : GradientSlices → Answered → Step GradientSlices Answered
step_to left answer = record { left = left; answer = answer }

abbrev pub gradients_step : Gradients → (Plan → Slopes) → Plan → GradientSlices → Step GradientSlices Answered
gradients_step which slopes p t =
    let answer = call_answer p which (lent_gradients t) in
    step_to (leaves answer t (gradients_written p.n (slopes p) t)) answer

-- in the box, and without it; the box's fields are checked in both
unfoldable pub clipped_step : (Plan → ℕ → Bool) → Plan → GradientSlices → Step GradientSlices Answered
clipped_step sets = gradients_step Clipped (clipped_plan sets)

unfoldable pub open_step : (Plan → ℕ → Bool) → Plan → GradientSlices → Step GradientSlices Answered
open_step sets = gradients_step Open (open_plan sets)
