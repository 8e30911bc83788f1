-- `watered::slopes::watered_gradients` meets its contract: crate `gradients` answers so of the plan handed over.
use mathlib.Core.Path.{◌∙◌}
use Rattle.lists.specs.Run.{Step}
use Rattle.plan.specs.declared.Plan.{Plan}
use Rattle.plan.specs.Table.{Answered}
use Rattle.areas.specs.Sets.{plan_sets}
use Rattle.gradients.specs.Step.{GradientSlices, gradient_slices, clipped_step}
use Rattle.watered.proofs.Told.{told}
use Rattle.watered.proofs.slopes.watered_gradients.Goals as goal

pub returns : goal.returns
returns c =
    let a = c.args in
    let f : Plan → Step GradientSlices Answered =
    λ p. clipped_step plan_sets p (gradient_slices a.presence.now a.exclusives.now a.gradients.now) in
    let t = told f _ _ _ _ c.plan_of-plan.ensures c.gradients.ensures in
    record { value = c.number_of.ensures ∙ t.0; gradients_after = t.1 }
