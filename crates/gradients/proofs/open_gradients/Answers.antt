-- `open_gradients` meets its contract.
use mathlib.Core.Path.{◌≡◌, ap, ◌∙◌}
use native.Mathlib.Omega.{arith}
use lib.ListN.{length}
use Rattle.lists.proofs.Arrays.{length_of_values}
use Rattle.plan.specs.declared.Gradients.TheVariants.{Open}
use Rattle.plan.specs.Checks.{call_answer}
use Rattle.areas.specs.Sets.{plan_sets}
use Rattle.gradients.specs.Step.{gradient_slices, open_plan, open_step}
use Rattle.gradients.proofs.Given.{open_agree, step_left}
use Rattle.gradients.proofs.open_gradients.Goals as goal

pub returns : goal.returns
unfolding open_step
returns c =
    let a = c.args in let p = a.plan in let t = gradient_slices a.presence.now a.exclusives.now a.gradients.now in
    let ten : length p.heads ≡ 10 = (let h = c.well_formed in search length_of_values) in
    let answered = c.in_ok-check_call.ensures ∙ ap (call_answer p Open) c.lent_by-lent.ensures in
    let cs = c.deref.ensures.0 ∙ c.plan_circles-circles.ensures in
    let e = c.compute_exclusive_regions_with_gradient_circles.ensures in
    rw (rw cs at e.presence_after, rw cs at e.exclusives_after, rw cs at e.gradients_after)
    (step_left Open (open_plan plan_sets) p t _ ten (open_agree p ten) (omega arith) answered)
