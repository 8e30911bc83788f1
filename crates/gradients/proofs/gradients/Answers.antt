-- `gradients` meets its contract.
use mathlib.Core.Path.{◌≡◌, ap, ◌∙◌}
use native.Mathlib.Omega.{arith}
use Prim.Native.Nat.{◌≤◌}
use lib.ListN.{length}
use Rattle.lists.proofs.Arrays.{length_of_values}
use Rattle.plan.specs.declared.Gradients.TheVariants.{Clipped}
use Rattle.plan.specs.Checks.{call_answer}
use Rattle.drawn.specs.Drawn.{plan_circles}
use Rattle.diagram.specs.Diagram.{clipped_with_gradients}
use Rattle.diagram.proofs.Alike.{Agree}
use Rattle.areas.specs.Sets.{plan_sets}
use Rattle.gradients.specs.Step.{gradient_slices, clipped_plan, clipped_step}
use Rattle.gradients.proofs.Given.{clipped_agree, step_left}
use Rattle.gradients.proofs.gradients.Goals as goal

pub returns : goal.returns
unfolding clipped_step
returns c =
    let a = c.args in let p = a.plan in let t = gradient_slices a.presence.now a.exclusives.now a.gradients.now in
    let ten : length p.heads ≡ 10 = (let h = c.well_formed in search length_of_values) in
    let answered = c.in_ok-check_call.ensures ∙ ap (call_answer p Clipped) c.lent_by-lent.ensures in
    let cs = c.deref.ensures.0 ∙ c.plan_circles-circles.ensures in
    let e = c.compute_exclusive_regions_clipped_with_gradient.ensures in
    let box = c.box_of-container in
    let drawn : p.n ≤ 10
    → Agree p.n (clipped_with_gradients box.result (plan_circles p)) (clipped_plan plan_sets p)
    = rw box.ensures (clipped_agree p ten) in
    rw (rw cs at e.presence_after, rw cs at e.exclusives_after, rw cs at e.gradients_after)
    (step_left Clipped (clipped_plan plan_sets) p t _ ten drawn (omega arith) answered)
