-- `gradients::compute_exclusive_regions_clipped_with_gradient` meets its contract.
use Rattle.diagram.proofs.gradients.compute_exclusive_regions_clipped_with_gradient.Goals as goal

pub returns-clause-gradients_after : goal.returns-clause-gradients_after
returns-clause-gradients_after c =
    let o = c.of-drawing.ensures in let e = c.exclusive_areas_and_gradients_of.ensures in
    rw (c.sets.ensures, o.circles, o.points, o.container) at e.gradients_after

pub returns-clause-exclusives_after : goal.returns-clause-exclusives_after
returns-clause-exclusives_after c =
    let o = c.of-drawing.ensures in let e = c.exclusive_areas_and_gradients_of.ensures in
    rw (c.sets.ensures, o.circles, o.points, o.container) at e.exclusives_after
