-- `exclusives::compute_exclusive_regions` meets its contract.
use Rattle.diagram.proofs.exclusives.compute_exclusive_regions.Goals as goal

pub returns-clause-exclusives_after : goal.returns-clause-exclusives_after
returns-clause-exclusives_after c =
    let o = c.of-drawing.ensures in let e = c.exclusive_areas_of.ensures in
    rw (c.sets.ensures, o.circles, o.points, o.container) at e.exclusives_after
