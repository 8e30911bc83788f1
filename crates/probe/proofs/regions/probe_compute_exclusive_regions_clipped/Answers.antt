-- `regions::probe_compute_exclusive_regions_clipped` meets its contract:
-- what the call leaves, told of the circles handed over.
use Rattle.probe.proofs.regions.probe_compute_exclusive_regions_clipped.Goals as goal

pub returns-clause-exclusives_after : goal.returns-clause-exclusives_after
returns-clause-exclusives_after c =
    let given = c.in-Some.ensures in
    let e = c.compute_exclusive_regions_clipped.ensures in
    cc (e.exclusives_after, c.deref.ensures.0, c.container.ensures, given.0, given.1)
