-- `gradients::PlainRowsGradients::add`: ten circles at most are read whole, and the arcs are those of the outline.
use mathlib.Core.Path.{ap₂, ◌∙◌}
use Rattle.intersections.proofs.Few.{few_read}
use Rattle.clip.specs.Gradient.{with_gradient}
use Rattle.sums.proofs.gradients.PlainRowsGradients.add.Goals as goal

pub returns-in-Some : goal.returns-in-Some
returns-in-Some c =
    let r = c.args.self.now in
    let read = few_read r.circles.now r.ten in
    let arcs = c.deref.ensures.0 ∙ rw read at c.region_boundary_arcs-arcs.ensures in
    rw c.in-Some.is (rw (read, arcs) at c.area_and_gradient_from_clipped_arcs.ensures)

pub returns : goal.returns
returns c =
    let r = c.args.self.now in
    let read = few_read r.circles.now r.ten in
    let arcs = rw read at c.region_boundary_arcs-arcs.ensures in
    rw c.in_default.is
    (ap₂ with_gradient (rw (c.deref-3.ensures.0 ∙ arcs) at c.area_from_boundary_arcs.ensures)
    (rw (read, c.deref-2.ensures.0 ∙ arcs) at c.accumulate_region_overlap_gradient.ensures))
