-- `arcs::ArcOf::arc`: each arm by what the number names.
use mathlib.Core.Path.{ap, ◌∙◌}
use Rattle.sums.proofs.Valuing.{ends_near, ends_far, arc_near, arc_whole, arc_far}
use Rattle.sums.proofs.arcs.ArcOf.arc.Goals as goal

pub gap_arc-requires : goal.gap_arc-requires
gap_arc-requires c =
    let arc = c.args.self.now in
    let marks = c.as_slice-marks.ensures.value ∙ ap (λ h. h.marks.items) c.head.ensures in
    let named = c.in-Next.ensures in
    rw (c.next.ensures, named.2) (ends_near arc.pass arc.place arc.placed c.head-j.ensures.value marks named.0)

pub returns-in-Next : goal.returns-in-Next
returns-in-Next c =
    let arc = c.args.self.now in
    let marks = c.as_slice-marks.ensures.value ∙ ap (λ h. h.marks.items) c.head.ensures in
    let named = c.in-Next.ensures in
    arc_near arc.pass arc.place arc.placed c.head-j.ensures.value marks _ named.0
    (rw (c.next.ensures, named.2) at c.gap_arc.ensures)

pub returns-in-Whole : goal.returns-in-Whole
returns-in-Whole c =
    let arc = c.args.self.now in
    let named = c.in-Whole.ensures in
    arc_whole arc.pass arc.place arc.placed c.head-j.ensures.value _ named.0 named.1 c.full_circle.ensures

pub gap_arc-requires-in-Far : goal.gap_arc-requires-in-Far
gap_arc-requires-in-Far c =
    let arc = c.args.self.now in
    let marks = c.as_slice-marks.ensures.value ∙ ap (λ h. h.marks.items) c.head.ensures in
    let named = c.in-Far.ensures in
    rw (named.2, named.3) (ends_far arc.pass arc.place arc.placed c.head-j.ensures.value marks named.0)

pub returns-in-Far : goal.returns-in-Far
returns-in-Far c =
    let arc = c.args.self.now in
    let marks = c.as_slice-marks.ensures.value ∙ ap (λ h. h.marks.items) c.head.ensures in
    let named = c.in-Far.ensures in
    arc_far arc.pass arc.place arc.placed c.head-j.ensures.value marks _ named.0
    (rw (named.2, named.3) at c.gap_arc-in-Far.ensures)
