-- `exclusives::exclusive_areas_of` meets its contract: the rows, and their exclusives in place.
use mathlib.Core.Path.{sym, ap, ◌∙◌}
use Rattle.masks.specs.Presence.{stands}
use Rattle.exclusive.specs.Exclusive.{rows_number}
use Rattle.exclusive.proofs.Answers.{taken}
use Rattle.diagram.specs.Drawing.{count_of, rows_of}
use Rattle.diagram.proofs.Laying.{all_read}
use Rattle.diagram.proofs.Leaving.{left}
use Rattle.diagram.proofs.exclusives.exclusive_areas_of.Goals as goal

pub returns-clause-exclusives_after : goal.returns-clause-exclusives_after
returns-clause-exclusives_after c =
    let a = c.args in let d = a.drawing.now in let n = count_of d in
    let ok = rw c.min.ensures at c.in_ok-rows_answer.ensures in
    let read = all_read d.circles.now (taken n _ (sym (ap rows_number ok))).0 in
    c.to_exclusive_areas_in_place.ensures.areas_after
    ∙ left n (rows_of d (stands a.sets.now)) a.presence.now a.exclusives.now ok _ _ _
    (rw (c.bounds.ensures, read) at c.write_areas.ensures) c.finish_rows.ensures.presence_after
    c.finish_rows.ensures.areas_after
