-- `gradients::exclusive_areas_and_gradients_of` meets its contract: the rows with their gradients, and their exclusives
-- in place.
use Rattle.std.proofs.Common.{rules}
use mathlib.Core.Path.{◌∙◌}
use Rattle.masks.specs.Presence.{stands}
use Rattle.diagram.specs.Drawing.{count_of, slopes_of}
use Rattle.diagram.proofs.Leaving.{left_with}
use Rattle.diagram.proofs.gradients.exclusive_areas_and_gradients_of.Goals as goal

pub returns : goal.returns
returns c =
    let a = c.args in let d = a.drawing.now in let wide = c.width-width.ensures in
    let laid = c.write_rows_with_gradients.ensures in let after = c.to_exclusive_areas_and_gradients.ensures in
    let both = left_with (count_of d) (slopes_of d (stands a.sets.now)) a.presence.now a.exclusives.now a.gradients.now
    (rw (wide, c.min-rows.ensures) at c.in_ok-width_answer.ensures) _ _ _ _ (rw wide at laid.areas_after)
    c.finish_rows.ensures.presence_after c.finish_rows.ensures.areas_after (rw wide at laid.gradients_after) in record {
      value = search rules;
      presence_after = search rules;
      exclusives_after = (rw wide at after.areas_after) ∙ both.0;
      gradients_after = (rw wide at after.gradients_after) ∙ both.1;
    }
