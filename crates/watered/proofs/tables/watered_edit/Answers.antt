-- `watered::tables::watered_edit` meets its contract: crate `table` answers so of the plan handed over.
use mathlib.Core.Path.{ap, ◌∙◌}
use Rattle.std.proofs.Common.{rules}
use Rattle.lists.specs.Run.{Step}
use Rattle.plan.specs.declared.Edit.{Edit}
use Rattle.plan.specs.declared.Plan.{Plan}
use Rattle.plan.specs.Table.{Answered}
use Rattle.regions.specs.Slices.{PlanSlices, plan_slices, edit_slices}
use Rattle.table.specs.Method.{clipped_table}
use Rattle.table.proofs.Calls.{edit_kept}
use Rattle.watered.specs.Handed.{numbers_of}
use Rattle.watered.proofs.Told.{edit_told, slices_told}
use Rattle.watered.proofs.tables.watered_edit.Goals as goal

pub returns : goal.returns
returns c =
    let a = c.args in
    let f : Plan → Edit → Step PlanSlices Answered =
    λ p. edit_slices clipped_table
    (plan_slices p a.presence.now a.rows.now a.exclusive_presence.now a.exclusives.now) in
    let kept = edit_kept a.head a.x a.y a.radius c.ranges.x c.ranges.y c.ranges.radius in
    let t = edit_told f _ _ _ _ _ _ c.plan_of-plan.ensures kept c.edit-booked.ensures.step in record {
      value = c.number_of.ensures ∙ t.0;
      heads_after = c.numbers_of.ensures ∙ ap (λ z. numbers_of z.plan.heads) t.1;
      exclusives_after = slices_told c.edit-booked.new.tables (search rules) (search rules) (search rules)
          (search rules) (ap (λ z. z.tables) t.1);
    }
