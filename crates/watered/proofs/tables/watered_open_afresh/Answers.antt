-- `watered::tables::watered_open_afresh` meets its contract: crate `table` answers so of the plan handed over.
use mathlib.Core.Path.{ap, ◌∙◌}
use Rattle.std.proofs.Common.{rules}
use Rattle.lists.specs.Run.{Step}
use Rattle.plan.specs.declared.Plan.{Plan}
use Rattle.plan.specs.Table.{Answered}
use Rattle.regions.specs.Slices.{PlanSlices, plan_slices, afresh_slices}
use Rattle.table.specs.Method.{open_table}
use Rattle.watered.proofs.Told.{told, slices_told}
use Rattle.watered.proofs.tables.watered_open_afresh.Goals as goal

pub returns : goal.returns
returns c =
    let a = c.args in
    let f : Plan → Step PlanSlices Answered =
    λ p. afresh_slices open_table (plan_slices p a.presence.now a.rows.now a.exclusive_presence.now a.exclusives.now) in
    let t = told f _ _ _ _ c.plan_of-plan.ensures c.open_afresh.ensures.step in record {
      value = c.number_of.ensures ∙ t.0;
      exclusives_after = slices_told c.open_afresh.new.tables (search rules) (search rules) (search rules)
          (search rules) (ap (λ z. z.tables) t.1);
    }
