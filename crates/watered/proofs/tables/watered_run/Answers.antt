-- `watered::tables::watered_run` meets its contract: crate `table` runs the list so on the plan handed over.
use mathlib.Core.Path.{refl}
use Rattle.std.proofs.Common.{rules}
use Rattle.plan.specs.declared.Plan.{Plan}
use Rattle.regions.specs.Slices.{PlanSlices, plan_slices}
use Rattle.table.specs.Method.{clipped_table}
use Rattle.watered.proofs.Told.{run_told, slices_told}
use Rattle.watered.proofs.tables.watered_run.Goals as goal

pub returns : goal.returns
returns c =
    let a = c.args in
    let given : Plan → PlanSlices =
    λ p. plan_slices p a.presence.now a.rows.now a.exclusive_presence.now a.exclusives.now in
    run_told clipped_table given a.edit_heads.now a.x.now a.y.now a.radius.now a.answers.now
    _ _ _ _ _ _ _ c.plan_of-plan.ensures c.run-ran.ensures.ran c.numbers_of.ensures
    (slices_told c.run-ran.new.tables (search rules) (search rules) (search rules) (search rules) refl)
