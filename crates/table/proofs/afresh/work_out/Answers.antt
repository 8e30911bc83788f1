use mathlib.Core.Path.{◌≡◌, sym, subst}
use lib.ListN.{length}
use Rattle.std.specs.Option.{is_some}
use Rattle.std.proofs.Common.{rules, Err}
use Rattle.lists.proofs.Arrays.{length_of_values}
use Rattle.areas.specs.Sets.{plan_sets}
use Rattle.regions.proofs.Slices.{afresh_room, afresh_refused}
use Rattle.table.specs.Method.{method_over}
use Rattle.table.specs.Ready.{BoxOf}
use Rattle.table.specs.Tables.{plan_tables}
use Rattle.table.proofs.Calls.{in_own, call_says, sets_say, afresh-step}
use Rattle.table.proofs.afresh.work_out.Goals as goal

pub write_afresh-requires : goal.write_afresh-requires
write_afresh-requires c =
    let p = c.args.plan in
    let d = plan_tables p c.args.tables.now in
    let ten : length p.heads ≡ 10 = (let h = c.well_formed in search length_of_values) in
    let taken = call_says d c.check_call.ensures c.lent.ensures c.in_ok-check_call.was in
    let of = c.of-ready.ensures in
    (afresh_room d ten taken, in_own of, subst (BoxOf p) (sym of.bounds) c.requires)

pub returns-clause-step : goal.returns-clause-step
returns-clause-step c =
    let a = c.args in
    let d = plan_tables a.plan a.tables.now in
    let ten : length a.plan.heads ≡ 10 = (let h = c.well_formed in search length_of_values) in
    let taken = call_says d c.check_call.ensures c.lent.ensures c.in_ok-check_call.was in
    let sets = c.sets-sets in
    let of = c.of-ready.ensures in
    afresh-step (is_some a.bounds) plan_sets d sets.result _ taken
    (sets_say of (afresh_room d ten taken).count sets.ensures) (rw of.bounds at c.write_afresh.ensures.written)

pub returns-in_err-check_call-clause-step : goal.returns-in_err-check_call-clause-step
returns-in_err-check_call-clause-step c =
    let a = c.args in
    let d = plan_tables a.plan a.tables.now in
    let refused = afresh_refused (method_over (is_some a.bounds) plan_sets) d _
    (call_says d c.check_call.ensures c.lent.ensures c.in_err-check_call.was) in
    let e : c.from_residual.result ≡ Err c.in_err-check_call.field-0.0 = search rules in
    rw e refused
