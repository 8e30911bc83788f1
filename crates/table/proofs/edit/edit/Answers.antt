use mathlib.Core.Path.{◌≡◌, sym, ◌∙◌}
use lib.ListN.{length}
use Rattle.std.specs.Prelude.{Some}
use Rattle.lists.proofs.Arrays.{length_of_values}
use Rattle.plan.specs.Book.{applied}
use Rattle.areas.specs.Sets.{plan_sets}
use Rattle.regions.proofs.Slices.{edit_room}
use Rattle.table.specs.Method.{clipped_table}
use Rattle.table.specs.Ready.{Of, plan_bounds}
use Rattle.table.specs.Tables.{plan_tables}
use Rattle.table.proofs.Calls.{edit_says, entered_taken, answered, edit_refused, sets_say}
use Rattle.table.proofs.Calls.{edited_pass, edit_step, edit_reworks}
use Rattle.table.proofs.edit.edit.Goals as goal

pub change_of-requires : goal.change_of-requires
change_of-requires c =
    let p = c.args.plan in
    let e = c.args.edit in
    let d = plan_tables p c.args.tables.now in
    let ten : length p.heads ≡ 10 = (let h = c.well_formed in search length_of_values) in
    let ok = entered_taken p e _ c.enter-booked.ensures.0 c.enter-booked.ensures.1
    (sym c.is_ok.ensures.value ∙ c.if-is_ok.true) in
    let room = edit_room d e ten (edit_says d e c.enter-booked.ensures.1 c.lent.ensures ok.0) in
    (room.0.count, room.1)

pub write_tables-requires : goal.write_tables-requires
write_tables-requires c =
    let p = c.args.plan in
    let e = c.args.edit in
    let d = plan_tables p c.args.tables.now in
    let ten : length p.heads ≡ 10 = (let h = c.well_formed in search length_of_values) in
    let ok = entered_taken p e _ c.enter-booked.ensures.0 c.enter-booked.ensures.1
    (sym c.is_ok.ensures.value ∙ c.if-is_ok.true) in
    let room = edit_room d e ten (edit_says d e c.enter-booked.ensures.1 c.lent.ensures ok.0) in
    let made : Of (applied p e) (Some (plan_bounds p)) c.of-ready.result =
    rw (ok.1, c.bounds.ensures, c.box_of.ensures) at c.of-ready.ensures in
    rw (made.n room.0.count) room.0

pub returns-then-is_ok : goal.returns-then-is_ok
returns-then-is_ok c =
    let p = c.args.plan in
    let e = c.args.edit in
    let d = plan_tables p c.args.tables.now in
    let ten : length p.heads ≡ 10 = (let h = c.well_formed in search length_of_values) in
    let booked = c.enter-booked in
    let ok = entered_taken p e _ booked.ensures.0 booked.ensures.1 (sym c.is_ok.ensures.value ∙ c.if-is_ok.true) in
    let taken = edit_says d e booked.ensures.1 c.lent.ensures ok.0 in
    let few = (edit_room d e ten taken).0.count in
    let made : Of (applied p e) (Some (plan_bounds p)) c.of-ready.result =
    rw (ok.1, c.bounds.ensures, c.box_of.ensures) at c.of-ready.ensures in
    let earlier = c.sets-earlier in
    let later = c.sets-later in
    let step = answered ok.0
    (edit_step plan_sets d e earlier.result later.result booked.result.plan _ taken
    (sets_say c.of-ready_before.ensures few earlier.ensures)
    (sets_say made few later.ensures)
    ok.1
    (edited_pass p e c.of-ready.result made few _ c.change_of.ensures earlier.result later.result d.tables
    c.write_tables.ensures.written)) in
    record {
      step = step;
      reworks = edit_reworks clipped_table d _ e _ step;
      same_slices = c.write_tables.ensures.same_slices;
    }

pub returns-else-is_ok-clause-step : goal.returns-else-is_ok-clause-step
returns-else-is_ok-clause-step c =
    let booked = c.enter-booked in
    edit_refused clipped_table (plan_tables c.args.plan c.args.tables.now) c.args.edit _ _ _ booked.ensures.0
    booked.ensures.1 c.lent.ensures (sym c.is_ok.ensures.value ∙ c.if-is_ok.false)
