-- `listing::print_file` meets its contract.
use Rattle.std.proofs.Common.{rules}
use Rattle.printing.specs.Text.{Printed}
use Rattle.regions.specs.Slices.{tables_of}
use Rattle.table.specs.Method.{clipped_table}
use Rattle.reading.specs.Reading.{state_in, answer_at, printed_at}
use Rattle.reading.proofs.Bytes.{prints_file, printed_as, printed_few, printed_fits}
use Rattle.reading.proofs.listing.print_file.Goals as goal

pub returns-in-Ok : goal.returns-in-Ok
returns-in-Ok c =
    let a = c.args in
    let now = tables_of a.presence.now a.rows.now a.exclusive_presence.now a.exclusives.now in
    let state = state_in a.reading now in
    let printed : Printed (printed_at state) a.out.now c.print_rows.new.out c.print_rows.result =
    search rules in record {
      printed = printed;
      printed_2 = λ t s after. printed_as (prints_file clipped_table t s state after) printed;
      upper_bound = printed_fits (printed_few (answer_at state) a.reading.plan.n a.exclusive_presence.now
          a.exclusives.now) printed;
    }

pub returns-in-Err : goal.returns-in-Err
returns-in-Err c =
    let a = c.args in
    let now = tables_of a.presence.now a.rows.now a.exclusive_presence.now a.exclusives.now in
    let state = state_in a.reading now in
    let printed : Printed (printed_at state) a.out.now c.print_refusal.new.out c.print_refusal.result =
    search rules in record {
      printed = printed;
      printed_2 = λ t s after. printed_as (prints_file clipped_table t s state after) printed;
      upper_bound = printed_fits (printed_few (answer_at state) a.reading.plan.n a.exclusive_presence.now
          a.exclusives.now) printed;
    }
