-- `feeding::Reading::finish` meets its contract.
use mathlib.Core.Path.{◌≡◌, ◌∙◌}
use Rattle.std.proofs.Common.{rules}
use Rattle.regions.specs.Slices.{tables_of}
use Rattle.table.specs.Method.{clipped_table}
use Rattle.reading.specs.Reading.{state_in, answer_at}
use Rattle.reading.proofs.Bytes.{answers_file}
use Rattle.reading.proofs.feeding.Reading.finish.Goals as goal

pub returns-clause-value_2 : goal.returns-clause-value_2
returns-clause-value_2 c =
    let a = c.args in
    let now = tables_of a.presence.now a.rows.now a.exclusive_presence.now a.exclusives.now in
    let answer : c.check_call.result ≡ answer_at (state_in a.self now) = search rules in
    λ t s after. answer ∙ answers_file clipped_table t s _ after

pub returns-in_err-finish-clause-value_2 : goal.returns-in_err-finish-clause-value_2
returns-in_err-finish-clause-value_2 c =
    let a = c.args in
    let now = tables_of a.presence.now a.rows.now a.exclusive_presence.now a.exclusives.now in
    let answer : c.from_residual.result ≡ answer_at (state_in a.self now) = search rules in
    λ t s after. answer ∙ answers_file clipped_table t s _ after
