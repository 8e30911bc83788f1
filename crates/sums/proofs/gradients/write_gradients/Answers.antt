-- `gradients::write_gradients`: both ways write the rows that are counted.
use mathlib.Core.Path.{sym, ◌∙◌}
use native.Mathlib.Omega.{arith}
use Rattle.sums.specs.Gradients.{row_with}
use Rattle.sums.proofs.Collected.{few_means}
use Rattle.sums.proofs.Laid.{both_read}
use Rattle.sums.proofs.gradients.write_gradients.Goals as goal

pub write_fast-requires-clause-few : goal.write_fast-requires-clause-few
write_fast-requires-clause-few c = few_means _ _ (sym c.few.ensures ∙ c.if-few.true)

pub returns-then-few : goal.returns-then-few
returns-then-few c =
    let a = c.args in
    let both = both_read a.wanted.now c.rows_in.result (λ cs. row_with a.bounds cs a.points.now a.width) a.width
    a.areas.now a.gradients.now (omega (arith, c.rows_in.ensures.most)) c.rows_in.ensures.value
    c.first_ten-circles.ensures.value c.write_fast.ensures.areas_after c.write_fast.ensures.gradients_after in
    record { areas_after = both.0; gradients_after = both.1 }

pub returns-else-few : goal.returns-else-few
returns-else-few c =
    let a = c.args in
    let both = both_read a.wanted.now c.rows_in.result (λ cs. row_with a.bounds cs a.points.now a.width) a.width
    a.areas.now a.gradients.now (omega (arith, c.rows_in.ensures.most)) c.rows_in.ensures.value
    c.first_ten-circles.ensures.value c.write_rows.ensures.areas_after c.write_rows.ensures.gradients_after in
    record { areas_after = both.0; gradients_after = both.1 }
