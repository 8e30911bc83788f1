-- `rows::write_areas`: both ways write the rows that are counted.
use mathlib.Core.Path.{sym, ◌∙◌}
use native.Mathlib.Omega.{arith}
use Rattle.intersections.specs.Members.{members_of}
use Rattle.sums.specs.Rows.{area_of}
use Rattle.sums.proofs.Collected.{few_means}
use Rattle.sums.proofs.Counts.{areas_read}
use Rattle.sums.proofs.rows.write_areas.Goals as goal

pub write_fast-requires-clause-few : goal.write_fast-requires-clause-few
write_fast-requires-clause-few c = few_means _ _ (sym c.few.ensures ∙ c.if-few.true)

pub returns-then-few : goal.returns-then-few
returns-then-few c =
    let a = c.args in
    c.write_fast.ensures
    ∙ areas_read a.wanted.now c.row_count.result (λ cs S. area_of a.bounds (members_of cs a.points.now S)) a.areas.now
    (omega (arith, c.row_count.ensures.most)) c.row_count.ensures.value c.first_ten-circles.ensures.value

pub returns-else-few : goal.returns-else-few
returns-else-few c =
    let a = c.args in
    c.write_rows.ensures
    ∙ areas_read a.wanted.now c.row_count.result (λ cs S. area_of a.bounds (members_of cs a.points.now S)) a.areas.now
    (omega (arith, c.row_count.ensures.most)) c.row_count.ensures.value c.first_ten-circles.ensures.value
