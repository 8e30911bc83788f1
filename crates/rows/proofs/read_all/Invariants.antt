use Rattle.table.specs.Tables.{tables_in}
use Rattle.reading.specs.Reading.{state_in}
use Rattle.rows.proofs.Parts.{SoFar}
use Rattle.rows.proofs.read_all.Given as goal

abbrev pub invariant-loop : goal.invariant-loop
invariant-loop g l =
    SoFar (g.I.Read.remaining l.fn.from) (g.I.Read.remaining l.from) (tables_in l.fn.tables)
    (state_in l.reading (tables_in l.tables))
