-- What is written is what the whole file prints, over tables of zeros.
use Rattle.table.specs.Tables.{tables_in}
use Rattle.reading.specs.Reading.{state_in}
use Rattle.rows.proofs.Parts.{all_printed}
use Rattle.rows.proofs.run.Goals as goal

pub returns-clause-ok : goal.returns-clause-ok
returns-clause-ok g c =
    all_printed c.print.result (g.I.Read.remaining c.args.from.now) (g.O.Write.contents c.args.out.now)
    (g.O.Write.contents c.print.new.out)
    (state_in c.in_ok-reading.reading (tables_in c.read_all.new.tables))
    c.in_ok-reading.ensures c.print.ensures.ok
