-- `rows::put_level` meets its contract. The invariant: the lines of the rows below s are put.
use Rattle.printing.specs.Text.{Advances}
use Rattle.printing.specs.Rows.{level_lines}
use Rattle.printing.proofs.rows.put_level.Given as goal

abbrev pub invariant-loop-s : goal.invariant-loop-s
invariant-loop-s l = Advances (level_lines l.presence l.numbers l.c l.s) l.initial.text l.text
