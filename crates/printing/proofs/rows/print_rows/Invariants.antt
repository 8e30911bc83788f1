-- `rows::print_rows` meets its contract. The invariant: the lines of the rows of fewer than c heads are put.
use Rattle.printing.specs.Text.{Advances}
use Rattle.printing.proofs.Lines.{levels_below}
use Rattle.printing.proofs.rows.print_rows.Given as goal

abbrev pub invariant-loop-c : goal.invariant-loop-c
invariant-loop-c l = Advances (levels_below l.n l.presence l.numbers l.c) l.initial.text l.text
