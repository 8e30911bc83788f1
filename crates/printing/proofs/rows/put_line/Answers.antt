-- `rows::put_line` meets its contract.
use Rattle.printing.proofs.Lines.{line_put}
use Rattle.printing.proofs.rows.put_line.Goals as goal

pub returns : goal.returns
returns c = line_put _ _ c.put_digits.ensures c.put_byte.ensures c.put_digits-2.ensures c.put_byte-2.ensures
