-- `refusal::print_refusal` meets its contract.
use mathlib.Core.Path.{refl}
use Rattle.std.proofs.Common.{rules}
use Rattle.printing.proofs.Lines.{refusal_put}
use Rattle.printing.proofs.Putting.{printed_by}
use Rattle.printing.proofs.refusal.print_refusal.Goals as goal

pub returns : goal.returns
returns c =
    printed_by _ refl (search rules)
    (refusal_put _ _ c.put_word.ensures c.put_decimal.ensures c.put_word-2.ensures c.put_decimal-2.ensures c.put_byte.ensures)
