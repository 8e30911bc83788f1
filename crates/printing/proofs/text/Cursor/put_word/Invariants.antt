-- `text::Cursor::put_word` meets its contract. The invariant: the bytes of the word so far are put.
use lib.ListN.{take}
use Rattle.printing.specs.Text.{Advances}
use Rattle.printing.proofs.text.Cursor.put_word.Given as goal

abbrev pub invariant-loop-b : goal.invariant-loop-b
invariant-loop-b l = Advances (take l.b-index l.word) l.initial.self l.self
