-- `text::Cursor::put_word` meets its contract. The invariant: the bytes of the word so far are put.
use Rattle.std.proofs.lemmas.List.{take_more}
use Rattle.printing.proofs.Putting.{advance_none, advance_then}
use Rattle.printing.proofs.text.Cursor.put_word.Goals as goal

pub loop-b-init : goal.loop-b-init
loop-b-init c = advance_none _

pub loop-b-preserved : goal.loop-b-preserved
loop-b-preserved c =
    let more = take_more c.args.word.now c.loop-b.b-index 0 c.loop-b-test.true in
    rw more (advance_then _ _ c.loop-b.invariant c.put_byte.ensures)
