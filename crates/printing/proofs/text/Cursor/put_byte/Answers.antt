-- `text::Cursor::put_byte` meets its contract.
use mathlib.Core.Path.{refl}
use Rattle.printing.proofs.Putting.{byte_put, set_past}
use Rattle.printing.proofs.text.Cursor.put_byte.Goals as goal
use Rattle.printing.proofs.text.Cursor.put_byte.Goals.{then-self, else-self}

pub returns : goal.returns
returns c =
    elim c.if-self.branch [
      | then-self w ↦ rw w.self-is (byte_put c.args.b refl refl refl)
      | else-self w ↦ rw w.self-is (byte_put c.args.b (set_past _ _ _ w.if-self.false) refl refl)
    ]
