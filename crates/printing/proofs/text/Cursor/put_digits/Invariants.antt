-- `text::Cursor::put_digits` meets its contract. The invariant: what is put and the digits that are left make the
-- whole.
use mathlib.Core.Path.{◌≡◌}
use Prim.Native.Nat.{◌+◌}
use Rattle.printing.specs.Text.{digits, put}
use Rattle.printing.proofs.text.Cursor.put_digits.Given as goal

abbrev pub invariant-loop-i : goal.invariant-loop-i
invariant-loop-i l =
    record {
      bytes : put l.self.out.now l.self.at (digits l.base l.i l.n) ≡ put l.initial.self.out.now l.initial.self.at (digits l.base l.k l.n);
      place : l.self.at + l.i ≡ l.initial.self.at + l.k;
      same_slice : l.self.out.ghost_name ≡ l.initial.self.out.ghost_name;
    }
