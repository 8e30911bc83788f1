-- `text::Cursor::put_digits` meets its contract. The invariant: what is put and the digits that are left make the
-- whole.
use mathlib.Core.Path.{◌≡◌, sym, ap, ap₂, ◌∙◌}
use Prim.Native.Nat.{◌-◌, ◌/◌, ◌%◌}
use native.Mathlib.Nat.{pow-le-pow_right}
use native.Mathlib.Omega.{arith}
use lib.ListN.{set}
use Rattle.printing.specs.Text.{glyph, digits, put}
use Rattle.printing.proofs.Digits.{power_pos, length_digits, put_digit, put_no_digit}
use Rattle.printing.proofs.Putting.{put_one}
use Rattle.printing.proofs.text.Cursor.put_digits.Goals as goal

pub pow-requires : goal.pow-requires
pow-requires c =
    let most = pow-le-pow_right {n = c.args.base} (omega arith) {i = c.loop-i.i - 1} {j = c.args.k - 1} (omega arith) in
    omega arith

pub nonzero_div-n : goal.nonzero_div-n
nonzero_div-n c = omega (arith, power_pos c.args.base (c.loop-i.i - 1) (omega arith), c.pow.ensures)

pub loop-i-preserved : goal.loop-i-preserved
loop-i-preserved c =
    let l = c.loop-i in
    let a = c.args in
    let p = c.put_byte.ensures in record {
      bytes = ap₂ (λ o at. put o at (digits a.base (l.i - 1) a.n))
          (p.bytes ∙ sym (put_one l.self.out.now l.self.at c.glyph.result)
          ∙ ap (set l.self.out.now l.self.at) (c.glyph.ensures ∙ ap (λ u. glyph (a.n / u % a.base)) c.pow.ensures))
          p.place
          ∙ sym (put_digit l.self.out.now l.self.at a.base l.i a.n c.loop-i-test.true) ∙ l.invariant.bytes;
      place = omega (arith, p.place, l.invariant.place);
      same_slice = p.same_slice ∙ l.invariant.same_slice;
    }

pub returns : goal.returns
returns c =
    let l = c.loop-i in
    let a = c.args in
    let none : l.i ≡ 0 = omega arith in record {
      bytes = sym (ap (λ i. put l.self.out.now l.self.at (digits a.base i a.n)) none ∙ put_no_digit l.self.out.now l.self.at a.base a.n)
          ∙ l.invariant.bytes;
      place = omega (arith, l.invariant.place, length_digits a.base a.k a.n);
      same_slice = l.invariant.same_slice;
    }
