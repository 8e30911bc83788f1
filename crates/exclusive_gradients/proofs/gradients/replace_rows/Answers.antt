-- `gradients::replace_rows` meets its contract. The invariant: the rows below s are as they are left, in both tables,
-- the others as they were.
use mathlib.Core.Path.{◌≡◌, sym, ap, ◌∙◌}
use mathlib.Core.Bool.{not, ◌&&◌}
use mathlib.Core.List.{List}
use Prim.Native.Nat.{ℕ, suc, ◌+◌, ◌*◌, ◌-◌, ◌^◌, ◌≤◌, ◌<◌}
use native.Mathlib.Nat.{le_refl, mul-le-mul_right}
use native.Mathlib.Omega.{arith}
use borrow.Rule.Slice.PartMut.{put_mid}
use lib.Ieee.{Float, nan, lt}
use lib.ListN.{length, get_or, set, replicate, length-take, length-drop}
use Rattle.lists.proofs.Writing.{written_past}
use Rattle.masks.specs.Presence.{stands}
use Rattle.binary64.specs.Constants.{zero64}
use Rattle.exclusive_gradients.proofs.Replacing.{area_left, start, keep_area, zero_area, keep_numbers, zero_numbers}
use Rattle.exclusive_gradients.proofs.gradients.replace_rows.Goals as goal
use Rattle.exclusive_gradients.proofs.gradients.replace_rows.Goals.{then-not-keeps, else-not-keeps}

-- a row of the table has its place
fits : (n s width many : ℕ) → s < 2 ^ n → 2 ^ n * width ≤ many → suc s * width ≤ many
fits n s width many h k = omega (arith, mul-le-mul_right width h)

pub loop-s-init : goal.loop-s-init
loop-s-init c =
    let a = c.args in let z = start a.present.now.bytes.now a.areas.now a.gradients.now a.width in record {
      areas = z.0;
      gradients = z.1;
    }

pub loop-s-preserved : goal.loop-s-preserved
loop-s-preserved c =
    let l = c.loop-s in let i = l.invariant in let a = c.args in let P = a.present.now in let bytes = P.bytes.now in
    let w = a.width in
    let A = area_left bytes a.areas.now a.gradients.now w in
    let small : l.s < 2 ^ P.n = omega arith in
    let inside : l.s < length a.areas.now = omega (arith, small, c.requires.0) in
    let room = fits P.n l.s w (length a.gradients.now) small c.requires.1 in
    let old = ap (λ (t : List Float). get_or t l.s nan) i.areas
    ∙ written_past A l.s l.s a.areas.now nan (le_refl l.s) in
    let asked = c.keeps.ensures ∙ ap (λ (x : Float). stands bytes l.s && not (lt x zero64)) old in
    let z : l.s * w + w - l.s * w ≡ w = omega arith in
    elim c.if-not-keeps.branch [
      | then-not-keeps t ↦ let lost = sym asked ∙ t.if-not-keeps.true in record {
        areas =
            t.areas-is ∙ ap (λ (x : List Float). set x l.s zero64) i.areas
            ∙ zero_area bytes a.areas.now a.gradients.now w l.s inside room lost;
        gradients = t.gradients-is ∙ ap (λ (k : ℕ). put_mid (l.s * w) k l.gradients t.fill.new.self) z
            ∙ zero_numbers bytes a.areas.now a.gradients.now w l.s inside room l.gradients t.fill.new.self lost
            i.gradients
            (t.fill.ensures.after (λ y h. h)
            ∙ ap (λ (k : ℕ). replicate k zero64)
            (omega (arith, length-take {A = Float}, length-drop {A = Float}, room)));
      }
      | else-not-keeps t ↦ let kept = sym asked ∙ t.if-not-keeps.false in record {
        areas = t.areas-is ∙ i.areas ∙ keep_area bytes a.areas.now a.gradients.now w l.s inside room kept;
        gradients =
            t.gradients-is ∙ i.gradients ∙ keep_numbers bytes a.areas.now a.gradients.now w l.s inside room kept;
      }
    ]
