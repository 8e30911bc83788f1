-- `gradients::write_rows`: one row more is written, or stays, in both slices.
use mathlib.Core.Path.{◌≡◌, ap, ◌∙◌}
use Prim.Native.Nat.{ℕ, suc, ◌*◌, ◌≤◌, ◌<◌}
use native.Mathlib.Nat.{mul-le-mul_right}
use native.Mathlib.Omega.{arith}
use borrow.Author.Tests.{eq-eqb, ne_eqb}
use lib.ListN.{length}
use Rattle.masks.specs.Presence.{stands}
use Rattle.clip.specs.Gradient.{WithGradient}
use Rattle.sums.specs.Gradients.{row_anew}
use Rattle.sums.proofs.Laid.{none_laid, area_kept, row_kept, area_put, row_laid, part_many}
use Rattle.sums.proofs.gradients.write_rows.Goals as goal
use Rattle.sums.proofs.gradients.write_rows.Goals.{then-byte-eq1, else-byte-eq1}

-- the row has its place
room : (m count width n : ℕ) → m < count → count * width ≤ n → suc m * width ≤ n
room m count width n lt le = let more = mul-le-mul_right {m = suc m} {n = count} width lt in omega (arith, more, le)

pub loop-mask-init : goal.loop-mask-init
loop-mask-init g c =
    let a = c.args in
    none_laid (stands a.wanted.now) (row_anew (g.R.Gradients.given a.rows.now) a.width) a.width a.areas.now
    a.gradients.now

pub loop-mask-preserved : goal.loop-mask-preserved
loop-mask-preserved g c =
    let l = c.loop-mask in
    let a = c.args in
    let S = l.mask in
    let w = a.width in
    let wanted = stands a.wanted.now in
    let row : ℕ → WithGradient = row_anew (g.R.Gradients.given a.rows.now) w in
    let test : S < length a.wanted.now = c.loop-mask-test.true in
    let more : S < length a.areas.now = omega (arith, test, c.requires.places.0) in
    let place : suc S * w ≤ length a.gradients.now = room S (length a.wanted.now) w _ test c.requires.places.1 in
    let wide : length l.gradients ≡ length a.gradients.now = omega arith in
    let many = part_many S w l.gradients (omega (arith, place, wide)) in
    elim c.if-byte-eq1.branch [
      | then-byte-eq1 t ↦ let is = eq-eqb _ 1 t.if-byte-eq1.true in
          let er = t.write_row-area.ensures.row
          ∙ ap (λ (k : ℕ). row_anew (g.R.Gradients.given a.rows.now) k S) many in (
            t.areas-is ∙ area_put wanted row w a.areas.now a.gradients.now S er is more l.areas l.invariant.0,
            row_laid wanted row w a.areas.now a.gradients.now S er is place (t.write_row-area.ensures.grad_len ∙ many)
                l.gradients _ l.invariant.1 t.gradients-is,
          )
      | else-byte-eq1 t ↦ let none = ne_eqb _ 1 t.if-byte-eq1.false in (
        t.areas-is ∙ l.invariant.0 ∙ area_kept wanted row w a.areas.now a.gradients.now S more none,
        t.gradients-is ∙ l.invariant.1 ∙ row_kept wanted row w a.areas.now a.gradients.now S place none,
      )
    ]
