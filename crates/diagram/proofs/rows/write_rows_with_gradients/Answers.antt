-- `rows::write_rows_with_gradients` meets its contract: gradients all +0, the rows of the sets, then row 0.
use mathlib.Core.Path.{◌≡◌, refl, ap, ◌∙◌}
use mathlib.Core.List.{◌++◌}
use Prim.Native.Nat.{ℕ, ◌*◌, ◌^◌, ◌≤◌}
use native.Mathlib.Nat.{mul-le-mul_right}
use native.Mathlib.Omega.{arith}
use lib.ListN.{length, drop}
use lib.Pow.{pow_pos}
use lib.Seq.{length-take-le}
use Rattle.lists.specs.Written.{written}
use Rattle.lists.proofs.Writing.{length_written}
use Rattle.masks.specs.Mask.{shifted}
use Rattle.masks.specs.Presence.{stands}
use Rattle.binary64.specs.Constants.{zero64}
use Rattle.sums.specs.Gradients.{rows_to}
use Rattle.sums.proofs.Laid.{rows_in_all}
use Rattle.diagram.specs.Drawing.{count_of, circles_of, has_box, set_row, box_row_of}
use Rattle.diagram.proofs.Laying.{all_cleared, all_read, box_first, rows_laid}
use Rattle.diagram.proofs.rows.write_rows_with_gradients.Goals as goal

pub returns-clause-gradients_after : goal.returns-clause-gradients_after
returns-clause-gradients_after c =
    let a = c.args in let d = a.drawing.now in let w = a.width in let sets = stands a.sets.now in
    let l = a.gradients.now in let n = count_of d in let m = 2 ^ n in let z = c.fill.new.self in
    let few : n ≤ 10 = c.requires.few in let many = all_read d.circles.now few in
    let end : ℕ = shifted 64 n * w in
    let cleared : z ++ drop end l ≡ written (λ i. zero64) (m * w) l =
    all_cleared n m w l z few refl (omega arith)
    (c.fill.ensures.after (λ y h. h)) in
    let long : length (z ++ drop end l) ≡ length l =
    ap length cleared ∙ length_written (λ i. zero64) (m * w) l (omega arith) in
    let all = rows_in_all n w a.areas.now (z ++ drop end l) (omega arith) (omega arith) (omega (arith, long)) in
    let k = c.write_gradients.new.gradients in
    let rows : k ≡ rows_to sets (set_row w d) w m (written (λ i. zero64) (m * w) l) = cc in
    let wide = length-take-le w k
    (omega (arith, long, c.write_gradients.auto.gradients, mul-le-mul_right {m = 1} {n = m} w (pow_pos n))) in
    let first = c.write_box_row.ensures ∙ ap (λ (j : ℕ). box_row_of j d) wide
    ∙ box_first d.container (length (circles_of d)) w in
    rows_laid (has_box d) sets (box_row_of w d) (set_row w d) w m l k (omega arith) rows c.write_box_row.new.grad
    (pow_pos n) first (c.write_box_row.auto.grad ∙ wide)
