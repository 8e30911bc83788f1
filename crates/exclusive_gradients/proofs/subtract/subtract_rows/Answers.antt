-- `subtract::subtract_rows` meets its contract. The invariants: the sums are subtracted from the first k numbers of the
-- row, and in the inner loop from those before the q-th of this turn.
use mathlib.Core.Path.{◌≡◌, ap, ◌∙◌, subst}
use mathlib.Core.List.{List}
use Prim.Native.Nat.{ℕ, ◌+◌, ◌-◌, ◌*◌, ◌<◌, min}
use native.Mathlib.Omega.{arith}
use lib.Ieee.{Float, nan}
use lib.ListN.{get_or, set}
use Rattle.lists.specs.Written.{tab}
use Rattle.lists.proofs.Writing.{get_d_tab}
use Rattle.binary64.specs.Floats.{◌-ᶠ◌}
use Rattle.exclusive.specs.Entries.{entry, row_sums, RowSubtracted}
use Rattle.exclusive.proofs.Entries.{row_next, sums_stay}
use Rattle.exclusive_gradients.proofs.subtract.subtract_rows.Goals as goal

pub loop-q-preserved : goal.loop-q-preserved
loop-q-preserved g c =
    let a = c.args in let R = a.rows.now in let first = a.numbers.now in let from = c.next_start-from.result in
    let l = c.loop-q in
    let k = from + l.q in let m = c.loop-k in
    let sums = row_sums a.width first R in
    let inside : k < a.width = omega (arith, c.loop-q-test.true, c.next_start-from.ensures.1) in
    let here : min m.k a.width ≡ m.k = omega arith in
    let so_far : RowSubtracted a.width a.s sums m.k first m.numbers =
    subst (λ (j : ℕ). RowSubtracted a.width a.s sums j first m.numbers) here m.invariant in
    let e : c.sum_rows-sums.result ≡ tab (λ q. row_sums a.width m.numbers R (from + q)) g.row.N =
    c.sum_rows-sums.ensures in
    let z : k + 1 ≡ from + (l.q + 1) = omega arith in
    let value = get_or c.sum_rows-sums.result l.q nan in
    subst (λ (j : ℕ). RowSubtracted a.width a.s sums j first
    (set l.numbers (a.s * a.width + k) (entry a.width l.numbers k a.s -ᶠ value))) z
    (row_next a.width a.s sums first l.numbers k value inside c.requires.3
    (ap (λ (t : List Float). get_or t l.q nan) e
    ∙ get_d_tab (λ q. row_sums a.width m.numbers R (from + q)) g.row.N l.q nan c.loop-q-test.true
    ∙ sums_stay a.width a.s sums first m.numbers R m.k k inside c.requires.5 so_far) l.invariant)

pub loop-q-init : goal.loop-q-init
loop-q-init g c =
    let a = c.args in let m = c.loop-k in
    let here : min m.k a.width ≡ c.next_start-from.result + (m.k - c.next_start-from.result) =
    omega (arith, c.next_start-from.ensures.0) in
    subst (λ (j : ℕ). RowSubtracted a.width a.s (row_sums a.width a.numbers.now a.rows.now) j a.numbers.now m.numbers) here m.invariant

pub loop-k-preserved : goal.loop-k-preserved
loop-k-preserved g c =
    let a = c.args in let l = c.loop-q in
    let next : c.next_start-from.result + l.q ≡ min (c.loop-k.k + g.row.N) a.width =
    omega (arith, c.next_start-from.ensures.0, c.next_start-from.ensures.1) in
    subst (λ (j : ℕ). RowSubtracted a.width a.s (row_sums a.width a.numbers.now a.rows.now) j a.numbers.now l.numbers) next l.invariant
