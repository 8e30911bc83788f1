-- `subtract::sum_rows` meets its contract. The invariant: each sum so far with what is left of the rows gives the whole
-- sum.
use mathlib.Core.Path.{◌≡◌, sym, ap, ◌∙◌}
use mathlib.Core.List.{List}
use Prim.Native.Nat.{ℕ, ◌+◌, ◌*◌}
use native.Mathlib.Omega.{arith}
use lib.Ieee.{Float, nan}
use lib.ListN.{length, get_or, drop}
use lib.Seq.{ext_get_or}
use Rattle.lists.specs.Written.{tab}
use Rattle.lists.proofs.Writing.{length_tab, get_d_tab}
use Rattle.binary64.specs.Floats.{◌+ᶠ◌}
use Rattle.exclusive.specs.Exclusive.{sum_onto}
use Rattle.exclusive.specs.Entries.{entry, row_sums}
use Rattle.exclusive.proofs.Sums.{sum_next, sum_end}
use Rattle.exclusive_gradients.proofs.subtract.sum_rows.Goals as goal

pub loop-row-preserved : goal.loop-row-preserved
loop-row-preserved g c =
    let l = c.loop-row in let i = l.invariant in let a = c.args in let R = a.rows.now in
    let t = get_or R l.row-index 0 in
    let e : c.add_numbers.new.sums
    ≡ tab (λ q. get_or l.sums q nan +ᶠ get_or a.numbers.now (t * a.width + a.k + q) nan) g.row.N =
    c.add_numbers.ensures in record {
      room = ap length e ∙ length_tab _ g.row.N;
      sums = λ q h.
          let at : t * a.width + a.k + q ≡ t * a.width + (a.k + q) = omega arith in
          ap (λ (s : List Float). sum_onto (entry a.width a.numbers.now (a.k + q)) (get_or s q nan)
          (drop (l.row-index + 1) R)) e
          ∙ ap (λ (x : Float). sum_onto (entry a.width a.numbers.now (a.k + q)) x (drop (l.row-index + 1) R))
          (get_d_tab _ g.row.N q nan h ∙ ap (λ (x : ℕ). get_or l.sums q nan +ᶠ get_or a.numbers.now x nan) at)
          ∙ sum_next (entry a.width a.numbers.now (a.k + q)) (get_or l.sums q nan) R l.row-index c.loop-row-test.true
          ∙ i.sums q h;
    }

pub returns : goal.returns
returns g c =
    let l = c.loop-row in let i = l.invariant in let a = c.args in let R = a.rows.now in
    ext_get_or nan l.sums (tab (λ q. row_sums a.width a.numbers.now R (a.k + q)) g.row.N)
    (i.room ∙ sym (length_tab _ g.row.N))
    (λ q h. sym
    (sum_end (entry a.width a.numbers.now (a.k + q)) (get_or l.sums q nan) R l.row-index c.loop-row-test.false)
    ∙ i.sums q (omega (arith, i.room))
    ∙ sym (get_d_tab (λ q. row_sums a.width a.numbers.now R (a.k + q)) g.row.N q nan (omega (arith, i.room))))
