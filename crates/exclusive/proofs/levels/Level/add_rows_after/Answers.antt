-- `levels::Level::add_rows_after` meets its contract. The invariant: the sums with what is left of the rows give the
-- whole sums.
use mathlib.Core.Path.{◌≡◌, sym, ◌∙◌, subst}
use mathlib.Core.List.{List}
use Prim.Native.Nat.{ℕ, ◌+◌, ◌-◌, ◌<◌}
use native.Mathlib.Omega.{arith}
use lib.Ieee.{Float, nan}
use lib.ListN.{length, get_or, take, drop, length-take, length-drop}
use lib.Seq.{get_or-take, get_or-drop}
use Rattle.exclusive.proofs.LevelSums.{Summing, summing_next, summing_end}
use Rattle.exclusive.proofs.levels.Level.add_rows_after.Goals as goal

-- row i of those after the level
row_after : (rows : List ℕ) (hi i : ℕ) → i < length (take (length rows - hi) (drop hi rows))
    → (hi + i < length rows) × (get_or rows (hi + i) 0 ≡ get_or (take (length rows - hi) (drop hi rows)) i 0)
row_after rows hi i h =
    let inside : i < length rows - hi = omega (arith, length-take (length rows - hi) (drop hi rows)) in
    (omega arith, sym (get_or-take (length rows - hi) (drop hi rows) i 0 inside ∙ get_or-drop hi rows i 0))

pub loop-t-preserved : goal.loop-t-preserved
loop-t-preserved c =
    let l = c.loop-t in let a = c.args in let L = a.self.now in let R = L.rows.now in
    let f : ℕ → Float = λ T. get_or a.areas.now T nan in
    let at = row_after R L.hi l.t-index c.loop-t-test.true in
    let next : L.hi + l.t-index + 1 ≡ L.hi + (l.t-index + 1) = omega arith in record {
      room = c.add_row.array_long;
      sums = subst (λ (j : ℕ). Summing R L.lo L.hi f R a.sums.now j c.add_row.new.sums) next
          (summing_next R L.lo L.hi f R a.sums.now (L.hi + l.t-index) _ l.sums _ at.0 at.1 c.add_row.ensures
          l.invariant.sums);
    }

pub returns : goal.returns
returns c =
    let l = c.loop-t in let a = c.args in let L = a.self.now in let R = L.rows.now in
    summing_end R L.lo L.hi (λ T. get_or a.areas.now T nan) R a.sums.now (L.hi + l.t-index) l.sums
    (omega (arith, length-take (length R - L.hi) (drop L.hi R), length-drop L.hi R)) l.invariant.sums
