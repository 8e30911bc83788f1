-- Rows counted in a slice: a counted row is one of 1024 and has its place; where there is room, all are counted. And
-- the first so many bytes of which rows are wanted.
use mathlib.Core.Path.{◌≡◌, refl, ap, ◌∙◌}
use mathlib.Core.Bool.{Bool, cond}
use mathlib.Core.List.{List}
use Prim.Native.Nat.{ℕ, min, ◌^◌, ◌≤◌, ◌<◌}
use native.Mathlib.Omega.{arith}
use lib.Dec.{eqb}
use lib.Ieee.{Float, nan}
use lib.ListN.{length, get_or, take, length-take}
use lib.Seq.{get_or-take}
use lib.Pow.{pow_mono}
use Rattle.lists.specs.Written.{written}
use Rattle.lists.proofs.Writing.{written_cong}
use Rattle.masks.specs.Presence.{stands}
use Rattle.geometry.specs.declared.circle.Circle.{Circle}
use Rattle.sums.specs.Rows.{rows_of, number_at, areas_written}

pub row_below : (n count places S : ℕ) → count ≡ min (rows_of n) places → S < count → (S < 1024) × (S < places)
row_below n count places S e h =
    let most = pow_mono {i = min n 10} {j = 10} (omega arith) in
    (omega (arith, e), omega (arith, e))

-- at most ten circles count whole, and where there is room every row of theirs is written
pub rows_all : (n places : ℕ) → n ≤ 10 → 2 ^ n ≤ places → min (rows_of n) places ≡ 2 ^ n
rows_all n places few h =
    let e : min n 10 ≡ n = omega arith in
    let r = ap (λ (m : ℕ). 2 ^ m) e in
    omega (arith, r)

module _ (bytes : List ℕ) (n : ℕ) where
  -- they say the same of the rows that they count
  pub stands_take : (S : ℕ) → S < n → stands (take n bytes) S ≡ stands bytes S
  stands_take S h = ap (λ (b : ℕ). eqb b 1) (get_or-take n bytes S 0 h)

  pub bytes_many : n ≤ length bytes → length (take n bytes) ≡ n
  bytes_many h = omega (arith, length-take n bytes)

  pub areas_counted : (area : ℕ → Float) (l : List Float) → n ≤ length bytes
      → written (number_at (stands (take n bytes)) area l) (length (take n bytes)) l
      ≡ written (number_at (stands bytes) area l) n l
  areas_counted area l h =
      ap (λ (m : ℕ). written (number_at (stands (take n bytes)) area l) m l) (bytes_many h)
      ∙ written_cong (number_at (stands (take n bytes)) area l) (number_at (stands bytes) area l) n l l
      (λ i k. ap (λ (b : Bool). cond b (area i) (get_or l i nan)) (stands_take i k)) refl

  -- the rows of a pass over the circles `read`, of which n count, are those of the circles `ten` in the whole slice
  pub areas_read : (area : List Circle → ℕ → Float) (l : List Float) {read ten : List Circle} → n ≤ length bytes
      → n ≡ min (rows_of (length read)) (length l) → read ≡ ten
      → written (number_at (stands (take n bytes)) (area read) l) (length (take n bytes)) l
      ≡ areas_written (length ten) (stands bytes) (area ten) l
  areas_read area l {read = read} h count same =
      areas_counted (area read) l h ∙ ap (λ (m : ℕ). written (number_at (stands bytes) (area read) l) m l) count
      ∙ ap (λ cs. areas_written (length cs) (stands bytes) (area cs) l) same
