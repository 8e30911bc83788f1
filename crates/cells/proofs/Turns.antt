-- The sine is odd and the cosine even; what they are a quarter turn or half a turn less an angle; how far the cosine is
-- from 0; and how little both change where the angle changes by little. Rests on the computed tests.
use mathlib.Core.Path.{◌≡◌, refl, sym, ap, ◌∙◌, subst}
use mathlib.Core.List.{List, [], ◌∷◌}
use Prim.Native.Nat.{ℕ, ◌*◌, ◌^◌, ◌≤◌}
use native.Mathlib.Nat.{le_trans, le_of_eq, mul-le-mul_left, mul-le-mul_right, mul_assoc}
use native.Mathlib.Omega.{arith}
use lib.Dec.{T, leb, leb→le}
use lib.ListN.{length}
use lib.IntN.{ℤ, pos, neg_ℤ, ◌+ℤ◌, ◌-ℤ◌, ◌*ℤ◌, nat_abs, *ℤ-zero, +ℤ_idr, +ℤ_comm, neg_ℤ-neg_ℤ}
use Rattle.series.specs.Taylor.{factorial, sign}
use Rattle.series.proofs.Integers.{parts, ⊖-eq, differences, dist, abs-negℤ}
use Rattle.series.proofs.Polynomial.{hval, shift, finer, slope, sizes, length_sizes, values_follow, slope_units}
use Rattle.series.proofs.Alternating.{negated, negated_value}
use Rattle.series.proofs.Sums.{rising, sin_from, cos_from, sin79, cos79}
use Rattle.cells.specs.Arc.{quarter_turn, half_turn}
use Rattle.cells.proofs.Plain.{val, value_whole, shifted_value, gaps, bound, values_close}
use Rattle.cells.proofs.Tests.{sine80, cosine80, unit80, tick, close, cosine_start}
use Rattle.cells.proofs.Tests.{quarter-sine, quarter_cosine, half_sine, half_cosine, sine_slope, cosine_slope}

-- ---- odd and even

negated_plain : (p : List ℤ) (x : ℤ) → val (negated p) x ≡ neg_ℤ (val p x)
negated_plain p x = sym (value_whole (negated p) x) ∙ negated_value p x 1 ∙ ap neg_ℤ (value_whole p x)

-- p at -X
mirrored : List ℤ → List ℤ
mirrored [] = []
mirrored (c ∷ p) = c ∷ negated (mirrored p)

mirrored_value : (p : List ℤ) (x : ℤ) → val (mirrored p) x ≡ val p (neg_ℤ x)
unfolding val mirrored
mirrored_value [] x = refl
mirrored_value (c ∷ p) x = rw (negated_plain (mirrored p) x, mirrored_value p x) (gather c x (val p (neg_ℤ x)))
  where
    gather : (c x H : ℤ) → c +ℤ x *ℤ neg_ℤ H ≡ c +ℤ neg_ℤ x *ℤ H
    gather c x H =
        let c' = parts c in
        let x' = parts x in
        let H' = parts H in
        rw (c'.2, x'.2, H'.2) (simp differences (⊖-eq _ _ _ _ (omega arith)))

sine_mirrored : mirrored sine80 ≡ negated sine80
unfolding mirrored negated sine80 finer factorial sign rising sin_from sin79
sine_mirrored = refl

cosine_mirrored : mirrored cosine80 ≡ cosine80
unfolding mirrored negated cosine80 finer factorial sign rising cos_from cos79
cosine_mirrored = refl

pub sine_odd : (x : ℤ) → val sine80 (neg_ℤ x) ≡ neg_ℤ (val sine80 x)
sine_odd x = sym (mirrored_value sine80 x) ∙ ap (λ (p : List ℤ). val p x) sine_mirrored ∙ negated_plain sine80 x

pub cosine_even : (x : ℤ) → val cosine80 (neg_ℤ x) ≡ val cosine80 x
cosine_even x = sym (mirrored_value cosine80 x) ∙ ap (λ (p : List ℤ). val p x) cosine_mirrored

-- ---- a quarter turn or half a turn less an angle

turned : (p q : List ℤ) (b : ℕ) → T (close (shift p b) q (4 * 2 ^ 600) 64) → (x : ℤ) → nat_abs x ≤ 4 * 2 ^ 600
    → dist (val p (pos b -ℤ x)) (val q (neg_ℤ x)) ≤ 64 * unit80
unfolding close
turned p q b t x h =
    subst (λ (z : ℤ). dist z (val q (neg_ℤ x)) ≤ 64 * unit80)
    (shifted_value p b (neg_ℤ x) ∙ ap (val p) (+ℤ_comm (neg_ℤ x) (pos b)))
    (le_trans (values_close (shift p b) q (neg_ℤ x) (4 * 2 ^ 600) (le_trans (le_of_eq (abs-negℤ x)) h))
    (leb→le (bound (gaps (shift p b) q) (4 * 2 ^ 600)) (64 * unit80) t))

negated_at : (p : List ℤ) (x : ℤ) → val (negated p) (neg_ℤ x) ≡ neg_ℤ (val p (neg_ℤ x))
negated_at p x = negated_plain p (neg_ℤ x)

module _ (x : ℤ) (small : nat_abs x ≤ 4 * 2 ^ 600) where
  pub sine_at_quarter : dist (val sine80 (pos (quarter_turn * tick) -ℤ x)) (val cosine80 x) ≤ 64 * unit80
  sine_at_quarter =
      subst (λ (z : ℤ). dist (val sine80 (pos (quarter_turn * tick) -ℤ x)) z ≤ 64 * unit80) (cosine_even x)
      (turned sine80 cosine80 (quarter_turn * tick) quarter-sine x small)

  pub cosine_at_quarter : dist (val cosine80 (pos (quarter_turn * tick) -ℤ x)) (val sine80 x) ≤ 64 * unit80
  cosine_at_quarter =
      subst (λ (z : ℤ). dist (val cosine80 (pos (quarter_turn * tick) -ℤ x)) z ≤ 64 * unit80)
      (negated_at sine80 x ∙ ap neg_ℤ (sine_odd x) ∙ neg_ℤ-neg_ℤ (val sine80 x))
      (turned cosine80 (negated sine80) (quarter_turn * tick) quarter_cosine x small)

  pub sine_at_half : dist (val sine80 (pos (half_turn * tick) -ℤ x)) (val sine80 x) ≤ 64 * unit80
  sine_at_half =
      subst (λ (z : ℤ). dist (val sine80 (pos (half_turn * tick) -ℤ x)) z ≤ 64 * unit80)
      (negated_at sine80 x ∙ ap neg_ℤ (sine_odd x) ∙ neg_ℤ-neg_ℤ (val sine80 x))
      (turned sine80 (negated sine80) (half_turn * tick) half_sine x small)

  pub cosine_at_half : dist (val cosine80 (pos (half_turn * tick) -ℤ x)) (neg_ℤ (val cosine80 x)) ≤ 64 * unit80
  cosine_at_half =
      subst (λ (z : ℤ). dist (val cosine80 (pos (half_turn * tick) -ℤ x)) z ≤ 64 * unit80)
      (negated_at cosine80 x ∙ ap neg_ℤ (cosine_even x))
      (turned cosine80 (negated cosine80) (half_turn * tick) half_cosine x small)

-- ---- the cosine of an angle up to 1 is from 3/8 to 13/8

pub cosine_near_one : (x : ℤ) → nat_abs x ≤ 2 ^ 600
    → dist (val cosine80 x) (pos (2 ^ 61 * unit80)) ≤ 5 * 2 ^ 58 * unit80
unfolding close val
cosine_near_one x h =
    subst (λ (z : ℤ). dist (val cosine80 x) z ≤ 5 * 2 ^ 58 * unit80)
    (ap (λ (z : ℤ). pos (2 ^ 61 * unit80) +ℤ z) (*ℤ-zero x) ∙ +ℤ_idr (pos (2 ^ 61 * unit80)))
    (le_trans (values_close cosine80 (pos (2 ^ 61 * unit80) ∷ []) x (2 ^ 600) h)
    (leb→le (bound (gaps cosine80 (pos (2 ^ 61 * unit80) ∷ [])) (2 ^ 600)) (5 * 2 ^ 58 * unit80) cosine_start))

-- ---- where the angle changes by k × 2^-62, sine and cosine change by at most 16 k × 2^-61

pub length_sine : length sine80 ≡ 80
unfolding sine80 sin79 sin_from finer
length_sine = refl

pub length_cosine : length cosine80 ≡ 80
unfolding cosine80 cos79 cos_from finer
length_cosine = refl

follows : (p : List ℤ) → length p ≡ 80 → T (leb (slope (sizes p) (4 * 2 ^ 600) 1 * tick) (16 * unit80))
    → (x z : ℤ) (y k : ℕ) → nat_abs x ≤ 4 * 2 ^ 600 * y → nat_abs z ≤ 4 * 2 ^ 600 * y → dist x z ≤ k * tick * y →
    dist (hval p x y) (hval p z y) ≤ y ^ 80 * (16 * k * unit80)
follows p l t x z y k h i m =
    le_trans (values_follow p x z (4 * 2 ^ 600 * y) h i y)
    (le_trans (mul-le-mul_right (slope (sizes p) (4 * 2 ^ 600 * y) y) m)
    (le_trans
    (le_of_eq
    (gather k tick y (slope (sizes p) (4 * 2 ^ 600 * y) y)
    ∙ ap (λ (s : ℕ). k * tick * s)
    (slope_units (sizes p) (4 * 2 ^ 600) y
    ∙ ap (λ (n : ℕ). y ^ n * slope (sizes p) (4 * 2 ^ 600) 1) (length_sizes p ∙ l))))
    (omega (arith, mul-le-mul_left (k * y ^ 80) (leb→le (slope (sizes p) (4 * 2 ^ 600) 1 * tick) (16 * unit80) t)))))
  where
    gather : (k t y s : ℕ) → k * t * y * s ≡ k * t * (y * s)
    gather k t y s = mul_assoc (k * t) y s

pub sine_follows : (x z : ℤ) (y k : ℕ) → nat_abs x ≤ 4 * 2 ^ 600 * y → nat_abs z ≤ 4 * 2 ^ 600 * y
    → dist x z ≤ k * tick * y → dist (hval sine80 x y) (hval sine80 z y) ≤ y ^ 80 * (16 * k * unit80)
sine_follows = follows sine80 length_sine sine_slope

pub cosine_follows : (x z : ℤ) (y k : ℕ) → nat_abs x ≤ 4 * 2 ^ 600 * y → nat_abs z ≤ 4 * 2 ^ 600 * y
    → dist x z ≤ k * tick * y → dist (hval cosine80 x y) (hval cosine80 z y) ≤ y ^ 80 * (16 * k * unit80)
cosine_follows = follows cosine80 length_cosine cosine_slope
