-- The recipe's fixed-point sine and cosine against the 40-term sums, as fractions: at every fraction ±x/y they differ
-- by at most 442 × 2^-61. Rests on Quarter, which has the same for the polynomials, and on Sums, which has the
-- polynomials for the sums.
use mathlib.Core.Path.{◌≡◌, refl, sym, ap, ap₂, ◌∙◌, subst, subst₂}
use mathlib.Core.List.{List}
use mathlib.Core.Bool.{Bool, true, false, cond}
use Prim.Native.Nat.{ℕ, zero, suc, ◌+◌, ◌*◌, ◌/◌, ◌%◌, ◌^◌, ◌≤◌, ◌<◌}
use native.Mathlib.Nat.{le_trans, le_of_eq, le_of_lt, mul-le-mul_left, mul-le-mul_right, mul_comm}
use native.Mathlib.Nat.{mul_assoc, mul-pos, one-le-pow, le_of_mul-le-mul_right, div-add-mod', mod-lt, add-zero}
use native.Mathlib.Omega.{arith}
use lib.ListN.{length}
use lib.IntN.{ℤ, pos, neg_ℤ, ◌+ℤ◌, ◌*ℤ◌, neg_ℤ-neg_ℤ, *ℤ_comm}
use lib.Ieee.{unlike}
use Rattle.series.specs.Fraction.{Fraction, Within, signed}
use Rattle.series.specs.Taylor.{factorial, sign, sin40, cos40}
use Rattle.series.specs.Kernel.{quarter, quarter_sine, reduced, half_turned}
use Rattle.series.proofs.Integers.{parts, ⊖-eq, differences, dist, dist_neg, dist_scale, *ℤ-neg, *ℤ-assoc, *ℤ-left-comm}
use Rattle.series.proofs.Polynomial.{hval, finer, finer_value}
use Rattle.series.proofs.Sums.{rising, sin_from, cos_from, sin79, cos79, scale, sin40_value, cos40_value}
use Rattle.series.proofs.Tests.{sine, cosine, unit, grain}
use Rattle.series.proofs.Turns.{Waves, sine_waves, cosine_waves}
use Rattle.series.proofs.Cap.{unit_pos, length_sine}
use Rattle.series.proofs.Quarter.{recipe_near}

-- ---- the sine is odd, the cosine even

odd_step : (x c H : ℤ) (Y Z : ℕ)
    → pos (0 * Z) +ℤ neg_ℤ x *ℤ (c *ℤ pos Y +ℤ neg_ℤ x *ℤ neg_ℤ H) ≡ neg_ℤ (pos (0 * Z) +ℤ x *ℤ (c *ℤ pos Y +ℤ x *ℤ H))
odd_step x c H Y Z =
    let x' = parts x in
    let c' = parts c in
    let H' = parts H in
    rw (x'.2, c'.2, H'.2) (simp differences (⊖-eq _ _ _ _ (omega arith)))

sin_odd : (k m : ℕ) (x : ℤ) (y : ℕ) → hval (sin_from k m) (neg_ℤ x) y ≡ neg_ℤ (hval (sin_from k m) x y)
unfolding hval sin_from
sin_odd k zero x y = refl
sin_odd k (suc m) x y =
    rw (sin_odd (suc k) m x y)
    (odd_step x (sign k *ℤ pos (rising (2 * k + 1) (2 * m))) (hval (sin_from (suc k) m) x y)
    (y ^ suc (length (sin_from (suc k) m))) (y ^ suc (suc (length (sin_from (suc k) m)))))

even_step : (x c H : ℤ) (Y : ℕ) → c +ℤ neg_ℤ x *ℤ (pos (0 * Y) +ℤ neg_ℤ x *ℤ H) ≡ c +ℤ x *ℤ (pos (0 * Y) +ℤ x *ℤ H)
even_step x c H Y =
    let x' = parts x in
    let c' = parts c in
    let H' = parts H in
    rw (x'.2, c'.2, H'.2) (simp differences (⊖-eq _ _ _ _ (omega arith)))

cos_even : (k m : ℕ) (x : ℤ) (y : ℕ) → hval (cos_from k m) (neg_ℤ x) y ≡ hval (cos_from k m) x y
unfolding hval cos_from
cos_even k zero x y = refl
cos_even k (suc m) x y =
    rw (cos_even (suc k) m x y)
    (even_step x ((sign k *ℤ pos (rising (2 * k) (2 * m + 1))) *ℤ pos (y ^ suc (suc (length (cos_from (suc k) m)))))
    (hval (cos_from (suc k) m) x y) (y ^ suc (length (cos_from (suc k) m))))

-- -z or z
neg_if : Bool → ℤ → ℤ
neg_if t z = cond t (neg_ℤ z) z

sin79_signed : (t : Bool) (x y : ℕ) → hval sin79 (signed t x) y ≡ neg_if t (hval sin79 (pos x) y)
unfolding sin79 neg_if
sin79_signed true x y = sin_odd 0 40 (pos x) y
sin79_signed false x y = refl

cos79_signed : (t : Bool) (x y : ℕ) → hval cos79 (signed t x) y ≡ hval cos79 (pos x) y
unfolding cos79
cos79_signed true x y = cos_even 0 40 (pos x) y
cos79_signed false x y = refl

neg_if_signed : (t s : Bool) (n : ℕ) → neg_if t (signed s n) ≡ signed (unlike t s) n
unfolding neg_if
neg_if_signed true true n = neg_ℤ-neg_ℤ (pos n)
neg_if_signed true false n = refl
neg_if_signed false true n = refl
neg_if_signed false false n = refl

dist_neg_if : (t : Bool) (a b : ℤ) → dist (neg_if t a) (neg_if t b) ≡ dist a b
unfolding neg_if
dist_neg_if true a b = dist_neg a b
dist_neg_if false a b = refl

neg_if_scale : (t : Bool) (n : ℕ) (z : ℤ) → pos n *ℤ neg_if t z ≡ neg_if t (pos n *ℤ z)
unfolding neg_if
neg_if_scale true n z = *ℤ-neg (pos n) z
neg_if_scale false n z = refl

-- ---- from the polynomial's value to the sum

-- 2^61 units are the scale of the polynomial
abbrev spread : ℕ
spread = (2 ^ 59) ^ 80

unit_scale : unit * 2 ^ 61 ≡ scale * spread
unfolding unit grain factorial
unit_scale = refl

pub signed_scale : (s : Bool) (n q : ℕ) → pos n *ℤ signed s q ≡ signed s (n * q)
signed_scale true n q = *ℤ-neg (pos n) (pos q)
signed_scale false n q = refl

-- a sum S = H / (79! Y), where 2^4720 H is close to ±q units Y, is close to ±q / 2^61
module _ (S : Fraction) (H : ℤ) (Y : ℕ) (Y-pos : 0 < Y) (bridge : S.num *ℤ pos (scale * Y) ≡ H *ℤ pos S.den)
    (s : Bool) (q : ℕ) (close : dist (pos spread *ℤ H) (signed s (Y * (q * unit))) ≤ Y * (442 * unit)) where
  left : pos (Y * unit) *ℤ (S.num *ℤ pos (2 ^ 61)) ≡ pos S.den *ℤ (pos spread *ℤ H)
  left =
      first (pos Y) (pos unit) S.num (pos (2 ^ 61))
      ∙ ap (λ (k : ℕ). pos k *ℤ (S.num *ℤ pos Y)) unit_scale
      ∙ second (pos scale) (pos spread) S.num (pos Y)
      ∙ ap (λ (z : ℤ). pos spread *ℤ z) bridge
      ∙ third (pos spread) H (pos S.den)
    where
      first : (y u a c : ℤ) → (y *ℤ u) *ℤ (a *ℤ c) ≡ (u *ℤ c) *ℤ (a *ℤ y)
      first y u a c = simp (*ℤ-assoc, *ℤ_comm, *ℤ-left-comm)

      second : (k e a y : ℤ) → (k *ℤ e) *ℤ (a *ℤ y) ≡ e *ℤ (a *ℤ (k *ℤ y))
      second k e a y = simp (*ℤ-assoc, *ℤ-left-comm)

      third : (e h d : ℤ) → e *ℤ (h *ℤ d) ≡ d *ℤ (e *ℤ h)
      third e h d = simp (*ℤ_comm, *ℤ-left-comm)

  right : pos (Y * unit) *ℤ (signed s q *ℤ pos S.den) ≡ pos S.den *ℤ signed s (Y * (q * unit))
  right =
      first (pos (Y * unit)) (signed s q) (pos S.den)
      ∙ ap (λ (z : ℤ). pos S.den *ℤ z) (signed_scale s (Y * unit) q ∙ ap (signed s) (regroup Y unit q))
    where
      first : (a z d : ℤ) → a *ℤ (z *ℤ d) ≡ d *ℤ (a *ℤ z)
      first a z d = simp (*ℤ_comm, *ℤ-left-comm)

      regroup : (Y u q : ℕ) → Y * u * q ≡ Y * (q * u)
      regroup Y u q = omega arith

  apart : dist (S.num *ℤ pos (2 ^ 61)) (signed s q *ℤ pos S.den) ≤ 442 * S.den
  apart =
      le_of_mul-le-mul_right
      (le_trans
      (le_of_eq
      (mul_comm _ (Y * unit) ∙ sym (dist_scale (Y * unit) (S.num *ℤ pos (2 ^ 61)) (signed s q *ℤ pos S.den))
      ∙ ap₂ dist left right ∙ dist_scale S.den (pos spread *ℤ H) (signed s (Y * (q * unit)))))
      (le_trans (mul-le-mul_left S.den close) (le_of_eq (regroup S.den Y unit))))
      (mul-pos Y-pos unit_pos)
    where
      regroup : (d Y u : ℕ) → d * (Y * (442 * u)) ≡ 442 * d * (Y * u)
      regroup d Y u = omega arith

  sum_within : Within S (record { num = signed s q; den = 2 ^ 61 }) 442 (2 ^ 61)
  unfolding dist
  sum_within = le_trans (mul-le-mul_right (2 ^ 61) apart) (le_of_eq (mul_assoc 442 S.den (2 ^ 61)))

-- ---- the two promises of the fixed-point part

length_sin79 : length sin79 ≡ 80
unfolding sin79 sin_from
length_sin79 = refl

length_cos79 : length cos79 ≡ 80
unfolding cos79 cos_from
length_cos79 = refl

length_cosine : length cosine ≡ 80
unfolding cosine cos79 cos_from finer
length_cosine = refl

abbrev pub fraction : Bool → ℕ → ℕ → Fraction
fraction t x y = record { num = signed t x; den = y }

module _ (x y : ℕ) (y-pos : 0 < y) (small : 2 ^ 59 * x / y ≤ 2 ^ 63) where
  -- the polynomial p over angles in units of 2^-59, at x / y
  finer_near : (p : List ℤ) → length p ≡ 80 → length (finer (2 ^ 59) p) ≡ 80 → (o : ℕ) → Waves (finer (2 ^ 59) p) o →
      dist (pos spread *ℤ hval p (pos x) y)
      (signed (half_turned (2 ^ 59 * x / y + o * quarter))
      (y ^ 80 * (quarter_sine (reduced (2 ^ 59 * x / y + o * quarter)) * unit))) ≤ y ^ 80 * (442 * unit)
  finer_near p l m o waves =
      subst (λ (z : ℤ). dist z
      (signed (half_turned (2 ^ 59 * x / y + o * quarter))
      (y ^ 80 * (quarter_sine (reduced (2 ^ 59 * x / y + o * quarter)) * unit))) ≤ y ^ 80 * (442 * unit))
      (ap (λ (k : ℕ). hval (finer (2 ^ 59) p) (pos k) y) (div-add-mod' (2 ^ 59 * x) y)
      ∙ finer_value (2 ^ 59) p (pos x) y ∙ ap (λ (k : ℕ). pos ((2 ^ 59) ^ k) *ℤ hval p (pos x) y) l)
      (recipe_near (finer (2 ^ 59) p) m o waves (2 ^ 59 * x / y) (2 ^ 59 * x % y) y small
      (le_of_lt (mod-lt (2 ^ 59 * x) y-pos)))

  y80_pos : 0 < y ^ 80
  y80_pos = one-le-pow 80 y y-pos

  -- The sine of ±x / y.
  pub sine_within : (t : Bool)
      → Within (sin40 (fraction t x y))
      (fraction (unlike t (half_turned (2 ^ 59 * x / y))) (quarter_sine (reduced (2 ^ 59 * x / y))) (2 ^ 61)) 442
      (2 ^ 61)
  unfolding sine
  sine_within t =
      sum_within (sin40 (fraction t x y)) (hval sin79 (signed t x) y) (y ^ 80) y80_pos (sin40_value (fraction t x y))
      (unlike t (half_turned w)) (quarter_sine (reduced w))
      (subst₂ (λ (a b : ℤ). dist a b ≤ y ^ 80 * (442 * unit))
      (sym (neg_if_scale t spread (hval sin79 (pos x) y)) ∙ ap (λ (z : ℤ). pos spread *ℤ z) (sym (sin79_signed t x y)))
      (neg_if_signed t (half_turned w) (y ^ 80 * (quarter_sine (reduced w) * unit)))
      (le_trans
      (le_of_eq
      (dist_neg_if t (pos spread *ℤ hval sin79 (pos x) y)
      (signed (half_turned w) (y ^ 80 * (quarter_sine (reduced w) * unit)))))
      (subst (λ (v : ℕ). dist (pos spread *ℤ hval sin79 (pos x) y)
      (signed (half_turned v) (y ^ 80 * (quarter_sine (reduced v) * unit))) ≤ y ^ 80 * (442 * unit)) (add-zero w)
      (finer_near sin79 length_sin79 length_sine 0 sine_waves))))
    where
      w : ℕ
      w = 2 ^ 59 * x / y

  -- The cosine of ±x / y: the sine a quarter turn on.
  pub cosine_within : (t : Bool)
      → Within (cos40 (fraction t x y))
      (fraction (half_turned (2 ^ 59 * x / y + quarter)) (quarter_sine (reduced (2 ^ 59 * x / y + quarter)))
      (2 ^ 61)) 442 (2 ^ 61)
  unfolding cosine
  cosine_within t =
      sum_within (cos40 (fraction t x y)) (hval cos79 (signed t x) y) (y ^ 80) y80_pos (cos40_value (fraction t x y))
      (half_turned (w + quarter)) (quarter_sine (reduced (w + quarter)))
      (subst (λ (z : ℤ). dist (pos spread *ℤ z)
      (signed (half_turned (w + quarter)) (y ^ 80 * (quarter_sine (reduced (w + quarter)) * unit))) ≤ y ^ 80 *
      (442 * unit)) (sym (cos79_signed t x y))
      (finer_near cos79 length_cos79 length_cosine 1 cosine_waves))
    where
      w : ℕ
      w = 2 ^ 59 * x / y
