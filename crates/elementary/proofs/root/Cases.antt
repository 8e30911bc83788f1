-- The root of a float by the cases that the program tells apart: above zero and finite, above zero and infinite, a
-- zero, anything else.
use Rattle.std.proofs.Common.{◌≡◌, ℕ, zero, suc, ◌*◌, ◌/◌, ◌%◌, ◌^◌, ◌<◌, ◌≤◌, Bool, true, false, not, T, eqb, ltb}
use Rattle.std.proofs.Common.{ℤ, sym, refl, ap, ◌∙◌, subst, ap₂, subst₂, true≢false}
use Rattle.std.proofs.Common.{lt_irrefl, zero-lt-suc, mul-pos, zero-mul, mul-one, arith, eqb→eq, lt→ltb, T_not}
use mathlib.Core.Bool.{false≢true}
use native.Mathlib.Nat.{zero-div}
use lib.Arith.{le→nltb}
use lib.Dec.{nleb→lt}
use lib.Ieee.{Float, nan, inf, fin, binary64, up, down, level, lt, eq, fits, is_nan, nan_bits, of_bits, to_bits}
use lib.Ieee.Bits.{of_bits-to_bits, nan_bits_above, is_true}
use lib.Ieee.Fits.{up_pos, and_l, eq→eqb}
use lib.Ieee.Scale.{finite}
use Rattle.binary64.specs.Units.{one, mag, negative, of_units, Finite}
use Rattle.binary64.specs.Constants.{zero64}
use Rattle.binary64.proofs.Patterns.{pattern_finite, pattern_sign}
use Rattle.binary64.proofs.Functions.{above_sign}
use Rattle.elementary.specs.Root.{root, root_units}

-- a test that passes
passes : {b : Bool} → b ≡ true → T b
passes e = subst (λ (t : Bool). T t) (sym e) tt

fails : {b : Bool} → b ≡ false → T (not b)
fails e = subst (λ (t : Bool). T (not t)) (sym e) tt

-- a zero is 0 units
pub zero_units : (s : Bool) (e : ℤ) → mag (fin s 0 e) ≡ 0
unfolding mag
zero_units s e =
    ap (λ (n : ℕ). n * one / down e) (zero-mul (up e)) ∙ ap (λ (n : ℕ). n / down e) (zero-mul one) ∙ zero-div (down e)

-- the root of a finite number above zero
pub root_positive : {x : Float} → Finite x → negative x ≡ false → 0 < mag x
    → root x ≡ of_units false (root_units (mag x))
unfolding root mag
root_positive {x = nan} f s p = absurd f.number
root_positive {x = inf t} f s p = absurd f.number
root_positive {x = fin true m e} f s p = absurd (true≢false s)
root_positive {x = fin false zero e} f s p = absurd (lt_irrefl 0 (subst (λ (n : ℕ). 0 < n) (zero_units false e) p))
root_positive {x = fin false (suc m) e} f s p = refl

-- ---- above zero

-- patterns below the infinity's are numbers
pub number_bits : (b : ℕ) → b < 2047 * 2 ^ 52 → T (not (nan_bits binary64 b))
number_bits b h =
    subst (λ (t : Bool). T (not t)) (sym (nan_bits_above binary64 b))
    (le→nltb (2047 * 2 ^ 52) (b % 2 ^ 63) (omega arith))

pub above_number : (x : Float) → lt zero64 x ≡ true → T (not (is_nan x))
above_number x h = fails (above_sign x h).1

zero_not_above : lt zero64 zero64 ≡ false
unfolding lt of_bits
zero_not_above = refl

-- what is not finite has the root +0
not_finite : (x : Float) → finite x ≡ false → zero64 ≡ root x
unfolding root
not_finite nan h = refl
not_finite (inf s) h = refl
not_finite (fin s m e) h = absurd (true≢false h)

eqb_is : {a b : ℕ} → a ≡ b → eqb a b ≡ true
eqb_is {a} {b} e = is_true (eqb a b) (eq→eqb e)

module _ (x : Float) (f : T (fits binary64 x)) (h : lt zero64 x ≡ true) where
  again : of_bits binary64 (to_bits binary64 x) ≡ x
  again = of_bits-to_bits binary64 x f

  pub above_bits : 0 < to_bits binary64 x
  above_bits = go (to_bits binary64 x) again
    where
      go : (b : ℕ) → of_bits binary64 b ≡ x → 0 < b
      go zero e = absurd (false≢true (sym zero_not_above ∙ ap (λ (y : Float). lt zero64 y) e ∙ h))
      go (suc b) e = omega arith

  below_sign : to_bits binary64 x < 2 ^ 63
  below_sign =
      nleb→lt (2 ^ 63) (to_bits binary64 x)
      (fails (sym
      (pattern_sign (to_bits binary64 x) (subst (λ (y : Float). T (not (is_nan y))) (sym again) (above_number x h)))
      ∙ ap negative again ∙ (above_sign x h).0))

  -- bits from the infinity's on are no finite number's
  pub root_infinite : 2047 * 2 ^ 52 ≤ to_bits binary64 x → zero64 ≡ root x
  root_infinite l =
      not_finite x
      (ap finite (sym again) ∙ pattern_finite (to_bits binary64 x)
      ∙ ap not (eqb_is (ones (to_bits binary64 x) l below_sign)))
    where
      ones : (b : ℕ) → 2047 * 2 ^ 52 ≤ b → b < 2 ^ 63 → b % 2 ^ 63 / 2 ^ 52 ≡ 2047
      ones b l h = omega arith

-- ---- not above zero

-- a zero is its own root
pub root_zero : (x : Float) → eq x zero64 ≡ true → x ≡ root x
unfolding eq root of_bits
root_zero nan h = absurd (false≢true h)
root_zero (inf s) h = absurd (false≢true h)
root_zero (fin s zero e) h = refl
root_zero (fin s (suc m) e) h =
    absurd (none m e
    (eqb→eq (suc m * up e * 1) (0 * down e) (and_l (eqb (suc m * up e * 1) (0 * down e)) _ (passes h))))
  where
    none : (m : ℕ) (e : ℤ) → suc m * up e * 1 ≡ 0 * down e → ⊥
    none m e g =
        lt_irrefl 0
        (subst (λ (n : ℕ). 0 < n) (sym (mul-one (suc m * up e)) ∙ g ∙ zero-mul (down e))
        (mul-pos (zero-lt-suc m) (up_pos e)))

-- what is neither above zero nor a zero has the root +0
pub root_other : (x : Float) → lt zero64 x ≡ false → eq x zero64 ≡ false → zero64 ≡ root x
unfolding lt eq root of_bits
root_other nan h k = refl
root_other (inf s) h k = refl
root_other (fin s zero e) h k = absurd (true≢false (sym (same s e) ∙ k))
  where
    signs : (s : Bool) → level s 0 false 0 ≡ true
    signs true = refl
    signs false = refl

    same : (s : Bool) (e : ℤ) → level s (0 * up e * 1) false (0 * down e) ≡ true
    same s e =
        ap₂ (λ (a b : ℕ). level s a false b) (ap (λ (a : ℕ). a * 1) (zero-mul (up e))) (zero-mul (down e)) ∙ signs s
root_other (fin true (suc m) e) h k = refl
root_other (fin false (suc m) e) h k =
    absurd (T_not (ltb (0 * down e) (suc m * up e * 1)) (fails h) (lt→ltb (0 * down e) (suc m * up e * 1) (some m e)))
  where
    some : (m : ℕ) (e : ℤ) → 0 * down e < suc m * up e * 1
    some m e =
        subst₂ (λ (a b : ℕ). a < b) (sym (zero-mul (down e))) (sym (mul-one (suc m * up e)))
        (mul-pos (zero-lt-suc m) (up_pos e))
