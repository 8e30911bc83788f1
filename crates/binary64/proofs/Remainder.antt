-- The float remainder in units: x % y is exactly the remainder of the magnitudes, with the sign of x; and `rem_euclid`
-- by a number m above zero lies from 0 to m. Rests on Values, Operations and Magnitude.
use Rattle.std.proofs.Common.{◌≡◌, ℕ, ◌+◌, ◌-◌, ◌*◌, ◌/◌, ◌%◌, ◌^◌, ◌<◌, ◌≤◌}
use Rattle.std.proofs.Common.{Bool, true, false, cond, eqb, ◌⊎◌, sym, refl, ap, ◌∙◌}
use Rattle.std.proofs.Common.{subst, ap₂, inl, inr, le_trans}
use Rattle.std.proofs.Common.{le_of_eq, le_refl, lt_of_lt_of_le, lt_of_le_of_lt, le_of_lt}
use Rattle.std.proofs.Common.{mod-lt, mul_assoc, add-mul, mul-lt-mul_of_pos_right, mul-pos}
use Rattle.std.proofs.Common.{div-add-mod', arith, eqb→eq, pow_pos, pow-add}
use native.Mathlib.Nat.{mod-le}
use lib.Arith.{digits_mod}
use lib.Dec.{not_T}
use lib.Ieee.{Float, nan, inf, fin, binary64, up, down, round, rem, add, lt}
use lib.Ieee.Bits.{cond_no}
use lib.Ieee.Digits.{back}
use lib.Ieee.Exact.{HasValue}
use lib.Ieee.Fits.{up_pos, down_pos}
use lib.Ieee.Positive.{first_pos}
use lib.Ieee.Scale.{round_same}
use Rattle.binary64.specs.Units.{one, limit, Finite, mag, negative, plus, minus, of_units, Digits53}
use Rattle.binary64.specs.Constants.{zero64}
use Rattle.binary64.specs.Functions.{rem_euclid, FromZeroTo}
use Rattle.std.proofs.lemmas.Bool.{cases_lt}
use Rattle.binary64.proofs.Values.{crossed}
use Rattle.binary64.proofs.Units.{plus_is, plus_sign, below_zero, not_below_zero, plus_minus, one_pos}
use Rattle.binary64.proofs.Units.{mag_value, mag_digits, mag_limit, of_units_mag, of_units_finite}
use Rattle.binary64.proofs.Rounding.{plus_le, minus_none}
use Rattle.binary64.proofs.Operations.{add_result, result_finite, result_rounded}

-- a common factor comes out of a remainder
mod_scale : (a b k : ℕ) → 0 < b → 0 < k → a * k % (b * k) ≡ a % b * k
mod_scale a b k B K =
    ap (λ (x : ℕ). x % (b * k))
    (ap (λ (x : ℕ). x * k) (sym (div-add-mod' a b)) ∙ add-mul (a / b * b) (a % b) k
    ∙ ap (λ (x : ℕ). x + a % b * k) (mul_assoc (a / b) b k))
    ∙ digits_mod (a / b) (mul-lt-mul_of_pos_right (mod-lt a B) K)

-- x is ±a / c and y is ±b / c
rem_values : (x y : Float) (s t : Bool) (a b c : ℕ) → 0 < b → 0 < c → HasValue x s a c → HasValue y t b c
    → rem binary64 x y ≡ round binary64 s (a % b) c
unfolding rem
rem_values nan y s t a b c B C h k = absurd h
rem_values (inf u) y s t a b c B C h k = absurd h
rem_values (fin u m e) nan s t a b c B C h k = absurd k
rem_values (fin u m e) (inf v) s t a b c B C h k = absurd k
rem_values (fin u m e) (fin v n d) s t a b c B C h k =
    cond_no (eqb n 0) nan (round binary64 u (m * up e * down d % (n * up d * down e)) (down e * down d))
    (not_T (eqb n 0) (λ z. none n N (eqb→eq n 0 z)))
    ∙ ap (λ (i : Bool). round binary64 i (m * up e * down d % (n * up d * down e)) (down e * down d)) h.0
    ∙ round_same binary64 s (m * up e * down d % (n * up d * down e)) (down e * down d) (a % b) c
    (mul-pos (down_pos e) (down_pos d)) C
    (sym (mod_scale (m * up e * down d) (n * up d * down e) c (mul-pos (mul-pos N (up_pos d)) (down_pos e)) C)
    ∙ ap₂ (λ (i j : ℕ). i % j) (crossed (m * up e) (down e) (down d) a c h.1).0
    (crossed (n * up d) (down d) (down e) b c k.1).1
    ∙ mod_scale a b (down e * down d) B (mul-pos (down_pos e) (down_pos d)))
  where
    N : 0 < n
    N = first_pos n (up d) (first_pos (n * up d) c (subst (λ (z : ℕ). 0 < z) (sym k.1) (mul-pos B (down_pos d))))

    none : (n : ℕ) → 0 < n → n ≡ 0 → ⊥
    none n h z = omega arith

-- A remainder of two numbers of 53 digits has 53 digits, so it is exact.
pub mod_digits : (a b : ℕ) → 0 < b → Digits53 a → Digits53 b → Digits53 (a % b)
mod_digits a b B d e = go (cases_lt d.zeros e.zeros)
  where
    shifted : (q j k : ℕ) → k ≤ j → q * 2 ^ j ≡ q * 2 ^ (j - k) * 2 ^ k
    shifted q j k h =
        ap (λ (x : ℕ). q * x) (ap (λ (x : ℕ). 2 ^ x) (sym (back j k h)) ∙ pow-add 2 (j - k) k)
        ∙ sym (mul_assoc q (2 ^ (j - k)) (2 ^ k))

    go : (d.zeros < e.zeros) ⊎ (e.zeros ≤ d.zeros) → Digits53 (a % b)
    go (inl l) =
        let k = d.zeros in
        let q = e.digits * 2 ^ (e.zeros - k) in
        record {
          digits = d.digits % q;
          zeros = k;
          few = lt_of_le_of_lt (mod-le d.digits q) d.few;
          is =
              ap₂ (λ (x y : ℕ). x % y) d.is (e.is ∙ shifted e.digits e.zeros k (le_of_lt l))
              ∙ mod_scale d.digits q (2 ^ k)
              (first_pos q (2 ^ k) (subst (λ (x : ℕ). 0 < x) (e.is ∙ shifted e.digits e.zeros k (le_of_lt l)) B))
              (pow_pos k);
        }
    go (inr l) =
        let k = e.zeros in
        let p = d.digits * 2 ^ (d.zeros - k) in
        let Q = first_pos e.digits (2 ^ k) (subst (λ (x : ℕ). 0 < x) e.is B) in
        record {
          digits = p % e.digits;
          zeros = k;
          few = lt_of_lt_of_le (mod-lt p Q) (le_of_lt e.few);
          is =
              ap₂ (λ (x y : ℕ). x % y) (d.is ∙ shifted d.digits d.zeros k l) e.is
              ∙ mod_scale p e.digits (2 ^ k) Q (pow_pos k);
        }

-- ---- x % y

module _ {x y : Float} (h : Finite x) (k : Finite y) (Y : 0 < mag y) where
  -- x % y is exactly the remainder of the magnitudes, with the sign of x.
  pub rem_is : rem binary64 x y ≡ of_units (negative x) (mag x % mag y)
  rem_is = rem_values x y (negative x) (negative y) (mag x) (mag y) one Y one_pos (mag_value h) (mag_value k)

  few : Digits53 (mag x % mag y)
  few = mod_digits (mag x) (mag y) Y (mag_digits h) (mag_digits k)

  small : mag x % mag y < limit
  small = lt_of_le_of_lt (mod-le (mag x) (mag y)) (mag_limit h)

  pub rem_finite : Finite (rem binary64 x y)
  rem_finite = rw rem_is (of_units_finite (negative x) (mag x % mag y) few small)

  pub rem_mag : mag (rem binary64 x y) ≡ mag x % mag y
  rem_mag = rw rem_is (of_units_mag (negative x) (mag x % mag y) few small)

-- ---- rem_euclid

-- By a finite m above zero it is finite, and lies from 0 to m.
pub rem_euclid_within : {x m : Float} → Finite x → Finite m → 0 < plus m → FromZeroTo (rem_euclid x m) m
rem_euclid_within {x} {m} h k M = go (lt r zero64) refl
  where
    w : (plus m ≡ mag m) × (minus m ≡ 0)
    w = plus_is m (plus_sign m M)

    Y : 0 < mag m
    Y = rw (← w.0) M

    r : Float
    r = rem binary64 x m

    f : Finite r
    f = rem_finite h k Y

    less : mag r < plus m
    less = lt_of_le_of_lt (le_of_eq (rem_mag h k Y)) (lt_of_lt_of_le (mod-lt (mag x) Y) (le_of_eq (sym w.0)))

    go : (b : Bool) → lt r zero64 ≡ b → FromZeroTo (cond b (add binary64 r m) r) m
    go true e =
        let t = add_result f k in
        let s = below_zero f e in
        let p = plus_minus r in
        let g = result_finite (le_refl 1) t (mag_digits k) (omega (arith, less, s, w)) (omega (arith, less, s, w))
        (mag_limit k) in
        let v = result_rounded (le_refl 1) t g in
        record {
          finite = g;
          above = minus_none (le_refl 1) v (omega (arith, less, s, w));
          below = le_trans (plus_le (le_refl 1) v (mag_digits k) (omega (arith, s, w))) (le_of_eq (sym w.0));
        }
    go false e = record { finite = f; above = not_below_zero f e; below = omega (arith, less, plus_minus r) }
