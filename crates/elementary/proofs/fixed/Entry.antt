-- The float at the entry: a float without the sign bit, times a power of two, cut to a whole number of 64 bits. The
-- product is exact, and below 2^64 the cut asks for no more. Rests on the crate binary64, which speaks of a float in
-- units of 2^-1074.
use Rattle.std.proofs.Common.{◌≡◌, ℕ, ◌+◌, ◌-◌, ◌*◌, ◌/◌, ◌^◌, ◌<◌, ◌≤◌, min, true, false, T, pos, sym}
use Rattle.std.proofs.Common.{refl, ap, ◌∙◌, subst, ap₂, le_trans, le_of_eq, mul_assoc}
use Rattle.std.proofs.Common.{mul_comm, div-lt_iff_lt-mul, add_comm, one-mul, mul-one, arith, leb→le, pow-add}
use native.Mathlib.Nat.{mul-div-mul_right}
use lib.Ieee.{Float, nan, inf, fin, binary64, up, down, fits, mul, lt, to_unsigned, unlike}
use lib.Ieee.Fits.{down_pos}
use Rattle.binary64.specs.Units.{pow2, one, Finite, mag, negative, plus, minus, Digits53}
use Rattle.binary64.specs.Magnitude.{Most}
use Rattle.binary64.specs.Rounding.{rnd}
use Rattle.binary64.proofs.Units.{pow2_split, one_pos, mag_exact, mag_digits, plus_is, lt_of_units}
use Rattle.binary64.proofs.Rounding.{rnd_exact}
use Rattle.binary64.proofs.Operations.{mul_mag, mul_sign}
use Rattle.binary64.proofs.Magnitude.{mul_most}
use Rattle.elementary.proofs.fixed.Literal.{Literal}

-- ---- the ends of what can be cut: -1 and 2^64

minus_one_finite : Finite (fin true 1 (pos 0))
unfolding fits
minus_one_finite = record { fit = tt; number = tt }

minus_one_parts : (plus (fin true 1 (pos 0)) ≡ 0) × (0 < minus (fin true 1 (pos 0)))
unfolding plus minus mag pow2
minus_one_parts = (refl, leb→le 1 (2 ^ 1074) tt)

top : Literal (pow2 1138) (fin false 1 (pos 64))
unfolding fits mag pow2
top = record { finite = record { fit = tt; number = tt }; sign = refl; size = refl }

-- a float without the sign bit, cut to a whole number
cut_units : {x : Float} → Finite x → negative x ≡ false → mag x / one < 2 ^ 64 → to_unsigned 64 x ≡ mag x / one
unfolding to_unsigned
cut_units {x = nan} f s l = absurd f.number
cut_units {x = inf s} f t l = absurd f.number
cut_units {x = fin true n e} f s l = absurd (subst T s tt)
cut_units {x = fin false n e} f s l = ap (λ (k : ℕ). min k (2 ^ 64 - 1)) whole ∙ (omega arith)
  where
    whole : n * up e / down e ≡ mag (fin false n e) / one
    whole =
        sym (mul-div-mul_right (n * up e) (down e) one_pos)
        ∙ ap₂ (λ (a b : ℕ). a / b) (sym (mag_exact false n e f.fit)) (mul_comm (down e) one)
        ∙ mul-div-mul_right (mag (fin false n e)) one (down_pos e)

-- ---- x times the factor 2^k

module _ {j : ℕ} (k : ℕ) {x factor : Float} (m : Most j 1074 x) (s : negative x ≡ false)
    (p : Literal (pow2 (k + 1074)) factor) (few : j ≤ 2 ^ 53) (room : k + 1074 ≤ 2044) where
  abbrev scaled : Float
  scaled = mul binary64 x factor

  scaled_finite : Finite scaled
  scaled_finite =
      (mul_most m (record { finite = p.finite; bound = le_of_eq (p.size ∙ sym (one-mul (pow2 (k + 1074)))) }) (k + 1074)
      (add_comm 1074 (k + 1074)) (le_trans (le_of_eq (mul-one j)) few) room).finite

  scaled_sign : negative scaled ≡ false
  scaled_sign = mul_sign m.finite p.finite scaled_finite ∙ ap₂ unlike s p.sign

  -- the factor changes the exponent alone
  scaled_mag : mag scaled ≡ mag x * 2 ^ k
  scaled_mag =
      mul_mag m.finite p.finite scaled_finite
      ∙ ap (λ (i : ℕ). rnd i one)
      (ap (λ (i : ℕ). mag x * i) (p.size ∙ pow2_split k 1074) ∙ sym (mul_assoc (mag x) (2 ^ k) one))
      ∙ rnd_exact (mag x * 2 ^ k) one one_pos (more (mag_digits m.finite))
    where
      more : Digits53 (mag x) → Digits53 (mag x * 2 ^ k)
      more d = record {
        digits = d.digits;
        zeros = d.zeros + k;
        few = d.few;
        is =
            ap (λ (i : ℕ). i * 2 ^ k) d.is ∙ mul_assoc d.digits (2 ^ d.zeros) (2 ^ k)
            ∙ ap (λ (i : ℕ). d.digits * i) (sym (pow-add 2 d.zeros k));
      }

  -- what the cut asks: above -1, and below 2^64
  pub above_minus_one : T (lt (fin true 1 (pos 0)) scaled)
  above_minus_one =
      subst T (sym
      (lt_of_units minus_one_finite scaled_finite
      (less (plus (fin true 1 (pos 0))) (minus (fin true 1 (pos 0))) (plus scaled) (minus scaled) minus_one_parts
      (plus_is scaled scaled_sign).1))) tt
    where
      less : (a b p n : ℕ) → (a ≡ 0) × (0 < b) → n ≡ 0 → a + n < p + b
      less a b p n h k = omega arith

  module _ (small : mag x * 2 ^ k < 2 ^ 64 * one) where
    pub below-2^64 : T (lt scaled (fin false 1 (pos 64)))
    below-2^64 =
        let w = plus_is scaled scaled_sign in
        let t = plus_is (fin false 1 (pos 64)) top.sign in
        subst T (sym
        (lt_of_units scaled_finite top.finite
        (less (plus scaled) (minus scaled) (plus (fin false 1 (pos 64))) (minus (fin false 1 (pos 64)))
        (mag x * 2 ^ k) one (w.0 ∙ scaled_mag) w.1 (t.0 ∙ top.size ∙ pow2_split 64 1074) t.1 small))) tt
      where
        less : (p n a b i u : ℕ) → p ≡ i → n ≡ 0 → a ≡ 2 ^ 64 * u → b ≡ 0 → i < 2 ^ 64 * u → p + b < a + n
        less p n a b i u c d e f h = omega arith

    -- and what it gives
    pub cut_small : mag x * 2 ^ k / one < 2 ^ 64
    cut_small = (div-lt_iff_lt-mul one_pos).1 small

    pub cut_is : to_unsigned 64 scaled ≡ mag x * 2 ^ k / one
    cut_is =
        cut_units scaled_finite scaled_sign (subst (λ (i : ℕ). i / one < 2 ^ 64) (sym scaled_mag) cut_small)
        ∙ ap (λ (i : ℕ). i / one) scaled_mag
