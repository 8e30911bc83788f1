-- From bits to the radicand and back: the leading digits of a positive float as its bits have them, the radicand that
-- they give, and the bits of the root.
use Rattle.std.proofs.Common.{◌≡◌, ℕ, suc, ◌+◌, ◌-◌, ◌*◌, ◌/◌, ◌%◌, ◌^◌, ◌<◌, ◌≤◌}
use Rattle.std.proofs.Common.{false, not, T, leb, sym, ap, ◌∙◌, subst, ap₂, inr, le_trans}
use Rattle.std.proofs.Common.{le_of_eq, lt_of_lt_of_le, mul-le-mul_right, mod-eq_of_lt, mul_assoc}
use Rattle.std.proofs.Common.{mul_comm, add_comm, lt_of_mul-lt-mul_right}
use Rattle.std.proofs.Common.{mul-le-mul_left, mul-lt-mul_of_pos_right, mul-pos}
use Rattle.std.proofs.Common.{lt_of_not-le, mul_right_comm, not-le_of_lt, le_of_mul-le-mul_right, mul-div_cancel}
use Rattle.std.proofs.Common.{arith, lit<, lit≤, pow_pos, pow_mono, pow-add}
use lib.Arith.{lt→nleb}
use lib.Count.{count_leading_zeros, leading_top}
use lib.Ieee.{binary64, size, of_bits, nan_bits}
use lib.Ieee.Bits.{is_false}
use lib.Ieee.Digits.{size-lt, size-le}
use lib.Ieee.Positive.{first_pos}
use Rattle.binary64.specs.Units.{mag, negative, of_units, Finite}
use Rattle.binary64.proofs.Patterns.{normal_mag, subnormal_mag, pattern_units, pattern_sign, finite_pattern}
use Rattle.binary64.proofs.Units.{not_nan}
use Rattle.elementary.specs.Root.{root, nearest_root}
use Rattle.elementary.specs.RootSteps.{Near, Leading}
use Rattle.elementary.proofs.root.Cases.{root_positive, number_bits}
use Rattle.elementary.proofs.root.Scale.{half, radicand, four_pow, four_pos, root_units_is}
use Rattle.elementary.proofs.root.Whole.{near, near_over, near_under}

-- a normal number: its 53 digits stand in the bits, the first of them unwritten
pub leading_normal : (b : ℕ) → 2 ^ 52 ≤ b → b < 2047 * 2 ^ 52
    → Leading (mag (of_bits binary64 b)) (b % 2 ^ 52 + 2 ^ 52) (b / 2 ^ 52 + 51)
leading_normal b l h =
    let x = b / 2 ^ 52 - 1 in
    let t = b % 2 ^ 52 in
    let e : b ≡ suc x * 2 ^ 52 + t = omega arith in
    let k : b / 2 ^ 52 + 51 ≡ x + 52 = omega arith in
    let is : mag (of_bits binary64 b) ≡ (2 ^ 52 + t) * 2 ^ x =
    ap (λ (z : ℕ). mag (of_bits binary64 z)) e ∙ normal_mag x t (omega arith) (omega arith) in
    record {
      is =
          ap (λ (z : ℕ). (t + 2 ^ 52) * 2 ^ z) k
          ∙ ap (λ (z : ℕ). (t + 2 ^ 52) * z) (pow-add 2 x 52)
          ∙ sym (mul_assoc (t + 2 ^ 52) (2 ^ x) (2 ^ 52))
          ∙ ap (λ (z : ℕ). z * 2 ^ x * 2 ^ 52) (add_comm t (2 ^ 52))
          ∙ ap (λ (z : ℕ). z * 2 ^ 52) (sym is);
      least = omega arith;
      most = omega arith;
      range = omega arith;
    }

-- the zeros before a subnormal number's digits, and the place j of the first
zeros : (b : ℕ) → 0 < b → b < 2 ^ 52
    → (j : ℕ) × (count_leading_zeros 64 b + suc j ≡ 64) × (j < 52) × (2 ^ j ≤ b) × (b < 2 ^ suc j)
zeros b p h =
    let t = leading_top 64 b p (lt_of_lt_of_le h (lit≤ tt)) in
    (t.0, t.1, lt_of_not-le (λ (g : 52 ≤ t.0). not-le_of_lt h (le_trans (pow_mono g) t.2)), t.2, t.3)

pub zeros_range : (b : ℕ) → 0 < b → b < 2 ^ 52 → (11 ≤ count_leading_zeros 64 b) × (count_leading_zeros 64 b ≤ 63)
zeros_range b p h = let z = zeros b p h in (omega (arith, z.1, z.2), omega (arith, z.1))

-- a subnormal number: its bits are the number of units, shifted up to 53 digits
pub leading_subnormal : (b : ℕ) → 0 < b → b < 2 ^ 52
    → Leading (mag (of_bits binary64 b)) (b * 2 ^ (count_leading_zeros 64 b - 11) % 2 ^ 64)
    (63 - count_leading_zeros 64 b)
leading_subnormal b p h =
    let t = zeros b p h in
    let z = count_leading_zeros 64 b in
    let j = t.0 in
    let s = z - 11 in
    let j_is : 63 - z ≡ j = omega (arith, t.1) in
    let s_is : s + j ≡ 52 = omega (arith, t.1, t.2) in
    let above : suc j + s ≡ 53 = omega arith in
    let below : 52 ≡ j + s = omega arith in
    let most : b * 2 ^ s < 2 ^ 53 =
    lt_of_lt_of_le (mul-lt-mul_of_pos_right t.4 (pow_pos s))
    (le_of_eq (sym (pow-add 2 (suc j) s) ∙ ap (λ (y : ℕ). 2 ^ y) above)) in
    let least : 2 ^ 52 ≤ b * 2 ^ s =
    le_trans (le_of_eq (ap (λ (y : ℕ). 2 ^ y) below ∙ pow-add 2 j s)) (mul-le-mul_right (2 ^ s) t.3) in
    let e : b * 2 ^ s % 2 ^ 64 ≡ b * 2 ^ s = mod-eq_of_lt (lt_of_lt_of_le most (lit≤ tt)) in
    record {
      is =
          ap (λ (y : ℕ). y * 2 ^ (63 - z)) e
          ∙ ap (λ (y : ℕ). b * 2 ^ s * 2 ^ y) j_is
          ∙ mul_assoc b (2 ^ s) (2 ^ j)
          ∙ ap (λ (y : ℕ). b * y) (sym (pow-add 2 s j) ∙ ap (λ (y : ℕ). 2 ^ y) s_is)
          ∙ ap (λ (y : ℕ). y * 2 ^ 52) (sym (subnormal_mag b h));
      least = subst (λ (y : ℕ). 2 ^ 52 ≤ y) (sym e) least;
      most = subst (λ (y : ℕ). y < 2 ^ 53) (sym e) most;
      range = omega arith;
    }

-- ---- the radicand by the leading digits

module _ (n m lead : ℕ) (l : Leading n m lead) where
  -- n has lead + 1 digits
  leading_size : size n ≡ suc lead
  leading_size = omega (
    arith,
    size-le n (suc lead) (lt_of_mul-lt-mul_right (2 ^ 52)
        (subst (λ (z : ℕ). z < 2 ^ suc lead * 2 ^ 52) l.is
        (lt_of_lt_of_le (mul-lt-mul_of_pos_right l.most (pow_pos lead))
        (le_of_eq (sym (pow-add 2 53 lead) ∙ ap (λ (z : ℕ). 2 ^ z) (omega arith) ∙ pow-add 2 (suc lead) 52))))),
    lt_of_not-le (λ (g : size n ≤ lead). not-le_of_lt (lt_of_lt_of_le (size-lt n) (pow_mono g))
        (le_of_mul-le-mul_right {k = 2 ^ 52}
        (subst (λ (z : ℕ). 2 ^ lead * 2 ^ 52 ≤ z) l.is
        (subst (λ (z : ℕ). z ≤ m * 2 ^ lead) (mul_comm (2 ^ 52) (2 ^ lead)) (mul-le-mul_right (2 ^ lead) l.least)))
        (pow_pos 52))),
  )

  pub leading_half : half n ≡ lead / 2
  leading_half = ap (λ (z : ℕ). (z - 1) / 2) leading_size ∙ ap (λ (z : ℕ). z / 2) (omega arith)

  -- an odd exponent gives its odd one to the radicand
  pub leading_radicand : radicand n ≡ m * 2 ^ (lead % 2) * 2 ^ 52
  leading_radicand =
      let h = lead / 2 in
      let o = lead % 2 in
      let e : lead ≡ o + (h + h) = omega arith in
      let is : n * 2 ^ 104 ≡ m * 2 ^ o * 2 ^ 52 * 4 ^ h =
      sym (mul_assoc n (2 ^ 52) (2 ^ 52))
      ∙ ap (λ (z : ℕ). z * 2 ^ 52)
      (sym l.is ∙ ap (λ (z : ℕ). m * 2 ^ z) e ∙ ap (λ (z : ℕ). m * z) (pow-add 2 o (h + h))
      ∙ sym (mul_assoc m (2 ^ o) (2 ^ (h + h))) ∙ ap (λ (z : ℕ). m * 2 ^ o * z) (sym (four_pow h)))
      ∙ mul_right_comm (m * 2 ^ o) (4 ^ h) (2 ^ 52) in
      ap (λ (z : ℕ). n * 2 ^ 104 / 4 ^ z) leading_half ∙ ap (λ (z : ℕ). z / 4 ^ h) is
      ∙ mul-div_cancel (m * 2 ^ o * 2 ^ 52) (four_pos h)

-- ---- the root's bits

-- the radicand's digits: 53, or 54 of which the last is 0
pub radicand_digits : (m lead : ℕ) → 2 ^ 52 ≤ m → m < 2 ^ 53
    → (m * 2 ^ (lead % 2) % 2 ^ 64 ≡ m * 2 ^ (lead % 2)) × (2 ^ 52 ≤ m * 2 ^ (lead % 2))
    × (m * 2 ^ (lead % 2) + 1 < 2 ^ 54)
radicand_digits m lead l h = go (2 ^ (lead % 2)) (pow_pos (lead % 2)) (pow_mono {i = lead % 2} {j = 1} (omega arith))
  where
    go : (p : ℕ) → 1 ≤ p → p ≤ 2 → (m * p % 2 ^ 64 ≡ m * p) × (2 ^ 52 ≤ m * p) × (m * p + 1 < 2 ^ 54)
    go p a b =
        let c = mul-le-mul_left m a in
        let d = mul-le-mul_left m b in
        (omega arith, omega arith, omega arith)

-- the nearest whole root has 53 digits
pub nearest_digits : (m : ℕ) → 2 ^ 52 ≤ m → m + 1 < 2 ^ 54
    → (2 ^ 52 ≤ nearest_root 53 (m * 2 ^ 52)) × (nearest_root 53 (m * 2 ^ 52) < 2 ^ 53)
nearest_digits m l h =
    let q = nearest_root 53 (m * 2 ^ 52) in
    let n : Near (m * 2 ^ 52) q = near 53 (m * 2 ^ 52) (omega arith) (omega arith) in
    (near_over (m * 2 ^ 52) q (2 ^ 52) n (omega arith), near_under (m * 2 ^ 52) q (2 ^ 53) n (omega arith))

-- a pattern of digits below the infinity's is a finite number not below zero
module _ (b m lead : ℕ) (h : b < 2047 * 2 ^ 52) (l : Leading (mag (of_bits binary64 b)) m lead) where
  finite_b : Finite (of_bits binary64 b)
  finite_b = finite_pattern b (omega arith)

  sign_b : negative (of_bits binary64 b) ≡ false
  sign_b = pattern_sign b (not_nan finite_b) ∙ is_false (leb (2 ^ 63) b) (lt→nleb (2 ^ 63) b (omega arith))

  some_b : 0 < mag (of_bits binary64 b)
  some_b =
      first_pos (mag (of_bits binary64 b)) (2 ^ 52)
      (subst (λ (z : ℕ). 0 < z) l.is (mul-pos (lt_of_lt_of_le (lit< tt) l.least) (pow_pos lead)))

  -- The root's bits are its exponent's field, less one, and its 53 digits. No shift loses a digit.
  module _ (q : ℕ) (e : q ≡ nearest_root 53 (m * 2 ^ (lead % 2) % 2 ^ 64 * 2 ^ 52)) where
    digits_are : q ≡ nearest_root 53 (m * 2 ^ (lead % 2) * 2 ^ 52)
    digits_are = e ∙ ap (λ (z : ℕ). nearest_root 53 (z * 2 ^ 52)) (radicand_digits m lead l.least l.most).0

    digits_53 : (2 ^ 52 ≤ q) × (q < 2 ^ 53)
    digits_53 =
        let r = radicand_digits m lead l.least l.most in
        subst (λ (z : ℕ). (2 ^ 52 ≤ z) × (z < 2 ^ 53)) (sym digits_are) (nearest_digits (m * 2 ^ (lead % 2)) r.1 r.2)

    pub root_bits_fit : (lead / 2 + 485) * 2 ^ 52 % 2 ^ 64 + q < 2046 * 2 ^ 52
    root_bits_fit = omega (arith, l.range, digits_53)

    pub root_bits_number : T (not (nan_bits binary64 ((lead / 2 + 485) * 2 ^ 52 % 2 ^ 64 + q)))
    root_bits_number = number_bits _ (omega (arith, root_bits_fit))

    pub root_bits : of_bits binary64 ((lead / 2 + 485) * 2 ^ 52 % 2 ^ 64 + q) ≡ root (of_bits binary64 b)
    root_bits =
        let n = mag (of_bits binary64 b) in
        let k = lead / 2 + 485 in
        let shifted : k * 2 ^ 52 % 2 ^ 64 + q ≡ 0 + (k * 2 ^ 52 + q) = omega (arith, l.range) in
        ap (of_bits binary64) shifted
        ∙ pattern_units false k q digits_53.1 (omega (arith, l.range)) (inr digits_53.0)
        ∙ ap (of_units false)
        (ap₂ (λ (x j : ℕ). x * 2 ^ j) digits_are (add_comm (lead / 2) 485)
        ∙ sym (root_units_is n
        ∙ ap₂ (λ (x j : ℕ). nearest_root 53 x * 2 ^ (485 + j)) (leading_radicand n m lead l)
        (leading_half n m lead l)))
        ∙ sym (root_positive finite_b sign_b some_b)
