-- The tangent: the quotient of the coordinates is at most 1, scaling it by 2^64 is exact, and, cut, it is within 1025 ×
-- 2^-64 of the exact one.
use Rattle.std.proofs.Common.{◌≡◌, ℕ, zero, suc, ◌+◌, ◌-◌, ◌*◌, ◌/◌, ◌^◌, ◌<◌, ◌≤◌, Bool, true, false, cond, T, pos}
use Rattle.std.proofs.Common.{sym, refl, ap, ◌∙◌, subst, ap₂, le_trans, le_of_eq, mul-le-mul_right}
use Rattle.std.proofs.Common.{suc-mul, mul_comm, one-mul, zero-mul}
use Rattle.std.proofs.Common.{mul-one, le_of_mul-le-mul_right, arith, lit≤, leb→le}
use lib.Ieee.{Float, fin, binary64, fits, of_bits, mul, div, lt, to_unsigned, unlike}
use Rattle.binary64.specs.Units.{pow2, one, mag, negative, plus, minus}
use Rattle.binary64.specs.Constants.{one64}
use Rattle.binary64.specs.Magnitude.{Most}
use Rattle.binary64.specs.Rounding.{rnd}
use Rattle.binary64.proofs.Units.{pow2_is, pow2_split, one_pos, plus_is, units_of_lt, units_of_not_lt}
use Rattle.binary64.proofs.Constants.{one64_mag, one64_sign, one64_most}
use Rattle.binary64.proofs.Rounding.{rnd_near, rnd_zero}
use Rattle.binary64.proofs.Operations.{div_mag, div_sign}
use Rattle.binary64.proofs.Magnitude.{div_most}
use Rattle.series.proofs.Alternating.{quotient_above, quotient_below}
use Rattle.elementary.specs.Arctangent.{tangent, tangent_scale}
use Rattle.elementary.specs.ArctangentSteps.{InQuarter, Ordered}
use Rattle.elementary.proofs.fixed.Literal.{Literal}
use Rattle.elementary.proofs.fixed.Entry as fixed

scale : Literal (pow2 1138) tangent_scale
unfolding of_bits fits mag pow2
scale = record { finite = record { fit = tt; number = tt }; sign = refl; size = refl }

-- ---- the smaller coordinate over the larger

pub below_diagonal : {x y : Float} → InQuarter x y → lt x y ≡ true → Ordered x y
below_diagonal {x} {y} p t = record {
  point = p;
  order =
      less (plus x) (minus x) (plus y) (minus y) (mag x) (mag y) (plus_is x p.x_sign) (plus_is y p.y_sign)
      (units_of_lt p.x_finite p.y_finite t);
}
  where
    less : (a b c d m n : ℕ) → (a ≡ m) × (b ≡ 0) → (c ≡ n) × (d ≡ 0) → a + d < c + b → m ≤ n
    less a b c d m n p q h = omega arith

pub above_diagonal : {x y : Float} → InQuarter x y → lt x y ≡ false → Ordered y x
above_diagonal {x} {y} p t = record {
  point = record {
    x_finite = p.y_finite;
    y_finite = p.x_finite;
    x_sign = p.y_sign;
    y_sign = p.x_sign;
    some = omega (arith, p.some);
  };
  order =
      less (plus x) (minus x) (plus y) (minus y) (mag x) (mag y) (plus_is x p.x_sign) (plus_is y p.y_sign)
      (units_of_not_lt p.x_finite p.y_finite t);
}
  where
    less : (a b c d m n : ℕ) → (a ≡ m) × (b ≡ 0) → (c ≡ n) × (d ≡ 0) → c + b ≤ a + d → n ≤ m
    less a b c d m n p q h = omega arith

-- the smaller over the larger, on either side of the diagonal
pub ruleset ordered = (below_diagonal, above_diagonal)

module _ {low high : Float} (o : Ordered low high) where
  abbrev q : Float
  q = div binary64 low high

  pub high_pos : 0 < mag high
  high_pos = omega (arith, o.point.some, o.order)

  quotient_most : Most 1 1074 q
  quotient_most =
      div_most (record {
        finite = o.point.x_finite;
        bound = le_trans o.order (le_of_eq (same (mag high)));
      }) (record {
        finite = o.point.y_finite;
        bound = le_of_eq (sym (same (mag high)));
      })
      1 1074 refl high_pos (le_of_eq (sym (one-mul (mag high)))) (leb→le 1 (2 ^ 53) tt) (leb→le 1074 2044 tt)
    where
      same : (m : ℕ) → m ≡ m * pow2 0
      same m = sym (ap (λ (k : ℕ). m * k) (pow2_is 0) ∙ mul-one m)

  quotient_sign : negative q ≡ false
  quotient_sign =
      div_sign o.point.x_finite o.point.y_finite high_pos quotient_most.finite
      ∙ ap₂ unlike o.point.x_sign o.point.y_sign

  quotient_mag : mag q ≡ rnd (mag low * one) (mag high)
  quotient_mag = div_mag o.point.x_finite o.point.y_finite high_pos quotient_most.finite

  quotient_one : mag q ≤ one
  quotient_one = le_trans quotient_most.bound (le_of_eq (one-mul one))

  abbrev scaled : Float
  scaled = mul binary64 q tangent_scale

  below_one : lt q one64 ≡ true → mag q < one
  below_one t =
      less (plus q) (minus q) (mag q) (plus one64) (minus one64) one (plus_is q quotient_sign)
      ((plus_is one64 one64_sign).0 ∙ one64_mag) (plus_is one64 one64_sign).1
      (units_of_lt quotient_most.finite one64_most.finite t)
    where
      less : (p n m a b u : ℕ) → (p ≡ m) × (n ≡ 0) → a ≡ u → b ≡ 0 → p + b < a + n → m < u
      less p n m a b u h c d k = omega arith

  from_one : lt q one64 ≡ false → one ≤ mag q
  from_one t =
      omega (
        arith,
        plus_is q quotient_sign,
        (plus_is one64 one64_sign).0
            ∙ one64_mag,
        (plus_is one64 one64_sign).1,
        units_of_not_lt quotient_most.finite one64_most.finite t,
      )

  -- the scaled quotient can be cut to 64 bits
  pub above_minus_one : T (lt (fin true 1 (pos 0)) scaled)
  above_minus_one = fixed.above_minus_one 64 quotient_most quotient_sign scale (lit≤ tt) (lit≤ tt)

  module _ (t : lt q one64 ≡ true) where
    scaled_small : mag q * 2 ^ 64 < 2 ^ 64 * one
    scaled_small = less (mag q) one (below_one t)
      where
        less : (m u : ℕ) → m < u → m * 2 ^ 64 < 2 ^ 64 * u
        less m u h = omega arith

    pub below_top : T (lt scaled (fin false 1 (pos 64)))
    below_top = fixed.below-2^64 64 quotient_most quotient_sign scale (lit≤ tt) (lit≤ tt) scaled_small

    tangent_below_one : to_unsigned 64 scaled ≡ mag q * 2 ^ 64 / one
    tangent_below_one = fixed.cut_is 64 quotient_most quotient_sign scale (lit≤ tt) (lit≤ tt) scaled_small

    small_below_one : mag q * 2 ^ 64 / one < 2 ^ 64
    small_below_one = fixed.cut_small 64 quotient_most quotient_sign scale (lit≤ tt) (lit≤ tt) scaled_small

  -- ---- the tangent against the coordinates

  -- the quotient, cut, in units of 2^-64
  record Cut (n : ℕ) : Type 0 where
    small : n < 2 ^ 64
    low_end : n * one ≤ mag q * 2 ^ 64
    high_end : mag q * 2 ^ 64 ≤ n * one + one

  cut_below : lt q one64 ≡ true → Cut (mag q * 2 ^ 64 / one)
  cut_below t = record {
    small = small_below_one t;
    low_end = quotient_above (mag q * 2 ^ 64) one;
    high_end = quotient_below (mag q * 2 ^ 64) one one_pos;
  }

  cut_top : one ≤ mag q → Cut (2 ^ 64 - 1)
  cut_top l = record {
    small = leb→le (2 ^ 64) (2 ^ 64) tt;
    low_end = at (mag q) one l;
    high_end = up_to (mag q) one quotient_one;
  }
    where
      at : (m u : ℕ) → u ≤ m → 18446744073709551615 * u ≤ m * 2 ^ 64
      at m u h = omega arith

      up_to : (m u : ℕ) → m ≤ u → m * 2 ^ 64 ≤ 18446744073709551615 * u + u
      up_to m u h = omega arith

  tangent_cut : Cut (tangent low high)
  unfolding tangent
  tangent_cut = go (lt q one64) refl
    where
      go : (b : Bool) → lt q one64 ≡ b → Cut (cond b (to_unsigned 64 scaled) (2 ^ 64 - 1))
      go true t = subst Cut (sym (tangent_below_one t)) (cut_below t)
      go false t = cut_top (from_one t)

  pub tangent_small : tangent low high < 2 ^ 64
  tangent_small = tangent_cut.small

  -- of nothing it is 0
  pub tangent_zero : mag low ≡ 0 → tangent low high ≡ 0
  tangent_zero z =
      none (tangent low high) (mag q) one one_pos
      (quotient_mag ∙ ap (λ (m : ℕ). rnd (m * one) (mag high)) z ∙ ap (λ (m : ℕ). rnd m (mag high)) (zero-mul one)
      ∙ rnd_zero (mag high) high_pos) tangent_cut.low_end
    where
      none : (n m u : ℕ) → 0 < u → m ≡ 0 → n * u ≤ m * 2 ^ 64 → n ≡ 0
      none zero m u l e h = refl
      none (suc n) m u l e h = absurd (omega (arith, le_trans (le_of_eq (sym (suc-mul n u))) h))

  quotient_near : (mag q * mag high ≤ mag low * one + pow2 1020 * mag high)
      × (mag low * one ≤ mag q * mag high + pow2 1020 * mag high)
  quotient_near =
      subst (λ (m : ℕ). (m * mag high ≤ mag low * one + pow2 1020 * mag high)
      × (mag low * one ≤ m * mag high + pow2 1020 * mag high)) (sym quotient_mag)
      (rnd_near (mag low * one) (mag high) 1020 high_pos
      (le_trans (mul-le-mul_right one o.order)
      (le_of_eq (mul_comm (mag high) one ∙ ap (λ (k : ℕ). k * mag high) (pow2_split 54 1020)))))

  -- n / 2^64 is low / high, to 1025 × 2^-64
  pub tangent_above : tangent low high * mag high ≤ 2 ^ 64 * mag low + 1025 * mag high
  tangent_above =
      le_of_mul-le-mul_right
      (at (tangent low high) (mag q) (mag low) (mag high) one (pow2 1020) (pow2_split 54 1020)
      (mul-le-mul_right (mag high) tangent_cut.low_end) quotient_near.0) one_pos
    where
      at : (n m a c u e : ℕ) → u ≡ 2 ^ 54 * e → n * u * c ≤ m * 2 ^ 64 * c → m * c ≤ a * u + e * c
          → n * c * u ≤ (2 ^ 64 * a + 1025 * c) * u
      at n m a c u e p h k = omega (arith, ap (λ (x : ℕ). x * c) p)

  pub tangent_below : 2 ^ 64 * mag low ≤ tangent low high * mag high + 1025 * mag high
  tangent_below =
      le_of_mul-le-mul_right
      (at (tangent low high) (mag q) (mag low) (mag high) one (pow2 1020) (pow2_split 54 1020)
      (mul-le-mul_right (mag high) tangent_cut.high_end) quotient_near.1) one_pos
    where
      at : (n m a c u e : ℕ) → u ≡ 2 ^ 54 * e → m * 2 ^ 64 * c ≤ (n * u + u) * c → a * u ≤ m * c + e * c
          → 2 ^ 64 * a * u ≤ (n * c + 1025 * c) * u
      at n m a c u e p h k = omega (arith, ap (λ (x : ℕ). x * c) p)

-- the scaled quotient is cut to a u64
pub ruleset in_u64 = (above_minus_one, below_top)
