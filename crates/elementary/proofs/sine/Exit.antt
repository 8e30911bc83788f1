-- The float at the exit: a fixed-point sine n of at most 2^61 units becomes a float that is at most 1 and within 256
-- units of 2^-61 of n (two roundings, each of half a unit of the 53rd digit). Rests on proofs/fixed/Exit.antt.
use Rattle.std.proofs.Common.{◌≡◌, ℕ, ◌+◌, ◌*◌, ◌^◌, ◌≤◌, Bool, true, false, cond, not, ℤ, pos}
use Rattle.std.proofs.Common.{◌*ℤ◌, sym, refl, ap, ◌∙◌, subst, subst₂}
use Rattle.std.proofs.Common.{le_trans, le_of_eq, mul-le-mul_right}
use Rattle.std.proofs.Common.{mul-le-mul_left, le_of_mul-le-mul_right, arith, lit≤}
use lib.IntN.{*ℤ_comm}
use lib.Ieee.{Float, nan, inf, fin, binary64, up, down, fits, of_bits, neg, mul, of_int}
use lib.Ieee.Exact.{HasValue}
use Rattle.binary64.specs.Units.{pow2, one, mag}
use Rattle.binary64.specs.Magnitude.{Most}
use Rattle.binary64.proofs.Units.{pow2_pos, pow2_split, mag_value, neg_mag, neg_finite, neg_sign}
use Rattle.binary64.proofs.Magnitude.{neg_most}
use Rattle.series.specs.Fraction.{Within, signed, exact}
use Rattle.series.proofs.Integers.{dist}
use Rattle.series.proofs.Quarter.{dist_signed}
use Rattle.series.proofs.Angles.{fraction, signed_scale}
use Rattle.elementary.specs.Sine.{sine_scale}
use Rattle.elementary.proofs.fixed.Literal.{Literal}
use Rattle.elementary.proofs.fixed.Exit.{Made, made}

-- 2^-61 in units, and its multiples
abbrev grain : ℕ
grain = pow2 1013

one_grains : one ≡ 2 ^ 61 * grain
one_grains = pow2_split 61 1013

scale : Literal grain sine_scale
unfolding of_bits fits mag pow2
scale = record { finite = record { fit = tt; number = tt }; sign = refl; size = refl }

-- ---- as a fraction

-- ±n / 2^61 and ±k / d, whose k is m d / one, over a common denominator
parts_near : (t s : Bool) (m n k d : ℕ) → s ≡ t → k * one ≡ m * d → m ≤ n * grain + 256 * grain
    → n * grain ≤ m + 256 * grain →
    dist (signed t n *ℤ pos d) (signed s k *ℤ pos (2 ^ 61)) ≤ 256 * d
parts_near t s m n k d same value p q =
    subst (λ (z : ℤ). dist z (signed s k *ℤ pos (2 ^ 61)) ≤ 256 * d)
    (sym (*ℤ_comm (signed t n) (pos d) ∙ signed_scale t d n))
    (subst (λ (z : ℤ). dist (signed t (d * n)) z ≤ 256 * d)
    (sym (*ℤ_comm (signed s k) (pos (2 ^ 61)) ∙ signed_scale s (2 ^ 61) k
    ∙ ap (λ (b : Bool). signed b (2 ^ 61 * k)) same))
    (dist_signed t (d * n) (2 ^ 61 * k) (256 * d)
    (le_of_mul-le-mul_right (up grain one one_grains value (mul-le-mul_left d q)) (pow2_pos 1013))
    (le_of_mul-le-mul_right (down grain one one_grains value (mul-le-mul_left d p)) (pow2_pos 1013))))
  where
    up : (g o : ℕ) → o ≡ 2 ^ 61 * g → k * o ≡ m * d → d * (n * g) ≤ d * (m + 256 * g)
        → d * n * g ≤ (2 ^ 61 * k + 256 * d) * g
    up g o e h l = omega (arith, ap (λ (x : ℕ). k * x) e)

    down : (g o : ℕ) → o ≡ 2 ^ 61 * g → k * o ≡ m * d → d * m ≤ d * (n * g + 256 * g)
        → 2 ^ 61 * k * g ≤ (d * n + 256 * d) * g
    down g o e h l = omega (arith, ap (λ (x : ℕ). k * x) e)

-- a float of the sign t and of m units, m near n grains, is near ±n / 2^61
float_within : (x : Float) (t : Bool) (m n : ℕ) → HasValue x t m one → m ≤ n * grain + 256 * grain
    → n * grain ≤ m + 256 * grain → Within (fraction t n (2 ^ 61)) (exact x) 256 (2 ^ 61)
unfolding exact dist
float_within nan t m n h p q = absurd h
float_within (inf s) t m n h p q = absurd h
float_within (fin s k e) t m n h p q =
    le_trans (mul-le-mul_right (2 ^ 61) (parts_near t s m n (k * up e) (down e) h.0 h.1 p q)) (le_of_eq (omega arith))

-- ---- the float of a fixed-point sine, with its sign

module _ (n : ℕ) (small : n ≤ 2 ^ 61) where
  abbrev size : Float
  size = mul binary64 (of_int binary64 (pos n)) sine_scale

  size_made : Made 7 1013 n size
  size_made = made 7 1013 scale (lit≤ tt) (lit≤ tt) n small

  pub made_most : (t : Bool) → Most 1 1074 (cond t (neg size) size)
  made_most true = neg_most size_made.most
  made_most false = size_made.most

  signed_value : (t : Bool) → HasValue (cond t (neg size) size) t (mag size) one
  signed_value true =
      let f = size_made.most.finite in
      subst₂ (λ (b : Bool) (m : ℕ). HasValue (neg size) b m one) (neg_sign f ∙ ap not size_made.sign) (neg_mag size)
      (mag_value (neg_finite f))
  signed_value false =
      subst (λ (b : Bool). HasValue size b (mag size) one) size_made.sign (mag_value size_made.most.finite)

  pub made_within : (t : Bool) → Within (fraction t n (2 ^ 61)) (exact (cond t (neg size) size)) 256 (2 ^ 61)
  made_within t = float_within (cond t (neg size) size) t (mag size) n (signed_value t) size_made.above size_made.below
