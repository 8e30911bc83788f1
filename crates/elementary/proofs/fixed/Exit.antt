-- The float at the exit: a whole number n times a power of two, which takes two roundings, each off by half a unit of
-- the 53rd digit at most. Rests on the crate binary64, which speaks of a float in units of 2^-1074.
use Rattle.std.proofs.Common.{◌≡◌, ℕ, ◌+◌, ◌*◌, ◌^◌, ◌≤◌, false, pos, sym, ap, ◌∙◌}
use Rattle.std.proofs.Common.{subst, ap₂, le_trans, le_of_eq, mul-le-mul_right, mul_assoc}
use Rattle.std.proofs.Common.{one-mul, mul-one, le_of_mul-le-mul_right, arith, lit<, lit≤}
use lib.Ieee.{Float, binary64, round, mul, of_int, unlike}
use Rattle.binary64.specs.Units.{pow2, one, Finite, mag, negative}
use Rattle.binary64.specs.Magnitude.{Most}
use Rattle.binary64.specs.Rounding.{rnd}
use Rattle.binary64.proofs.Units.{pow2_split, one_pos}
use Rattle.binary64.proofs.Rounding.{rnd_le, rnd_near}
use Rattle.binary64.proofs.Magnitude.{bound_digits, bound_limit, mul_most}
use Rattle.binary64.proofs.Operations.{round_finite, round_mag, round_sign, mul_mag, mul_sign}
use Rattle.binary64.proofs.Whole.{of_int_whole}
use Rattle.elementary.proofs.fixed.Literal.{Literal}

-- x is n grains of 2 ^ g units, without the sign bit, up to 2 ^ r grains for each of the two roundings.
pub record Made (r g n : ℕ) (x : Float) : Type 0 where
  pub most : Most 1 (54 + (r + g)) x
  pub sign : negative x ≡ false
  pub size : mag x ≡ rnd (rnd (n * one) 1 * pow2 g) one
  pub above : mag x ≤ n * pow2 g + 2 * 2 ^ r * pow2 g
  pub below : n * pow2 g ≤ mag x + 2 * 2 ^ r * pow2 g

-- a number of at most 54 + r digits, times a factor of 2 ^ g units
module _ (r g : ℕ) {factor : Float} (l : Literal (pow2 g) factor) (room : 54 + (r + 1074) ≤ 2044)
    (fit : 54 + (r + g) ≤ 2044)
    (n : ℕ) (small : n ≤ 2 ^ 54 * 2 ^ r) where
  abbrev whole : Float
  whole = round binary64 false n 1

  whole_bound : n * one ≤ 2 ^ 54 * pow2 (r + 1074)
  whole_bound =
      le_trans (mul-le-mul_right one small)
      (le_of_eq (mul_assoc (2 ^ 54) (2 ^ r) one ∙ ap (λ (k : ℕ). 2 ^ 54 * k) (sym (pow2_split r 1074))))

  -- the same, as a number of one digit
  one_digit : n * one ≤ 1 * pow2 (54 + (r + 1074)) * 1
  one_digit =
      le_trans whole_bound
      (le_of_eq
      (sym (mul-one (1 * pow2 (54 + (r + 1074))) ∙ one-mul (pow2 (54 + (r + 1074))) ∙ pow2_split 54 (r + 1074))))

  whole_finite : Finite whole
  whole_finite =
      round_finite false n 1 (lit< tt) (bound_digits (54 + (r + 1074)) (lit≤ tt)) (bound_limit (lit≤ tt) room) one_digit

  whole_mag : mag whole ≡ rnd (n * one) 1
  whole_mag = round_mag false n 1 whole_finite

  whole_most : Most 1 (54 + (r + 1074)) whole
  whole_most = record {
    finite = whole_finite;
    bound =
        le_trans (le_of_eq whole_mag)
        (rnd_le (n * one) 1 (lit< tt) (bound_digits (54 + (r + 1074)) (lit≤ tt)) one_digit);
  }

  abbrev product : Float
  product = mul binary64 whole factor

  product_most : Most 1 (54 + (r + g)) product
  product_most =
      mul_most whole_most (record {
        finite =
            l.finite;
        bound = le_of_eq (l.size ∙ sym (one-mul (pow2 g)));
      }) (54 + (r + g)) (omega arith) (lit≤ tt) fit

  product_mag : mag product ≡ rnd (mag whole * pow2 g) one
  product_mag = mul_mag whole_finite l.finite product_most.finite ∙ ap (λ (k : ℕ). rnd (mag whole * k) one) l.size

  product_bound : mag whole * pow2 g ≤ 2 ^ 54 * pow2 (r + g) * one
  product_bound =
      le_trans (mul-le-mul_right (pow2 g) whole_most.bound)
      (le_of_eq
      (ap (λ (k : ℕ). k * pow2 g)
      (one-mul (pow2 (54 + (r + 1074))) ∙ pow2_split 54 (r + 1074) ∙ ap (λ (k : ℕ). 2 ^ 54 * k) (pow2_split r 1074))
      ∙ (omega arith) ∙ ap (λ (k : ℕ). 2 ^ 54 * k * one) (sym (pow2_split r g))))

  whole_near : (mag whole * 1 ≤ n * one + pow2 (r + 1074) * 1) × (n * one ≤ mag whole * 1 + pow2 (r + 1074) * 1)
  whole_near =
      subst (λ (m : ℕ). (m * 1 ≤ n * one + pow2 (r + 1074) * 1) × (n * one ≤ m * 1 + pow2 (r + 1074) * 1))
      (sym whole_mag)
      (rnd_near (n * one) 1 (r + 1074) (lit< tt)
      (le_trans whole_bound (le_of_eq (sym (mul-one (2 ^ 54 * pow2 (r + 1074)))))))

  product_near : (mag product * one ≤ mag whole * pow2 g + pow2 (r + g) * one)
      × (mag whole * pow2 g ≤ mag product * one + pow2 (r + g) * one)
  product_near =
      subst (λ (m : ℕ). (m * one ≤ mag whole * pow2 g + pow2 (r + g) * one)
      × (mag whole * pow2 g ≤ m * one + pow2 (r + g) * one)) (sym product_mag)
      (rnd_near (mag whole * pow2 g) one (r + g) one_pos product_bound)

  product_above : mag product ≤ n * pow2 g + 2 * 2 ^ r * pow2 g
  product_above =
      le_of_mul-le-mul_right
      (at (mag product) (mag whole) n one (pow2 g) (2 ^ r) (pow2 (r + 1074)) (pow2 (r + g)) (pow2_split r 1074)
      (pow2_split r g) product_near.0 (mul-le-mul_right (pow2 g) whole_near.0)) one_pos
    where
      at : (m f n u g d p q : ℕ) → p ≡ d * u → q ≡ d * g → m * u ≤ f * g + q * u → f * 1 * g ≤ (n * u + p * 1) * g
          → m * u ≤ (n * g + 2 * d * g) * u
      at m f n u g d p q a b k i = omega (arith, ap (λ (x : ℕ). x * g) a, ap (λ (x : ℕ). x * u) b)

  product_below : n * pow2 g ≤ mag product + 2 * 2 ^ r * pow2 g
  product_below =
      le_of_mul-le-mul_right
      (at (mag product) (mag whole) n one (pow2 g) (2 ^ r) (pow2 (r + 1074)) (pow2 (r + g)) (pow2_split r 1074)
      (pow2_split r g) product_near.1 (mul-le-mul_right (pow2 g) whole_near.1)) one_pos
    where
      at : (m f n u g d p q : ℕ) → p ≡ d * u → q ≡ d * g → f * g ≤ m * u + q * u → n * u * g ≤ (f * 1 + p * 1) * g
          → n * g * u ≤ (m + 2 * d * g) * u
      at m f n u g d p q a b k i = omega (arith, ap (λ (x : ℕ). x * g) a, ap (λ (x : ℕ). x * u) b)

  pub made : Made r g n (mul binary64 (of_int binary64 (pos n)) factor)
  made = subst (λ (w : Float). Made r g n (mul binary64 w factor)) (sym (of_int_whole (pos n))) (record {
    most = product_most;
    sign = mul_sign whole_finite l.finite product_most.finite ∙ ap₂ unlike (round_sign false n 1 whole_finite) l.sign;
    size = product_mag ∙ ap (λ (k : ℕ). rnd (k * pow2 g) one) whole_mag;
    above = product_above;
    below = product_below;
  })
