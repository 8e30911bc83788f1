-- The float at the entry: inside the domain it is finite, and the angle is |v| × 2^59 cut, at most 2^63.
-- Rests on the crate binary64 and on proofs/fixed/Entry.antt.
use Rattle.std.proofs.Common.{◌≡◌, ℕ, ◌*◌, ◌/◌, ◌^◌, ◌<◌, ◌≤◌, true, false, T}
use Rattle.std.proofs.Common.{pos, refl, ap, ◌∙◌, le_trans}
use Rattle.std.proofs.Common.{le_of_eq, div-mul-le_self, le_of_mul-le-mul_right, arith, lit≤}
use lib.Ieee.{Float, fin, binary64, fits, of_bits, mul, lt, le, to_unsigned}
use Rattle.binary64.specs.Units.{pow2, one, mag}
use Rattle.binary64.specs.Functions.{absolute}
use Rattle.binary64.specs.Magnitude.{Most}
use Rattle.binary64.proofs.Units.{one_pos}
use Rattle.binary64.proofs.Functions.{absolute_sign, absolute_mag, absolute_most}
use Rattle.elementary.specs.Sine.{sixteen, angle_scale, angle}
use Rattle.elementary.proofs.fixed.Literal.{Literal, most_of_test, test_of_most}
use Rattle.elementary.proofs.fixed.Entry as fixed

-- ---- the constants

sixteen_units : Literal (16 * one) sixteen
unfolding of_bits fits mag pow2
sixteen_units = record { finite = record { fit = tt; number = tt }; sign = refl; size = refl }

scale : Literal (pow2 1133) angle_scale
unfolding of_bits fits mag pow2
scale = record { finite = record { fit = tt; number = tt }; sign = refl; size = refl }

-- ---- the domain: finite and at most 16

pub inside_domain : {v : Float} → T (fits binary64 v) → le (absolute v) sixteen ≡ true → Most 16 1074 v
inside_domain = most_of_test 16 sixteen_units

pub domain_inside : {v : Float} → Most 16 1074 v → le (absolute v) sixteen ≡ true
domain_inside = test_of_most 16 sixteen_units

-- ---- the angle

module _ {v : Float} (m : Most 16 1074 v) where
  size : mag (absolute v) * 2 ^ 59 ≤ 2 ^ 63 * one
  size = omega (arith, (absolute_most m).bound)

  small : mag (absolute v) * 2 ^ 59 < 2 ^ 64 * one
  small = less (mag (absolute v) * 2 ^ 59) one one_pos size
    where
      less : (n o : ℕ) → 0 < o → n ≤ 2 ^ 63 * o → n < 2 ^ 64 * o
      less n o h k = omega arith

  asks : T (lt (fin true 1 (pos 0)) (mul binary64 (absolute v) angle_scale))
      × T (lt (mul binary64 (absolute v) angle_scale) (fin false 1 (pos 64)))
  asks = (
    fixed.above_minus_one 59 (absolute_most m) (absolute_sign v) scale (lit≤ tt) (lit≤ tt),
    fixed.below-2^64 59 (absolute_most m) (absolute_sign v) scale (lit≤ tt) (lit≤ tt) small,
  )

  cut : angle v ≡ mag (absolute v) * 2 ^ 59 / one
  cut = fixed.cut_is 59 (absolute_most m) (absolute_sign v) scale (lit≤ tt) (lit≤ tt) small

  -- it is |v| × 2^59, cut
  pub angle_is : angle v ≡ mag v * 2 ^ 59 / one
  angle_is = cut ∙ ap (λ (k : ℕ). k * 2 ^ 59 / one) (absolute_mag v)

  pub angle_small : angle v ≤ 2 ^ 63
  angle_small =
      le_trans (le_of_eq cut)
      (le_of_mul-le-mul_right (le_trans (div-mul-le_self (mag (absolute v) * 2 ^ 59) one) size) one_pos)

-- what `angle` asks and gives, of the |v| that it was handed
module _ (v x : Float) (t : T (fits binary64 v)) (inside : le (absolute v) sixteen ≡ true) (is : x ≡ absolute v) where
  pub cut_asks : T (lt (fin true 1 (pos 0)) (mul binary64 x angle_scale))
      × T (lt (mul binary64 x angle_scale) (fin false 1 (pos 64)))
  cut_asks = rw is (asks (inside_domain t inside))

  pub cut_bound : (r : ℕ) → r ≡ to_unsigned 64 (mul binary64 x angle_scale) → r ≤ 2 ^ 63
  cut_bound r e =
      le_trans (le_of_eq (e ∙ ap (λ (y : Float). to_unsigned 64 (mul binary64 y angle_scale)) is))
      (angle_small (inside_domain t inside))
