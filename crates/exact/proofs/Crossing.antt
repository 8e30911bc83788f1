-- Two circles that cross: the foot of the chord lies inside the first circle by at least 2 ^ -33, and what
-- intersection_area hands to acos is within -1 to 1. Every bound on the way is a float itself, so that rounding does
-- not pass it; 2 ^ -37 is `margin` units. Rests on Chord, Distance, Steps and Coordinates.
use native.Mathlib.Nat.{lt_of_not-le, le_of_suc-le-suc}
use mathlib.Core.Path.{◌≡◌, refl, ap}
use Prim.Native.Nat.{ℕ, ◌+◌, ◌-◌, ◌*◌, ◌^◌, ◌≤◌, ◌<◌}
use native.Mathlib.Nat.{le_refl, le_trans, le_of_lt, lt_of_lt_of_le}
use native.Mathlib.Nat.{mul-pos, mul-le-mul, mul-le-mul_left, mul-le-mul_right}
use native.Mathlib.Omega.{arith}
use lib.Ieee.{Float, binary64, add, sub, mul, div}
use Rattle.heads.specs.Relation.{gap}
use Rattle.binary64.specs.Units.{pow2, one, Finite, mag, plus, minus}
use Rattle.binary64.specs.Constants.{two64}
use Rattle.binary64.specs.Magnitude.{Most}
use Rattle.binary64.specs.Rounding.{Rounded}
use Rattle.binary64.proofs.Rounding.{plus_ge, minus_none}
use Rattle.binary64.proofs.Units.{pow2_pos, pow2_split, plus_minus}
use Rattle.binary64.proofs.Operations.{add_result, sub_result, result_finite, result_le, result_rounded}
use Rattle.binary64.proofs.Magnitude.{bound_digits, bound_limit, most_finer, add_most, mul_most}
use Rattle.elementary.specs.Root.{whole_root}
use Rattle.elementary.proofs.root.Whole.{Floor, floor}
use Rattle.exact.proofs.Chord.{gap_within, reach, reach_square, reach_most, inside}
use Rattle.exact.proofs.Distance.{margin, Is, whole_is, is_mag, is_most}
use Rattle.exact.proofs.Distance.{root_of, root_is_finite, root_most, root_at_most_fine, root_at_least_fine}
use Rattle.exact.proofs.Steps.{float, two_is, difference, along, square_is, square_parts, difference_exact}
use Rattle.exact.proofs.Coordinates.{product_most, quotient_most, product_least}

module _ (r₁ r₂ D : ℕ) (P₁ : 1 ≤ r₁) (L₁ : r₁ ≤ 20000) (P₂ : 1 ≤ r₂) (L₂ : r₂ ≤ 20000) (low : gap r₁ r₂ * gap r₁ r₂ < D)
    (high : D < (r₁ + r₂) * (r₁ + r₂)) where
  -- ---- the distance

  -- D is below s², and s at most 40000
  far : D ≤ 1600000000
  far = omega (arith, mul-le-mul {n₁ = r₁ + r₂} {m₁ = r₁ + r₂} {n₂ = 40000} {m₂ = 40000} (omega arith) (omega arith))

  D_below : D < 2 ^ 32
  D_below = omega (arith, far)

  abbrev d : Float
  d = root_of D

  -- q / 2 ^ 37 is √D, cut
  q : ℕ
  q = whole_root 53 (D * 2 ^ 74)

  q_floor : Floor (D * 2 ^ 74) q
  unfolding q
  q_floor = floor 53 (D * 2 ^ 74) (omega (arith, far))

  q_most : q ≤ (r₁ + r₂) * 2 ^ 37
  q_most =
      le_of_suc-le-suc (lt_of_not-le (λ (h : (r₁ + r₂) * 2 ^ 37 < q).
      omega (arith, mul-le-mul h h, q_floor.least, high)))

  -- so that the distance lies between q and q + 1
  d_least : q * margin ≤ mag d
  d_least = root_at_least_fine D D_below q (omega (arith, q_most)) q_floor.least

  d_most : mag d ≤ (q + 1) * margin
  d_most = root_at_most_fine D D_below (q + 1) (omega (arith, q_most)) (le_of_lt q_floor.most)

  q_small : 2 * q + 1 ≤ 2 ^ 54
  q_small = omega (arith, q_most)

  q_pos : 0 < q
  q_pos = lt_of_not-le (λ (h : q ≤ 0). omega (arith, q_floor.most, mul-le-mul h h))

  -- ---- the foot of the chord

  -- d² is D, give or take 2 ^ -20
  squared_most : Most (D * 2 ^ 20 + 1) 1054 (mul binary64 d d)
  squared_most =
      let h : (q + 1) * (q + 1) ≤ (D * 2 ^ 20 + 1) * 2 ^ 54 = omega (arith, q_floor.least, q_small) in
      product_most (root_is_finite D D_below) (root_is_finite D D_below) (omega (arith, far)) (omega arith)
      (le_trans (mul-le-mul d_most d_most)
      (rw (pow2_split 17 1037, pow2_split 37 1037) (omega (arith, mul-le-mul_right (margin * margin) h))))

  squared_least : D * 2 ^ 20 * pow2 1054 ≤ mag (mul binary64 d d) + pow2 1054
  squared_least = go (D * 2 ^ 20 - 1) (omega arith)
    where
      go : (w : ℕ) → w + 1 ≡ D * 2 ^ 20 → D * 2 ^ 20 * pow2 1054 ≤ mag (mul binary64 d d) + pow2 1054
      go w e =
          let h : w * 2 ^ 54 ≤ q * q = omega (arith, q_floor.most, q_small) in
          let l : w * pow2 1054 * one ≤ q * margin * (q * margin) =
          rw (pow2_split 17 1037, pow2_split 37 1037) (omega (arith, mul-le-mul_right (margin * margin) h)) in
          let p = product_least (root_is_finite D D_below) (root_is_finite D D_below) 1054 (omega (arith, far))
          squared_most.finite (le_trans l (mul-le-mul d_least d_least)) in
          omega (arith, ap (λ (k : ℕ). k * pow2 1054) e)

  -- r₁² - r₂² + d² is X, give or take as much
  abbrev numerator : Float
  numerator = add binary64 (difference r₁ r₂) (mul binary64 d d)

  numerator_most : Most (reach r₁ r₂ D * 2 ^ 20 + 1) 1054 numerator
  numerator_most =
      go (reach r₁ r₂ D) (gap_within (r₁ * r₁ + D) (r₂ * r₂)).0 (gap_within (r₁ * r₁ + D) (r₂ * r₂)).1
      (omega (arith, reach_most r₁ r₂ D low high, mul-le-mul L₁ L₁, mul-le-mul L₁ L₂))
    where
      go : (A : ℕ) → r₁ * r₁ + D ≤ r₂ * r₂ + A → r₂ * r₂ ≤ r₁ * r₁ + D + A → A * 2 ^ 20 + 1 ≤ 2 ^ 53
          → Most (A * 2 ^ 20 + 1) 1054 numerator
      go A h k few =
          let E = difference_exact r₁ r₂ L₁ L₂ in
          let r = add_result E.finite squared_most.finite in
          let e = rw (pow2_split 20 1054) at E.parts in
          let z = square_parts (root_is_finite D D_below) squared_most.finite in
          let over = mul-le-mul_right (pow2 1054) h in
          let under = mul-le-mul_right (pow2 1054) k in
          let up : plus (difference r₁ r₂) + plus (mul binary64 d d) ≤ minus (difference r₁ r₂) + minus
          (mul binary64 d d) + (A * 2 ^ 20 + 1) * pow2 1054 * 1 = omega (arith, squared_most.bound) in
          let down : minus (difference r₁ r₂) + minus (mul binary64 d d) ≤ plus (difference r₁ r₂) + plus
          (mul binary64 d d) + (A * 2 ^ 20 + 1) * pow2 1054 * 1 = omega (arith, squared_least) in
          let f = result_finite (le_refl 1) r (bound_digits 1054 few) up down (bound_limit few (omega arith)) in
          record { finite = f; bound = result_le (le_refl 1) r (bound_digits 1054 few) up down f }

  -- 2 d is at least 2 q / 2 ^ 37
  two_whole : Is two64 2
  two_whole = rw two_is (whole_is 2 (omega arith))

  twice_most : Most (2 ^ 17) 1074 (mul binary64 two64 d)
  twice_most =
      product_most two_whole.finite (root_is_finite D D_below) (omega arith) (omega arith)
      (rw (is_mag two_whole) (omega (arith, mul-le-mul_left (2 * one) (root_most D D_below).bound)))

  twice_finite : Finite (mul binary64 two64 d)
  twice_finite = twice_most.finite

  twice_least : q * pow2 1038 ≤ mag (mul binary64 two64 d)
  twice_least =
      product_least two_whole.finite (root_is_finite D D_below) 1038 (omega (arith, q_most)) twice_finite
      (rw (is_mag two_whole, pow2_split 1 1037) (omega (arith, mul-le-mul_left (2 * one) d_least)))

  twice_pos : 0 < mag (mul binary64 two64 d)
  twice_pos = lt_of_lt_of_le (mul-pos q_pos (pow2_pos 1038)) twice_least

  -- |X| and all that is rounded, over twice the distance, is below r₁ by 2 ^ -33
  crux : (reach r₁ r₂ D * 2 ^ 20 + 1) * 2 ^ 49 + q ≤ r₁ * 2 ^ 33 * q
  crux =
      inside r₁ r₂ D (reach r₁ r₂ D) q (mul-pos P₁ P₂) L₁ L₂ (omega arith)
      (reach_square r₁ r₂ D low high (mul-pos P₁ P₂)) (reach_most r₁ r₂ D low high)
      (omega (arith, q_floor.most)) q_most

  -- the foot lies inside by 2 ^ -33
  pub along_most : Most (r₁ * 2 ^ 33 - 1) 1041 (along r₁ r₂ d)
  along_most =
      quotient_most numerator_most.finite twice_finite (omega arith) (omega arith) twice_pos
      (le_trans (mul-le-mul_right one numerator_most.bound)
      (le_trans (scaled (reach r₁ r₂ D) (r₁ * 2 ^ 33 - 1) (less (r₁ * 2 ^ 33 - 1) (omega arith) crux))
      (mul-le-mul_left ((r₁ * 2 ^ 33 - 1) * pow2 1041) twice_least)))
    where
      less : (w : ℕ) {m : ℕ} → w + 1 ≡ r₁ * 2 ^ 33 → m + q ≤ r₁ * 2 ^ 33 * q → m ≤ w * q
      less w e h = omega (arith, ap (λ (k : ℕ). k * q) e)

      scaled : (A w : ℕ) → (A * 2 ^ 20 + 1) * 2 ^ 49 ≤ w * q
          → (A * 2 ^ 20 + 1) * pow2 1054 * one ≤ w * pow2 1041 * (q * pow2 1038)
      scaled A w h =
          rw (pow2_split 17 1037, pow2_split 37 1037, pow2_split 4 1037, pow2_split 1 1037)
          (omega (arith, mul-le-mul_right (margin * margin) h))

  -- ---- the quotient that intersection_area hands to acos: d² + r₁² - r₂² over 2 d r₁

  few_digits : (reach r₁ r₂ D * 2 ^ 20 + 1 ≤ 2 ^ 53) × (D * 2 ^ 20 + 1 + r₁ * r₁ * 2 ^ 20 ≤ 2 ^ 53)
  few_digits = (
    omega (arith, reach_most r₁ r₂ D low high, mul-le-mul L₁ L₁, mul-le-mul L₁ L₂),
    omega
        (arith, far, mul-le-mul L₁ L₁),
  )

  -- d² + r₁² is D + r₁², give or take 2 ^ -20
  abbrev together : Float
  together = add binary64 (mul binary64 d d) (mul binary64 (float r₁) (float r₁))

  together_most : Most (D * 2 ^ 20 + 1 + r₁ * r₁ * 2 ^ 20) 1054 together
  together_most =
      add_most squared_most (most_finer 20 (is_most (square_is r₁ L₁) (le_refl (r₁ * r₁)))) few_digits.1 (omega arith)

  together_rounded : Rounded together (mag (mul binary64 d d) + r₁ * r₁ * one) (0 + 0) 1
  together_rounded =
      let b = square_is r₁ L₁ in
      let z = square_parts (root_is_finite D D_below) squared_most.finite in
      rw (z.0, z.1, b.up, b.down) at
      (result_rounded (le_refl 1) (add_result squared_most.finite b.finite) together_most.finite)

  together_least : D * 2 ^ 20 * pow2 1054 + r₁ * r₁ * 2 ^ 20 * pow2 1054 ≤ plus together + pow2 1054
  together_least = go (D * 2 ^ 20 + r₁ * r₁ * 2 ^ 20 - 1) (omega (arith, mul-le-mul P₁ P₁))
    where
      go : (w : ℕ) → w + 1 ≡ D * 2 ^ 20 + r₁ * r₁ * 2 ^ 20
          → D * 2 ^ 20 * pow2 1054 + r₁ * r₁ * 2 ^ 20 * pow2 1054 ≤ plus together + pow2 1054
      go w e =
          let one_is = pow2_split 20 1054 in
          let least : w * pow2 1054 ≤ plus together =
          plus_ge (le_refl 1) together_rounded (bound_digits 1054 (omega (arith, few_digits.1)))
          (omega (arith, squared_least, ap (λ (k : ℕ). k * pow2 1054) e, ap (λ (k : ℕ). r₁ * r₁ * k) one_is)) in
          omega (arith, least, ap (λ (k : ℕ). k * pow2 1054) e)

  -- less r₂² it is X, give or take as much
  abbrev dividend : Float
  dividend = sub binary64 together (mul binary64 (float r₂) (float r₂))

  dividend_most : Most (reach r₁ r₂ D * 2 ^ 20 + 1) 1054 dividend
  dividend_most =
      go (reach r₁ r₂ D) (gap_within (r₁ * r₁ + D) (r₂ * r₂)).0 (gap_within (r₁ * r₁ + D) (r₂ * r₂)).1 few_digits.0
    where
      go : (A : ℕ) → r₁ * r₁ + D ≤ r₂ * r₂ + A → r₂ * r₂ ≤ r₁ * r₁ + D + A → A * 2 ^ 20 + 1 ≤ 2 ^ 53
          → Most (A * 2 ^ 20 + 1) 1054 dividend
      go A h k few =
          let b = square_is r₂ L₂ in
          let r = rw (b.up, b.down) at (sub_result together_most.finite b.finite) in
          let z = minus_none (le_refl 1) together_rounded (omega arith) in
          let m = plus_minus together in
          let scale = ap (λ (k : ℕ). r₂ * r₂ * k) (pow2_split 20 1054) in
          let over = mul-le-mul_right (pow2 1054) h in
          let under = mul-le-mul_right (pow2 1054) k in
          let up : plus together + 0 ≤ minus together + r₂ * r₂ * one + (A * 2 ^ 20 + 1) * pow2 1054 * 1 =
          omega (arith, together_most.bound) in
          let down : minus together + r₂ * r₂ * one ≤ plus together + 0 + (A * 2 ^ 20 + 1) * pow2 1054 * 1 =
          omega (arith, together_least) in
          let f = result_finite (le_refl 1) r (bound_digits 1054 few) up down (bound_limit few (omega arith)) in
          record { finite = f; bound = result_le (le_refl 1) r (bound_digits 1054 few) up down f }

  -- 2 d r₁ is no smaller, since that bound is a float itself
  abbrev divisor : Float
  divisor = mul binary64 (mul binary64 two64 d) (float r₁)

  radius_is : Is (float r₁) r₁
  radius_is = whole_is r₁ (omega arith)

  divisor_finite : Finite divisor
  divisor_finite = (mul_most twice_most (is_most radius_is L₁) 1074 refl (omega arith) (omega arith)).finite

  divisor_least : (reach r₁ r₂ D * 2 ^ 20 + 1) * pow2 1054 ≤ mag divisor
  divisor_least =
      product_least twice_finite radius_is.finite 1054 few_digits.0 divisor_finite
      (le_trans (scaled (reach r₁ r₂ D) (omega (arith, crux)))
      (rw (is_mag radius_is) (mul-le-mul_right (r₁ * one) twice_least)))
    where
      scaled : (A : ℕ) → (A * 2 ^ 20 + 1) * 2 ^ 16 ≤ r₁ * q
          → (A * 2 ^ 20 + 1) * pow2 1054 * one ≤ q * pow2 1038 * (r₁ * one)
      scaled A h = rw (pow2_split 16 1038) (omega (arith, mul-le-mul_right (pow2 1038 * one) h))

  -- so the quotient is within -1 to 1
  pub quotient_within : Most 1 1074 (div binary64 dividend divisor)
  quotient_within =
      quotient_most dividend_most.finite divisor_finite (omega arith) (omega arith)
      (lt_of_lt_of_le (mul-pos (omega arith) (pow2_pos 1054)) divisor_least)
      (omega (arith, mul-le-mul_right one (le_trans dividend_most.bound divisor_least)))
