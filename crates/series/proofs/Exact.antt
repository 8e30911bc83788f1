-- The recipe's fixed-point sine against its own polynomial without any cut: 21 units of 2^-61; and that polynomial's
-- value at ±n, as the list of integer coefficients that the tests speak of. Rests on Alternating.
use mathlib.Core.Path.{◌≡◌, refl, ap, ap₂, ◌∙◌, subst}
use mathlib.Core.List.{◌∷◌}
use Prim.Native.Nat.{ℕ, zero, suc, ◌+◌, ◌*◌, ◌/◌, ◌^◌, ◌≤◌}
use native.Mathlib.Nat.{le_trans, mul-le-mul, mul-le-mul_left, mul-le-mul_right}
use native.Mathlib.Omega.{arith}
use lib.ListN.{length, replicate}
use lib.Dec.{T, leb→le}
use lib.Pow.{pow_pos}
use lib.IntN.{ℤ, pos, ◌+ℤ◌, ◌*ℤ◌, *ℤ-zero, zero-*ℤ, +ℤ_idl}
use Rattle.series.specs.Kernel.{quarter, first_coefficient, coefficients, mulhi, horner, raw_sine}
use Rattle.series.proofs.Polynomial.{hval}
use Rattle.series.proofs.Alternating.{negated, alternating, exact_sum, falling}
use Rattle.series.proofs.Alternating.{alternating_value, Stands, horner_stands, quotient_above, quotient_below}
use Rattle.series.proofs.Tests.{alternating_part, grain, unit, recipe}

-- ---- the recipe against its own exact polynomial

coefficients_fall : T (falling first_coefficient coefficients)
unfolding falling
coefficients_fall = tt

-- the exact alternating sum at an angle n, and n times it: the recipe's polynomial without any cut
unfoldable pub sum_at : ℕ → ℕ
sum_at n = exact_sum (2 ^ 64 * 2 ^ 56) (n * n) (first_coefficient ∷ coefficients)

unfoldable pub exact_sine : ℕ → ℕ
exact_sine n = n * (grain * sum_at n)

module _ (n : ℕ) (small : n ≤ quarter) where
  pub square_small : n * n ≤ 2 ^ 64 * 2 ^ 56
  square_small = le_trans (mul-le-mul small small) (leb→le (quarter * quarter) (2 ^ 64 * 2 ^ 56) tt)

  squared : ℕ
  squared = mulhi (16 * n) (16 * n)

  squared_low : squared * 2 ^ 56 ≤ n * n
  unfolding squared
  squared_low = cut (mulhi (16 * n) (16 * n)) (n * n) (quotient_above (16 * n * (16 * n)) (2 ^ 64)) (omega arith)
    where
      cut : (z m : ℕ) → z * 2 ^ 64 ≤ 16 * n * (16 * n) → 16 * n * (16 * n) ≡ 256 * m → z * 2 ^ 56 ≤ m
      cut z m h e = omega arith

  squared_high : n * n ≤ squared * 2 ^ 56 + 2 ^ 56
  unfolding squared
  squared_high =
      cut (mulhi (16 * n) (16 * n)) (n * n) (quotient_below (16 * n * (16 * n)) (2 ^ 64) (pow_pos 64)) (omega arith)
    where
      cut : (z m : ℕ) → 16 * n * (16 * n) ≤ z * 2 ^ 64 + 2 ^ 64 → 16 * n * (16 * n) ≡ 256 * m → m ≤ z * 2 ^ 56 + 2 ^ 56
      cut z m h e = omega arith

  raw_horner : Stands (horner first_coefficient coefficients squared) (sum_at n) ((2 ^ 64 * 2 ^ 56) ^ 10) 20
  unfolding sum_at
  raw_horner =
      (horner_stands (2 ^ 56) (n * n) squared squared_low squared_high square_small (pow_pos 56) first_coefficient
      coefficients (leb→le first_coefficient (2 ^ 64) tt) coefficients_fall).0

  raw_quotient : (16 * n) * horner first_coefficient coefficients squared / 2 ^ 64 ≡ raw_sine n
  unfolding raw_sine squared
  raw_quotient = refl

-- f = n h / C, cut, stands for n g E / (g C U) where h stands for E / U
times_stands : (g C U n h E f e : ℕ) → n ≤ C → f * C ≤ n * h → n * h ≤ f * C + C → Stands h E U e
    → Stands f (n * (g * E)) (g * C * U) (suc e)
times_stands g C U n h E f e small low high t = record {
  above =
      omega (
        arith,
        mul-le-mul_right (g * U) low,
        mul-le-mul_left (n * g) t.above,
        mul-le-mul_right (g * (e * U))
            small,
      );
  below =
      omega (
        arith,
        mul-le-mul_right (g * U) high,
        mul-le-mul_left (n * g) t.below,
        mul-le-mul_right (g * (e * U))
            small,
      );
}

unit_is : unit ≡ grain * 2 ^ 60 * (2 ^ 64 * 2 ^ 56) ^ 10
unfolding unit
unit_is = refl

-- the recipe's sine before the cap, against its exact polynomial: 21 units
pub raw_stands : (n : ℕ) → n ≤ quarter → Stands (raw_sine n) (exact_sine n) unit 21
unfolding exact_sine
raw_stands n small =
    rw unit_is
    (times_stands grain (2 ^ 60) ((2 ^ 64 * 2 ^ 56) ^ 10) n h (sum_at n) (raw_sine n) 20
    (le_trans small (leb→le quarter (2 ^ 60) tt))
    (low (raw_sine n)
    (subst (λ (f : ℕ). f * 2 ^ 64 ≤ 16 * n * h) (raw_quotient n small) (quotient_above (16 * n * h) (2 ^ 64))))
    (high (raw_sine n)
    (subst (λ (f : ℕ). 16 * n * h ≤ f * 2 ^ 64 + 2 ^ 64) (raw_quotient n small)
    (quotient_below (16 * n * h) (2 ^ 64) (pow_pos 64))))
    (raw_horner n small))
  where
    h : ℕ
    h = horner first_coefficient coefficients (squared n small)

    low : (f : ℕ) → f * 2 ^ 64 ≤ 16 * n * h → f * 2 ^ 60 ≤ n * h
    low f k = omega arith

    high : (f : ℕ) → 16 * n * h ≤ f * 2 ^ 64 + 2 ^ 64 → n * h ≤ f * 2 ^ 60 + 2 ^ 60
    high f k = omega arith

-- ---- the exact polynomial's value: ±n (..) at ±n

pub zeros_value : (k : ℕ) (x : ℤ) (y : ℕ) → hval (replicate k (pos 0)) x y ≡ pos 0
unfolding hval
zeros_value zero x y = refl
zeros_value (suc k) x y =
    rw (zeros_value k x y)
    (ap₂ (λ (a b : ℤ). a +ℤ b) (zero-*ℤ (pos (y ^ suc (length (replicate k (pos 0)))))) (*ℤ-zero x) ∙ +ℤ_idl (pos 0))

length_part : length alternating_part ≡ 79
unfolding alternating_part negated alternating
length_part = refl

pub length_recipe : length recipe ≡ 80
unfolding recipe
length_recipe = ap suc length_part

recipe_times : (x : ℤ) (y : ℕ) → hval recipe x y ≡ x *ℤ hval alternating_part x y
unfolding recipe hval
recipe_times x y =
    ap (λ (z : ℤ). z +ℤ x *ℤ hval alternating_part x y) (zero-*ℤ (pos (y ^ suc (length alternating_part))))
    ∙ +ℤ_idl (x *ℤ hval alternating_part x y)

module _ (n y : ℕ) (small : n ≤ quarter) (x : ℤ) (square : x *ℤ x ≡ pos (n * n * (y * y))) where
  part_value : hval alternating_part x y ≡ pos (y ^ length alternating_part * (grain * sum_at n))
  unfolding alternating_part sum_at
  part_value =
      alternating_value grain (2 ^ 120) n y (square_small n small) (replicate 57 (pos 0)) x (zeros_value 57 x y) square
      first_coefficient coefficients coefficients_fall

  pub recipe_value : hval recipe x y ≡ x *ℤ pos (y ^ 79 * (grain * sum_at n))
  recipe_value =
      recipe_times x y
      ∙ ap (λ (z : ℤ). x *ℤ z) (part_value ∙ ap (λ (k : ℕ). pos (y ^ k * (grain * sum_at n))) length_part)
