-- The cap at 1 moves the recipe's sine by at most 277 units of 2^-61: its polynomial is near the sine, and a quarter
-- turn on the sine is near a polynomial that is at most 1. Rests on Turns.
use mathlib.Core.Path.{◌≡◌, refl, sym, ap, ap₂, ◌∙◌, subst, subst₂}
use mathlib.Core.List.{◌∷◌}
use Prim.Native.Nat.{ℕ, suc, ◌+◌, ◌-◌, ◌*◌, ◌^◌, ◌≤◌, ◌<◌, zero-le}
use native.Mathlib.Nat.{le_trans, le_of_eq, mul-one, one-mul, sub-le, le_of_mul-le-mul_right}
use native.Mathlib.Omega.{arith}
use lib.ListN.{length, replicate}
use lib.Dec.{T, leb→le}
use lib.IntN.{ℤ, pos, neg_ℤ, ◌+ℤ◌, ◌-ℤ◌, ◌*ℤ◌}
use Rattle.series.specs.Kernel.{quarter, raw_sine}
use Rattle.series.specs.Taylor.{factorial}
use Rattle.series.proofs.Integers.{parts, ⊖-eq, differences, dist, dist-⊖, dist_trans, dist_comm}
use Rattle.series.proofs.Polynomial.{hval, one_pow, finer}
use Rattle.series.proofs.Alternating.{negated, negated_value, alternating, exact_sum, falling, alternating_value}
use Rattle.series.proofs.Sums.{sin_from, sin79}
use Rattle.series.proofs.Tests.{grain, unit, recipe, summit, turned}
use Rattle.series.proofs.Tests.{near, sine, sine_summit, summit_first, summit_coefficients, summit_rest}
use Rattle.series.proofs.Exact.{sum_at, exact_sine, square_small, raw_stands, zeros_value, length_recipe, recipe_value}
use Rattle.series.proofs.Turns.{near_values, abs_pos, sine_waves}

-- ---- the cap

summit_falls : T (falling summit_first summit_coefficients)
unfolding falling
summit_falls = tt

length_summit : length summit ≡ 80
unfolding summit summit_rest negated alternating
length_summit = refl

summit_opened : (x : ℤ) → hval summit x 1 ≡ pos (2 ^ 61 * unit) -ℤ (x *ℤ x) *ℤ hval summit_rest x 1
unfolding summit hval
summit_opened x =
    rw (
      negated_value summit_rest x 1,
      one_pow (suc (suc (length (negated summit_rest)))),
      one_pow
          (suc (length (negated summit_rest))),
    ) (gather (2 ^ 61 * unit) x (hval summit_rest x 1))
  where
    gather : (A : ℕ) (x H : ℤ) → pos (A * 1) +ℤ x *ℤ (pos (0 * 1) +ℤ x *ℤ neg_ℤ H) ≡ pos A -ℤ (x *ℤ x) *ℤ H
    gather A x H =
        let x' = parts x in
        let H' = parts H in
        rw (x'.2, H'.2) (simp differences (⊖-eq _ _ _ _ (omega arith)))

-- the summit's value at -t is 2^61 units less something
summit_value : (t : ℕ) → t ≤ quarter → (B : ℕ) × (hval summit (neg_ℤ (pos t)) 1 ≡ pos (2 ^ 61 * unit) -ℤ pos B)
unfolding summit_rest
summit_value t l = (
  t * t * (1 ^ length summit_rest *
      (grain * 2 ^ 60 * exact_sum (2 ^ 120) (t * t) (summit_first ∷ summit_coefficients))),
  summit_opened (neg_ℤ (pos t))
      ∙ ap₂ (λ (a b : ℤ). pos (2 ^ 61 * unit) -ℤ a *ℤ b) (square t)
      (alternating_value (grain * 2 ^ 60) (2 ^ 120) t 1 (square_small t l) (replicate 58 (pos 0)) (neg_ℤ (pos t))
      (zeros_value 58 (neg_ℤ (pos t)) 1) (square t ∙ ap pos (sym (mul-one (t * t)))) summit_first summit_coefficients
      summit_falls),
)
  where
    square : (t : ℕ) → neg_ℤ (pos t) *ℤ neg_ℤ (pos t) ≡ pos (t * t)
    square t = simp differences (⊖-eq _ _ _ _ (omega arith))

pub unit_pos : 0 < unit
unfolding unit grain factorial
unit_pos = leb→le 1 unit tt

pub length_sine : length sine ≡ 80
unfolding sine sin79 sin_from finer
length_sine = refl

recipe_at : (n : ℕ) → n ≤ quarter → hval recipe (pos n) 1 ≡ pos (exact_sine n)
unfolding exact_sine
recipe_at n l =
    recipe_value n 1 l (pos n) (ap pos (sym (mul-one (n * n))))
    ∙ ap (λ (k : ℕ). pos (n * k)) (one-mul (grain * sum_at n))

sine_start : T (near sine 0 recipe)
unfolding turned
sine_start = sine_waves 0 0 refl zero-le

-- the exact polynomial of the recipe exceeds 1 by little: it is near the sine, which is near the summit's polynomial
exact_cap : (n : ℕ) → n ≤ quarter → exact_sine n ≤ 2 ^ 61 * unit + 256 * unit
exact_cap n l =
    below (exact_sine n) (2 ^ 61 * unit) top.0 unit
    (subst (λ (z : ℤ). dist (pos (exact_sine n)) z ≤ 256 * unit) top.1
    (le_trans (dist_trans (pos (exact_sine n)) (hval sine (pos n) 1) (hval summit (neg_ℤ (pos (quarter - n))) 1))
    (both unit (le_trans (le_of_eq (dist_comm (pos (exact_sine n)) (hval sine (pos n) 1))) from_recipe) from_summit)))
  where
    top : (B : ℕ) × (hval summit (neg_ℤ (pos (quarter - n))) 1 ≡ pos (2 ^ 61 * unit) -ℤ pos B)
    top = summit_value (quarter - n) (sub-le quarter n)

    below : (v A B U : ℕ) → dist (pos v) (pos A -ℤ pos B) ≤ 256 * U → v ≤ A + 256 * U
    below v A B U h = let g = simp (differences, dist-⊖) at h in omega arith

    both : {d e : ℕ} (U : ℕ) → d ≤ 1 ^ 80 * (128 * U) → e ≤ 1 ^ 80 * (128 * U) → d + e ≤ 256 * U
    both U h k = omega arith

    turn : (n : ℕ) → n ≤ quarter → neg_ℤ (pos (quarter - n)) +ℤ pos (1 * quarter * 1) ≡ pos n
    turn n l = simp differences (⊖-eq _ _ _ _ (omega arith))

    from_recipe : dist (hval sine (pos n) 1) (pos (exact_sine n)) ≤ 1 ^ 80 * (128 * unit)
    from_recipe =
        subst₂ (λ (a b : ℤ). dist (hval sine a 1) b ≤ 1 ^ 80 * (128 * unit)) (ap pos (omega arith)) (recipe_at n l)
        (near_values sine recipe 0 length_sine length_recipe sine_start (pos n) 1
        (le_trans l (le_of_eq (sym (mul-one quarter)))))

    from_summit : dist (hval sine (pos n) 1) (hval summit (neg_ℤ (pos (quarter - n))) 1) ≤ 1 ^ 80 * (128 * unit)
    from_summit =
        subst (λ (a : ℤ). dist (hval sine a 1) (hval summit (neg_ℤ (pos (quarter - n))) 1) ≤ 1 ^ 80 * (128 * unit))
        (turn n l)
        (near_values sine summit 1 length_sine length_summit sine_summit (neg_ℤ (pos (quarter - n))) 1
        (le_trans (le_of_eq (abs_pos (quarter - n))) (le_trans (sub-le quarter n) (le_of_eq (sym (mul-one quarter))))))

pub raw_cap : (n : ℕ) → n ≤ quarter → raw_sine n ≤ 2 ^ 61 + 277
raw_cap n l = le_of_mul-le-mul_right (omega (arith, (raw_stands n l).above, exact_cap n l)) unit_pos
