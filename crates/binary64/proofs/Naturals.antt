-- Facts about natural numbers and tests that the other files share. Nothing here is about floats.
use Rattle.std.proofs.Common.{◌≡◌, ℕ, ◌+◌, ◌*◌, ◌^◌, ◌<◌, ◌≤◌, Bool, true, false}
use Rattle.std.proofs.Common.{not, ◌&&◌, ◌||◌, T, eqb, ltb, leb, sym, refl}
use Rattle.std.proofs.Common.{ap, ◌∙◌}
use Rattle.std.proofs.Common.{le_of_suc-le-suc, lt_of_mul-lt-mul_right}
use Rattle.std.proofs.Common.{mul-lt-mul_of_pos_right, lt_of_not-le, not-le_of_lt, arith}
use Rattle.std.proofs.Common.{eqb→eq, ltb→lt, lt→ltb, pow_mono}
use native.Mathlib.Nat.{eq_of_mul-eq-mul_right}
use lib.Ieee.Fits.{eq→eqb}
use lib.Pow.{pow-lt}
use Rattle.std.proofs.lemmas.Bool.Decides.{nat_tests}

-- two tests that pass together are one
pub same_test : (p q : Bool) → (T p → T q) → (T q → T p) → p ≡ q
same_test true true f g = refl
same_test true false f g = absurd (f tt)
same_test false true f g = absurd (g tt)
same_test false false f g = refl

-- powers of two are in the order of their exponents
pub pow_le_back : (a l : ℕ) → 2 ^ a ≤ 2 ^ l → a ≤ l
pow_le_back a l h = le_of_suc-le-suc (lt_of_not-le (λ (g : l < a). not-le_of_lt (pow-lt g) h))

pub pow_lt_back : (a l : ℕ) → 2 ^ a < 2 ^ l → a < l
pow_lt_back a l h = lt_of_not-le (λ (g : l ≤ a). not-le_of_lt h (pow_mono g))

-- a / x and b / y are both c / k: then a and b compare as x and y do
pub scaled_lt : (x y a b k c : ℕ) → 0 < k → 0 < c → a * k ≡ x * c → b * k ≡ y * c → ltb x y ≡ ltb a b
scaled_lt x y a b k c K C p q =
    same_test (ltb x y) (ltb a b)
    (λ t. lt→ltb a b (lt_of_mul-lt-mul_right k (rw (p, q) (mul-lt-mul_of_pos_right (ltb→lt x y t) C))))
    (λ t. lt→ltb x y (lt_of_mul-lt-mul_right c (rw (← p, ← q) (mul-lt-mul_of_pos_right (ltb→lt a b t) K))))

pub scaled_eq : (x y a b k c : ℕ) → 0 < k → 0 < c → a * k ≡ x * c → b * k ≡ y * c → eqb x y ≡ eqb a b
scaled_eq x y a b k c K C p q =
    same_test (eqb x y) (eqb a b)
    (λ t. eq→eqb (eq_of_mul-eq-mul_right k K a b (p ∙ ap (λ (z : ℕ). z * c) (eqb→eq x y t) ∙ sym q)))
    (λ t. eq→eqb (eq_of_mul-eq-mul_right c C x y (sym p ∙ ap (λ (z : ℕ). z * k) (eqb→eq a b t) ∙ q)))

-- a < b fails just where b ≤ a
pub not_ltb : (a b : ℕ) → not (ltb a b) ≡ leb b a
not_ltb a b = grind (arith, nat_tests)

-- ±a and ∓b are equal only if both are zero
pub both_zero : (a b : ℕ) → (eqb a b && eqb a 0) ≡ eqb (a + b) 0
both_zero a b = grind (arith, nat_tests)

-- a ≤ b is a < b or a = b, as tests
pub lt_or_eq : (a b : ℕ) → (ltb a b || eqb a b) ≡ leb a b
lt_or_eq a b = grind (arith, nat_tests)
