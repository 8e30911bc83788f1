-- The root of a whole number n against a whole number s: root n ≤ s and s ≤ root n as n and s * s compare, perfect
-- squares exactly, and by how much the root of an n that is no square misses s at least. 1 is `one` units, and 2 ^ -i
-- is `pow2 k` units where k + i is 1074.
use native.Mathlib.Nat.{lt_of_not-le, le_of_suc-le-suc}
use Rattle.std.proofs.Common.{◌≡◌, ℕ, zero, suc, ◌+◌, ◌-◌, ◌*◌, ◌^◌, ◌<◌, ◌≤◌, ℤ, pos, nat_abs, sym}
use Rattle.std.proofs.Common.{refl, ap, ◌∙◌, ap₂, le_trans}
use Rattle.std.proofs.Common.{le_of_eq, mul-le-mul_right, mul_assoc, add-mul}
use Rattle.std.proofs.Common.{add_comm, le_antisymm, mul-le-mul_left, arith}
use native.Mathlib.Nat.{mul-mul-mul_comm}
use lib.Ieee.{Float, binary64, add, of_int}
use Rattle.binary64.specs.Units.{pow2, one, mag, minus, Finite}
use Rattle.binary64.proofs.Units.{pow2_pos, pow2_split, same_float}
use Rattle.binary64.proofs.Whole.{of_int_finite, of_int_mag, of_int_sign, of_int_pos, square_of_int, add_of_int}
use Rattle.elementary.specs.Root.{root, hypot}
use Rattle.elementary.proofs.root.Neighbours.{product}
use Rattle.elementary.proofs.root.Squares.{root_most, root_least}
use Rattle.elementary.proofs.root.Values.{root_finite, root_sign}

-- the square of a whole number, with the units taken out
whole_units : (n P K : ℕ) → n * (P * K) * (P * K) ≡ n * (P * P) * (K * K)
whole_units n P K =
    mul_assoc n (P * K) (P * K) ∙ ap (λ (z : ℕ). n * z) (mul-mul-mul_comm P K P K) ∙ sym (mul_assoc n (P * P) (K * K))

-- ---- the inequalities, with P for 2 ^ i

over : (n s e P : ℕ) → s * s + 1 ≤ n → e * (2 * s + 1) ≤ P → (s * P + e) * (s * P + e) ≤ n * (P * P)
over n s e P h g =
    let a = mul-le-mul_right (P * P) h in
    let b = mul-le-mul_right P g in
    let c : e ≤ P = omega arith in
    let d = mul-le-mul_left e c in
    omega arith

under : (n s e P c : ℕ) → n + 1 ≤ s * s → 2 * s * e ≤ P → s * P ≡ c + e → n * (P * P) ≤ c * c
under n s e P c h g w =
    let a = mul-le-mul_right (P * P) h in
    let b = mul-le-mul_right P g in
    let t : s * s * (P * P) ≡ (c + e) * (c + e) = mul-mul-mul_comm s s P P ∙ ap₂ (λ (y z : ℕ). y * z) w w in
    let u : 2 * s * e * P ≡ 2 * e * (c + e) = (omega arith) ∙ ap (λ (z : ℕ). 2 * e * z) w in
    omega arith

-- ---- the root of x, which is n

module _ {x : Float} (f : Finite x) (m : minus x ≡ 0) (n : ℕ) (w : mag x ≡ n * one) where
  -- n up to a square has a root up to that of the square,
  pub whole_le : (s : ℕ) → s ≤ 2 ^ 53 → n ≤ s * s → mag (root x) ≤ s * one
  whole_le s l h =
      (root_most f m s 1074 l
      (le_trans (le_of_eq (ap (λ (z : ℕ). z * one) w ∙ mul_assoc n one one))
      (le_trans (mul-le-mul_right (one * one) h) (le_of_eq (sym (product s one)))))
      ).bound

  -- and n from a square on a root from that of the square on.
  pub whole_ge : (s : ℕ) → s ≤ 2 ^ 53 → s * s ≤ n → s * one ≤ mag (root x)
  whole_ge s l h =
      (root_least f m s 1074 l
      (le_trans (le_of_eq (product s one))
      (le_trans (mul-le-mul_right (one * one) h) (le_of_eq (sym (ap (λ (z : ℕ). z * one) w ∙ mul_assoc n one one)))))
      ).bound

  -- Perfect squares are exact.
  pub whole_square : (s : ℕ) → s ≤ 2 ^ 53 → n ≡ s * s → mag (root x) ≡ s * one
  whole_square s l e = le_antisymm (whole_le s l (le_of_eq e)) (whole_ge s l (le_of_eq (sym e)))

  module _ (s e i k : ℕ) (p : k + i ≡ 1074) where
    units_in : one ≡ 2 ^ i * pow2 k
    units_in = ap pow2 (sym p ∙ add_comm k i) ∙ pow2_split i k

    radicand_in : mag x * one ≡ n * (2 ^ i * 2 ^ i) * (pow2 k * pow2 k)
    radicand_in = ap (λ (z : ℕ). z * one) w ∙ ap (λ (z : ℕ). n * z * z) units_in ∙ whole_units n (2 ^ i) (pow2 k)

    -- An n past the square of s has a root past s by e / 2 ^ i, whenever e * (2 * s + 1) ≤ 2 ^ i.
    pub excess : s * 2 ^ i + e ≤ 2 ^ 53 → s * s + 1 ≤ n → e * (2 * s + 1) ≤ 2 ^ i → s * one + e * pow2 k ≤ mag (root x)
    excess l h g =
        let P = 2 ^ i in
        let K = pow2 k in
        le_trans
        (le_of_eq
        (ap (λ (z : ℕ). s * z + e * K) units_in ∙ ap (λ (z : ℕ). z + e * K) (sym (mul_assoc s P K))
        ∙ sym (add-mul (s * P) e K)))
        (root_least f m (s * P + e) k l
        (le_trans (le_of_eq (product (s * P + e) K))
        (le_trans (mul-le-mul_right (K * K) (over n s e P h g)) (le_of_eq (sym radicand_in))))).bound

    -- An n short of the square of s has a root short of s by e / 2 ^ i, whenever 2 * s * e ≤ 2 ^ i.
    pub shortfall : s * 2 ^ i ≤ 2 ^ 53 → n + 1 ≤ s * s → 2 * s * e ≤ 2 ^ i → mag (root x) + e * pow2 k ≤ s * one
    shortfall l h g =
        let P = 2 ^ i in
        let K = pow2 k in
        let c = s * P - e in
        let q : s * P ≡ c + e = split n s e P h g in
        let r : mag (root x) ≤ c * K =
        (root_most f m c k (omega arith)
        (le_trans (le_of_eq radicand_in)
        (le_trans (mul-le-mul_right (K * K) (under n s e P c h g q)) (le_of_eq (sym (product c K)))))).bound in
        let t : s * one ≡ (c + e) * K =
        ap (λ (z : ℕ). s * z) units_in ∙ sym (mul_assoc s P K) ∙ ap (λ (z : ℕ). z * K) q in
        let u = add-mul c e K in
        omega arith
      where
        split : (n s e P : ℕ) → n + 1 ≤ s * s → 2 * s * e ≤ P → s * P ≡ s * P - e + e
        split n zero e P h g = absurd (omega arith)
        split n (suc s) e P h g = omega arith

  -- For s below 2 ^ 26 the comparisons go both ways. (From 2 ^ 26 on the float above s is too far: the root of 2 ^ 52 +
  -- 1 rounds to 2 ^ 26.)
  pub whole_le_back : (s : ℕ) → s < 2 ^ 26 → mag (root x) ≤ s * one → n ≤ s * s
  whole_le_back s l h =
      le_of_suc-le-suc (lt_of_not-le (λ (g : s * s < n).
      omega (arith, pow2_pos 1047, excess s 1 27 1047 refl (omega arith) (omega arith) (omega arith))))

  pub whole_ge_back : (s : ℕ) → s ≤ 2 ^ 26 → s * one ≤ mag (root x) → s * s ≤ n
  whole_ge_back s l h =
      le_of_suc-le-suc (lt_of_not-le (λ (g : n < s * s).
      omega (arith, pow2_pos 1047, shortfall s 1 27 1047 refl (omega arith) (omega arith) (omega arith))))

-- ---- whole numbers as floats

self : (s : ℕ) → s ≤ s * s
self zero = omega arith
self (suc s) = omega arith

-- The root of a perfect square is the whole number.
pub root_square : (s : ℕ) → s * s ≤ 2 ^ 53 → root (of_int binary64 (pos (s * s))) ≡ of_int binary64 (pos s)
root_square s h =
    let l : s ≤ 2 ^ 53 = le_trans (self s) h in
    let n = pos (s * s) in
    let x = of_int binary64 n in
    let f = of_int_finite n h in
    same_float (root_finite x f.fit) (of_int_finite (pos s) l)
    (root_sign x f.fit (of_int_sign n h) ∙ sym (of_int_sign (pos s) l))
    (whole_square f (of_int_pos (s * s) h).1 (s * s) (of_int_mag n h) s l refl ∙ sym (of_int_mag (pos s) l))

-- hypot of whole numbers is the root of the whole number a² + b².
pub hypot_whole : (a b : ℤ) → nat_abs a * nat_abs a + nat_abs b * nat_abs b ≤ 2 ^ 53
    → hypot (of_int binary64 a) (of_int binary64 b)
    ≡ root (of_int binary64 (pos (nat_abs a * nat_abs a + nat_abs b * nat_abs b)))
unfolding hypot
hypot_whole a b h =
    let p = nat_abs a * nat_abs a in
    let q = nat_abs b * nat_abs b in
    ap root
    (ap₂ (λ (x y : Float). add binary64 x y) (square_of_int a (le_trans (self (nat_abs a)) (omega arith)))
    (square_of_int b (le_trans (self (nat_abs b)) (omega arith)))
    ∙ add_of_int (pos p) (pos q) (omega arith) (omega arith))
