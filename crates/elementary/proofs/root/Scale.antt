-- `root_units` by scale: n units are X * 4 ^ h of 2 ^ -104 units, so the root of n units is that of X times U = 2 ^
-- (485 + h) units, where X has 105 or 106 digits and its nearest whole root q has 53.
use Rattle.std.proofs.Common.{◌≡◌, ℕ, zero, suc, ◌+◌, ◌-◌, ◌*◌, ◌/◌, ◌^◌, ◌<◌, ◌≤◌, sym, refl, ap, ◌∙◌, subst}
use Rattle.std.proofs.Common.{le_trans, le_of_eq, lt_of_lt_of_le, le_of_suc-le-suc}
use Rattle.std.proofs.Common.{mul-le-mul_right, mul_assoc, mul_comm, lt_of_mul-lt-mul_right}
use Rattle.std.proofs.Common.{mul-lt-mul_of_pos_right, le_of_mul-le-mul_right, mul-div_cancel, arith}
use Rattle.std.proofs.Common.{pow_pos, pow_mono, pow-add, shl_lt}
use native.Mathlib.Nat.{pow-succ'}
use lib.Ieee.{size}
use lib.Ieee.Digits.{size-lt, size_reaches, size-le}
use Rattle.binary64.specs.Units.{one, Digits53}
use Rattle.binary64.proofs.Units.{one_is}
use Rattle.elementary.specs.Root.{nearest_root, root_units}
use Rattle.elementary.specs.RootSteps.{Near}
use Rattle.elementary.proofs.root.Whole.{near, near_over, near_under}

-- half the exponent of n's leading digit
abbrev pub half : ℕ → ℕ
half n = (size n - 1) / 2

-- the whole number whose root gives the digits
abbrev pub radicand : ℕ → ℕ
radicand n = n * 2 ^ 104 / 4 ^ half n

pub four_pow : (h : ℕ) → 4 ^ h ≡ 2 ^ (h + h)
four_pow zero = refl
four_pow (suc h) =
    pow-succ' 4 h ∙ ap (λ (z : ℕ). 4 * z) (four_pow h) ∙ sym (pow-add 2 2 (h + h)) ∙ ap (λ (z : ℕ). 2 ^ z) (omega arith)

pub four_pos : (h : ℕ) → 0 < 4 ^ h
four_pos h = subst (λ (z : ℕ). 0 < z) (sym (four_pow h)) (pow_pos (h + h))

-- the division in `radicand` is exact
pub radicand_exact : (n : ℕ) → Digits53 n → radicand n * 4 ^ half n ≡ n * 2 ^ 104
radicand_exact n d =
    let h = half n in
    let few : size n ≤ 53 + d.zeros =
    size-le n (53 + d.zeros) (subst (λ (z : ℕ). z < 2 ^ (53 + d.zeros)) (sym d.is) (shl_lt 53 d.zeros d.few)) in
    let k = d.zeros + 104 - (h + h) in
    let e : d.zeros + 104 ≡ k + (h + h) = omega arith in
    let is : n * 2 ^ 104 ≡ d.digits * 2 ^ k * 4 ^ h =
    ap (λ (z : ℕ). z * 2 ^ 104) d.is ∙ mul_assoc d.digits (2 ^ d.zeros) (2 ^ 104)
    ∙ ap (λ (z : ℕ). d.digits * z)
    (sym (pow-add 2 d.zeros 104) ∙ ap (λ (z : ℕ). 2 ^ z) e ∙ pow-add 2 k (h + h)
    ∙ ap (λ (z : ℕ). 2 ^ k * z) (sym (four_pow h)))
    ∙ sym (mul_assoc d.digits (2 ^ k) (4 ^ h)) in
    ap (λ (z : ℕ). z / 4 ^ h * 4 ^ h) is
    ∙ ap (λ (z : ℕ). z * 4 ^ h) (mul-div_cancel (d.digits * 2 ^ k) (four_pos h))
    ∙ sym is

-- a number above 0 has a digit
size_pos : (n : ℕ) → 0 < n → 0 < size n
size_pos n p = go (size n) (size-lt n)
  where
    go : (k : ℕ) → n < 2 ^ k → 0 < k
    go zero h = absurd (omega arith)
    go (suc k) h = omega arith

-- X has 105 or 106 digits
module _ (n : ℕ) (p : 0 < n) (d : Digits53 n) where
  pub radicand_least : 2 ^ 104 ≤ radicand n
  radicand_least =
      let h = half n in
      let z = size_pos n p in
      le_of_mul-le-mul_right {k = 4 ^ h}
      (subst (λ (y : ℕ). 2 ^ 104 * 4 ^ h ≤ y) (sym (radicand_exact n d))
      (subst (λ (y : ℕ). y ≤ n * 2 ^ 104) (mul_comm (4 ^ h) (2 ^ 104))
      (mul-le-mul_right (2 ^ 104)
      (subst (λ (y : ℕ). y ≤ n) (sym (four_pow h)) (size_reaches n (h + h) (omega arith))))))
      (four_pos h)

  pub radicand_most : radicand n < 4 ^ 53
  radicand_most =
      let h = half n in
      lt_of_mul-lt-mul_right (4 ^ h)
      (subst (λ (y : ℕ). y < 4 ^ 53 * 4 ^ h) (sym (radicand_exact n d))
      (subst (λ (y : ℕ). n * 2 ^ 104 < y)
      (mul_comm (2 ^ 2 * 4 ^ h) (2 ^ 104) ∙ sym (mul_assoc (2 ^ 104) (2 ^ 2) (4 ^ h)))
      (mul-lt-mul_of_pos_right {k = 2 ^ 104}
      (lt_of_lt_of_le (size-lt n)
      (le_trans (pow_mono {j = 2 + (h + h)} (omega arith))
      (le_of_eq (pow-add 2 2 (h + h) ∙ ap (λ (y : ℕ). 2 ^ 2 * y) (sym (four_pow h))))))
      (pow_pos 104))))

-- n * one is X times the square of U
unit-square : (h : ℕ) → 2 ^ (485 + h) * 2 ^ (485 + h) ≡ 4 ^ h * 2 ^ 970
unit-square h =
    sym (pow-add 2 (485 + h) (485 + h)) ∙ ap (λ (z : ℕ). 2 ^ z) (omega arith) ∙ pow-add 2 (h + h) 970
    ∙ ap (λ (z : ℕ). z * 2 ^ 970) (sym (four_pow h))

radicand_scale : (n : ℕ) → Digits53 n → n * one ≡ radicand n * (2 ^ (485 + half n) * 2 ^ (485 + half n))
radicand_scale n d =
    let h = half n in
    ap (λ (z : ℕ). n * z) (one_is ∙ pow-add 2 104 970)
    ∙ sym (mul_assoc n (2 ^ 104) (2 ^ 970))
    ∙ ap (λ (z : ℕ). z * 2 ^ 970) (sym (radicand_exact n d))
    ∙ mul_assoc (radicand n) (4 ^ h) (2 ^ 970)
    ∙ ap (λ (z : ℕ). radicand n * z) (sym (unit-square h))

-- r is q times U = 2 ^ j, the root of X * U * U to 53 digits.
pub record Scaled (n r : ℕ) : Type 0 where
  pub j : ℕ
  pub X : ℕ
  pub q : ℕ
  pub place : j ≡ 485 + half n
  pub is : r ≡ q * 2 ^ j
  pub whole : n * one ≡ X * (2 ^ j * 2 ^ j)
  pub nearest : Near X q
  pub long : 2 ^ 104 ≤ X
  pub least : 2 ^ 52 ≤ q
  pub most : q ≤ 2 ^ 53

pub root_units_is : (n : ℕ) → root_units n ≡ nearest_root 53 (radicand n) * 2 ^ (485 + half n)
unfolding root_units
root_units_is n = refl

pub scaled : (n : ℕ) → 0 < n → Digits53 n → Scaled n (root_units n)
scaled n p d =
    let x = radicand n in
    let l = radicand_least n p d in
    let m = radicand_most n p d in
    let a = near 53 x (lt_of_lt_of_le (pow_pos 104) l) m in
    record {
      j = 485 + half n;
      X = x;
      q = nearest_root 53 x;
      place = refl;
      is = root_units_is n;
      whole = radicand_scale n d;
      nearest = a;
      long = l;
      least = near_over x (nearest_root 53 x) (2 ^ 52) a l;
      most = le_of_suc-le-suc (near_under x (nearest_root 53 x) (suc (2 ^ 53)) a (omega arith));
    }
