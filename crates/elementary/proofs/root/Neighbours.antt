-- No other number of at most 53 digits is as near to the root of n units as `root_units n`: the middle of the two,
-- squared, is compared with n * one. From this the root against any such number by squares, both ways, and that it is
-- monotone.
use Rattle.std.proofs.Common.{◌≡◌, ℕ, zero, suc, ◌+◌, ◌-◌, ◌*◌, ◌^◌, ◌<◌}
use Rattle.std.proofs.Common.{◌≤◌, ◌⊎◌, sym, refl, ap, ◌∙◌, subst, subst₂, inl, inr}
use Rattle.std.proofs.Common.{zero-le, le_trans, le_of_eq, lt_of_lt_of_le, lt_of_le_of_lt}
use Rattle.std.proofs.Common.{le_of_lt, lt_irrefl, mul-le-mul_right, mul_assoc, suc-mul}
use Rattle.std.proofs.Common.{mul-le-mul, lt_of_mul-lt-mul_right, mul-le-mul_left, mul-lt-mul_of_pos_right, mul-pos}
use Rattle.std.proofs.Common.{add-one, arith, pow_pos, pow_mono, pow-add}
use native.Mathlib.Nat.{mul-mul-mul_comm}
use Rattle.binary64.specs.Units.{one, Digits53}
use Rattle.std.proofs.lemmas.Bool.{cases_lt}
use Rattle.binary64.proofs.Units.{digits53}
use Rattle.elementary.specs.Root.{root_units}
use Rattle.elementary.specs.RootSteps.{Near}
use Rattle.elementary.proofs.root.Scale.{scaled}

-- A number of at most 53 digits that reaches 2 ^ 52 * 2 ^ j is a multiple of 2 ^ j.
multiple : (u j : ℕ) → Digits53 u → 2 ^ 52 * 2 ^ j ≤ u → (c : ℕ) × (u ≡ c * 2 ^ j)
multiple u j d h = go (cases_lt d.zeros j)
  where
    go : (d.zeros < j) ⊎ (j ≤ d.zeros) → (c : ℕ) × (u ≡ c * 2 ^ j)
    go (inr l) =
        let k = d.zeros - j in
        let e : d.zeros ≡ k + j = omega arith in (
          d.digits * 2 ^ k,
          d.is ∙ ap (λ (z : ℕ). d.digits * z) (ap (λ (z : ℕ). 2 ^ z) e ∙ pow-add 2 k j)
              ∙ sym (mul_assoc d.digits (2 ^ k) (2 ^ j)),
        )
    go (inl l) =
        absurd (lt_irrefl u
        (lt_of_lt_of_le
        (subst (λ (z : ℕ). z < 2 ^ 53 * 2 ^ d.zeros) (sym d.is) (mul-lt-mul_of_pos_right d.few (pow_pos d.zeros)))
        (le_trans (le_of_eq (sym (pow-add 2 53 d.zeros)))
        (le_trans (pow_mono {j = 52 + j} (omega arith)) (le_trans (le_of_eq (pow-add 2 52 j)) h)))))

-- the square of k * U
pub product : (k U : ℕ) → k * U * (k * U) ≡ k * k * (U * U)
product k U = mul-mul-mul_comm k U k U

square_le : (a b : ℕ) → a ≤ b → a * a ≤ b * b
square_le a b h = mul-le-mul h h

-- the middle of (q - 1) * U and q * U is below the root of X * U * U, and that of q * U and (q + 1) * U above
middle_below : (X q U u : ℕ) → 0 < U → Near X q → u + U ≤ q * U → (u + q * U) * (u + q * U) < 4 * (X * (U * U))
middle_below X zero U u p n h = absurd (none U u p h)
  where
    none : (U u : ℕ) → 0 < U → u + U ≤ 0 * U → ⊥
    none U u p h = omega arith
middle_below X (suc q) U u p n h =
    lt_of_le_of_lt (square_le (u + suc q * U) ((2 * q + 1) * U) (omega arith))
    (subst (λ (z : ℕ). z < 4 * (X * (U * U))) (sym (product (2 * q + 1) U))
    (subst (λ (z : ℕ). (2 * q + 1) * (2 * q + 1) * (U * U) < z) (mul_assoc 4 X (U * U))
    (mul-lt-mul_of_pos_right (odd X q n.above) (mul-pos p p))))
  where
    odd : (X q : ℕ) → suc q * suc q < X + suc q → (2 * q + 1) * (2 * q + 1) < 4 * X
    odd X q h = omega arith

middle_above : (X q U u : ℕ) → 0 < U → Near X q → (q + 1) * U ≤ u → 4 * (X * (U * U)) < (u + q * U) * (u + q * U)
middle_above X q U u p n h =
    lt_of_lt_of_le
    (subst (λ (z : ℕ). z < (2 * q + 1) * (2 * q + 1) * (U * U)) (mul_assoc 4 X (U * U))
    (mul-lt-mul_of_pos_right {k = U * U} (odd X q n.below) (mul-pos p p)))
    (le_trans (le_of_eq (sym (product (2 * q + 1) U))) (square_le ((2 * q + 1) * U) (u + q * U) (omega arith)))
  where
    odd : (X q : ℕ) → X ≤ q * q + q → 4 * X < (2 * q + 1) * (2 * q + 1)
    odd X q h = omega arith

square_lt : (a b : ℕ) → a < b → a * a < b * b
square_lt a b h = subst (λ (z : ℕ). a * a < z * z) (sym e) (omega arith)
  where
    e : b ≡ a + 1 + (b - (a + 1))
    e = omega arith

-- The same for any u of at most 53 digits above q * U, and below it. Where q is 2 ^ 52, numbers below q * U lie closer,
-- but then the root is not below q * U.
module _ (X q j u : ℕ) (n : Near X q) (long : 2 ^ 104 ≤ X) (least : 2 ^ 52 ≤ q) (d : Digits53 u) where
  next_above : q * 2 ^ j < u → 4 * (X * (2 ^ j * 2 ^ j)) < (u + q * 2 ^ j) * (u + q * 2 ^ j)
  next_above h =
      let U = 2 ^ j in
      let m = multiple u j d (le_trans (mul-le-mul_right U least) (le_of_lt h)) in
      let c : q < m.0 = lt_of_mul-lt-mul_right U (subst (λ (z : ℕ). q * U < z) m.1 h) in
      middle_above X q U u (pow_pos j) n
      (subst₂ (λ (a b : ℕ). a * U ≤ b) (sym (add-one q)) (sym m.1) (mul-le-mul_right U c))

  spaced : u < q * 2 ^ j → 2 ^ 52 < q → (u < 2 ^ 52 * 2 ^ j) ⊎ (2 ^ 52 * 2 ^ j ≤ u) → u + 2 ^ j ≤ q * 2 ^ j
  spaced h l (inr k) =
      let U = 2 ^ j in
      let m = multiple u j d k in
      let c : suc m.0 ≤ q = lt_of_mul-lt-mul_right U (subst (λ (z : ℕ). z < q * U) m.1 h) in
      le_trans (le_of_eq (ap (λ (z : ℕ). z + U) m.1 ∙ sym (suc-mul m.0 U))) (mul-le-mul_right U c)
  spaced h l (inl k) = let U = 2 ^ j in le_trans (omega arith) (mul-le-mul_right U l)

  next_below : u < q * 2 ^ j → (u + q * 2 ^ j) * (u + q * 2 ^ j) < 4 * (X * (2 ^ j * 2 ^ j))
  next_below h = go (cases_lt (2 ^ 52) q)
    where
      lowest : q ≤ 2 ^ 52 → (u + q * 2 ^ j) * (u + q * 2 ^ j) < 4 * (X * (2 ^ j * 2 ^ j))
      lowest l =
          let U = 2 ^ j in
          lt_of_lt_of_le (square_lt (u + q * U) (2 * q * U) (omega arith))
          (le_trans (le_of_eq (product (2 * q) U))
          (le_trans
          (mul-le-mul_right (U * U)
          (le_trans (le_of_eq (omega arith)) (mul-le-mul_left 4 (le_trans (square_le q (2 ^ 52) l) long))))
          (le_of_eq (mul_assoc 4 X (U * U)))))

      go : (2 ^ 52 < q) ⊎ (q ≤ 2 ^ 52) → (u + q * 2 ^ j) * (u + q * 2 ^ j) < 4 * (X * (2 ^ j * 2 ^ j))
      go (inl l) = middle_below X q (2 ^ j) u (pow_pos j) n (spaced h l (cases_lt u (2 ^ 52 * 2 ^ j)))
      go (inr l) = lowest l

module _ (n : ℕ) (p : 0 < n) (d : Digits53 n) (u : ℕ) (g : Digits53 u) where
  -- Any other number above the root is farther from the exact root,
  pub neighbour_above : root_units n < u → 4 * (n * one) < (u + root_units n) * (u + root_units n)
  neighbour_above h =
      let s = scaled n p d in
      subst₂ (λ (a b : ℕ). 4 * a < (u + b) * (u + b)) (sym s.whole) (sym s.is)
      (next_above s.X s.q s.j u s.nearest s.long s.least g (subst (λ (z : ℕ). z < u) s.is h))

  -- and so is any other number below it.
  pub neighbour_below : u < root_units n → (u + root_units n) * (u + root_units n) < 4 * (n * one)
  neighbour_below h =
      let s = scaled n p d in
      subst₂ (λ (a b : ℕ). (u + b) * (u + b) < 4 * a) (sym s.whole) (sym s.is)
      (next_below s.X s.q s.j u s.nearest s.long s.least g (subst (λ (z : ℕ). u < z) s.is h))

-- ---- the root against any v of at most 53 digits, by squares

pub root_units_zero : root_units 0 ≡ 0
unfolding root_units
root_units_zero = refl

-- what is not 0 is above it
pub by_zero : (n : ℕ) → (n ≡ 0) ⊎ (0 < n)
by_zero zero = inl refl
by_zero (suc n) = inr (omega arith)

-- the middle of v and r is on r's side of v
middle_over : (v r a : ℕ) → v < r → a ≤ v * v → (v + r) * (v + r) < 4 * a → ⊥
middle_over v r a l h k = let g = square_lt (v + v) (v + r) (omega arith) in omega arith

middle_under : (v r a : ℕ) → r < v → v * v ≤ a → 4 * a < (v + r) * (v + r) → ⊥
middle_under v r a l h k = let g = square_lt (v + r) (v + v) (omega arith) in omega arith

only_zero : (v r c : ℕ) → v * v ≤ 0 * c → v ≤ r
only_zero zero r c h = zero-le
only_zero (suc v) r c h = absurd (none v c h)
  where
    none : (v c : ℕ) → suc v * suc v ≤ 0 * c → ⊥
    none v c h = omega arith

module _ (n v : ℕ) (d : Digits53 n) (g : Digits53 v) where
  -- Where n is at most the square of v, its root is at most v;
  pub root_le : n * one ≤ v * v → root_units n ≤ v
  root_le h = go (by_zero n) (cases_lt v (root_units n))
    where
      go : (n ≡ 0) ⊎ (0 < n) → (v < root_units n) ⊎ (root_units n ≤ v) → root_units n ≤ v
      go z (inr l) = l
      go (inl z) (inl l) = subst (λ (k : ℕ). k ≤ v) (sym (ap root_units z ∙ root_units_zero)) zero-le
      go (inr p) (inl l) = absurd (middle_over v (root_units n) (n * one) l h (neighbour_below n p d v g l))

  -- where it is at least the square of v, its root is at least v.
  pub root_ge : v * v ≤ n * one → v ≤ root_units n
  root_ge h = go (by_zero n) (cases_lt (root_units n) v)
    where
      go : (n ≡ 0) ⊎ (0 < n) → (root_units n < v) ⊎ (v ≤ root_units n) → v ≤ root_units n
      go z (inr l) = l
      go (inl z) (inl l) = only_zero v (root_units n) one (subst (λ (k : ℕ). v * v ≤ k * one) z h)
      go (inr p) (inl l) = absurd (middle_under v (root_units n) (n * one) l h (neighbour_above n p d v g l))

-- the root is itself a number of at most 53 digits
pub root_digits : (n : ℕ) → 0 < n → Digits53 n → Digits53 (root_units n)
root_digits n p d = let s = scaled n p d in subst (λ (r : ℕ). Digits53 r) (sym s.is) (digits53 s.q s.j s.most)

-- The root is monotone.
pub root_mono : (n m : ℕ) → Digits53 n → Digits53 m → n ≤ m → root_units n ≤ root_units m
root_mono n m d e h = go (by_zero n) (cases_lt (root_units m) (root_units n))
  where
    go : (n ≡ 0) ⊎ (0 < n) → (root_units m < root_units n) ⊎ (root_units n ≤ root_units m) → root_units n ≤ root_units m
    go z (inr l) = l
    go (inl z) (inl l) = subst (λ (k : ℕ). k ≤ root_units m) (sym (ap root_units z ∙ root_units_zero)) zero-le
    go (inr p) (inl l) =
        let q = lt_of_lt_of_le p h in
        absurd (omega (
          arith,
          neighbour_above m q e (root_units n) (root_digits n p d) l,
          neighbour_below n p d (root_units m)
              (root_digits m q e) l,
          mul-le-mul_right one h,
        ))
