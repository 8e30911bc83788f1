-- Whole roots: `whole_root` is the whole part of the root, `nearest_root` the nearest whole number, and only one number
-- is nearest.
use Rattle.std.proofs.Common.{◌≡◌, ℕ, zero, suc, ◌+◌, ◌-◌, ◌*◌, ◌/◌, ◌^◌, ◌<◌, ◌≤◌, Bool, true}
use Rattle.std.proofs.Common.{false, cond, not, T, leb, subst}
use Rattle.std.proofs.Common.{le_of_suc-le-suc, div-lt_iff_lt-mul, le_antisymm, pow-suc, lt_of_not-le, arith, leb→le}
use lib.Dec.{nleb→lt}
use Rattle.elementary.specs.Root.{whole_root, nearest_root}
use Rattle.elementary.specs.RootSteps.{Near}

-- r is the whole part of the root of n.
pub record Floor (n r : ℕ) : Type 0 where
  pub least : r * r ≤ n
  pub most : n < (r + 1) * (r + 1)

-- one more pair of binary digits
floor_next : (n s : ℕ) → Floor (n / 4) s → (b : Bool) → (T b → (2 * s + 1) * (2 * s + 1) ≤ n)
    → (T (not b) → n < (2 * s + 1) * (2 * s + 1))
    → Floor n (cond b (2 * s + 1) (2 * s))
floor_next n s f true h k =
    let g = h tt in
    let u = f.most in
    record { least = g; most = omega arith }
floor_next n s f false h k =
    let g = k tt in
    let u = f.least in
    record { least = omega arith; most = omega arith }

pub floor : (k n : ℕ) → n < 4 ^ k → Floor n (whole_root k n)
unfolding whole_root
floor zero n h = record { least = omega arith; most = omega arith }
floor (suc k) n h =
    let s = whole_root k (n / 4) in
    let m = (2 * s + 1) * (2 * s + 1) in
    floor_next n s (floor k (n / 4) ((div-lt_iff_lt-mul (omega arith)).1 (subst (λ (p : ℕ). n < p) (pow-suc 4 k) h)))
    (leb m n) (leb→le m n) (nleb→lt m n)

-- below the middle the whole part is nearest
pub floor_down : (n r : ℕ) → 0 < n → Floor n r → n ≤ r * r + r → Near n r
floor_down n r p f h = record { above = go r f.least; below = h }
  where
    go : (r : ℕ) → r * r ≤ n → r * r < n + r
    go zero l = omega arith
    go (suc r) l = omega arith

-- past it the next number is
pub floor_up : (n r : ℕ) → Floor n r → r * r + r < n → Near n (r + 1)
floor_up n r f h = let u = f.most in record { above = omega arith; below = omega arith }

-- `nearest_root` gives what is nearest.
pub near : (k n : ℕ) → 0 < n → n < 4 ^ k → Near n (nearest_root k n)
unfolding nearest_root
near k n p h =
    let r = whole_root k n in go r (floor k n h) (leb n (r * r + r)) (leb→le n (r * r + r)) (nleb→lt n (r * r + r))
  where
    go : (r : ℕ) → Floor n r → (b : Bool) → (T b → n ≤ r * r + r) → (T (not b) → r * r + r < n)
        → Near n (cond b r (r + 1))
    go r f true h k = floor_down n r p f (h tt)
    go r f false h k = floor_up n r f (k tt)

-- What is nearest to the root of n reaches p where n reaches the square of p,
pub near_over : (n q p : ℕ) → Near n q → p * p ≤ n → p ≤ q
near_over n q p a h = le_of_suc-le-suc (lt_of_not-le (λ (l : q < p). go (p - (q + 1)) (omega arith)))
  where
    short : (k : ℕ) → (q + 1 + k) * (q + 1 + k) ≤ n → ⊥
    short k l = let u = a.below in omega arith

    go : (k : ℕ) → p ≡ q + 1 + k → ⊥
    go k e = short k (subst (λ (z : ℕ). z * z ≤ n) e h)

-- and stays below p where n is not past the middle of p - 1 and p.
pub near_under : (n q p : ℕ) → Near n q → n + p ≤ p * p → q < p
near_under n q p a h = lt_of_not-le (λ (l : p ≤ q). go (q - p) (omega arith))
  where
    long : (k : ℕ) → (p + k) * (p + k) < n + (p + k) → ⊥
    long zero l = omega arith
    long (suc k) l = omega arith

    go : (k : ℕ) → q ≡ p + k → ⊥
    go k e = long k (subst (λ (z : ℕ). z * z < n + z) e a.above)

-- Only one whole number is nearest.
pub near_unique : (n p q : ℕ) → Near n p → Near n q → p ≡ q
near_unique n p q a b = le_antisymm (at_most p q a b) (at_most q p b a)
  where
    past : (q : ℕ) → n ≤ q * q + q → n + suc q ≤ suc q * suc q
    past q h = omega arith

    at_most : (p q : ℕ) → Near n p → Near n q → p ≤ q
    at_most p q a b = le_of_suc-le-suc (near_under n p (suc q) a (past q b.below))
