-- The root digit by digit: what holds after each pair of the radicand's digits, and that the end is the nearest whole
-- number.
use Rattle.std.proofs.Common.{zero, ◌≡◌, ℕ, suc, ◌+◌, ◌-◌, ◌*◌, ◌/◌, ◌%◌, ◌^◌}
use Rattle.std.proofs.Common.{◌<◌, ◌≤◌, sym, ap, ◌∙◌, subst, mul-le-mul_right, mul_assoc, pow-suc, sub-one, arith}
use native.Mathlib.Nat.{pow-succ'}
use lib.Arith.{le-zero}
use Rattle.elementary.specs.Root.{nearest_root}
use Rattle.elementary.specs.RootSteps.{Near}
use Rattle.elementary.proofs.root.Whole.{Floor, floor_down, floor_up, near, near_unique}

-- With `left` pairs of digits of m * 2^52 to come, which stand at the head of the 64-bit word `digits`:
-- `root` is the whole part of the root of the pairs taken, and `rest` what its square leaves.
pub record Taken (m digits root rest left : ℕ) : Type 0 where
  pub fits : digits < 2 ^ 64
  pub short : (root + 1) * 2 ^ left ≤ 2 ^ 53
  pub least : rest ≤ 2 * root
  pub whole : m * 2 ^ 116 ≡ ((root * root + rest) * 2 ^ 64 + digits) * 4 ^ left

-- a pair is moved from the digits to come to those taken
moved : (w a b left : ℕ) → 0 < left → w ≡ a * 4 ^ left → a * 4 ≡ b → w ≡ b * 4 ^ (left - 1)
moved w a b zero p h e = elim p [ ]
moved w a b (suc k) p h e =
    rw (sub-one (suc k))
    (h ∙ ap (λ (z : ℕ). a * z) (pow-succ' 4 k) ∙ sym (mul_assoc a 4 (4 ^ k)) ∙ ap (λ (z : ℕ). z * 4 ^ k) e)

-- the root has one digit more
longer : (r s left : ℕ) → 0 < left → (r + 1) * 2 ^ left ≤ 2 ^ 53 → s ≤ r * 2 + 1 → (s + 1) * 2 ^ (left - 1) ≤ 2 ^ 53
longer r s zero q h l = elim q [ ]
longer r s (suc k) q h l = rw (sub-one (suc k)) (go (2 ^ k) (subst (λ (p : ℕ). (r + 1) * p ≤ 2 ^ 53) (pow-suc 2 k) h))
  where
    go : (p : ℕ) → (r + 1) * (p * 2) ≤ 2 ^ 53 → (s + 1) * p ≤ 2 ^ 53
    go p g = omega (arith, mul-le-mul_right p l)

module _ (m digits root rest left : ℕ) (t : Taken m digits root rest left) (p : 0 < left) where
  -- the next digit is 1: the square (2r + 1)² = 4r² + (4r + 1) can be taken
  pub taken_one : root * 4 + 1 ≤ rest * 4 + digits / 2 ^ 62
      → Taken m (digits * 2 ^ 2 % 2 ^ 64) (root * 2 + 1) (rest * 4 + digits / 2 ^ 62 - (root * 4 + 1)) (left - 1)
  taken_one h =
      let f = t.fits in
      let l = t.least in
      record {
        fits = omega arith;
        short = longer root (root * 2 + 1) left p t.short (omega arith);
        least = omega arith;
        whole = moved (m * 2 ^ 116) ((root * root + rest) * 2 ^ 64 + digits) _ left p t.whole (omega arith);
      }

  -- the next digit is 0
  pub taken_zero : rest * 4 + digits / 2 ^ 62 < root * 4 + 1
      → Taken m (digits * 2 ^ 2 % 2 ^ 64) (root * 2) (rest * 4 + digits / 2 ^ 62) (left - 1)
  taken_zero h =
      let f = t.fits in
      let l = t.least in
      record {
        fits = omega arith;
        short = longer root (root * 2) left p t.short (omega arith);
        least = omega arith;
        whole = moved (m * 2 ^ 116) ((root * root + rest) * 2 ^ 64 + digits) _ left p t.whole (omega arith);
      }

-- the digits are all taken
all : (m digits root rest : ℕ) → Taken m digits root rest 0 → m * 2 ^ 52 ≡ root * root + rest
all m digits root rest t =
    let f = t.fits in
    let e : m * 2 ^ 116 ≡ ((root * root + rest) * 2 ^ 64 + digits) * 1 = t.whole in
    omega arith

-- what is nearest is the definition's number
pub nearest_is : (m q : ℕ) → 2 ^ 52 ≤ m → m < 2 ^ 54 → Near (m * 2 ^ 52) q → q ≡ nearest_root 53 (m * 2 ^ 52)
nearest_is m q l h n =
    near_unique (m * 2 ^ 52) q (nearest_root 53 (m * 2 ^ 52)) n (near 53 (m * 2 ^ 52) (omega arith) (omega arith))

module _ (m digits root rest left : ℕ) (l : 2 ^ 52 ≤ m) (h : m < 2 ^ 54) (t : Taken m digits root rest left)
    (z : left ≤ 0) where
  sum : m * 2 ^ 52 ≡ root * root + rest
  sum = all m digits root rest (subst (λ (k : ℕ). Taken m digits root rest k) (le-zero z) t)

  -- the root is the whole part
  part : Floor (m * 2 ^ 52) root
  part = floor_of (m * 2 ^ 52) sum
    where
      floor_of : (n : ℕ) → n ≡ root * root + rest → Floor n root
      floor_of n e = let k = t.least in record { least = omega arith; most = omega arith }

  -- the rest is below the middle
  pub taken_down : rest ≤ root → root ≡ nearest_root 53 (m * 2 ^ 52)
  taken_down g = let e = sum in nearest_is m root l h (floor_down (m * 2 ^ 52) root (omega arith) part (omega arith))

  -- the rest is past the middle
  pub taken_up : root < rest → root + 1 ≡ nearest_root 53 (m * 2 ^ 52)
  taken_up g = let e = sum in nearest_is m (root + 1) l h (floor_up (m * 2 ^ 52) root part (omega arith))
