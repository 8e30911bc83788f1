-- Laws of digits: how many they are, how many a number has in base ten, and how they are put one after another.
use mathlib.Core.Path.{◌≡◌, refl, ap, ◌∙◌}
use mathlib.Core.Bool.{Bool, true, false, cond}
use mathlib.Core.List.{List, ◌∷◌}
use Prim.Native.Nat.{ℕ, zero, suc, max, ◌+◌, ◌*◌, ◌/◌, ◌%◌, ◌-◌, ◌^◌, ◌≤◌, ◌<◌}
use native.Mathlib.Nat.{mul-pos, pow-succ', pow-zero}
use native.Mathlib.Omega.{arith}
use borrow.Author.Tests.{lt-ltb, le-ltb}
use lib.Dec.{ltb}
use lib.ListN.{length, set}
use Rattle.printing.specs.Text.{glyph, digits, places, decimal, put}
use Rattle.printing.proofs.Putting.{put_next}

pub length_digits : (b k n : ℕ) → length (digits b k n) ≡ k
unfolding digits
length_digits b zero n = refl
length_digits b (suc k) n = ap suc (length_digits b k n)

-- the first of so many digits, and the others
pub digits_next : (b k n : ℕ) → digits b (suc k) n ≡ glyph (n / b ^ k % b) ∷ digits b k n
unfolding digits
digits_next b k n = refl

-- ---- how many digits

pub power_pos : (b k : ℕ) → 0 < b → 0 < b ^ k
power_pos b zero h = rw (pow-zero b) (omega arith)
power_pos b (suc k) h = rw (pow-succ' b k) (mul-pos h (power_pos b k h))

-- one digit and the others
pub places_next : (most n : ℕ) → 10 ≤ n → places (suc most) n ≡ suc (places most (n / 10))
unfolding places
places_next most n h = rw (le-ltb n 10 h)

pub places_one : (most n : ℕ) → n < 10 → places most n ≡ 1
unfolding places
places_one zero n h = refl
places_one (suc most) n h = rw (lt-ltb n 10 h)

pub places_few : (most n : ℕ) → places most n ≤ suc most
unfolding places
places_few zero n = omega arith
places_few (suc most) n = by (ltb n 10) (places_few most (n / 10))
  where
    by : (b : Bool) → places most (n / 10) ≤ suc most → cond b 1 (suc (places most (n / 10))) ≤ suc (suc most)
    by true h = omega arith
    by false h = omega arith

-- as many as the power of ten below the number says; 0 has as many as 1
pub places_of_power : (most n k : ℕ) → k ≤ most → 10 ^ k ≤ max n 1 → n < 10 * 10 ^ k → places most n ≡ k + 1
places_of_power most n zero h low high = places_one most n (omega arith)
places_of_power zero n (suc k) h low high = absurd (omega arith)
places_of_power (suc most) n (suc k) h low high =
    let some = power_pos 10 k (omega arith) in
    let more = pow-succ' 10 k in
    let rest = places_of_power most (n / 10) k (omega arith) (omega arith) (omega arith) in
    omega (arith, rest, places_next most n (omega arith))

pub decimal_few : (n : ℕ) → length (decimal n) ≤ 20
decimal_few n = omega (arith, length_digits 10 (places 19 n) n, places_few 19 n)

-- ---- digit by digit

-- the first digit is put, and the others are left
pub put_digit : (out : List ℕ) (place b left n : ℕ) → 0 < left
    → put out place (digits b left n) ≡ put (set out place (glyph (n / b ^ (left - 1) % b))) (place + 1) (digits b (left - 1) n)
put_digit out place b zero n h = absurd (omega arith)
put_digit out place b (suc left) n h =
    let e : left ≡ suc left - 1 = omega arith in
    ap (put out place) (digits_next b left n)
    ∙ put_next out place (glyph (n / b ^ left % b)) (digits b left n)
    ∙ ap (λ j. put (set out place (glyph (n / b ^ j % b))) (place + 1) (digits b j n)) e

pub put_no_digit : (out : List ℕ) (place b n : ℕ) → put out place (digits b 0 n) ≡ out
unfolding digits put
put_no_digit out place b n = refl
