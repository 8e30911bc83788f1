-- Exclusives are finite by induction on the levels of supersets that are subtracted, and clamped they are +0 or above. Rests on the laws of
-- magnitudes and on the rows above a row, of which there are at most 1024.
use mathlib.Core.Path.{◌≡◌, refl, subst}
use mathlib.Core.Bool.{Bool, true, false, cond, false≢true}
use mathlib.Core.List.{List, [], ◌∷◌}
use Prim.Native.Nat.{ℕ, zero, suc, ◌+◌, ◌*◌, ◌^◌, ◌≤◌, ◌<◌}
use native.Mathlib.Nat.{mul-le-mul_left}
use native.Mathlib.Omega.{arith}
use borrow.Author.Tests.{le-ltb}
use lib.Dec.{lit≤}
use lib.Ieee.{Float, nan, inf, fin, is_nan, lt, up, down, of_bits}
use lib.ListN.{length}
use lib.Pow.{pow_pos}
use Rattle.lists.specs.Every.{Every}
use Rattle.binary64.specs.Constants.{zero64}
use Rattle.binary64.specs.Floats.{◌+ᶠ◌, ◌-ᶠ◌}
use Rattle.binary64.specs.Functions.{clamp_to_zero}
use Rattle.binary64.specs.Magnitude.{Most}
use Rattle.binary64.proofs.Magnitude.{most_zero, most_weaken, most_coarser, most_either, add_most, sub_most}
use Rattle.plan.proofs.Exactly.{plan_taken}
use Rattle.exclusive.specs.Exclusive.{sum_onto, above, subtracted, unclamped}
use Rattle.exclusive.proofs.Places.{above_few, masks_le}
use Rattle.exclusive.proofs.Unclamped.{above_every}
use Rattle.finite.specs.Exclusives.{MostTwoTo, UnclampedFinite, NotBelowZero, NoExclusiveBelowZero}
use Rattle.finite.specs.Exclusives.{ExclusivesFinite, ClippedExclusivesFinite, OpenExclusivesFinite}
use Rattle.finite.proofs.Rows.{table_finite}
use Rattle.finite.proofs.ClippedRows.{table_clipped_finite}

-- ---- level by level

-- a sum of so many numbers of a bound
sum_most : (f : ℕ → Float) (j k a : ℕ) (sum : Float) (l : List ℕ) → a ≤ 2044 → Most k a sum → Every (λ T. Most j a (f T)) l → k + length l * j ≤ 2 ^ 53
    → Most (k + length l * j) a (sum_onto f sum l)
unfolding sum_onto
sum_most f j k a sum [] h m e r = most_weaken m (omega arith)
sum_most f j k a sum (T ∷ l) h m e r =
    most_weaken (sum_most f j (k + j) a (sum +ᶠ f T) l h (add_most m e.0 (omega arith) h) e.1 (omega arith)) (omega arith)

module _ (n k : ℕ) (present : ℕ → Bool) (number : ℕ → Float) (few : n ≤ 10) (small : k ≤ 862) (bounded : (S : ℕ) → S < 2 ^ n → MostTwoTo k (number S)) where
  -- the exponent of the bound, d levels deep
  abbrev exponent : ℕ → ℕ
  exponent d = 11 * d + (k + 1061)

  raised : (d : ℕ) {x : Float} → MostTwoTo k x → Most 8192 (exponent d) x
  raised d m = most_coarser m (11 * d) 8192 (omega (arith, mul-le-mul_left 8192 (pow_pos (11 * d))))

  -- the difference is of the next level
  rest_most : (d S : ℕ) → d ≤ 10 → S < 2 ^ n → Most 8388608 (exponent d) (subtracted n present number d S)
      → Most 8192 (exponent (suc d)) (number S -ᶠ subtracted n present number d S)
  rest_most d S h hs m =
      let e : 11 + exponent d ≡ exponent (suc d) = omega arith in
      subst (λ (a : ℕ). Most 8192 a (number S -ᶠ subtracted n present number d S)) e
      (most_coarser (sub_most (raised d (bounded S hs)) m (lit≤ tt) (omega arith)) 11 8192 (lit≤ tt))

  -- and at most 1024 differences are subtracted
  less_most : (d S : ℕ) → d ≤ 10 → S < 2 ^ n → Most 8388608 (exponent d) (subtracted n present number d S)
  unfolding subtracted
  less_most zero S h hs = most_zero
  less_most (suc d) S h hs =
      let rest : ℕ → Float = λ T. number T -ᶠ subtracted n present number d T in
      let many : length (above n present S) ≤ 1024 = omega (arith, above_few present n S, masks_le n few) in
      most_weaken
      (sum_most rest 8192 0 (exponent (suc d)) zero64 (above n present S) (omega arith) most_zero
      (above_every n present S hs (λ T. Most 8192 (exponent (suc d)) (rest T)) (λ T l m. rest_most d T (omega arith) l (less_most d T (omega arith) l)))
      (omega arith))
      (omega arith)

-- Each number less its supersets is at most 2^(k + 11(n+1)).
pub unclamped_finite : UnclampedFinite
unfolding unclamped
unclamped_finite n k present number few small bounded S hs =
    let e : 11 * suc n + (k + 1061) ≡ k + 11 * (n + 1) + 1061 = omega arith in
    subst (λ (a : ℕ). Most 8192 a (unclamped n present number S)) e
    (rest_most n k present number few small bounded n S few hs (less_most n k present number few small bounded n S few hs))

-- ---- not below zero

pub zero_not_below : NotBelowZero zero64
unfolding lt of_bits is_nan
zero_not_below = record { not_below = refl; plus_signed = refl; number = refl }

above_not_below : (x : Float) → lt zero64 x ≡ true → NotBelowZero x
unfolding lt of_bits is_nan
above_not_below nan e = absurd (false≢true e)
above_not_below (inf true) e = absurd (false≢true e)
above_not_below (inf false) e = record { not_below = refl; plus_signed = refl; number = refl }
above_not_below (fin true m p) e = absurd (false≢true e)
above_not_below (fin false m p) e = record { not_below = le-ltb (m * up p * 1) (0 * down p) (omega arith); plus_signed = refl; number = refl }

clamped_not_below : (x : Float) → NotBelowZero (clamp_to_zero x)
clamped_not_below x = by (lt zero64 x) refl
  where
    by : (b : Bool) → lt zero64 x ≡ b → NotBelowZero (cond b x zero64)
    by true e = above_not_below x e
    by false e = zero_not_below

-- No exclusive is below zero, whatever the rows are.
pub no_exclusive_below_zero : NoExclusiveBelowZero
no_exclusive_below_zero n present area S = by (present S)
  where
    by : (b : Bool) → NotBelowZero (cond b (clamp_to_zero (unclamped n present area S)) zero64)
    by true = clamped_not_below (unclamped n present area S)
    by false = zero_not_below

-- ---- of a taken plan

pub exclusives_finite : (n k : ℕ) (present : ℕ → Bool) (area : ℕ → Float) → n ≤ 10 → k ≤ 862 → ((S : ℕ) → S < 2 ^ n → MostTwoTo k (area S))
    → ExclusivesFinite k n present area
exclusives_finite n k present area few small bounded =
    let left = unclamped_finite n k present area few small bounded in
    record {
      unclamped = left;
      exclusive = λ S h. most_either (present S) (most_either (lt zero64 (unclamped n present area S)) (left S h) most_zero) most_zero;
      not_below = no_exclusive_below_zero n present area;
    }

-- The exclusives of a taken plan in its box.
pub clipped_exclusives_finite : ClippedExclusivesFinite
clipped_exclusives_finite sets exclusives present p ten taken =
    exclusives_finite p.n 46 present _ ((plan_taken p ten).0 taken).count (lit≤ tt)
    (λ S h. most_coarser (table_clipped_finite sets exclusives p ten taken S h) 33 8192 (lit≤ tt))

-- And without it.
pub open_exclusives_finite : OpenExclusivesFinite
open_exclusives_finite sets exclusives present p ten taken =
    exclusives_finite p.n 41 present _ ((plan_taken p ten).0 taken).count (lit≤ tt)
    (λ S h. most_coarser (table_finite sets exclusives p ten taken S h) 28 8192 (lit≤ tt))
