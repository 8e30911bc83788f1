-- The lowest head of a set by the count of trailing zeros: it is in the set and none below it is; a set of one head is its single.
use Rattle.std.specs.Prelude.{ℕ, zero, suc, ◌/◌, ◌%◌, ◌^◌, ◌<◌, ◌≡◌, refl, Bool, true, false, ltb}
use Rattle.std.proofs.Common.{arith, sym, ap, ◌∙◌, ltb-true, ltb-false}
use Rattle.std.specs.Int.Count.{ones, count_trailing_zeros, under}
use Rattle.masks.specs.Mask.{bit, shifted}
use Rattle.masks.specs.Operations.{bit_zero, bit_suc, bit_le, bit_power, bit_power_other, shifted_is}
use Rattle.masks.specs.Subset.{power_subset}
use Rattle.masks.specs.Size.{ones_of_zero, ones_power, ones_subset_eq}

-- ---- the count of trailing zeros

below_under : (S j t : ℕ) → ((i : ℕ) → i < t → bit (S / 2) i ≡ 0) → (d : ℕ) → S % 2 ≡ d → j < under d t → bit S j ≡ 0
below_under S zero t h zero e k = bit_zero S ∙ e
below_under S (suc j) t h zero e k = bit_suc S j ∙ h j (omega arith)
below_under S j t h (suc d) e k = absurd (omega arith)

-- no head below it is in S
pub trailing_below : (w S j : ℕ) → j < count_trailing_zeros w S → bit S j ≡ 0
unfolding count_trailing_zeros
trailing_below zero S j h = absurd (omega arith)
trailing_below (suc w) S j h =
    below_under S j (count_trailing_zeros w (S / 2)) (λ i k. trailing_below w (S / 2) i k) (S % 2) refl h

in_under : (S w t : ℕ) → (t < w → bit (S / 2) t ≡ 1) → (d : ℕ) → S % 2 ≡ d → under d t < suc w → bit S (under d t) ≡ 1
in_under S w t h zero e k = bit_suc S t ∙ h (omega arith)
in_under S w t h (suc d) e k = omega (arith, bit_zero S, bit_le S 0)

-- it is in S, where any head below w is
pub trailing_in : (w S : ℕ) → count_trailing_zeros w S < w → bit S (count_trailing_zeros w S) ≡ 1
unfolding count_trailing_zeros
trailing_in zero S h = absurd (omega arith)
trailing_in (suc w) S h = in_under S w (count_trailing_zeros w (S / 2)) (λ k. trailing_in w (S / 2) k) (S % 2) refl h

under_lt : (S w t : ℕ) → (0 < S / 2 → t < w) → 0 < S → (d : ℕ) → S % 2 ≡ d → under d t < suc w
under_lt S w t h p zero e = omega (arith, h (omega arith))
under_lt S w t h p (suc d) e = omega arith

-- a set that is not empty has a lowest head
pub trailing_lt : (w S : ℕ) → 0 < S → S < 2 ^ w → count_trailing_zeros w S < w
unfolding count_trailing_zeros
trailing_lt zero S p h = absurd (omega arith)
trailing_lt (suc w) S p h =
    under_lt S w (count_trailing_zeros w (S / 2)) (λ q. trailing_lt w (S / 2) q (omega arith)) p (S % 2) refl

-- the head that is in S with none below it is the count of trailing zeros
pub trailing_unique : (w S i : ℕ) → i < w → bit S i ≡ 1 → ((j : ℕ) → j < i → bit S j ≡ 0) → count_trailing_zeros w S ≡ i
trailing_unique w S i h one none = go (ltb (count_trailing_zeros w S) i) (ltb i (count_trailing_zeros w S)) refl refl
  where
    go : (p q : Bool) → ltb (count_trailing_zeros w S) i ≡ p → ltb i (count_trailing_zeros w S) ≡ q → count_trailing_zeros w S ≡ i
    go true q e f =
        let less = ltb-true (count_trailing_zeros w S) i e in
        absurd (omega (arith, trailing_in w S (omega arith), none (count_trailing_zeros w S) less))
    go false true e f = absurd (omega (arith, trailing_below w S i (ltb-true i (count_trailing_zeros w S) f)))
    go false false e f = omega (arith, ltb-false (count_trailing_zeros w S) i e, ltb-false i (count_trailing_zeros w S) f)

-- ---- a single head

-- the lowest head of a single is its head
pub trailing_power : (w i : ℕ) → i < w → count_trailing_zeros w (2 ^ i) ≡ i
trailing_power w i h = trailing_unique w (2 ^ i) i h (bit_power i) (λ j k. bit_power_other i j (λ e. omega arith))

pub trailing_shifted : (w i : ℕ) → i < w → count_trailing_zeros w (shifted w i) ≡ i
trailing_shifted w i h = ap (count_trailing_zeros w) (shifted_is w i h) ∙ trailing_power w i h

-- a set of one head is the single of its lowest
pub one_single : (w S : ℕ) → S < 2 ^ w → ones S ≡ 1 → S ≡ 2 ^ count_trailing_zeros w S
one_single w S h e = sym (ones_subset_eq (2 ^ count_trailing_zeros w S) S (power_subset S (count_trailing_zeros w S) there) (ones_power (count_trailing_zeros w S) ∙ sym e))
  where
    some : (b : Bool) → ltb 0 S ≡ b → 0 < S
    some true f = ltb-true 0 S f
    some false f = let z : S ≡ 0 = omega (arith, ltb-false 0 S f) in absurd (omega (arith, ap ones z, ones_of_zero))

    there : bit S (count_trailing_zeros w S) ≡ 1
    there = trailing_in w S (trailing_lt w S (some (ltb 0 S) refl) h)
