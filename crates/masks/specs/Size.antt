-- The number of heads of a set is the count of ones: a strict superset has more; a head added adds one, one taken away takes one.
use Rattle.std.specs.Prelude.{ℕ, zero, suc, ◌+◌, ◌*◌, ◌/◌, ◌%◌, ◌^◌, ◌≤◌, ◌<◌, min, max, ◌≡◌, refl, Bool, true, false, not, eqb}
use Rattle.std.proofs.Common.{zero-mul, arith, sym, ap, ◌∙◌, eqb-true}
use Rattle.std.proofs.Math.Arith.{bin_ind}
use Rattle.std.specs.Int.Bits.{bit_and, bit_or}
use Rattle.std.proofs.lemmas.Nat.{and_shr, or_shr}
use Rattle.std.specs.Int.Count.{ones, ones_step}
use Rattle.std.proofs.lemmas.Bool.{eqb-false, not-true}
use Rattle.masks.specs.Mask.{bit, Subset, size, subset, strict_subset, shifted, complement}
use Rattle.masks.specs.Operations.{bit_zero, bit_suc, bit-and, bit-or, bit_ext, shifted_is, test_mask, bit_with, bit_with_other, bit_without}
use Rattle.masks.specs.Operations.{bit_without_other}
use Rattle.masks.specs.Subset.{and_both, subset_yes}

-- the empty set has no heads
pub ones_of_zero : ones 0 ≡ 0
unfolding ones
ones_of_zero = refl

-- ---- the count of ones is the number of heads

size_low : (w S : ℕ) → size (suc w) S ≡ S % 2 + size w (S / 2)
unfolding size
size_low zero S = omega (arith, bit_zero S)
size_low (suc w) S = omega (arith, size_low w S, bit_suc S w)

-- counted head by head or by ones
pub ones_size : (w S : ℕ) → S < 2 ^ w → ones S ≡ size w S
unfolding size
ones_size zero S h = ap ones (omega arith) ∙ ones_of_zero
ones_size (suc w) S h = omega (arith, ones_step S, ones_size w (S / 2) (omega arith), size_low w S)

-- ---- subsets

halves : (S T : ℕ) → Subset S T → Subset (S / 2) (T / 2)
halves S T h i = omega (arith, bit_suc S i, bit_suc T i, h (suc i))

-- a subset has no more heads
pub ones_subset : (S T : ℕ) → Subset S T → ones S ≤ ones T
ones_subset =
    bin_ind (λ (n : ℕ). (T : ℕ) → Subset n T → ones n ≤ ones T) (λ T h. omega (arith, ones_of_zero))
    (λ n ih T h. omega (arith, ih (T / 2) (halves n T h), ones_step n, ones_step T, bit_zero n, bit_zero T, h 0))

-- only the empty set has no heads
pub ones_none : (S : ℕ) → ones S ≡ 0 → S ≡ 0
ones_none =
    bin_ind (λ (n : ℕ). ones n ≡ 0 → n ≡ 0) (λ e. refl)
    (λ n ih e. let s = ones_step n in let half : n / 2 ≡ 0 = ih (omega arith) in omega arith)

-- a subset with as many heads is the set itself
pub ones_subset_eq : (S T : ℕ) → Subset S T → ones S ≡ ones T → S ≡ T
ones_subset_eq =
    bin_ind (λ (n : ℕ). (T : ℕ) → Subset n T → ones n ≡ ones T → n ≡ T)
    (λ T h e. sym (ones_none T (sym e ∙ ones_of_zero)))
    (λ n ih T h e.
    let s = ones_step n in
    let t = ones_step T in
    let less = ones_subset (n / 2) (T / 2) (halves n T h) in
    let low : n % 2 ≤ T % 2 = omega (arith, bit_zero n, bit_zero T, h 0) in
    let half : n / 2 ≡ T / 2 = ih (T / 2) (halves n T h) (omega arith) in
    omega (arith, ap ones half))

-- a strict superset has more heads
pub ones_strict : (S T : ℕ) → Subset S T → (S ≡ T → ⊥) → ones S < ones T
ones_strict S T h k = go (eqb (ones S) (ones T)) refl
  where
    go : (b : Bool) → eqb (ones S) (ones T) ≡ b → ones S < ones T
    go true e = absurd (k (ones_subset_eq S T h (eqb-true (ones S) (ones T) e)))
    go false e = let n = eqb-false (ones S) (ones T) e in omega (arith, ones_subset S T h)

-- the same of the test that the code makes
pub strict_more : (w S U : ℕ) → S < 2 ^ w → strict_subset w S U ≡ true → ones S < ones U
strict_more w S U hs e =
    let both = and_both (subset w S U) (not (eqb S U)) e in
    ones_strict S U ((subset_yes w S U hs).0 both.0) (λ same. eqb-false S U (not-true (eqb S U) both.1) same)

-- ---- one head more, one head less

half_or : (S T : ℕ) → bit_or S T / 2 ≡ bit_or (S / 2) (T / 2)
half_or S T = or_shr S T 1

half_and : (S T : ℕ) → bit_and S T / 2 ≡ bit_and (S / 2) (T / 2)
half_and S T = and_shr S T 1

low_or : (S T : ℕ) → bit_or S T % 2 ≡ max (S % 2) (T % 2)
low_or S T = omega (arith, bit-or S T 0, bit_zero (bit_or S T), bit_zero S, bit_zero T)

low_and : (S T : ℕ) → bit_and S T % 2 ≡ min (S % 2) (T % 2)
low_and S T = omega (arith, bit-and S T 0, bit_zero (bit_and S T), bit_zero S, bit_zero T)

-- the heads of the join and of what is common are those of both
pub ones_or_and : (S T : ℕ) → ones (bit_or S T) + ones (bit_and S T) ≡ ones S + ones T
ones_or_and =
    bin_ind (λ (n : ℕ). (T : ℕ) → ones (bit_or n T) + ones (bit_and n T) ≡ ones n + ones T) (λ T. omega arith)
    (λ n ih T.
    let or = ones_step (bit_or n T) ∙ ap (λ (m : ℕ). bit_or n T % 2 + ones m) (half_or n T) in
    let and = ones_step (bit_and n T) ∙ ap (λ (m : ℕ). bit_and n T % 2 + ones m) (half_and n T) in
    omega (arith, ih (T / 2), ones_step n, ones_step T, low_or n T, low_and n T))

-- a single head
pub ones_power : (i : ℕ) → ones (2 ^ i) ≡ 1
ones_power zero = ones_step 1 ∙ omega (arith, ones_of_zero)
ones_power (suc i) =
    ones_step (2 ^ suc i) ∙ omega (arith, ap ones (doubled i), ones_power i)
  where
    doubled : (k : ℕ) → 2 ^ suc k / 2 ≡ 2 ^ k
    doubled k = omega arith

pub ones_shifted : (w i : ℕ) → i < w → ones (shifted w i) ≡ 1
ones_shifted w i h = ap ones (shifted_is w i h) ∙ ones_power i

-- `S | 1 << i` of a head that is not in S
pub ones_with : (w S i : ℕ) → i < w → bit S i ≡ 0 → ones (bit_or S (shifted w i)) ≡ suc (ones S)
ones_with w S i h z =
    let empty : bit_and S (shifted w i) ≡ 0 = test_mask w S i h ∙ ap (λ (n : ℕ). n * 2 ^ i) z ∙ zero-mul (2 ^ i) in
    omega (arith, ones_or_and S (shifted w i), ap ones empty, ones_of_zero, ones_shifted w i h)

-- a head taken away and put back
pub without_with : (w S i : ℕ) → S < 2 ^ w → i < w → bit S i ≡ 1 → bit_or (bit_and S (complement w (shifted w i))) (shifted w i) ≡ S
without_with w S i hs h z =
    let rest = bit_and S (complement w (shifted w i)) in
    bit_ext (bit_or rest (shifted w i)) S (λ j. go rest (λ other. bit_without_other w S i j hs h other) (eqb i j) refl)
  where
    go : {j : ℕ} (rest : ℕ) → ((i ≡ j → ⊥) → bit rest j ≡ bit S j) → (b : Bool) → eqb i j ≡ b → bit (bit_or rest (shifted w i)) j ≡ bit S j
    go {j} rest k true e =
        let same = eqb-true i j e in
        sym (ap (bit (bit_or rest (shifted w i))) same) ∙ bit_with w rest i h ∙ sym z ∙ ap (bit S) same
    go {j} rest k false e = bit_with_other w rest i j h (eqb-false i j e) ∙ k (eqb-false i j e)

-- `S & !(1 << i)` of a head that is in S
pub ones_without : (w S i : ℕ) → S < 2 ^ w → i < w → bit S i ≡ 1 → suc (ones (bit_and S (complement w (shifted w i)))) ≡ ones S
ones_without w S i hs h z =
    sym (ones_with w (bit_and S (complement w (shifted w i))) i h (bit_without w S i hs h)) ∙ ap ones (without_with w S i hs h z)
