-- What code writes on usize masks, for heads below n, as sets of width n; and one head taken away or put back.
use mathlib.Core.Path.{◌≡◌, sym, ap, ◌∙◌, subst}
use mathlib.Core.Bool.{true, false, not, ◌&&◌}
use Prim.Native.Nat.{ℕ, suc, ◌^◌, ◌≤◌, ◌<◌}
use native.Mathlib.Nat.{lt_of_lt_of_le}
use native.Mathlib.Omega.{arith}
use Rattle.std.proofs.lemmas.Bool.Decides.{nat_tests}
use lib.Bits.{bit_and, bit_or, or_zero_l}
use lib.Count.{ones}
use lib.Dec.{eqb}
use lib.Pow.{pow_mono}
use Rattle.masks.specs.Mask.{in_set, single, with_head, without_head, shifted, complement, subset}
use Rattle.masks.specs.Operations.{shifted_is, shifted_lt, in_minus, in_shifted, in_of_zero, in_of_one}
use Rattle.masks.specs.Operations.{zero_by_mask, one_by_mask, in_by_mask, one_of_in, zero_of_in}
use Rattle.masks.specs.Operations.{with_below, without_below}
use Rattle.masks.specs.Size.{ones_with, ones_without}
use Rattle.masks.specs.Subset.{without_lt, with_gt, and_test}
use Rattle.masks.specs.Gather.{gather_unique, gather_lt, in_gather, shifted_single, or_with_head, and_without_head}
use Rattle.sets.specs.Sets.{pair}

-- ---- the terms of code

wide : (n S : ℕ) → n ≤ 10 → S < 2 ^ n → S < 2 ^ 64
wide n S h k = lt_of_lt_of_le k (pow_mono {i = n} {j = 64} (omega arith))

same_shift : (n i : ℕ) → n ≤ 10 → i < n → shifted 64 i ≡ shifted n i
same_shift n i h k = shifted_is 64 i (omega arith) ∙ sym (shifted_is n i k)

-- `1 << i`
pub single_at : (n i : ℕ) → n ≤ 10 → i < n → shifted 64 i ≡ single n i
single_at n i h k = same_shift n i h k ∙ shifted_single n i k

-- `S | 1 << i`
pub with_at : (n S i : ℕ) → n ≤ 10 → S < 2 ^ n → i < n → bit_or S (shifted 64 i) ≡ with_head n S i
with_at n S i h hs k = ap (bit_or S) (same_shift n i h k) ∙ or_with_head n S i hs k

-- `S & !(1 << i)`
pub without_at : (n S i : ℕ) → n ≤ 10 → S < 2 ^ n → i < n
    → bit_and S (complement 64 (shifted 64 i)) ≡ without_head n S i
without_at n S i h hs k =
    gather_unique n _ _ (without_below n S _ hs)
    (λ j l. grind (arith, in_minus 64 S (shifted 64 i) j (wide n S h hs) (shifted_lt 64 i), in_shifted 64 i j))

-- `is_subset` of masks of at most ten heads
pub subset_at : (n S U : ℕ) → n ≤ 10 → S < 2 ^ n → subset 64 S U ≡ subset n S U
subset_at n S U h k = sym (and_test 64 S U (wide n S h k)) ∙ and_test n S U k

-- `1 << i | 1 << j`
pub pair_at : (n i j : ℕ) → n ≤ 10 → i < n → j < n → bit_or (shifted 64 i) (shifted 64 j) ≡ pair n i j
pair_at n i j h k l = rw (single_at n i h k) (with_at n (single n i) j h (gather_lt n _) l)

-- `S & 1 << i == 0`
pub lacks_at : (S i : ℕ) → i < 64 → bit_and S (shifted 64 i) ≡ 0 → in_set S i ≡ false
lacks_at S i h e = in_of_zero S i (zero_by_mask 64 S i h e)

pub has_at : (S i : ℕ) → i < 64 → (bit_and S (shifted 64 i) ≡ 0 → ⊥) → in_set S i ≡ true
has_at S i h e = in_of_one S i (one_by_mask 64 S i h e)

-- `S & 1 << i != 0`
pub bit_at : (S i : ℕ) → i < 64 → not (eqb (bit_and S (shifted 64 i)) 0) ≡ in_set S i
bit_at S i h = in_by_mask 64 S i h

-- for tests of a mask
pub ruleset bits = (lacks_at, has_at, bit_at)

-- `1 << n`, the number of masks
pub count_at : (n : ℕ) → n ≤ 10 → shifted 64 n ≡ 2 ^ n
count_at n h = shifted_is 64 n (omega arith)

pub count_most : (n : ℕ) → n ≤ 10 → 2 ^ n ≤ 1024
count_most n h = pow_mono {i = n} {j = 10} h

-- masks of ten heads have a place
pub with_row : (S i : ℕ) → S < 1024 → i < 10 → bit_or S (shifted 64 i) < 1024
with_row S i h k = with_below 64 10 S i (omega arith) h k

pub single_row : (i : ℕ) → i < 10 → shifted 64 i < 1024
single_row i h = subst (λ (m : ℕ). m < 1024) (or_zero_l (shifted 64 i)) (with_row 0 i (omega arith) h)

pub part_row : (S U : ℕ) → S < 1024 → bit_and S U < 1024
part_row S U h = without_below 10 S U h

-- for masks of the heads below n as indices, and compared with their number
pub ruleset rows = (count_at, count_most, with_row, single_row, part_row)

-- ---- one head taken away, or put back

module _ (n S i : ℕ) (hs : S < 2 ^ n) (h : i < n) where
  -- with one head fewer, and a smaller number
  pub ones_less : in_set S i ≡ true → suc (ones (without_head n S i)) ≡ ones S
  ones_less e = rw (← and_without_head n S i hs h) (ones_without n S i hs h (one_of_in S i e))

  pub less : in_set S i ≡ true → without_head n S i < S
  less e = rw (← and_without_head n S i hs h) (without_lt n S i hs h (one_of_in S i e))

  -- with a head that it lacks: one head more, and a larger number
  pub ones_more : in_set S i ≡ false → ones (with_head n S i) ≡ suc (ones S)
  ones_more e = rw (← or_with_head n S i hs h) (ones_with n S i h (zero_of_in S i e))

  pub more : in_set S i ≡ false → S < with_head n S i
  more e = rw (← or_with_head n S i hs h) (with_gt n S i h (zero_of_in S i e))

  pub with_without : in_set S i ≡ true → with_head n (without_head n S i) i ≡ S
  with_without e = sym (gather_unique n S _ hs (λ j k. grind (arith, nat_tests, in_gather)))

  pub without_with : in_set S i ≡ false → without_head n (with_head n S i) i ≡ S
  without_with e = sym (gather_unique n S _ hs (λ j k. grind (arith, nat_tests, in_gather)))

pub has : (n S i : ℕ) → i < n → in_set (with_head n S i) i ≡ true
has n S i h = grind (arith, nat_tests, in_gather)

pub lacks : (n S i : ℕ) → i < n → in_set (without_head n S i) i ≡ false
lacks n S i h = grind (arith, nat_tests, in_gather)

-- T is S with head i exactly if S is T without it
pub with_or_without : (n S T i : ℕ) → S < 2 ^ n → T < 2 ^ n → i < n
    → (not (in_set S i) && eqb (with_head n S i) T) ≡ (eqb S (without_head n T i) && in_set T i)
with_or_without n S T i hs ht h =
    grind (arith, nat_tests, with_without n T i ht h, without_with n S i hs h, has n S i h, lacks n T i h)
