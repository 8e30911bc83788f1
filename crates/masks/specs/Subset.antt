-- Subset by bits, and as code tests it: `S & T == S`.
use Rattle.std.specs.Prelude.{ℕ, zero, suc, ◌/◌, ◌^◌, ◌≤◌, ◌<◌, ◌≡◌, refl, Bool, true, false, not, ◌&&◌, ◌||◌, ◌↔◌, T, eqb, ltb}
use Rattle.std.proofs.Common.{le_refl, le_trans, le_antisymm, eq-or-lt_of_le, le_of_suc-le-suc, arith, sym, ap, ◌∙◌, subst, ⊎_elim, ltb-true, ltb-false, eqb-true, eq-eqb, ne_eqb}
use Rattle.std.proofs.Math.Arith.{bin_ind}
use Rattle.std.specs.Int.Bits.{bit_and, bit_or}
use Rattle.std.proofs.lemmas.Bool.{eqb-false}
use Rattle.masks.specs.Mask.{bit, in_set, Subset, every, subset, shifted, complement}
use Rattle.masks.specs.Operations.{bit_zero, bit_suc, bit_le, bit-and, bit-or, bit_ext, bit_minus, bit_beyond, bit_power_other, shifted_lt}
use Rattle.masks.specs.Operations.{bit_with, bit_without, in_of_one, one_of_in, zero_of_in}

-- an order on sets
pub subset_refl : (S : ℕ) → Subset S S
subset_refl S i = le_refl (bit S i)

pub subset_trans : (S T U : ℕ) → Subset S T → Subset T U → Subset S U
subset_trans S T U h k i = le_trans (h i) (k i)

pub subset_antisym : (S T : ℕ) → Subset S T → Subset T S → S ≡ T
subset_antisym S T h k = bit_ext S T (λ i. le_antisymm (h i) (k i))

-- `S & T` is a part of both, and both are parts of `S | T`
pub and_subset_left : (S T : ℕ) → Subset (bit_and S T) S
and_subset_left S T i = omega (arith, bit-and S T i)

pub and_subset_right : (S T : ℕ) → Subset (bit_and S T) T
and_subset_right S T i = omega (arith, bit-and S T i)

pub or_subset_left : (S T : ℕ) → Subset S (bit_or S T)
or_subset_left S T i = omega (arith, bit-or S T i)

pub or_subset_right : (S T : ℕ) → Subset T (bit_or S T)
or_subset_right S T i = omega (arith, bit-or S T i)

-- `S & !T` is a part of S
pub minus_subset : (w S T : ℕ) → S < 2 ^ w → T < 2 ^ w → Subset (bit_and S (complement w T)) S
minus_subset w S T hs ht i = omega (arith, bit_minus w S T i hs ht)

-- `S & T == S` exactly if S is a subset of T
pub and_of_subset : (S T : ℕ) → Subset S T → bit_and S T ≡ S
and_of_subset S T h = bit_ext (bit_and S T) S (λ i. omega (arith, bit-and S T i, h i))

pub subset_of_and : (S T : ℕ) → bit_and S T ≡ S → Subset S T
subset_of_and S T e i = omega (arith, bit-and S T i, ap (λ (n : ℕ). bit n i) e)

-- a subset is no larger as a number
pub subset_le : (S T : ℕ) → Subset S T → S ≤ T
subset_le =
    bin_ind (λ (n : ℕ). (T : ℕ) → Subset n T → n ≤ T) (λ T h. omega arith)
    (λ n ih T h. omega (
      arith,
      ih (T / 2) (λ i. subst (λ (a : ℕ). a ≤ bit (T / 2) i) (bit_suc n i)
          (subst (λ (b : ℕ). bit n (suc i) ≤ b) (bit_suc T i) (h (suc i)))),
      bit_zero n,
      bit_zero T,
      h 0,
    ))

-- a strict subset is smaller as a number
pub subset_lt : (S T : ℕ) → Subset S T → (S ≡ T → ⊥) → S < T
subset_lt S T h n = let l = subset_le S T h in omega arith

-- a head of S alone is a subset of S
pub power_subset : (S i : ℕ) → bit S i ≡ 1 → Subset (2 ^ i) S
power_subset S i e j = go (eqb i j) refl
  where
    go : (b : Bool) → eqb i j ≡ b → bit (2 ^ i) j ≤ bit S j
    go true f = let same = eqb-true i j f in omega (arith, ap (bit S) same, bit_le (2 ^ i) j)
    go false f = omega (arith, bit_power_other i j (eqb-false i j f))

-- a join is a subset where both are
pub or_subset : (S T U : ℕ) → Subset S U → Subset T U → Subset (bit_or S T) U
or_subset S T U h k i = omega (arith, bit-or S T i, h i, k i)

-- `S & !(1 << i)` of a head of S is smaller, and `S | 1 << i` of another head larger
pub without_lt : (w S i : ℕ) → S < 2 ^ w → i < w → bit S i ≡ 1 → bit_and S (complement w (shifted w i)) < S
without_lt w S i hs h one =
    subset_lt (bit_and S (complement w (shifted w i))) S (minus_subset w S (shifted w i) hs (shifted_lt w i))
    (λ e. omega (arith, ap (λ (n : ℕ). bit n i) e, bit_without w S i hs h))

pub with_gt : (w S i : ℕ) → i < w → bit S i ≡ 0 → S < bit_or S (shifted w i)
with_gt w S i h none =
    subset_lt S (bit_or S (shifted w i)) (or_subset_left S (shifted w i)) (λ e. omega (arith, ap (λ (n : ℕ). bit n i) e, bit_with w S i h))

-- ---- head by head

-- S is a subset of T exactly if every head of S is in T
pub subset_by_heads : (S T : ℕ) → ((i : ℕ) → in_set S i ≡ true → in_set T i ≡ true) → Subset S T
subset_by_heads S T h i = go (in_set S i) refl
  where
    go : (b : Bool) → in_set S i ≡ b → bit S i ≤ bit T i
    go true e = omega (arith, one_of_in S i e, one_of_in T i (h i e))
    go false e = omega (arith, zero_of_in S i e)

-- and the other way
pub subset_head : (S T : ℕ) → Subset S T → (i : ℕ) → in_set S i ≡ true → in_set T i ≡ true
subset_head S T h i e = in_of_one T i (omega (arith, h i, one_of_in S i e, bit_le T i))

-- ---- the test over the heads below w

pub and_both : (a b : Bool) → (a && b) ≡ true → (a ≡ true) × (b ≡ true)
and_both true b e = (refl, e)
and_both false b e = absurd (subst T (sym e) tt)

-- the test holds exactly if it holds at each head below w
pub every_below : (w : ℕ) (p : ℕ → Bool) → every w p ≡ true → (i : ℕ) → i < w → p i ≡ true
unfolding every
every_below zero p e i h = absurd (omega arith)
every_below (suc w) p e i h =
    let both = and_both (every w p) (p w) e in
    ⊎_elim (λ k. ap p k ∙ both.1) (λ k. every_below w p both.0 i k) (eq-or-lt_of_le (le_of_suc-le-suc h))

pub every_of : (w : ℕ) (p : ℕ → Bool) → ((i : ℕ) → i < w → p i ≡ true) → every w p ≡ true
unfolding every
every_of zero p h = refl
every_of (suc w) p h = simp (every_of w p (λ i k. h i (omega arith)), h w (omega arith))

-- two tests that say the same
pub every_cong : (n : ℕ) (p p' : ℕ → Bool) → ((l : ℕ) → l < n → p l ≡ p' l) → every n p ≡ every n p'
unfolding every
every_cong zero p p' e = refl
every_cong (suc n) p p' e = rw (every_cong n p p' (λ l h. e l (omega arith)), e n (omega arith)) refl

implied : (a b : Bool) → (not a || b) ≡ true → a ≡ true → b ≡ true
implied true b e f = e
implied false b e f = absurd (subst T (sym f) tt)

implies : (a b : Bool) → (a ≡ true → b ≡ true) → (not a || b) ≡ true
implies true b h = h refl
implies false b h = refl

subset_of_test : (w S U : ℕ) → S < 2 ^ w → subset w S U ≡ true → Subset S U
subset_of_test w S U hs e = subset_by_heads S U (λ i f. go i f (ltb i w) refl)
  where
    go : (i : ℕ) → in_set S i ≡ true → (b : Bool) → ltb i w ≡ b → in_set U i ≡ true
    go i f true k =
        implied (in_set S i) (in_set U i) (every_below w (λ j. not (in_set S j) || in_set U j) e i (ltb-true i w k)) f
    go i f false k = absurd (omega (arith, one_of_in S i f, bit_beyond w S i hs (ltb-false i w k)))

test_of_subset : (w S U : ℕ) → Subset S U → subset w S U ≡ true
test_of_subset w S U h =
    every_of w (λ j. not (in_set S j) || in_set U j) (λ i k. implies (in_set S i) (in_set U i) (subset_head S U h i))

-- `S & T == S` is the test head by head
pub and_test : (w S U : ℕ) → S < 2 ^ w → eqb (bit_and S U) S ≡ subset w S U
and_test w S U hs = go (subset w S U) refl
  where
    go : (b : Bool) → subset w S U ≡ b → eqb (bit_and S U) S ≡ b
    go true e = eq-eqb (bit_and S U) S (and_of_subset S U (subset_of_test w S U hs e))
    go false e =
        ne_eqb (bit_and S U) S (λ f. subst T (sym (test_of_subset w S U (subset_of_and S U f)) ∙ e) tt)

-- and it is true exactly for a subset
pub subset_yes : (w S U : ℕ) → S < 2 ^ w → subset w S U ≡ true ↔ Subset S U
subset_yes w S U hs = (subset_of_test w S U hs, test_of_subset w S U)
