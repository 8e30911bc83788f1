-- A mask of a level has all pairs; with one head more it has all pairs exactly if that head overlaps all others; and
-- the pairs of the masks of overlapping heads are the masks of two heads that are found.
use mathlib.Core.Path.{◌≡◌, refl, sym, ap, ◌∙◌}
use mathlib.Core.Bool.{Bool, true, false, not, ◌&&◌, ◌||◌}
use mathlib.Core.List.{List}
use Prim.Native.Nat.{ℕ, suc, ◌^◌, ◌≤◌, ◌<◌}
use native.Mathlib.Omega.{arith}
use Rattle.std.proofs.lemmas.Bool.Decides.{nat_tests}
use borrow.Author.Tests.{eqb-true}
use lib.Count.{ones, count_trailing_zeros}
use lib.Dec.{eqb}
use Rattle.masks.specs.Mask.{in_set, single, with_head, without_head, subset}
use Rattle.masks.specs.Operations.{in_of_one}
use Rattle.masks.specs.Gather.{gather_lt, in_gather, gather_unique}
use Rattle.masks.specs.Lowest.{trailing_in, trailing_lt}
use Rattle.masks.specs.Size.{ones_of_zero, ones_subset_eq}
use Rattle.masks.specs.Subset.{and_both, every_below, every_of, subset_by_heads}
use Rattle.intersections.proofs.Masks.{head_below}
use Rattle.lists.specs.Some.{some}
use Rattle.lists.proofs.Somes.{some_of}
use Rattle.sets.specs.Sets.{pair, paired, is_pair, overlapping, all_pairs, joined}
use Rattle.sets.proofs.Masks.{count_most, ones_less, ones_more, lacks}
use Rattle.sets.proofs.Singles.{ones_single}
use Rattle.sets.specs.Marked.{marked}
use Rattle.sets.specs.Steps.{joining_below}
use Rattle.masks.specs.Presence.{stands}
use lib.ListN.{length-replicate, get_or-replicate}
use Rattle.sets.proofs.Taken.{some_at, same_truth}
use Rattle.sets.proofs.Marks.{zeros, marked_at, length_marked}
use Rattle.sets.proofs.LevelStep.{joining_to, level_test, two_heads, is_more, is_few}

-- ---- all pairs, two heads at a time

module _ (n : ℕ) (o : ℕ → ℕ) (S : ℕ) where
  -- heads a and b of S overlap, if they are two
  abbrev pub Overlap : ℕ → ℕ → Type 0
  Overlap a b = in_set S a ≡ true → in_set S b ≡ true → (b ≡ a → ⊥) → in_set (o a) b ≡ true

  pairs_at : all_pairs n o S ≡ true → (a b : ℕ) → a < n → b < n → Overlap a b
  unfolding all_pairs
  pairs_at e a b ha hb ka kb ne =
      let others = without_head n S a in
      let all : subset n others (o a) ≡ true =
      grind (arith, every_below n (λ i. not (in_set S i) || subset n (without_head n S i) (o i)) e a ha) in
      grind (arith, nat_tests, in_gather, every_below n (λ j. not (in_set others j) || in_set (o a) j) all b hb)

  pairs_each : ((a b : ℕ) → a < n → b < n → Overlap a b) → all_pairs n o S ≡ true
  unfolding all_pairs
  pairs_each each =
      every_of n _ (λ a ha. by a ha (in_set S a) refl)
    where
      by : (a : ℕ) → a < n → (x : Bool) → in_set S a ≡ x → (not x || subset n (without_head n S a) (o a)) ≡ true
      by a ha true ka = every_of n _ (λ b hb. grind (arith, nat_tests, in_gather, each a b ha hb))
      by a ha false ka = refl

-- ---- one head more

module _ (n : ℕ) (o : ℕ → ℕ) (turned : (a b : ℕ) → a < n → b < n → in_set (o a) b ≡ in_set (o b) a) (s i : ℕ)
    (hi : i < n) (out : in_set s i ≡ false) (all : all_pairs n o s ≡ true) where
  pub pairs_with : all_pairs n o (with_head n s i) ≡ subset n s (o i)
  pairs_with =
      same_truth _ _
      (λ e. every_of n _ (λ j h. grind (arith, nat_tests, in_gather, pairs_at n o (with_head n s i) e i j hi h)))
      (λ e. pairs_each n o (with_head n s i) (λ a b ha hb ka kb ne. grind (
        arith,
        nat_tests,
        in_gather,
        turned a b ha hb,
        pairs_at n o s all a b ha hb,
        every_below n (λ j. not (in_set s j) || in_set (o i) j) e,
      )))

-- ---- two heads

module _ (n a b : ℕ) (ha : a < n) (hb : b < n) where
  in_pair : (j : ℕ) → j < n → in_set (pair n a b) j ≡ (eqb j a || eqb j b)
  in_pair j h = grind (arith, in_gather)

  pair_turned : pair n a b ≡ pair n b a
  pair_turned = gather_unique n _ _ (gather_lt n _) (λ j h. grind (arith, in_gather))

  module _ (ne : b ≡ a → ⊥) where
    ones_pair : ones (pair n a b) ≡ 2
    ones_pair =
        ones_more n (single n a) b (gather_lt n _) hb (grind (arith, nat_tests, in_gather))
        ∙ ap suc (ones_single n a ha)

    -- a mask of two heads is their pair
    pair_is : (S : ℕ) → ones S ≡ 2 → in_set S a ≡ true → in_set S b ≡ true → pair n a b ≡ S
    pair_is S two ka kb =
        ones_subset_eq (pair n a b) S
        (subset_by_heads _ S
        (λ j k. grind (arith, nat_tests, in_pair j (head_below (pair n a b) n j (gather_lt n _) k), k, ka, kb)))
        (ones_pair ∙ sym two)

-- a mask that is not empty has a head
head_of : (n S : ℕ) → S < 2 ^ n → 1 ≤ ones S → (i : ℕ) × (i < n) × (in_set S i ≡ true)
head_of n S hs h =
    let below = trailing_lt n S (grind (arith, ones_of_zero)) hs in
    (count_trailing_zeros n S, below, in_of_one S _ (trailing_in n S below))

module _ (n : ℕ) (found : ℕ → Bool) (o : ℕ → ℕ) (over : (i : ℕ) → i < n → o i ≡ overlapping n found i) where
  in_over : (a b : ℕ) → a < n → b < n → in_set (o a) b ≡ found (pair n a b)
  in_over a b ha hb = grind (arith, over a ha, in_gather)

  pub over_turned : (a b : ℕ) → a < n → b < n → in_set (o a) b ≡ in_set (o b) a
  over_turned a b ha hb = grind (arith, in_over a b ha hb, in_over b a hb ha, pair_turned n a b ha hb)

  pub level_pairs : (containing : ℕ → ℕ) (S : ℕ) → S < 2 ^ n → joined n found o containing S ≡ true
      → all_pairs n o S ≡ true
  level_pairs containing S hs e =
      let two : ones S ≡ 2 → found S ≡ true → all_pairs n o S ≡ true =
      λ t f. pairs_each n o S
      (λ a b ha hb ka kb ne. grind (arith, in_over a b ha hb, pair_is n a b ha hb ne S t ka kb)) in
      grind (
        arith,
        nat_tests,
        e,
        two,
        is_more n found o containing S hs,
        is_few n found o containing S,
        two_heads n found o containing S e,
      )

  -- ---- the pairs found, as the masks of two heads

  abbrev pairs : ℕ → Bool
  pairs = is_pair n (λ i j. in_set (o i) j) (λ i j. in_set (o j) i)

  pub pairs_are : (S : ℕ) → S < 2 ^ n → pairs S ≡ (eqb (ones S) 2 && found S)
  unfolding is_pair
  pairs_are S hs = same_truth _ _ from to
    where
      test : ℕ → ℕ → Bool
      test i j = eqb S (pair n i j) && paired (λ i j. in_set (o i) j) (λ i j. in_set (o j) i) i j

      row : ℕ → Bool
      row i = some i (test i)

      from : some n row ≡ true → (eqb (ones S) 2 && found S) ≡ true
      from e =
          let i = some_at n row e in
          let j = some_at i.0 (test i.0) i.2 in
          let l : j.0 < n = omega (arith, i.1, j.1) in
          let two = ones_pair n i.0 j.0 i.1 l (λ k. omega (arith, k, j.1)) in
          grind (arith, nat_tests, j.2, in_over i.0 j.0 i.1 l, over_turned i.0 j.0 i.1 l, two)

      listed : found S ≡ true → (i j : ℕ) → i < n → j < i → pair n i j ≡ S → some n row ≡ true
      listed f i j hi hj same =
          let l : j < n = omega arith in
          some_of n row i hi (some_of i (test i) j hj (grind (arith, nat_tests, same, in_over i j hi l)))

      to : (eqb (ones S) 2 && found S) ≡ true → some n row ≡ true
      to e =
          let got = and_both (eqb (ones S) 2) (found S) e in
          let two = eqb-true (ones S) 2 got.0 in
          let i = head_of n S hs (omega (arith, two)) in
          let j = head_of n (without_head n S i.0) (gather_lt n _) (omega (arith, two, ones_less n S i.0 hs i.1 i.2)) in
          let other : j.0 ≡ i.0 → ⊥ = λ k. grind (arith, nat_tests, j.2, lacks n S i.0 i.1) in
          let there : in_set S j.0 ≡ true = grind (arith, nat_tests, in_gather, j.1, j.2) in
          let same = pair_is n i.0 j.0 i.1 j.1 other S two i.2 there in
          grind (arith, other, listed got.1 i.0 j.0 i.1, listed got.1 j.0 i.0 j.1, same, pair_turned n i.0 j.0 i.1 j.1)

  -- so that in the pass byte s of the level says whether mask s is in its level
  pub level_says : (containing : ℕ → ℕ) (s : ℕ) {level first : List ℕ} → n ≤ 10 → s < 2 ^ n
      → level ≡ joining_to n found o containing s first → first ≡ marked pairs (zeros 1024)
      → stands level s ≡ joined n found o containing s
  unfolding joining_to
  level_says containing s ten hs e k =
      rw (e, k) (grind (
        arith,
        nat_tests,
        count_most n ten,
        marked_at (joining_below n found o containing s) (marked pairs (zeros 1024)) s,
        marked_at pairs (zeros 1024) s,
        length_marked pairs (zeros 1024),
        length-replicate {A = ℕ} 1024 0,
        get_or-replicate {A = ℕ} 1024 s 0 0,
        pairs_are s hs,
        level_test n found o containing s hs,
      ))
