-- One pass from the first mask on gives the masks of all levels: what joins from a mask is a larger number, and a mask
-- that was not found is in its level exactly if it joins from one before it.
use mathlib.Core.Path.{◌≡◌, refl, sym, ap, ◌∙◌}
use mathlib.Core.Bool.{Bool, true, false, not, ◌&&◌, ◌||◌}
use mathlib.Core.List.{List}
use Prim.Native.Nat.{ℕ, suc, ◌+◌, ◌-◌, ◌^◌, ◌≤◌, ◌<◌}
use native.Mathlib.Omega.{arith}
use Rattle.std.proofs.lemmas.Bool.Decides.{nat_tests}
use lib.Count.{ones}
use lib.Dec.{eqb}
use lib.ListN.{set}
use Rattle.masks.specs.Mask.{in_set, with_head, without_head}
use Rattle.masks.specs.Presence.{stands}
use Rattle.masks.specs.Subset.{and_both}
use Rattle.lists.specs.Some.{some}
use Rattle.lists.proofs.Somes.{some_next, some_zero, some_of, some_none, some_cong}
use Rattle.sets.specs.Marked.{marked}
use Rattle.sets.specs.Sets.{in_level, joined}
use Rattle.sets.specs.Steps.{joins, joining_of, joining_below, joined_below}
use Rattle.sets.proofs.Masks.{with_at, lacks_at, has_at, ones_less, ones_more, less, more, has, lacks}
use Rattle.sets.proofs.Masks.{with_without, without_with}
use Rattle.sets.proofs.Taken.{some_at, same_truth}
use Rattle.sets.proofs.Marks.{marks_to, marking, mark_next, marked_none, marked_again, marked_same, marked_not}

module _ (n : ℕ) (f : ℕ → Bool) (o c : ℕ → ℕ) where
  abbrev in_its : ℕ → Bool
  in_its = joined n f o c

  abbrev free : ℕ → Bool
  free = joins n f o c

  abbrev from : ℕ → ℕ → Bool
  from = joining_of n f o c

  -- S with one head less is in its level
  abbrev has_base : ℕ → Bool
  has_base S = some n (λ i. in_set S i && in_its (without_head n S i))

  -- in its level, of a mask of three heads or more
  pub is_more : (S : ℕ) → S < 2 ^ n → 3 ≤ ones S → in_its S ≡ (free S && has_base S)
  unfolding in_level
  is_more S hs h =
      let d : ones S - 2 ≡ suc (ones S - 3) = omega arith in
      let bases : some n (λ i. in_set S i && in_level n f o c (ones S - 3) (without_head n S i)) ≡ has_base S =
      some_cong n _ _ (λ i k. grind (arith, ones_less n S i hs k)) in
      ap (λ (d : ℕ). in_level n f o c d S) d ∙ grind (arith, bases)

  -- of fewer
  pub is_few : (S : ℕ) → ones S ≤ 2 → in_its S ≡ (eqb (ones S) 2 && f S)
  unfolding in_level
  is_few S h =
      let z : ones S - 2 ≡ 0 = omega arith in
      ap (λ (d : ℕ). in_level n f o c d S) z

  -- a mask of a level has two heads or more
  pub two_heads : (S : ℕ) → in_its S ≡ true → 2 ≤ ones S
  two_heads S e = grind (arith, nat_tests, e, is_few S)

  -- what joins from a mask before it has that mask as a base, and the other way round
  joining_is : (S : ℕ) → S < 2 ^ n → joining_below n f o c S S ≡ (free S && has_base S)
  joining_is S hs = same_truth _ _ down up
    where
      down : joining_below n f o c S S ≡ true → (free S && has_base S) ≡ true
      down e =
          let m = some_at S (λ M. in_its M && from M S) e in
          let two = and_both (in_its m.0) (from m.0 S) m.2 in
          let i = some_at n (λ i. eqb S (with_head n m.0 i) && (not (in_set m.0 i) && free (with_head n m.0 i)))
          two.1 in
          let small : m.0 < 2 ^ n = omega (arith, m.1) in
          let base = some_of n (λ j. in_set S j && in_its (without_head n S j)) i.0 i.1
          (grind (arith, nat_tests, two.0, i.2, has n m.0 i.0 i.1, without_with n m.0 i.0 small i.1)) in
          grind (arith, nat_tests, base, i.2)

      up : (free S && has_base S) ≡ true → joining_below n f o c S S ≡ true
      up e =
          let two = and_both (free S) (has_base S) e in
          let i = some_at n (λ i. in_set S i && in_its (without_head n S i)) two.1 in
          let three = and_both (in_set S i.0) (in_its (without_head n S i.0)) i.2 in
          let M = without_head n S i.0 in
          let on = some_of n (λ j. eqb S (with_head n M j) && (not (in_set M j) && free (with_head n M j))) i.0 i.1
          (grind (arith, nat_tests, two.0, with_without n S i.0 hs i.1 three.0, lacks n S i.0 i.1)) in
          some_of S (λ M. in_its M && from M S) M (less n S i.0 hs i.1 three.0) (grind (arith, three.1, on))

  -- a mask is in its level where it is a pair that was found, or joins from one before it
  pub level_test : (S : ℕ) → S < 2 ^ n → ((eqb (ones S) 2 && f S) || joining_below n f o c S S) ≡ in_its S
  level_test S hs =
      let none : ones S ≤ 2 → has_base S ≡ false =
      λ h. some_none n _ (λ i k. grind (arith, nat_tests, is_few (without_head n S i), ones_less n S i hs k)) in
      grind (arith, nat_tests, joining_is S hs, is_few S, is_more S hs, none)

-- ---- the pass

-- the masks below s of their levels, marked as found; and what joins from them, marked in another list
unfoldable pub joined_to : ℕ → (ℕ → Bool) → (ℕ → ℕ) → (ℕ → ℕ) → ℕ → List ℕ → List ℕ
joined_to n f o c s l = marked (joined_below n f o c s) l

unfoldable pub joining_to : ℕ → (ℕ → Bool) → (ℕ → ℕ) → (ℕ → ℕ) → ℕ → List ℕ → List ℕ
joining_to n f o c s l = marked (joining_below n f o c s) l

module _ (n : ℕ) (f : ℕ → Bool) (o c : ℕ → ℕ) (s : ℕ) (l : List ℕ) where
  pub joined_start : joined_to n f o c 0 l ≡ l
  unfolding joined_to
  joined_start = sym (marked_none _ l (λ S h. grind (arith, nat_tests)))

  pub joined_with : joined n f o c s ≡ true → set (joined_to n f o c s l) s 1 ≡ joined_to n f o c (s + 1) l
  unfolding joined_to
  joined_with e = mark_next _ l s ∙ marked_same _ _ l (λ S h. grind (arith, nat_tests, e))

  pub joined_without : joined n f o c s ≡ false → joined_to n f o c (s + 1) l ≡ joined_to n f o c s l
  unfolding joined_to
  joined_without e = marked_same _ _ l (λ S h. grind (arith, nat_tests, e))

  pub joined_end : s ≡ 2 ^ n → joined_to n f o c s l ≡ marked (joined_below n f o c (2 ^ n)) l
  unfolding joined_to
  joined_end e = rw e refl

  pub joining_start : joining_to n f o c 0 l ≡ l
  unfolding joining_to
  joining_start = sym (marked_none _ l (λ S h. some_zero _))

  pub joining_with : joined n f o c s ≡ true
      → marked (joining_of n f o c s) (joining_to n f o c s l) ≡ joining_to n f o c (s + 1) l
  unfolding joining_to
  joining_with e =
      marked_again _ _ l
      ∙ marked_same _ _ l (λ S h. grind (arith, e, some_next s (λ M. joined n f o c M && joining_of n f o c M S)))

  pub joining_without : joined n f o c s ≡ false → joining_to n f o c (s + 1) l ≡ joining_to n f o c s l
  unfolding joining_to
  joining_without e =
      marked_same _ _ l (λ S h. grind (arith, e, some_next s (λ M. joined n f o c M && joining_of n f o c M S)))

  -- what joins from s are larger masks: that s and those before it are marked by then changes nothing
  pub joining_later : (m : ℕ) (level : List ℕ) → m ≤ s + 1 → s < 2 ^ n
      → marked (joining_of n (stands (joined_to n f o c m l)) o c s) level
      ≡ marked (joining_of n (stands l) o c s) level
  unfolding joined_to
  joining_later m level k hs =
      marked_same _ _ level
      (λ S h. some_cong n _ _ (λ i g. let T = with_head n s i in
      grind (arith, nat_tests, more n s i hs g, marked_not (joined_below n f o c m) l T)))

pub ruleset passing =
    (joined_start, joined_with, joined_without, joined_end, joining_start, joining_with, joining_without, joining_later)

-- ---- the masks that join from one mask

-- M lacks head k, and with it joins
unfoldable pub joins_by : ℕ → (ℕ → Bool) → (ℕ → ℕ) → (ℕ → ℕ) → ℕ → ℕ → Bool
joins_by n f o c M k = not (in_set M k) && joins n f o c (with_head n M k)

module _ (n : ℕ) (f : ℕ → Bool) (o c : ℕ → ℕ) (M i : ℕ) where
  pub joins_by_is : joins_by n f o c M i ≡ (not (in_set M i) && joins n f o c (with_head n M i))
  unfolding joins_by
  joins_by_is = refl

  pub joining_end : (l : List ℕ) → i ≡ n
      → marks_to (with_head n M) (joins_by n f o c M) i l ≡ marked (joining_of n f o c M) l
  unfolding marks_to joins_by
  joining_end l e = rw e refl

pub ruleset joining = (marking, joins_by_is, joining_end, with_at, lacks_at, has_at)
