-- Laws of presence bytes of which some are set to 1, and of a loop that sets them.
use mathlib.Core.Path.{◌≡◌, refl, sym, ◌∙◌}
use mathlib.Core.Bool.{Bool, true, false, not, cond, ◌&&◌, ◌||◌}
use mathlib.Core.List.{List}
use Prim.Native.Nat.{ℕ, ◌+◌, ◌≤◌, ◌<◌}
use native.Mathlib.Omega.{arith}
use Rattle.std.proofs.lemmas.Bool.Decides.{nat_tests}
use Rattle.std.proofs.lemmas.Grind.{same_number_lists}
use Rattle.std.proofs.lemmas.List.{get_or_past}
use lib.Dec.{eqb}
use lib.ListN.{length, get_or, set, replicate, length-set, length-replicate, get_or-replicate}
use lib.Seq.{get_or-set_same, get_or-set_other}
use Rattle.lists.specs.Some.{some}
use Rattle.lists.specs.Written.{written}
use Rattle.masks.specs.Presence.{byte}
use Rattle.lists.proofs.Somes.{some_next, some_zero}
use Rattle.lists.proofs.Writing.{length_tab, get_d_tab, length_written, written_before, written_past}
use Rattle.masks.specs.Mask.{in_set, single, without_head}
use Rattle.sets.specs.Marked.{marked}
use Rattle.sets.specs.Sets.{pair, paired, pairs_of, is_pair}
use Rattle.sets.specs.Regions.{is_one_head}
use Rattle.sets.specs.Steps.{part_of}
use Rattle.sets.proofs.Masks.{single_at, without_at, pair_at, lacks_at, has_at}

pub length_marked : (p : ℕ → Bool) (l : List ℕ) → length (marked p l) ≡ length l
unfolding marked
length_marked p l = length_tab _ (length l)

pub marked_at : (p : ℕ → Bool) (l : List ℕ) (S : ℕ) → S < length l
    → get_or (marked p l) S 0 ≡ cond (p S) 1 (get_or l S 0)
unfolding marked
marked_at p l S h = get_d_tab (λ S. cond (p S) 1 (get_or l S 0)) (length l) S 0 h

-- a byte that is not marked
pub marked_not : (p : ℕ → Bool) (l : List ℕ) (S : ℕ) → p S ≡ false → get_or (marked p l) S 0 ≡ get_or l S 0
marked_not p l S e = grind (arith, nat_tests, length_marked, marked_at, get_or_past)

-- bytes are marked if each byte is as marked
pub marked_is : (p : ℕ → Bool) (l m : List ℕ) → length m ≡ length l
    → ((S : ℕ) → S < length l → get_or m S 0 ≡ cond (p S) 1 (get_or l S 0)) → m ≡ marked p l
marked_is p l m e each =
    same_number_lists m (marked p l) (e ∙ sym (length_marked p l))
    (λ S h. let k : S < length l = omega (arith, e) in each S k ∙ sym (marked_at p l S k))

pub marked_same : (p q : ℕ → Bool) (l : List ℕ) → ((S : ℕ) → S < length l → p S ≡ q S) → marked p l ≡ marked q l
marked_same p q l same =
    marked_is q l (marked p l) (length_marked p l) (λ S h. grind (arith, marked_at p l S h, same S h))

-- no mark
pub marked_none : (p : ℕ → Bool) (l : List ℕ) → ((S : ℕ) → S < length l → p S ≡ false) → l ≡ marked p l
marked_none p l none = marked_is p l l refl (λ S h. grind (arith, none S h))

-- a byte of a list in which byte v is set
pub set_at : (l : List ℕ) (v S : ℕ) → S < length l → get_or (set l v 1) S 0 ≡ cond (eqb S v) 1 (get_or l S 0)
set_at l v S h = grind (arith, nat_tests, get_or-set_same {A = ℕ}, get_or-set_other {A = ℕ})

-- one mark more
pub mark_next : (p : ℕ → Bool) (l : List ℕ) (v : ℕ) → set (marked p l) v 1 ≡ marked (λ S. p S || eqb S v) l
mark_next p l v =
    marked_is _ l (set (marked p l) v 1) (length-set _ v 1 ∙ length_marked p l)
    (λ S h. grind (arith, length_marked, set_at, marked_at p l S h))

-- marked twice
pub marked_again : (p q : ℕ → Bool) (l : List ℕ) → marked q (marked p l) ≡ marked (λ S. p S || q S) l
marked_again p q l =
    marked_is _ l (marked q (marked p l)) (length_marked q _ ∙ length_marked p l)
    (λ S h. grind (arith, length_marked, marked_at))

-- ---- a loop that has come to j, of marks of the masks v 0, v 1, .. for which a test holds

unfoldable pub marks_to : (ℕ → ℕ) → (ℕ → Bool) → ℕ → List ℕ → List ℕ
marks_to v test j l = marked (λ S. some j (λ k. eqb S (v k) && test k)) l

module _ (v : ℕ → ℕ) (test : ℕ → Bool) (l : List ℕ) where
  pub marks_start : marks_to v test 0 l ≡ l
  unfolding marks_to
  marks_start = sym (marked_none _ l (λ S h. some_zero _))

  pub marks_with : (j m : ℕ) → m ≡ v j → test j ≡ true → set (marks_to v test j l) m 1 ≡ marks_to v test (j + 1) l
  unfolding marks_to
  marks_with j m at passes =
      rw (at, mark_next) (marked_same _ _ l (λ S h. grind (arith, passes, some_next j (λ k. eqb S (v k) && test k))))

  pub marks_without : (j : ℕ) → test j ≡ false → marks_to v test (j + 1) l ≡ marks_to v test j l
  unfolding marks_to
  marks_without j fails = marked_same _ _ l (λ S h. grind (arith, fails, some_next j (λ k. eqb S (v k) && test k)))

  -- a mask that is marked already
  pub marks_had : (j m : ℕ) → m ≡ v j → get_or (marks_to v test j l) m 0 ≡ 1
      → marks_to v test (j + 1) l ≡ marks_to v test j l
  unfolding marks_to
  marks_had j m at had =
      sym (marked_is _ l _ (length_marked _ l)
      (λ S h. grind (
        arith,
        nat_tests,
        at,
        had,
        marked_at (λ S. some j (λ k. eqb S (v k) && test k)) l S h,
        some_next j (λ k. eqb S (v k) && test k),
      )))

pub ruleset marking = (marks_start, marks_with, marks_without, marks_had)

-- ---- marks on no bytes

abbrev pub zeros : ℕ → List ℕ
zeros m = replicate m 0

-- marks of masks of n heads only
pub marks : (p q : ℕ → Bool) (m : ℕ) → m ≤ 1024 → ((S : ℕ) → S < m → p S ≡ q S)
    → ((S : ℕ) → m ≤ S → p S ≡ false) → marked p (zeros 1024) ≡ written (λ S. byte (q S)) m (zeros 1024)
marks p q m h same beyond =
    sym (marked_is p (zeros 1024) _ (length_written _ m _ (omega (arith, length-replicate {A = ℕ} 1024 0)))
    (λ S k. let r : S < 1024 = omega (arith, length-replicate {A = ℕ} 1024 0) in
    grind (
      arith,
      nat_tests,
      same S,
      beyond S,
      get_or-replicate {A = ℕ} 1024 S 0 0 r,
      written_before (λ T. byte (q T)) m S (zeros 1024) 0,
      written_past (λ T. byte (q T)) m S (zeros 1024) 0,
    )))

-- ---- what the loops of the first masks mark

module _ (n i : ℕ) (l : List ℕ) where
  pub parts_end : (M : ℕ) → i ≡ n → marks_to (without_head n M) (in_set M) i l ≡ marked (part_of n M) l
  unfolding marks_to
  parts_end M e = rw e refl

  pub singles_end : (closed : ℕ → Bool) → i ≡ n
      → marks_to (single n) (λ k. not (closed k)) i l ≡ marked (is_one_head n closed) l
  unfolding marks_to is_one_head
  singles_end closed e = rw e refl

pub ruleset parts = (marking, parts_end, without_at, lacks_at, has_at)

pub ruleset singles = (marking, single_at)

-- pairs of the heads below i, with the heads before each
unfoldable pub pairs_to : ℕ → (ℕ → ℕ → Bool) → (ℕ → ℕ → Bool) → ℕ → List ℕ → List ℕ
pairs_to n meets contains i l = marked (λ S. some i (λ k. pairs_of n meets contains k S)) l

module _ (n : ℕ) (meets contains : ℕ → ℕ → Bool) (i : ℕ) (l : List ℕ) where
  pub pairs_start : pairs_to n meets contains 0 l ≡ l
  unfolding pairs_to
  pairs_start = sym (marked_none _ l (λ S h. some_zero _))

  pub pairs_next : (j : ℕ) → j ≡ i
      → marks_to (pair n i) (paired meets contains i) j (pairs_to n meets contains i l)
      ≡ pairs_to n meets contains (i + 1) l
  unfolding marks_to pairs_to
  pairs_next j e =
      rw (e, marked_again) (marked_same _ _ l (λ S h. sym (some_next i (λ k. pairs_of n meets contains k S))))

  pub pairs_end : i ≡ n → pairs_to n meets contains i l ≡ marked (is_pair n meets contains) l
  unfolding pairs_to is_pair
  pairs_end e = rw e refl

pub ruleset pairing = (marking, pairs_start, pairs_next, pairs_end, pair_at)
