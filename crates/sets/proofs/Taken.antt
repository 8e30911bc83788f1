-- Heads taken from a mask, one at a time, leave its parts: those of one mask, of masks found by one of two tests, and of
-- the adopters of one point and of one point more.
use mathlib.Core.Path.{◌≡◌, refl, sym, ap, ap₂, ◌∙◌}
use mathlib.Core.Bool.{Bool, true, false, not, ◌&&◌, ◌||◌}
use mathlib.Core.List.{List}
use Prim.Native.Nat.{ℕ, zero, suc, ◌+◌, ◌^◌, ◌≤◌, ◌<◌}
use native.Mathlib.Omega.{arith}
use Rattle.std.proofs.lemmas.Bool.Decides.{nat_tests}
use Rattle.std.proofs.lemmas.List.{take_all}
use lib.Count.{ones}
use lib.Dec.{eqb, leb}
use lib.ListN.{length, take, get_or, set, length-set}
use Rattle.masks.specs.Mask.{in_set}
use Rattle.masks.specs.Gather.{gather_lt}
use Rattle.intersections.specs.declared.points.IntersectionPoint.{IntersectionPoint}
use Rattle.intersections.specs.Members.{no_point}
use Rattle.lists.specs.Some.{some, any}
use Rattle.lists.proofs.Somes.{some_cong, some_none, any_next}
use Rattle.sets.specs.Marked.{marked}
use Rattle.sets.specs.Sets.{is_part}
use Rattle.sets.specs.Regions.{is_adopters_of}
use Rattle.sets.specs.Steps.{part_of, adopted, mask_or_part}
use Rattle.sets.proofs.Marks.{length_marked, marked_at, marked_is, marked_same, marked_none, marked_again, set_at}
use Rattle.sets.proofs.Masks.{ones_more, with_or_without}

-- ---- some number that passes

pub some_at : (n : ℕ) (p : ℕ → Bool) → some n p ≡ true → (i : ℕ) × (i < n) × (p i ≡ true)
unfolding some
some_at zero p e = absurd (cc)
some_at (suc n) p e = go (p n) refl (some_at n p)
  where
    go : (b : Bool) → p n ≡ b → (some n p ≡ true → (i : ℕ) × (i < n) × (p i ≡ true))
        → (i : ℕ) × (i < suc n) × (p i ≡ true)
    go true k below = (n, omega arith, k)
    go false k below = let w = below (grind arith) in (w.0, omega (arith, w.1), w.2)

pub same_truth : (a b : Bool) → (a ≡ true → b ≡ true) → (b ≡ true → a ≡ true) → a ≡ b
same_truth a b f g = grind (arith, f, g)

-- both of two tests, and one of two
pub some_and : (n : ℕ) (b : Bool) (p : ℕ → Bool) → (b && some n p) ≡ some n (λ i. b && p i)
unfolding some
some_and zero b p = grind arith
some_and (suc n) b p = grind (arith, some_and n b p)

some_or : (n : ℕ) (p q : ℕ → Bool) → some n (λ i. p i || q i) ≡ (some n p || some n q)
unfolding some
some_or zero p q = refl
some_or (suc n) p q = grind (arith, some_or n p q)

-- ---- parts

module _ (n S : ℕ) where
  -- of one mask
  pub part_of_is : (M : ℕ) → S < 2 ^ n → M < 2 ^ n → is_part n (λ T. eqb T M) S ≡ (leb 3 (ones M) && part_of n M S)
  unfolding is_part
  part_of_is M hs hm =
      some_and n _ _
      ∙ some_cong n _ _ (λ i h. grind (arith, nat_tests, with_or_without n S M i hs hm h, ones_more n S i hs h))
      ∙ sym (some_and n _ _)

  -- with a head more it is a mask of n heads, and so not M
  pub part_past : (M : ℕ) → 2 ^ n ≤ M → is_part n (λ T. eqb T M) S ≡ false
  unfolding is_part
  part_past M h = some_and n _ _ ∙ some_none n _ (λ i k. grind (arith, nat_tests, gather_lt))

  -- the mask without a head is one of n heads
  pub part_of_past : (M : ℕ) → 2 ^ n ≤ S → part_of n M S ≡ false
  part_of_past M h = some_none n _ (λ i k. grind (arith, nat_tests, gather_lt))

  module _ (f g : ℕ → Bool) where
    -- of masks found by tests that agree on masks of n heads
    pub part_agree : ((T : ℕ) → T < 2 ^ n → f T ≡ g T) → is_part n f S ≡ is_part n g S
    unfolding is_part
    part_agree same =
        ap (λ (t : Bool). leb 2 (ones S) && t)
        (some_cong n _ _ (λ i h. ap (λ (b : Bool). not (in_set S i) && b) (same _ (gather_lt n _))))

    -- of masks found by one of two tests
    pub part_or : is_part n (λ T. f T || g T) S ≡ (is_part n f S || is_part n g S)
    unfolding is_part
    part_or =
        some_and n _ _ ∙ some_cong n _ _ (λ i h. grind arith) ∙ some_or n _ _
        ∙ ap₂ ◌||◌ (sym (some_and n _ _)) (sym (some_and n _ _))

-- ---- the adopters of one point

module _ (n v : ℕ) (l : List ℕ) where
  mask_or_part_is : v < 2 ^ n → (S : ℕ) → mask_or_part n v S ≡ (eqb S v || (leb 3 (ones v) && part_of n v S))
  unfolding mask_or_part
  mask_or_part_is h S = grind (arith, nat_tests, part_of_is n S v, part_of_past n S v)

  -- with its parts, where it has three heads or more
  pub one_many : v < 2 ^ n → 3 ≤ ones v → marked (part_of n v) (set l v 1) ≡ marked (mask_or_part n v) l
  one_many h e =
      marked_is _ l _ (length_marked _ _ ∙ length-set l v 1)
      (λ S k. grind (arith, nat_tests, length-set {A = ℕ}, marked_at, set_at, mask_or_part_is h S))

  pub one_few : v < 2 ^ n → ones v < 3 → marked (mask_or_part n v) l ≡ set l v 1
  one_few h e = sym (marked_is _ l _ (length-set l v 1) (λ S k. grind (arith, nat_tests, set_at, mask_or_part_is h S)))

  pub one_past : 2 ^ n ≤ v → marked (mask_or_part n v) l ≡ l
  unfolding mask_or_part
  one_past h = sym (marked_none _ l (λ S k. grind (arith, nat_tests, part_past n S v)))

pub ruleset of_one = (one_many, one_few, one_past)

-- ---- the adopters of the first k points

unfoldable pub adopters_to : ℕ → List IntersectionPoint → ℕ → List ℕ → List ℕ
adopters_to n points k l = marked (adopted n (is_adopters_of (take k points))) l

module _ (n : ℕ) (points : List IntersectionPoint) (k : ℕ) (l : List ℕ) where
  pub adopters_start : adopters_to n points 0 l ≡ l
  unfolding adopters_to any is_part
  adopters_start =
      sym (marked_none _ l (λ S h. grind (arith, some_none n (λ i. not (in_set S i) && false) (λ i k. grind arith))))

  pub adopters_next : k < length points
      → marked (mask_or_part n (get_or points k no_point).adopters) (adopters_to n points k l)
      ≡ adopters_to n points (k + 1) l
  unfolding adopters_to mask_or_part
  adopters_next h =
      let first = is_adopters_of (take k points) in
      let more : (S : ℕ) → is_adopters_of (take (k + 1) points) S ≡ (first S || eqb S v) =
      λ S. any_next (λ q. eqb S q.adopters) points k no_point h in
      marked_again _ _ l
      ∙ marked_same _ _ l (λ S g. grind (
        arith,
        more S,
        part_agree n S (is_adopters_of (take (k + 1) points)) (λ T. first T || eqb T v) (λ T g. more T),
        part_or n S first (λ T. eqb T v),
      ))
    where
      v : ℕ
      v = (get_or points k no_point).adopters

  pub adopters_end : length points ≤ k → adopters_to n points k l ≡ marked (adopted n (is_adopters_of points)) l
  unfolding adopters_to
  adopters_end h = rw (take_all k points h) refl

pub ruleset of_points = (adopters_start, adopters_next, adopters_end)
