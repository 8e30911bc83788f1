-- A closed head is in no set (specs/Closed.antt): it is no single, adopts no point, meets nothing and contains nothing,
-- and what is found from other masks has only heads of theirs, or is not found.
use mathlib.Core.Path.{◌≡◌, refl, sym, ap, ap₂, ◌∙◌}
use mathlib.Core.Bool.{Bool, true, false, not, ◌&&◌, ◌||◌, and-false, true≢false}
use mathlib.Core.List.{List, [], ◌∷◌}
use Prim.Native.Nat.{ℕ, zero, suc, ◌-◌, ◌<◌}
use native.Mathlib.Omega.{arith}
use Rattle.std.proofs.lemmas.Bool.Decides.{nat_tests}
use borrow.Author.Tests.{eqb-true, eqb-false}
use lib.Count.{ones, count_trailing_zeros}
use lib.Dec.{eqb, leb}
use lib.ListN.{length}
use Rattle.masks.specs.Mask.{in_set, every, single, with_head, without_head, subset}
use Rattle.masks.specs.Gather.{gather_lt, in_gather}
use Rattle.masks.specs.Lowest.{trailing_in, trailing_lt}
use Rattle.masks.specs.Operations.{in_of_one, in_of_zero, bit_of_zero}
use Rattle.masks.specs.Size.{ones_of_zero}
use Rattle.masks.specs.Subset.{every_below}
use Rattle.lists.specs.Some.{some, any}
use Rattle.lists.proofs.Somes.{some_none}
use Rattle.geometry.specs.declared.circle.Circle.{Circle}
use Rattle.geometry.proofs.Closed.{closed_circle}
use Rattle.intersections.specs.declared.points.IntersectionPoint.{IntersectionPoint}
use Rattle.intersections.specs.Members.{circle_at, has_parent}
use Rattle.intersections.specs.Points.{collected}
use Rattle.intersections.specs.Closed.{names}
use Rattle.intersections.proofs.Closed.{closed_named_nowhere}
use Rattle.sets.specs.Sets.{pair, paired, pairs_of, is_pair, witnessed, is_part, with_parts, overlapping, containing}
use Rattle.sets.specs.Sets.{all_pairs, one_in_all, in_level, is_set}
use Rattle.sets.specs.Regions.{is_one_head, closed_at, is_adopters_of, parents, meets_at, contains_at}
use Rattle.sets.specs.Closed.{ClosedInNoSet}

every_fails : (w : ℕ) (p : ℕ → Bool) (i : ℕ) → i < w → p i ≡ false → every w p ≡ false
every_fails w p i h e = go (every w p) refl
  where
    go : (b : Bool) → every w p ≡ b → b ≡ false
    go true q = absurd (true≢false (sym (every_below w p q i h) ∙ e))
    go false q = refl

-- ---- a head k that is in no mask found at first: of any answers to the four questions

-- k is one of the two
abbrev one_of_two : ℕ → ℕ → ℕ → Bool
one_of_two k i j = eqb k i || eqb k j

module _ (n : ℕ) (is_single is_adopters : ℕ → Bool) (meets contains : ℕ → ℕ → Bool) (k : ℕ) (below : k < n)
    (no_single : (S : ℕ) → in_set S k ≡ true → is_single S ≡ false)
    (no_adopters : (S : ℕ) → in_set S k ≡ true → is_adopters S ≡ false)
    (no_meeting : (i j : ℕ) → one_of_two k i j ≡ true → meets i j ≡ false)
    (no_holding : (i j : ℕ) → one_of_two k i j ≡ true → contains i j ≡ false) where
  in_pair : (i j : ℕ) → in_set (pair n i j) k ≡ one_of_two k i j
  in_pair i j = grind (arith, in_gather)

  not_paired : (i j : ℕ) → one_of_two k i j ≡ true → paired meets contains i j ≡ false
  not_paired i j e = rw (no_meeting i j e, no_holding i j e) (no_holding j i (grind (arith, e)))

  no_pair : (S : ℕ) → in_set S k ≡ true → is_pair n meets contains S ≡ false
  unfolding is_pair
  no_pair S h =
      some_none n (λ i. pairs_of n meets contains i S)
      (λ i l. some_none i (λ j. eqb S (pair n i j) && paired meets contains i j)
      (λ j m. grind (arith, nat_tests, h, in_pair i j, not_paired i j)))

  abbrev first : ℕ → Bool
  first = witnessed n is_single is_adopters meets contains

  no_first : (S : ℕ) → in_set S k ≡ true → first S ≡ false
  unfolding witnessed
  no_first S h = rw (no_single S h, no_adopters S h, no_pair S h)

  abbrev found : ℕ → Bool
  found = with_parts n first

  -- with one head more it still has k
  no_part : (S : ℕ) → in_set S k ≡ true → is_part n first S ≡ false
  unfolding is_part
  no_part S h =
      ap (λ (b : Bool). leb 2 (ones S) && b)
      (some_none n (λ i. not (in_set S i) && first (with_head n S i))
      (λ i l. grind (arith, no_first (with_head n S i), in_gather, h)))
      ∙ and-false (leb 2 (ones S))

  no_found : (S : ℕ) → in_set S k ≡ true → found S ≡ false
  no_found S h = ap₂ ◌||◌ (no_first S h) (no_part S h)

  -- ---- the levels

  abbrev over : ℕ → ℕ
  over = overlapping n found

  abbrev cont : ℕ → ℕ
  cont = containing n contains

  -- the empty mask is in none
  empty_level : (d : ℕ) → in_level n found over cont d 0 ≡ false
  unfolding in_level
  empty_level zero = ap (λ (m : ℕ). eqb m 2 && found 0) ones_of_zero
  empty_level (suc d) =
      rw (some_none n (λ i. in_set 0 i && in_level n found over cont d (without_head n 0 i))
      (λ i l. ap (λ (b : Bool). b && in_level n found over cont d (without_head n 0 i))
      (in_of_zero 0 i (bit_of_zero i))))
      (grind arith)

  -- k overlaps no head
  lonely : (S j : ℕ) → in_set S k ≡ true → j < n → in_set (without_head n S k) j ≡ true → all_pairs n over S ≡ false
  unfolding all_pairs
  lonely S j h l e =
      let none : in_set (over k) j ≡ false =
      in_gather n (λ i. found (pair n k i)) j l ∙ no_found (pair n k j) (grind (arith, nat_tests, in_pair k j)) in
      every_fails n (λ i. not (in_set S i) || subset n (without_head n S i) (over i)) k below
      (ap (λ (b : Bool). not b || subset n (without_head n S k) (over k)) h
      ∙ every_fails n (λ i. not (in_set (without_head n S k) i) || in_set (over k) i) j l (rw (e, none)))

  -- Without a head other than k it still has k; without k it is empty, or has a head that k overlaps not.
  next_level : (d S : ℕ) → in_set S k ≡ true
      → ((T : ℕ) → in_set T k ≡ true → in_level n found over cont d T ≡ false)
      → in_level n found over cont (suc d) S ≡ false
  unfolding in_level
  next_level d S h rest = by (eqb (without_head n S k) 0) refl
    where
      base : ℕ → Bool
      base i = in_set S i && in_level n found over cont d (without_head n S i)

      at : without_head n S k ≡ 0 → (i : ℕ) → base i ≡ false
      at z i = by (eqb k i) refl
        where
          by : (b : Bool) → eqb k i ≡ b → base i ≡ false
          by true e =
              ap (λ (b : Bool). in_set S i && b)
              (ap (λ (j : ℕ). in_level n found over cont d (without_head n S j)) (sym (eqb-true k i e))
              ∙ ap (in_level n found over cont d) z ∙ empty_level d)
              ∙ and-false (in_set S i)
          by false e =
              ap (λ (b : Bool). in_set S i && b) (rest (without_head n S i) (grind (arith, in_gather, h, e)))
              ∙ and-false (in_set S i)

      by : (b : Bool) → eqb (without_head n S k) 0 ≡ b
          → (not (found S) && (all_pairs n over S && (one_in_all n cont S && some n base))) ≡ false
      by true e = rw (some_none n base (λ i l. at (eqb-true (without_head n S k) 0 e) i)) (grind arith)
      by false e =
          let T = without_head n S k in
          let j = count_trailing_zeros n T in
          let l = trailing_lt n T (omega (arith, eqb-false T 0 e)) (gather_lt n _) in
          rw (lonely S j h l (in_of_one T j (trailing_in n T l))) (grind arith)

  no_level : (d S : ℕ) → in_set S k ≡ true → in_level n found over cont d S ≡ false
  unfolding in_level
  no_level zero S h = ap (λ (b : Bool). eqb (ones S) 2 && b) (no_found S h) ∙ and-false (eqb (ones S) 2)
  no_level (suc d) S h = next_level d S h (no_level d)

  in_no_set : (S : ℕ) → in_set S k ≡ true → is_set n is_single is_adopters meets contains S ≡ false
  unfolding is_set
  in_no_set S h = ap₂ ◌||◌ (no_found S h) (no_level (ones S - 2) S h)

-- ---- circles

-- a stricter test fails where a weaker one does
any_less : (p q : IntersectionPoint → Bool) (l : List IntersectionPoint)
    → ((x : IntersectionPoint) → q x ≡ true → p x ≡ true) → any p l ≡ false → any q l ≡ false
unfolding any
any_less p q [] more e = refl
any_less p q (x ∷ l) more e = grind (arith, more x, any_less p q l more, e)

module _ (cs : List Circle) (k : ℕ) (below : k < length cs) (closed : closed_at cs k ≡ true) where
  no_single : (S : ℕ) → in_set S k ≡ true → is_one_head (length cs) (closed_at cs) S ≡ false
  unfolding is_one_head
  no_single S h =
      some_none (length cs) (λ i. eqb S (single (length cs) i) && not (closed_at cs i))
      (λ i l. grind (arith, nat_tests, in_gather, h, closed))

  no_adopters : (S : ℕ) → in_set S k ≡ true → is_adopters_of (collected cs) S ≡ false
  no_adopters S h =
      any_less (names k) (λ q. eqb S q.adopters) (collected cs) (λ q e. grind (arith, nat_tests, h, e))
      (closed_named_nowhere cs k below closed)

  no_meeting : (i j : ℕ) → one_of_two k i j ≡ true → meets_at (collected cs) i j ≡ false
  unfolding has_parent
  no_meeting i j h =
      any_less (names k) (parents i j) (collected cs) (λ q e. grind (arith, nat_tests, h, e))
      (closed_named_nowhere cs k below closed)

  no_holding : (i j : ℕ) → one_of_two k i j ≡ true → contains_at cs i j ≡ false
  no_holding i j h = by (eqb k i) refl
    where
      by : (b : Bool) → eqb k i ≡ b → contains_at cs i j ≡ false
      by true e =
          ap (λ (m : ℕ). contains_at cs m j) (sym (eqb-true k i e))
          ∙ (closed_circle (circle_at cs k) closed).contains_none (circle_at cs j)
      by false e =
          ap (λ (m : ℕ). contains_at cs i m) (sym (eqb-true k j (grind (arith, e, h))))
          ∙ (closed_circle (circle_at cs k) closed).in_none (circle_at cs i)

pub closed_in_no_set : ClosedInNoSet
closed_in_no_set cs k below closed =
    in_no_set (length cs) (is_one_head (length cs) (closed_at cs)) (is_adopters_of (collected cs))
    (meets_at (collected cs)) (contains_at cs) k below (no_single cs k below closed) (no_adopters cs k below closed)
    (no_meeting cs k below closed) (no_holding cs k below closed)
