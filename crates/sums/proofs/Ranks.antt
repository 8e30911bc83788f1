-- Law 2: who owns a point, by head numbers instead of positions; and what is at a position.
use mathlib.Core.Path.{◌≡◌, refl, sym, ap, ◌∙◌}
use mathlib.Core.Bool.{Bool, true, false, not, ◌&&◌, ◌||◌, cond}
use mathlib.Core.List.{List, [], ◌∷◌, ◌++◌, map, map-append}
use Rattle.std.proofs.Math.Bool.{and-true}
use mathlib.Core.Logic.{⊎_elim}
use Prim.Native.Nat.{ℕ, zero, suc, ◌+◌, ◌^◌, ◌≤◌, ◌<◌}
use native.Mathlib.Nat.{le_refl}
use native.Mathlib.Omega.{arith}
use borrow.Author.Tests.{tests, ne_eqb}
use lib.Dec.{eqb, ltb}
use lib.Bits.{bit_and}
use lib.ListN.{length, get_or, length-append, length-map, get_or-append}
use lib.Ieee.{Float}
use lib.Seq.{get_or-append_seam}
use Rattle.masks.specs.Mask.{bit, in_set, every}
use Rattle.masks.specs.Operations.{one_of_in, bit_of_zero}
use Rattle.masks.specs.Gather.{in_gather}
use Rattle.masks.specs.Subset.{and_test, subset_of_and, every_cong}
use Rattle.lists.specs.Lists.{up_to}
use Rattle.geometry.specs.declared.point.Point.{Point}
use Rattle.geometry.specs.declared.circle.Circle.{Circle}
use Rattle.boundary.specs.Outline.{lets, owned_from, gap, collapsed, midpoint}
use Rattle.intersections.specs.Members.{heads_of, circle_at}
use Rattle.chords.proofs.Heads.{heads_suc, heads_with, heads_without}
use Rattle.gaps.proofs.Owning.{lt_or_eq}
use Rattle.gaps.specs.Gaps.{owned_in, is_arc}
use Rattle.sums.specs.Walk.{rank}
use Rattle.gaps.specs.Marks.{letters, gap_letters}

rank_with : (S n : ℕ) → in_set S n ≡ true → rank S (suc n) ≡ suc (rank S n)
rank_with S n e = ap length (heads_with S n e) ∙ length-append (heads_of n S) (n ∷ []) ∙ omega arith

rank_step : (S n : ℕ) → rank S n ≤ rank S (suc n)
rank_step S n = omega (arith, ap length (heads_suc S n), length-append (heads_of n S) (cond (in_set S n) (n ∷ []) []))

rank_up : (S i j : ℕ) → i ≤ j → rank S i ≤ rank S j
rank_up S i zero h = let e : i ≡ 0 = omega arith in rw e (le_refl (rank S 0))
rank_up S i (suc j) h = grind (arith, rank_up S i j, rank_step S j)

pub rank_less : (S i j : ℕ) → in_set S i ≡ true → i < j → rank S i < rank S j
rank_less S i j e h = omega (arith, rank_with S i e, rank_up S (suc i) j h)

rank_ltb : (S i j : ℕ) → in_set S i ≡ true → ltb (rank S i) (rank S j) ≡ ltb i j
rank_ltb S i j e = grind (arith, tests, rank_less S i j e, rank_up S j i)

rank_eqb : (S i j : ℕ) → in_set S i ≡ true → in_set S j ≡ true → eqb (rank S i) (rank S j) ≡ eqb i j
rank_eqb S i j e f = grind (arith, tests, rank_less S i j e, rank_less S j i f)

-- positions in a set are in order as head numbers are
lets_rank : (S k l : ℕ) (p : Point) (c : Circle) → in_set S k ≡ true → in_set S l ≡ true
    → lets (rank S k) p (rank S l) c ≡ lets k p l c
unfolding lets
lets_rank S k l p c e f = rw (rank_eqb S l k f e, rank_ltb S l k f)

owned_append : (k : ℕ) (p : Point) (l : ℕ) (a b : List Circle)
    → owned_from k p l (a ++ b) ≡ (owned_from k p l a && owned_from k p (l + length a) b)
unfolding owned_from
owned_append k p l [] b = ap (λ n. owned_from k p n b) (omega arith)
owned_append k p l (c ∷ a) b = grind (arith, owned_append k p (suc l) a b)

owned_one : (k : ℕ) (p : Point) (l : ℕ) (c : Circle) → owned_from k p l (c ∷ []) ≡ lets k p l c
unfolding owned_from
owned_one k p l c = and-true (lets k p l c)

owned_none : (circ : ℕ → Circle) (k : ℕ) (p : Point) (S : ℕ) → owned_from k p 0 (map circ (heads_of 0 S)) ≡ true
unfolding owned_from heads_of up_to
owned_none circ k p S = refl

-- one head of S more
owned_next : (circ : ℕ → Circle) (S j : ℕ) (p : Point) (n : ℕ) → in_set S j ≡ true → in_set S n ≡ true
    → owned_from (rank S j) p 0 (map circ (heads_of (suc n) S))
    ≡ (owned_from (rank S j) p 0 (map circ (heads_of n S)) && lets j p n (circ n))
owned_next circ S j p n e f =
    ap (λ t. owned_from (rank S j) p 0 (map circ t)) (heads_with S n f)
    ∙ ap (owned_from (rank S j) p 0) (map-append circ (heads_of n S) (n ∷ []))
    ∙ owned_append (rank S j) p 0 (map circ (heads_of n S)) (circ n ∷ [])
    ∙ ap (λ b. owned_from (rank S j) p 0 (map circ (heads_of n S)) && b)
    (ap (λ m. owned_from (rank S j) p m (circ n ∷ [])) (omega (arith, length-map (heads_of n S) circ))
    ∙ owned_one (rank S j) p (rank S n) (circ n)
    ∙ lets_rank S j n p (circ n) e f)

-- Law 2: all members let the one at the position of head j have p: every head of S lets head j have it
owned_heads : (circ : ℕ → Circle) (S j : ℕ) (p : Point) (n : ℕ) → in_set S j ≡ true
    → owned_from (rank S j) p 0 (map circ (heads_of n S)) ≡ every n (λ l. not (in_set S l) || lets j p l (circ l))
unfolding every
owned_heads circ S j p zero e = owned_none circ (rank S j) p S
owned_heads circ S j p (suc n) e =
    grind (arith, owned_heads circ S j p n e, owned_next circ S j p n e, heads_without S n, and-true)

pub owned_is : (circles : List Circle) (S j : ℕ) (p : Point) → in_set S j ≡ true
    → owned_from (rank S j) p 0 (map (circle_at circles) (heads_of (length circles) S)) ≡ owned_in circles S j p
unfolding owned_in
owned_is circles S j p e = owned_heads (circle_at circles) S j p (length circles) e

-- and that is a test of a subset of a mask
pub owned_by_mask : (circles : List Circle) (S j : ℕ) (p : Point) → S < 2 ^ length circles
    → eqb (bit_and S (letters circles j p)) S ≡ owned_in circles S j p
unfolding owned_in letters
owned_by_mask circles S j p h =
    and_test (length circles) S (letters circles j p) h
    ∙ every_cong (length circles) _ _
    (λ i k. ap (λ b. not (in_set S i) || b) (in_gather (length circles) (λ l. lets j p l (circle_at circles l)) i k))

-- the head at a position, and its circle
pub head_at : (S j n : ℕ) → in_set S j ≡ true → j < n → get_or (heads_of n S) (rank S j) 0 ≡ j
head_at S j zero e h = absurd (omega arith)
head_at S j (suc n) e h = ⊎_elim (λ k. before k (head_at S j n e k)) (λ k. last k) (lt_or_eq j n h)
  where
    before : j < n → get_or (heads_of n S) (rank S j) 0 ≡ j → get_or (heads_of (suc n) S) (rank S j) 0 ≡ j
    before k r = rw (
      heads_suc S n,
      get_or-append (heads_of n S) (cond (in_set S n) (n ∷ []) []) 0 (rank S j) (rank_less S j n e k),
    ) r

    last : j ≡ n → get_or (heads_of (suc n) S) (rank S j) 0 ≡ j
    last k = rw (sym k, heads_with S j e, get_or-append_seam (heads_of j S) j [] 0)

-- ---- a gap by its mask

module _ (circles : List Circle) (S j : ℕ) (below : S < 2 ^ length circles) (in-S : in_set S j ≡ true) where
  nobody : eqb (bit_and S 0) S ≡ false
  nobody = ne_eqb (bit_and S 0) S (λ h. no-head (subset_of_and S 0 h j))
    where
      no-head : bit S j ≤ bit 0 j → ⊥
      no-head h = omega (arith, one_of_in S j in-S, bit_of_zero j, h)

  -- it is an arc of S exactly if S is within the mask
  pub arc_by_mask : (a b : Float) → eqb (bit_and S (gap_letters circles j a b)) S ≡ is_arc circles S j a b
  unfolding gap_letters is_arc
  arc_by_mask a b = by (collapsed (gap a b))
    where
      by : (t : Bool) → eqb (bit_and S (cond t 0 (letters circles j (midpoint (circle_at circles j) a b)))) S
          ≡ (not t && owned_in circles S j (midpoint (circle_at circles j) a b))
      by true = nobody
      by false = owned_by_mask circles S j (midpoint (circle_at circles j) a b) below
