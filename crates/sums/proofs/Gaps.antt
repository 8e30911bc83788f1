-- The arcs of a member, gap by gap round its circle, under head numbers.
use mathlib.Core.Path.{◌≡◌, refl, sym, ap, ap₂, ◌∙◌}
use mathlib.Core.Bool.{Bool, true, not, ◌&&◌, cond}
use mathlib.Core.List.{List, [], ◌∷◌, ◌++◌, map, map-append, append-nil, append_assoc}
use Prim.Native.Nat.{ℕ, zero, suc, ◌+◌, ◌%◌, ◌<◌}
use native.Mathlib.Nat.{mod-eq_of_lt, mod_self}
use native.Mathlib.Numerals.{add-one}
use native.Mathlib.Omega.{arith}
use lib.ListN.{length, get_or}
use lib.Ieee.{Float, nan}
use Rattle.masks.specs.Mask.{in_set}
use Rattle.lists.specs.Lists.{up_to}
use Rattle.lists.proofs.Lists.{up_to_through}
use Rattle.binary64.specs.Constants.{half64}
use Rattle.binary64.specs.Floats.{◌+ᶠ◌, ◌*ᶠ◌}
use Rattle.geometry.specs.declared.circle.Circle.{Circle}
use Rattle.intersections.specs.Members.{heads_of, circle_at}
use Rattle.boundary.specs.declared.arcs.BoundaryArc.{BoundaryArc}
use Rattle.boundary.specs.Outline.{owned, gap, collapsed, point_at, midpoint, probe}
use Rattle.boundary.specs.Outline.{between, full_circle, arc_from, arcs_at}
use Rattle.boundary.specs.Set.{numbered}
use Rattle.gaps.specs.Gaps.{owned_in, is_arc}
use Rattle.sums.specs.Walk.{rank, gap_in, whole_in, gaps_in, head_in}
use Rattle.sums.proofs.Ranks.{head_at, owned_is}

-- ---- a loop round a list

-- the first apart
up_to_front : {A : Type 0} (g : ℕ → List A) (m : ℕ) → up_to g (suc m) ≡ g 0 ++ up_to (λ i. g (suc i)) m
unfolding up_to
up_to_front g zero = sym (append-nil (g 0))
up_to_front g (suc m) = rw (up_to_front g m) (append_assoc (g 0) (up_to (λ i. g (suc i)) m) (g (suc m)))

up_to_one : {A : Type 0} (g : ℕ → List A) → up_to g 1 ≡ g 0
unfolding up_to
up_to_one g = refl

pub next_is : (i n : ℕ) → suc i < n → (i + 1) % n ≡ suc i
next_is i n h = rw (add-one i) (mod-eq_of_lt h)

pub last_is : (i n : ℕ) → suc i ≡ n → (i + 1) % n ≡ 0
last_is i n h = rw (add-one i, h) (mod_self n)

module _ (circles : List Circle) (S j : ℕ) where
  -- each with the next, and last the end with `first`
  around : (first : Float) (l : List Float) (g : ℕ → List BoundaryArc) → 0 < length l
      → ((i : ℕ) → suc i < length l → g i ≡ gap_in circles S j (get_or l i nan) (get_or l (suc i) nan))
      → ((i : ℕ) → suc i ≡ length l → g i ≡ gap_in circles S j (get_or l i nan) first)
      → up_to g (length l) ≡ gaps_in circles S j first l
  unfolding gaps_in
  around first [] g n h k = absurd (omega arith)
  around first (a ∷ []) g n h k = up_to_one g ∙ k 0 refl
  around first (a ∷ (b ∷ rest)) g n h k =
      up_to_front g (length (b ∷ rest))
      ∙ ap₂ ◌++◌ (h 0 (omega arith))
      (around first (b ∷ rest) (λ i. g (suc i)) (omega arith) (λ i e. h (suc i) (omega arith))
      (λ i e. k (suc i) (ap suc e)))

-- ---- the arcs of one member

numbered_between : (heads : List ℕ) (k : ℕ) (c : Circle) (a d : Float)
    → numbered heads (between k c a d) ≡ between (get_or heads k 0) c a d
unfolding numbered between
numbered_between heads k c a d = refl

pub numbered_whole : (heads : List ℕ) (k : ℕ) (c : Circle)
    → numbered heads (full_circle k c) ≡ full_circle (get_or heads k 0) c
unfolding numbered full_circle
numbered_whole heads k c = refl

map_one : {A B : Type 0} (f : A → B) (x : A) (y : B) (b : Bool) → f x ≡ y
    → map f (cond b (x ∷ []) []) ≡ cond b (y ∷ []) []
map_one f x y b e = grind (arith, e)

module _ (circles : List Circle) (S j : ℕ) (in-S : in_set S j ≡ true) (below : j < length circles) where
  heads : List ℕ
  heads = heads_of (length circles) S

  theirs : List Circle
  theirs = map (circle_at circles) (heads_of (length circles) S)

  at_rank : get_or heads (rank S j) 0 ≡ j
  unfolding heads
  at_rank = head_at S j (length circles) in-S below

  -- one gap
  gap_numbered : (a b : Float)
      → map (numbered heads)
      (cond (not (collapsed (gap a b)) && owned (rank S j) (point_at (circle_at circles j) (a +ᶠ gap a b *ᶠ half64))
      theirs)
      (between (rank S j) (circle_at circles j) a (gap a b) ∷ []) [])
      ≡ gap_in circles S j a b
  unfolding gap_in is_arc midpoint theirs
  gap_numbered a b =
      rw (owned_is circles S j (point_at (circle_at circles j) (a +ᶠ gap a b *ᶠ half64)) in-S)
      (map_one (numbered heads) (between (rank S j) (circle_at circles j) a (gap a b))
      (between j (circle_at circles j) a (gap a b))
      (not (collapsed (gap a b)) && owned_in circles S j (point_at (circle_at circles j) (a +ᶠ gap a b *ᶠ half64)))
      (numbered_between heads (rank S j) (circle_at circles j) a (gap a b)
      ∙ ap (λ k. between k (circle_at circles j) a (gap a b)) at_rank))

  arc_numbered : (phis : List Float) (i : ℕ)
      → map (numbered heads) (arc_from theirs (rank S j) (circle_at circles j) phis i)
      ≡ gap_in circles S j (get_or phis i nan) (get_or phis ((i + 1) % length phis) nan)
  unfolding arc_from
  arc_numbered phis i = gap_numbered (get_or phis i nan) (get_or phis ((i + 1) % length phis) nan)

  gaps_numbered : (a : Float) (rest : List Float)
      → map (numbered heads) (up_to (arc_from theirs (rank S j) (circle_at circles j) (a ∷ rest)) (length (a ∷ rest)))
      ≡ gaps_in circles S j a (a ∷ rest)
  gaps_numbered a rest =
      up_to_through (map (numbered heads)) refl (map-append (numbered heads))
      (arc_from theirs (rank S j) (circle_at circles j) (a ∷ rest)) (length (a ∷ rest))
      ∙ around circles S j a (a ∷ rest)
      (λ i. map (numbered heads) (arc_from theirs (rank S j) (circle_at circles j) (a ∷ rest) i)) (omega arith)
      (λ i h. arc_numbered (a ∷ rest) i
      ∙ ap (λ n. gap_in circles S j (get_or (a ∷ rest) i nan) (get_or (a ∷ rest) n nan))
      (next_is i (length (a ∷ rest)) h))
      (λ i h. arc_numbered (a ∷ rest) i
      ∙ ap (λ n. gap_in circles S j (get_or (a ∷ rest) i nan) (get_or (a ∷ rest) n nan))
      (last_is i (length (a ∷ rest)) h))

  whole_numbered :
      map (numbered heads)
      (cond (owned (rank S j) (probe (circle_at circles j)) theirs)
      (full_circle (rank S j) (circle_at circles j) ∷ []) [])
      ≡ whole_in circles S j
  unfolding whole_in theirs
  whole_numbered =
      rw (owned_is circles S j (probe (circle_at circles j)) in-S)
      (map_one (numbered heads) (full_circle (rank S j) (circle_at circles j)) (full_circle j (circle_at circles j))
      (owned_in circles S j (probe (circle_at circles j)))
      (numbered_whole heads (rank S j) (circle_at circles j) ∙ ap (λ k. full_circle k (circle_at circles j)) at_rank))

  member_numbered : (phis : List Float)
      → map (numbered heads) (arcs_at theirs (rank S j) (circle_at circles j) phis) ≡ head_in circles S j phis
  unfolding arcs_at head_in
  member_numbered [] = whole_numbered
  member_numbered (a ∷ rest) = gaps_numbered a rest

  -- the arcs of head j as a member of S
  pub head_numbered : (phis : List Float)
      → map (numbered (heads_of (length circles) S))
      (arcs_at (map (circle_at circles) (heads_of (length circles) S)) (rank S j) (circle_at circles j) phis)
      ≡ head_in circles S j phis
  unfolding heads theirs
  head_numbered = member_numbered
