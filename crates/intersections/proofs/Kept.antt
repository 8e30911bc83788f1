-- One circle of a list is changed: what is worked out from the members of a set without it, none of whose circles has a point in
-- common with it before or after, is the same. Points are compared by coordinates alone, since the changed head may come and go among
-- a point's adopters; a set's own heads adopt as before.
use mathlib.Core.Path.{◌≡◌, refl, sym, ap, ap₂, ◌∙◌}
use mathlib.Core.Bool.{Bool, true, false, cond, ◌&&◌, ◌||◌, true≢false}
use mathlib.Core.List.{List, [], ◌∷◌, ◌++◌, map, map-append}
use mathlib.Core.Logic.{◌⊎◌, inl, inr}
use Prim.Native.Nat.{ℕ, zero, suc, ◌+◌, ◌-◌, ◌<◌, ◌^◌}
use native.Mathlib.Decide.{ℕ_discrete}
use borrow.Author.Tests.{ne_eqb, eqb-true}
use lib.Count.{ones, count_trailing_zeros}
use lib.Dec.{eqb, ltb}
use lib.Ieee.{Float}
use lib.ListN.{length, take, set, length-set}
use lib.Seq.{get_or-set_same, get_or-set_other}
use Rattle.geometry.specs.Circle.{intersection_points}
use Rattle.geometry.specs.declared.point.Point.{Point}
use Rattle.geometry.specs.declared.circle.Circle.{Circle}
use Rattle.masks.specs.Mask.{in_set}
use Rattle.lists.specs.Lists.{up_to, keep}
use Rattle.lists.specs.Every.{every_all, every_mapped}
use Rattle.intersections.specs.Members.{is_single, Member, no_circle, heads_of, counted_for, points_for, points_held, circle_at, member_at, members_of}
use Rattle.lists.proofs.Lists.{up_to_cong, up_to_through, keep_append, keep_none, keep_alike}
use Rattle.intersections.specs.declared.points.IntersectionPoint.{IntersectionPoint}
use Rattle.intersections.proofs.Gathering.{single_heads}
use Rattle.intersections.specs.Points.{adopts, with_adopters, pair_points, later_points, collected, adopts_by}
use Rattle.intersections.specs.Points.{collected_by, later_points_by, pair_points_by, with_adopters_by}
use Rattle.intersections.proofs.Masks.{subset_alike}

-- ---- of one list of circles

-- two functions that agree on the heads of a set
heads_alike : {A : Type 0} (f f' : ℕ → A) (n S : ℕ) → ((j : ℕ) → in_set S j ≡ true → f j ≡ f' j) → map f (heads_of n S) ≡ map f' (heads_of n S)
unfolding heads_of up_to
heads_alike f f' zero S e = refl
heads_alike f f' (suc n) S e =
    map-append f (heads_of n S) (cond (in_set S n) (n ∷ []) [])
    ∙ ap₂ ◌++◌ (heads_alike f f' n S e) (by (in_set S n) refl)
    ∙ sym (map-append f' (heads_of n S) (cond (in_set S n) (n ∷ []) []))
  where
    by : (b : Bool) → in_set S n ≡ b → map f (cond b (n ∷ []) []) ≡ map f' (cond b (n ∷ []) [])
    by true i = ap (λ x. x ∷ []) (e n i)
    by false i = refl

-- what is counted for S at head j, of any list of meeting points
counted_of : ℕ → ℕ → List IntersectionPoint → List Point
counted_of S j l = map (λ q. q.point) (keep (counted_for S j) l)

counted_append : (S j : ℕ) (a b : List IntersectionPoint) → counted_of S j (a ++ b) ≡ counted_of S j a ++ counted_of S j b
unfolding counted_of
counted_append S j a b =
    ap (map (λ q. q.point)) (keep_append (counted_for S j) a b) ∙ map-append (λ q. q.point) (keep (counted_for S j) a) (keep (counted_for S j) b)

-- counting goes through both loops
counted_loops : (cs : List Circle) (S j : ℕ)
    → counted_of S j (collected cs) ≡ up_to (λ i. up_to (λ d. counted_of S j (pair_points cs i (i + 1 + d))) (length cs - (i + 1))) (length cs)
unfolding counted_of collected_by later_points_by keep
counted_loops cs S j =
    up_to_through (counted_of S j) refl (counted_append S j) (later_points cs) (length cs)
    ∙ up_to_cong _ _ (length cs) (λ i hi. up_to_through (counted_of S j) refl (counted_append S j) (λ d. pair_points cs i (i + 1 + d)) (length cs - (i + 1)))

-- two circles have no point in common, in both orders of the pair
abbrev pub Apart : Circle → Circle → Type 0
Apart a b = (intersection_points a b ≡ []) × (intersection_points b a ≡ [])

-- a point that is not counted, whatever it is, is none
uncounted : (cs : List Circle) (S j a b : ℕ) → ((p : Point) → counted_for S j (with_adopters cs a b p) ≡ false) → keep (counted_for S j) (pair_points cs a b) ≡ []
unfolding pair_points_by
uncounted cs S j a b h =
    let points = intersection_points (circle_at cs a) (circle_at cs b) in
    keep_none (counted_for S j) (pair_points cs a b) (every_mapped _ (with_adopters cs a b) points (every_all _ points h))

-- of a head k that is apart from head j no point is counted at j
none_counted : (cs : List Circle) (S j k a b : ℕ) → (k ≡ j → ⊥) → Apart (circle_at cs k) (circle_at cs j) → (a ≡ k) ⊎ (b ≡ k)
    → counted_of S j (pair_points cs a b) ≡ []
unfolding counted_of pair_points_by with_adopters_by counted_for keep
none_counted cs S j k a b n e (inl ea) = rw ea (by (ℕ_discrete b j))
  where
    by : Dec (b ≡ j) → counted_of S j (pair_points cs k b) ≡ []
    by (yes eb) = rw (eb, e.0)
    by (no nb) = ap (map (λ q. q.point)) (uncounted cs S j k b (λ p. rw (ne_eqb k j n, ne_eqb b j nb)))
none_counted cs S j k a b n e (inr eb) = rw eb (by (ℕ_discrete a j))
  where
    by : Dec (a ≡ j) → counted_of S j (pair_points cs a k) ≡ []
    by (yes ea) = rw (ea, e.1)
    by (no na) = ap (map (λ q. q.point)) (uncounted cs S j a k (λ p. rw (ne_eqb a j na, ne_eqb k j n)))

-- ---- circle k changed to c

module _ (cs : List Circle) (k : ℕ) (c : Circle) (S : ℕ) (out : in_set S k ≡ false) where
  -- a head of S is not the changed one
  other : (j : ℕ) → in_set S j ≡ true → j ≡ k → ⊥
  other j i e = true≢false (sym i ∙ ap (in_set S) e ∙ out)

  stays : (i : ℕ) → (i ≡ k → ⊥) → circle_at cs i ≡ circle_at (set cs k c) i
  stays i n = sym (get_or-set_other cs k i c no_circle n)

  -- of a pair that stays the same points are counted
  pair_stays : (j a b : ℕ) → (a ≡ k → ⊥) → (b ≡ k → ⊥) → counted_of S j (pair_points cs a b) ≡ counted_of S j (pair_points (set cs k c) a b)
  unfolding counted_of pair_points_by with_adopters_by counted_for adopts_by
  pair_stays j a b na nb =
      keep_alike (counted_for S j) (λ q. q.point) (with_adopters cs a b) (with_adopters (set cs k c) a b)
      (λ p. ap (λ t. (eqb a j || eqb b j) && t)
      (rw (length-set cs k c) (subset_alike 64 (length cs) S (adopts cs a b p) (adopts (set cs k c) a b p)
      (λ l i. rw (stays a na, stays b nb, stays l (other l i))))))
      (λ p. refl) (intersection_points (circle_at cs a) (circle_at cs b))
      ∙ ap₂ (λ x y. counted_of S j (map (with_adopters (set cs k c) a b) (intersection_points x y))) (stays a na) (stays b nb)

  module _ (within : k < length cs) (clear : (j : ℕ) → in_set S j ≡ true → Apart (circle_at cs k) (circle_at cs j) × Apart c (circle_at cs j)) where
    -- of any pair the same points are counted at a head of S
    pair_same : (j a b : ℕ) → in_set S j ≡ true → counted_of S j (pair_points cs a b) ≡ counted_of S j (pair_points (set cs k c) a b)
    pair_same j a b i = by (ℕ_discrete a k) (ℕ_discrete b k)
      where
        with_changed : (a ≡ k) ⊎ (b ≡ k) → counted_of S j (pair_points cs a b) ≡ counted_of S j (pair_points (set cs k c) a b)
        with_changed w =
            none_counted cs S j k a b (λ e. other j i (sym e)) (clear j i).0 w
            ∙ sym (none_counted (set cs k c) S j k a b (λ e. other j i (sym e))
            (rw (get_or-set_same cs k c no_circle within, ← stays j (other j i)) (clear j i).1) w)

        by : Dec (a ≡ k) → Dec (b ≡ k) → counted_of S j (pair_points cs a b) ≡ counted_of S j (pair_points (set cs k c) a b)
        by (yes ea) d = with_changed (inl ea)
        by (no na) (yes eb) = with_changed (inr eb)
        by (no na) (no nb) = pair_stays j a b na nb

    -- so the same points are counted at a head of S
    points_same : (j : ℕ) → in_set S j ≡ true → points_for (collected cs) S j ≡ points_for (collected (set cs k c)) S j
    unfolding points_for counted_of
    points_same j i =
        ap (take points_held)
        (counted_loops cs S j
        ∙ rw (length-set cs k c) (up_to_cong _ _ (length cs) (λ a ha. up_to_cong _ _ (length cs - (a + 1)) (λ d hd. pair_same j a (a + 1 + d) i)))
        ∙ sym (counted_loops (set cs k c) S j))

    -- and S has the same members
    members_same : members_of cs (collected cs) S ≡ members_of (set cs k c) (collected (set cs k c)) S
    unfolding members_of member_at
    members_same =
        rw (length-set cs k c)
        (heads_alike (member_at cs (collected cs) S) (member_at (set cs k c) (collected (set cs k c)) S) (length cs) S
        (λ j i. ap₂ {C = Member} (λ x y. record { circle = x; points = y }) (stays j (other j i)) (points_same j i)))

-- ---- sets of one

-- a member without its points
abbrev bare : Circle → Member
bare c = record { circle = c; points = [] }

module _ (area : List Member → Float) (alone : (c : Circle) (ps qs : List Point) → area (record { circle = c; points = ps } ∷ [])
    ≡ area (record { circle = c; points = qs } ∷ []))
    (S : ℕ) (small : S < 2 ^ 64) (single : is_single S ≡ true) where
  -- the area of a set of one comes from its circle
  area_bare : (cs : List Circle) (points : List IntersectionPoint) → area (members_of cs points S)
      ≡ area (map (λ j. bare (circle_at cs j)) (heads_of (length cs) S))
  unfolding members_of member_at
  area_bare cs points = rw (single_heads (length cs) S small (eqb-true (ones S) 1 single)) (by (count_trailing_zeros 64 S) (ltb (count_trailing_zeros 64 S) (length cs)))
    where
      by : (t : ℕ) (b : Bool) → area (map (member_at cs points S) (cond b (t ∷ []) [])) ≡ area (map (λ j. bare (circle_at cs j)) (cond b (t ∷ []) []))
      by t true = alone (circle_at cs t) (points_for points S t) []
      by t false = refl

-- THE KEPT ROW: the area of a set without the changed head is the same before and after, where the set is a single or none of its
-- circles has a point in common with the changed one, before or after.
pub area_same : (area : List Member → Float)
    → ((c : Circle) (ps qs : List Point) → area (record { circle = c; points = ps } ∷ []) ≡ area (record { circle = c; points = qs } ∷ []))
    → (cs : List Circle) (k : ℕ) (c : Circle) (S : ℕ) → k < length cs → S < 2 ^ 64 → in_set S k ≡ false
    → (is_single S ≡ false → (j : ℕ) → in_set S j ≡ true → Apart (circle_at cs k) (circle_at cs j) × Apart c (circle_at cs j))
    → area (members_of cs (collected cs) S) ≡ area (members_of (set cs k c) (collected (set cs k c)) S)
area_same area alone cs k c S within small out clear = by (is_single S) refl
  where
    by : (b : Bool) → is_single S ≡ b → area (members_of cs (collected cs) S) ≡ area (members_of (set cs k c) (collected (set cs k c)) S)
    by false s = ap area (members_same cs k c S out within (clear s))
    by true s =
        area_bare area alone S small s cs (collected cs)
        ∙ ap area
        (rw (length-set cs k c)
        (heads_alike (λ j. bare (circle_at cs j)) (λ j. bare (circle_at (set cs k c) j)) (length cs) S
        (λ j i. ap bare (stays cs k c S out j (other cs k c S out j i)))))
        ∙ sym (area_bare area alone S small s (set cs k c) (collected (set cs k c)))
