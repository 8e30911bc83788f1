-- How many: ten circles have at most 90 meeting points, at most 18 of them counted at one head. The room that the code has for points
-- and angles is never short.
use Rattle.std.specs.Prelude.{◌≡◌, Bool, eqb, ltb, Float}
use Rattle.std.proofs.Math.Path.{refl, ap}
use Rattle.std.proofs.Common.{◌∙◌, mul-le-mul_right, take_all}
use Rattle.std.proofs.Math.Bool.{true, false, cond}
use mathlib.Core.List.{List, [], ◌∷◌, ◌++◌, map}
use Prim.Native.Nat.{ℕ, zero, suc, ◌+◌, ◌-◌, ◌*◌, ◌≤◌, ◌<◌}
use native.Mathlib.Omega.{arith}
use borrow.Author.Tests.{lt-ltb, le-ltb, ltb-true, ltb-false, eqb-true, eqb-false, ne_eqb}
use Rattle.std.proofs.Math.ListN.{length, length-append}
use Rattle.std.proofs.lemmas.List.{length-map}
use Rattle.masks.specs.Mask.{in_set}
use Rattle.lists.specs.Lists.{up_to, keep}
use Rattle.lists.specs.Every.{Every, every_up_to, every_all, every_one, every_mapped}
use Rattle.lists.proofs.Lists.{up_to_few, keep_append, keep_length, keep_none, one_or_none}
use Rattle.geometry.specs.Circle.{either_closed, intersection_points, outline_points, identical, apart, crossing}
use Rattle.geometry.specs.Point.{distance}
use Rattle.geometry.specs.declared.point.Point.{Point}
use Rattle.geometry.specs.declared.circle.Circle.{Circle}
use Rattle.intersections.specs.declared.points.IntersectionPoint.{IntersectionPoint}
use Rattle.intersections.specs.Members.{heads_of, has_parent, counted_for, points_for, points_held}
use Rattle.intersections.specs.Points.{with_adopters, pair_points, later_points, collected, collected_by}
use Rattle.intersections.specs.Points.{later_points_by, pair_points_by, with_adopters_by}

-- ---- meeting points

two_at_most : (p q : Point) (b : Bool) → length (cond b (p ∷ []) (p ∷ q ∷ [])) ≤ 2
two_at_most p q true = omega arith
two_at_most p q false = omega arith

none_or : (b : Bool) (l : List Point) → length l ≤ 2 → length (cond b [] l) ≤ 2
none_or true l h = omega arith
none_or false l h = h

crossing_few : (a b : Circle) (d : Float) → length (crossing a b d) ≤ 2
crossing_few a b d = search two_at_most

-- two circles meet in at most two points
pub meeting_few : (a b : Circle) → length (intersection_points a b) ≤ 2
meeting_few a b =
    let d = distance a.center b.center in
    none_or (either_closed a b) (outline_points a b)
    (none_or (identical a b) (cond (apart a b d) [] (crossing a b d))
    (none_or (apart a b d) (crossing a b d) (crossing_few a b d)))

pub pair_few : (cs : List Circle) (i j : ℕ) → length (pair_points cs i j) ≤ 2
unfolding pair_points_by
pair_few cs i j = rw (length-map) (meeting_few _ _)

row_few : (cs : List Circle) (i : ℕ) → length (later_points cs i) ≤ (length cs - (i + 1)) * 2
unfolding later_points_by
row_few cs i = up_to_few (λ d. pair_points cs i (i + 1 + d)) 2 (length cs - (i + 1)) (λ d h. pair_few cs i (i + 1 + d))

pub rows_few : (cs : List Circle) (m : ℕ) → m ≤ length cs → length (up_to (later_points cs) m) + m * m + m ≤ 2 * m * length cs
unfolding up_to
rows_few cs zero h = omega arith
rows_few cs (suc m) h =
    rw (length-append (up_to (later_points cs) m) (later_points cs m)) (omega (arith, rows_few cs m (omega arith), row_few cs m))

-- ten circles have at most 90 meeting points
pub collected_few : (cs : List Circle) → length cs ≤ 10 → length (collected cs) ≤ 90
unfolding collected_by
collected_few cs h = omega (arith, rows_few cs (length cs) (omega arith), mul-le-mul_right (length cs) h)

-- ---- points counted at one head

module _ (cs : List Circle) (S j : ℕ) where
  -- how many of the points are counted for S at j
  many : List IntersectionPoint → ℕ
  many l = length (keep (counted_for S j) l)

  many_pair : (i k : ℕ) → many (pair_points cs i k) ≤ 2
  unfolding many
  many_pair i k = omega (arith, keep_length (counted_for S j) (pair_points cs i k), pair_few cs i k)

  -- a pair without j has none
  many_other : (i k : ℕ) → (i ≡ j → ⊥) → (k ≡ j → ⊥) → many (pair_points cs i k) ≡ 0
  unfolding many pair_points_by with_adopters_by counted_for has_parent
  many_other i k h g =
      ap length (keep_none (counted_for S j) (pair_points cs i k)
      (every_mapped _ (with_adopters cs i k) (intersection_points _ _) (every_all _ (intersection_points _ _) (λ p. rw (ne_eqb i j h, ne_eqb k j g)))))

  many_append : (a b : List IntersectionPoint) → many (a ++ b) ≡ many a + many b
  unfolding many
  many_append a b = ap length (keep_append (counted_for S j) a b) ∙ length-append (keep (counted_for S j) a) (keep (counted_for S j) b)

  -- the points of a lower head i: only those with j
  many_lower : (i m : ℕ) → (i ≡ j → ⊥)
      → (i + 1 + m ≤ j → many (up_to (λ d. pair_points cs i (i + 1 + d)) m) ≡ 0) × (many (up_to (λ d. pair_points cs i (i + 1 + d)) m) ≤ 2)
  unfolding up_to many keep
  many_lower i zero h = (λ g. refl, omega arith)
  many_lower i (suc m) h = by (eqb (i + 1 + m) j) refl (many_lower i m h)
    where
      f : ℕ → List IntersectionPoint
      f d = pair_points cs i (i + 1 + d)

      by : (b : Bool) → eqb (i + 1 + m) j ≡ b → (i + 1 + m ≤ j → many (up_to f m) ≡ 0) × (many (up_to f m) ≤ 2)
          → (i + 1 + suc m ≤ j → many (up_to f m ++ f m) ≡ 0) × (many (up_to f m ++ f m) ≤ 2)
      by true e r =
          let at = eqb-true (i + 1 + m) j e in
          let s = many_append (up_to f m) (f m) in
          (λ g. absurd (omega arith), omega (arith, s, r.0 (omega arith), many_pair i (i + 1 + m)))
      by false e r =
          let s = many_append (up_to f m) (f m) in
          let z = many_other i (i + 1 + m) h (eqb-false (i + 1 + m) j e) in
          (λ g. omega (arith, s, z, r.0 (omega arith)), omega (arith, s, z, r.1))

  -- the points of a higher head: none
  many_higher : (i m : ℕ) → j < i → many (up_to (λ d. pair_points cs i (i + 1 + d)) m) ≡ 0
  unfolding up_to many keep
  many_higher i zero h = refl
  many_higher i (suc m) h =
      omega (
        arith,
        many_append (up_to (λ d. pair_points cs i (i + 1 + d)) m) (pair_points cs i (i + 1 + m)),
        many_higher i m h,
        many_other i (i + 1 + m) (λ e. omega arith) (λ e. omega arith),
      )

  row_above : (m : ℕ) → j < m → many (later_points cs m) ≡ 0
  unfolding later_points_by
  row_above m h = many_higher m (length cs - (m + 1)) h

  row_below : (m : ℕ) → (m ≡ j → ⊥) → many (later_points cs m) ≤ 2
  unfolding later_points_by
  row_below m h = (many_lower m (length cs - (m + 1)) h).1

  many_rows : (m : ℕ) → m ≤ length cs → many (up_to (later_points cs) m) ≤ cond (ltb j m) (2 * (length cs - 1)) (2 * m)
  unfolding up_to many keep
  many_rows zero h = by (ltb j 0)
    where
      by : (b : Bool) → 0 ≤ cond b (2 * (length cs - 1)) (2 * 0)
      by true = omega arith
      by false = omega arith
  many_rows (suc m) h = by (ltb j m) (ltb m j) refl refl (many_rows m (omega arith))
    where
      row : ℕ
      row = many (later_points cs m)

      sum : many (up_to (later_points cs) m ++ later_points cs m) ≡ many (up_to (later_points cs) m) + row
      sum = many_append (up_to (later_points cs) m) (later_points cs m)

      by : (b t : Bool) → ltb j m ≡ b → ltb m j ≡ t → many (up_to (later_points cs) m) ≤ cond (ltb j m) (2 * (length cs - 1)) (2 * m)
          → many (up_to (later_points cs) m ++ later_points cs m) ≤ cond (ltb j (suc m)) (2 * (length cs - 1)) (2 * suc m)
      by true t e f r =
          let below = ltb-true j m e in
          rw (lt-ltb j (suc m) (omega arith)) (omega (arith, sum, rw e at r, row_above m below))
      by false true e f r =
          let above = ltb-true m j f in
          rw (le-ltb j (suc m) above) (omega (arith, sum, rw e at r, row_below m (λ g. omega arith)))
      by false false e f r =
          let same : j ≡ m = omega (arith, ltb-false j m e, ltb-false m j f) in
          rw (lt-ltb j (suc m) (omega arith))
          (omega (arith, sum, rw e at r, keep_length (counted_for S j) (later_points cs m), row_few cs m))

-- at most 18 points are counted at a head
pub counted_few : (cs : List Circle) (S j : ℕ) → length cs ≤ 10 → j < length cs → length (keep (counted_for S j) (collected cs)) ≤ 18
unfolding collected_by many
counted_few cs S j h g = omega (arith, rw (lt-ltb j (length cs) g) at (many_rows cs S j (length cs) (omega arith)))

-- so the room for points is never short
pub points_whole : (cs : List Circle) (S j : ℕ) → length cs ≤ 10 → j < length cs
    → points_for (collected cs) S j ≡ map (λ q. q.point) (keep (counted_for S j) (collected cs))
unfolding points_for
points_whole cs S j h g =
    take_all points_held (map (λ q. q.point) (keep (counted_for S j) (collected cs)))
    (rw (length-map) (omega (arith, counted_few cs S j h g)))

-- ---- the heads of a set

-- the heads of a set are below n, and no more than n
pub heads_below : (n S : ℕ) → Every (λ j. j < n) (heads_of n S)
unfolding heads_of
heads_below n S = go n (omega arith)
  where
    f : ℕ → List ℕ
    f j = cond (in_set S j) (j ∷ []) []

    go : (m : ℕ) → m ≤ n → Every (λ j. j < n) (up_to f m)
    go m h = every_up_to (λ j. j < n) f m (λ j k. every_one (λ j. j < n) (in_set S j) j (omega arith))

pub heads_few : (n S : ℕ) → length (heads_of n S) ≤ n
unfolding heads_of
heads_few n S = omega (arith, up_to_few (λ j. cond (in_set S j) (j ∷ []) []) 1 n (λ j h. one_or_none (in_set S j) j))
