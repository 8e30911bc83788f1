-- The list of meeting points as the two loops of `collect_intersections` fill it: what it holds before each turn.
use mathlib.Core.Path.{◌≡◌, sym, ap, ◌∙◌}
use mathlib.Core.List.{List, [], ◌++◌, map, append_assoc, append-nil}
use Prim.Native.Nat.{ℕ, suc, ◌+◌, ◌-◌, ◌*◌, ◌≤◌, ◌<◌}
use native.Mathlib.Numerals.{add-one}
use native.Mathlib.Omega.{arith}
use lib.ListN.{length, length-append}
use Rattle.std.proofs.Common.{mul-le-mul_right}
use Rattle.geometry.specs.Circle.{intersection_points}
use Rattle.geometry.specs.declared.circle.Circle.{Circle}
use Rattle.lists.specs.Lists.{up_to}
use Rattle.lists.proofs.Lists.{up_to_few}
use Rattle.intersections.specs.declared.points.IntersectionPoint.{IntersectionPoint}
use Rattle.intersections.specs.Counts.{pair_few, rows_few}
use Rattle.intersections.specs.Members.{circle_at}
use Rattle.intersections.specs.Points.{with_adopters, pair_points, later_points, collected, collected_by}
use Rattle.intersections.specs.Points.{later_points_by, pair_points_by}

-- the points of head i with the heads after it below j
pub row_to : List Circle → ℕ → ℕ → List IntersectionPoint
row_to cs i j = up_to (λ d. pair_points cs i (i + 1 + d)) (j - (i + 1))

-- found are the points of the heads below i
abbrev pub Rows : List Circle → ℕ → List IntersectionPoint → Type 0
Rows cs i found = found ≡ up_to (later_points cs) i

-- and those of head i with the heads below j
abbrev pub Row : List Circle → ℕ → ℕ → List IntersectionPoint → Type 0
Row cs i j found = found ≡ up_to (later_points cs) i ++ row_to cs i j

pub rows_none : (cs : List Circle) {found : List IntersectionPoint} → found ≡ [] → Rows cs 0 found
unfolding up_to
rows_none cs e = e

-- ---- there is room: ten heads have at most 90 points

-- (8 - i) (9 - i) is not below 0
place_few : (i d : ℕ) → i + d ≡ 8 → 17 * i ≤ i * i + 72
place_few i d e = omega (arith, ap (λ (x : ℕ). i * x) e, ap (λ (x : ℕ). d * x) e)

module _ (cs : List Circle) (i : ℕ) where
  pub row_room : (j : ℕ) → length cs ≤ 10 → i < j → j < length cs → length (up_to (later_points cs) i ++ row_to cs i j) ≤ 88
  unfolding row_to
  row_room j few after below =
      omega (
        arith,
        length-append (up_to (later_points cs) i) (row_to cs i j),
        rows_few cs i (omega arith),
        up_to_few (λ d. pair_points cs i (i + 1 + d)) 2 (j - (i + 1)) (λ d h. pair_few cs i (i + 1 + d)),
        mul-le-mul_right i few,
        place_few i (8 - i) (omega arith),
      )

  -- ---- the loops

  row_none : row_to cs i (i + 1) ≡ []
  unfolding row_to up_to
  row_none = let none : i + 1 - (i + 1) ≡ 0 = omega arith in rw none

  row_more : (j : ℕ) → i < j → row_to cs i j ++ pair_points cs i j ≡ row_to cs i (j + 1)
  unfolding row_to up_to
  row_more j h =
      let one : j + 1 - (i + 1) ≡ suc (j - (i + 1)) = omega arith in
      let at : i + 1 + (j - (i + 1)) ≡ j = omega arith in
      rw (one, at)

  row_whole : (j : ℕ) → j ≡ length cs → row_to cs i j ≡ later_points cs i
  unfolding row_to later_points_by
  row_whole j e = rw e

  rows_more : up_to (later_points cs) i ++ later_points cs i ≡ up_to (later_points cs) (i + 1)
  unfolding up_to
  rows_more = rw (add-one i)

  abbrev rows : List IntersectionPoint
  rows = up_to (later_points cs) i

  module _ {found : List IntersectionPoint} where
    -- head i begins
    pub row_start : Rows cs i found → Row cs i (i + 1) found
    row_start r = r ∙ sym (ap (λ l. rows ++ l) row_none ∙ append-nil rows)

    -- it has met all heads after it
    pub row_end : (j : ℕ) → j ≡ length cs → Row cs i j found → Rows cs (i + 1) found
    row_end j e r = r ∙ ap (λ l. rows ++ l) (row_whole j e) ∙ rows_more

    -- it has met head j in these points
    pub row_on : {more : List IntersectionPoint} (j : ℕ) → i < j
        → more ≡ found ++ map (with_adopters cs i j) (intersection_points (circle_at cs i) (circle_at cs j)) → Row cs i j found → Row cs i (j + 1) more
    unfolding pair_points_by
    row_on j h e r =
        e ∙ ap (λ l. l ++ pair_points cs i j) r
        ∙ append_assoc rows (row_to cs i j) (pair_points cs i j) ∙ ap (λ l. rows ++ l) (row_more j h)

-- all heads have
pub rows_end : (cs : List Circle) (i : ℕ) {found : List IntersectionPoint} → length cs ≤ i → i ≤ length cs → Rows cs i found → found ≡ collected cs
unfolding collected_by
rows_end cs i h g r = let all : i ≡ length cs = omega arith in r ∙ ap (up_to (later_points cs)) all
