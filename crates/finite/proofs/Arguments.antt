-- Both arguments of every atan2 that a taken plan asks for are within 2^20 and not both zero: meeting points are at most 80000 from zero and are not
-- the centre of a parent (exact), and centres are at most 20000 from zero.
use mathlib.Core.Path.{◌≡◌, refl, subst}
use mathlib.Core.Bool.{Bool, true, false, ◌||◌, false≢true}
use borrow.Author.Tests.{eqb-true}
use mathlib.Core.List.{List, [], ◌∷◌, map}
use Prim.Native.Nat.{ℕ, ◌+◌, ◌-◌, ◌<◌}
use native.Mathlib.Omega.{arith}
use lib.Dec.{T, lit≤, eqb}
use lib.ListN.{length}
use Rattle.binary64.proofs.Magnitude.{most_weaken, sub_most}
use Rattle.heads.specs.declared.Head.{Head}
use Rattle.heads.specs.Limits.{in_limits}
use Rattle.exact.specs.Circle.{circle_of}
use Rattle.regions.specs.Table.{head_at}
use Rattle.geometry.specs.Circle.{intersection_points}
use Rattle.geometry.specs.declared.circle.Circle.{Circle}
use Rattle.geometry.specs.declared.point.Point.{Point}
use Rattle.lists.specs.Every.{Every, every_map, every_both, every_up_to, every_at, every_mapped, every_take, every_keep}
use Rattle.masks.specs.Mask.{subset}
use Rattle.masks.specs.Subset.{and_both}
use Rattle.lists.specs.Lists.{keep}
use Rattle.exact.specs.Points.{Placed, AllPlaced, Off, AllOff}
use Rattle.exact.proofs.Theorem.{stays_bounded}
use Rattle.intersections.specs.declared.points.IntersectionPoint.{IntersectionPoint}
use Rattle.intersections.specs.Counts.{heads_below}
use Rattle.intersections.specs.Members.{no_circle, circle_at, has_parent, counted_for, heads_of, points_for, points_held, member_at, members_of}
use Rattle.intersections.specs.Points.{with_adopters, pair_points, later_points, collected, collected_by}
use Rattle.intersections.specs.Points.{later_points_by, pair_points_by, with_adopters_by}
use Rattle.plan.specs.Limits.{Acceptable}
use Rattle.plan.specs.declared.Plan.{Plan}
use Rattle.plan.proofs.Exactly.{plan_taken, within_limits}
use Rattle.drawn.specs.Drawn.{plan_circles}
use Rattle.drawn.proofs.Circles.{circles_many, circle-at}
use Rattle.finite.specs.Open.{InDomain}
use Rattle.finite.specs.Domains.{PointInDomain, ArgumentsInDomain}
use Rattle.finite.proofs.Rows.{circles_domain}
use Rattle.finite.proofs.Domains.{keep_passes}

-- ---- meeting points

-- a point of the two circles c and d: placed, and the centre of neither
abbrev Between : Circle → Circle → Point → Type 0
Between c d p = Placed p × (Off c.center p × Off d.center p)

every_between : (c d : Circle) (l : List Point) → AllPlaced l → AllOff c.center l → AllOff d.center l → Every (Between c d) l
every_between c d [] h i j = tt
every_between c d (p ∷ l) h i j = ((h.0, (i.0, j.0)), every_between c d l h.1 i.1 j.1)

-- Where it is so of every pair of circles of a list, it is so of all points that are collected, for their two parents.
module _ (cs : List Circle)
    (pair : (i j : ℕ) → i < length cs → j < length cs
    → Every (Between (circle_at cs i) (circle_at cs j)) (intersection_points (circle_at cs i) (circle_at cs j))) where
  abbrev OfParents : IntersectionPoint → Type 0
  OfParents q = Between (circle_at cs q.first) (circle_at cs q.second) q.point

  of_pair : (i j : ℕ) → i < length cs → j < length cs → Every OfParents (pair_points cs i j)
  unfolding pair_points_by with_adopters_by
  of_pair i j hi hj = every_mapped OfParents (with_adopters cs i j) (intersection_points (circle_at cs i) (circle_at cs j)) (pair i j hi hj)

  of_later : (i : ℕ) → i < length cs → Every OfParents (later_points cs i)
  unfolding later_points_by
  of_later i hi = every_up_to OfParents (λ d. pair_points cs i (i + 1 + d)) (length cs - (i + 1)) (λ d h. of_pair i (i + 1 + d) hi (omega arith))

  of_collected : Every OfParents (collected cs)
  unfolding collected_by
  of_collected = every_up_to OfParents (later_points cs) (length cs) of_later

  -- a point counted for a set at a head has that head for a parent
  at_parent : (S j : ℕ) (q : IntersectionPoint) → OfParents q → counted_for S j q ≡ true → Placed q.point × Off (circle_at cs j).center q.point
  unfolding counted_for has_parent
  at_parent S j q h e = by (eqb q.first j) (eqb q.second j) refl refl (and_both (eqb q.first j || eqb q.second j) (subset 64 S q.adopters) e).0
    where
      by : (a b : Bool) → eqb q.first j ≡ a → eqb q.second j ≡ b → (a || b) ≡ true → Placed q.point × Off (circle_at cs j).center q.point
      by true b ea eb t = (h.0, subst (λ (i : ℕ). Off (circle_at cs i).center q.point) (eqb-true q.first j ea) h.1.0)
      by false true ea eb t = (h.0, subst (λ (i : ℕ). Off (circle_at cs i).center q.point) (eqb-true q.second j eb) h.1.1)
      by false false ea eb t = absurd (false≢true t)

  of_counted : (S j : ℕ) → Every (λ p. Placed p × Off (circle_at cs j).center p) (points_for (collected cs) S j)
  unfolding points_for
  of_counted S j =
      let here = keep (counted_for S j) (collected cs) in
      every_take (λ p. Placed p × Off (circle_at cs j).center p) points_held (map (λ (q : IntersectionPoint). q.point) here)
      (every_mapped (λ p. Placed p × Off (circle_at cs j).center p) (λ (q : IntersectionPoint). q.point) here
      (every_both here (at_parent S j) (every_keep OfParents (counted_for S j) (collected cs) of_collected) (keep_passes (counted_for S j) (collected cs))))

-- ---- arguments

point_in_domain : (c : Circle) → InDomain c → (p : Point) → Placed p × Off c.center p → PointInDomain c p
point_in_domain c d p h = record {
  y = most_weaken (sub_most h.0.y d.y (lit≤ tt) (lit≤ tt)) (lit≤ tt);
  x = most_weaken (sub_most h.0.x d.x (lit≤ tt) (lit≤ tt)) (lit≤ tt);
  off = h.1;
}

-- the points of two circles of a plan within the limits are placed, and not the centres
plan_placed : (p : Plan) → length p.heads ≡ 10 → Acceptable p → (i j : ℕ) → i < length (plan_circles p) → j < length (plan_circles p)
    → Every (Between (circle_at (plan_circles p) i) (circle_at (plan_circles p) j)) (intersection_points (circle_at (plan_circles p) i) (circle_at (plan_circles p) j))
plan_placed p ten ok i j hi hj =
    let gi : i < p.n = subst (λ n. i < n) (circles_many p ten ok.count) hi in
    let gj : j < p.n = subst (λ n. j < n) (circles_many p ten ok.count) hj in
    rw (circle-at p ten ok.count i no_circle gi, circle-at p ten ok.count j no_circle gj)
    (pair (head_at p i) (head_at p j) (within_limits (head_at p i) (ok.heads i gi)) (within_limits (head_at p j) (ok.heads j gj)))
  where
    pair : (a b : Head) → T (in_limits a) → T (in_limits b) → Every (Between (circle_of a) (circle_of b)) (intersection_points (circle_of a) (circle_of b))
    pair a b ha hb =
        let both = stays_bounded a b ha hb in
        every_between (circle_of a) (circle_of b) (intersection_points (circle_of a) (circle_of b)) both.placed both.off.0 both.off.1

-- Both arguments of every atan2 of a taken plan's rows are within 2^20, and not both zero.
pub arguments_in_domain : ArgumentsInDomain
unfolding members_of member_at
arguments_in_domain p ten taken S =
    let ok = (plan_taken p ten).0 taken in
    let cs = plan_circles p in
    let pair = plan_placed p ten ok in
    every_mapped (λ m. Every (PointInDomain m.circle) m.points) (member_at cs (collected cs) S) (heads_of (length cs) S)
    (every_map (heads_of (length cs) S)
    (λ j h. every_map (points_for (collected cs) S j)
    (point_in_domain (circle_at cs j) (every_at InDomain cs j no_circle h (circles_domain p ten ok))) (of_counted cs pair S j))
    (heads_below (length cs) S))
