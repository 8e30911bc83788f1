-- The meeting points that are collected are few enough for the places of a head, and any points can be tested for that.
use mathlib.Core.Path.{◌≡◌, refl, ap}
use mathlib.Core.Bool.{true, not}
use Rattle.std.proofs.Math.Bool.{and-true}
use mathlib.Core.List.{List, [], ◌∷◌}
use Prim.Native.Nat.{ℕ, ◌≤◌}
use native.Mathlib.Omega.{arith}
use borrow.Author.Tests.{ltb-false, not-true}
use lib.Dec.{ltb}
use lib.ListN.{length}
use lib.Pow.{pow_pos}
use Rattle.masks.specs.Operations.{bit_of_zero}
use Rattle.masks.specs.Subset.{every_below, subset_yes}
use Rattle.lists.specs.Lists.{keep}
use Rattle.geometry.specs.declared.circle.Circle.{Circle}
use Rattle.intersections.specs.declared.points.IntersectionPoint.{IntersectionPoint}
use Rattle.intersections.specs.Members.{has_parent, points_held, counted_for}
use Rattle.intersections.specs.Points.{collected}
use Rattle.intersections.specs.Counts.{counted_few}
use Rattle.gaps.specs.Marks.{Few, few_points}

-- every point of a head is counted for the set of nobody
counted_all : (j : ℕ) (q : IntersectionPoint) → counted_for 0 j q ≡ has_parent j q
unfolding counted_for
counted_all j q =
    rw ((subset_yes 64 0 q.adopters (pow_pos 64)).1 (λ i. omega (arith, bit_of_zero i))) (and-true (has_parent j q))

keep_same : (j : ℕ) (l : List IntersectionPoint) → keep (counted_for 0 j) l ≡ keep (has_parent j) l
unfolding keep
keep_same j [] = refl
keep_same j (q ∷ l) = rw (counted_all j q, keep_same j l)

pub few_collected : (cs : List Circle) → length cs ≤ 10 → Few cs (collected cs)
few_collected cs h j k = omega (arith, counted_few cs 0 j h k, ap length (keep_same j (collected cs)))

-- and so are any that pass the test
pub few_means : (cs : List Circle) (points : List IntersectionPoint) → few_points (length cs) points ≡ true
    → Few cs points
unfolding few_points
few_means cs points e j h =
    ltb-false points_held (length (keep (has_parent j) points))
    (not-true _ (every_below (length cs) (λ j. not (ltb points_held (length (keep (has_parent j) points)))) e j h))
