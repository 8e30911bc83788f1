-- Two heads are the parents of a collected meeting point exactly if their circles have a meeting point.
use mathlib.Core.Path.{◌≡◌, refl, sym, ap, ap₂, ◌∙◌}
use mathlib.Core.Bool.{Bool, true, false, ◌&&◌, ◌||◌}
use mathlib.Core.List.{List, [], ◌∷◌, map}
use Prim.Native.Nat.{ℕ, ◌+◌, ◌-◌, ◌<◌}
use native.Mathlib.Omega.{arith}
use borrow.Author.Tests.{eqb-true, eq-eqb}
use lib.Dec.{eqb}
use lib.ListN.{length}
use Rattle.lists.specs.Some.{some, any}
use Rattle.lists.proofs.Somes.{some_of, some_none, some_cong, any_up_to}
use Rattle.masks.specs.Subset.{and_both}
use Rattle.geometry.specs.Circle.{intersection_points}
use Rattle.geometry.specs.declared.point.Point.{Point}
use Rattle.geometry.specs.declared.circle.Circle.{Circle}
use Rattle.intersections.specs.Members.{circle_at}
use Rattle.intersections.specs.Points.{with_adopters, pair_points, later_points, collected, collected_by}
use Rattle.intersections.specs.Points.{later_points_by, pair_points_by, with_adopters_by}
use Rattle.sets.specs.Regions.{parents, meets_at}

-- ---- a test on the parents of the collected points

-- some point
abbrev pub nonempty : {A : Type 0} → List A → Bool
nonempty [] = false
nonempty (x ∷ l) = true

module _ (cs : List Circle) (i j : ℕ) where
  abbrev these : ℕ → ℕ → Bool
  these a b = (eqb a i && eqb b j) || (eqb a j && eqb b i)

  abbrev pub points : ℕ → ℕ → List Point
  points a b = intersection_points (circle_at cs a) (circle_at cs b)

  of_points : (a b : ℕ) (l : List Point) → any (parents i j) (map (with_adopters cs a b) l) ≡ (these a b && nonempty l)
  unfolding any with_adopters_by
  of_points a b [] = none (these a b)
    where
      none : (t : Bool) → false ≡ (t && false)
      none true = refl
      none false = refl
  of_points a b (x ∷ l) = ap (λ (t : Bool). these a b || t) (of_points a b l) ∙ more (these a b) (nonempty l)
    where
      more : (t u : Bool) → (t || (t && u)) ≡ (t && true)
      more true u = refl
      more false u = refl

  of_pairs : meets_at (collected cs) i j ≡ some (length cs) (λ a. some (length cs - (a + 1)) (λ d. these a (a + 1 + d) && nonempty (points a (a + 1 + d))))
  unfolding collected_by later_points_by pair_points_by
  of_pairs =
      any_up_to (parents i j) (later_points cs) (length cs)
      ∙ some_cong (length cs) (λ a. any (parents i j) (later_points cs a))
      (λ a. some (length cs - (a + 1)) (λ d. these a (a + 1 + d) && nonempty (points a (a + 1 + d))))
      (λ a h. any_up_to (parents i j) (λ d. pair_points cs a (a + 1 + d)) (length cs - (a + 1))
      ∙ some_cong (length cs - (a + 1)) (λ d. any (parents i j) (pair_points cs a (a + 1 + d))) (λ d. these a (a + 1 + d) && nonempty (points a (a + 1 + d)))
      (λ d k. of_points a (a + 1 + d) (points a (a + 1 + d))))

  -- for j below i it is whether their circles have a point
  pub met_points : j < i → i < length cs → meets_at (collected cs) i j ≡ nonempty (points j i)
  met_points h k = of_pairs ∙ go (nonempty (points j i)) refl
    where
      last : (a : Bool) {b : Bool} → b ≡ false → (a && b) ≡ false
      last true e = e
      last false e = refl

      at : j + 1 + (i - (j + 1)) ≡ i
      at = omega arith

      second : (a b : Bool) → b ≡ true → (a || b) ≡ true
      second true b e = refl
      second false b e = e

      go : (t : Bool) → nonempty (points j i) ≡ t
          → some (length cs) (λ a. some (length cs - (a + 1)) (λ d. these a (a + 1 + d) && nonempty (points a (a + 1 + d)))) ≡ t
      go true e =
          some_of (length cs) (λ a. some (length cs - (a + 1)) (λ d. these a (a + 1 + d) && nonempty (points a (a + 1 + d)))) j (omega arith)
          (some_of (length cs - (j + 1)) (λ d. these j (j + 1 + d) && nonempty (points j (j + 1 + d))) (i - (j + 1)) (omega arith)
          (ap (λ (b : ℕ). these j b && nonempty (points j b)) at
          ∙ ap₂ ◌&&◌ (second (eqb j i && eqb i j) (eqb j j && eqb i i) (ap₂ ◌&&◌ (eq-eqb j j refl) (eq-eqb i i refl))) e))
      go false e =
          some_none (length cs) (λ a. some (length cs - (a + 1)) (λ d. these a (a + 1 + d) && nonempty (points a (a + 1 + d))))
          (λ a l. some_none (length cs - (a + 1)) (λ d. these a (a + 1 + d) && nonempty (points a (a + 1 + d)))
          (λ d m. no a (a + 1 + d) (omega arith) (these a (a + 1 + d)) refl))
        where
          no : (a b : ℕ) → a < b → (t : Bool) → these a b ≡ t → (these a b && nonempty (points a b)) ≡ false
          no a b l false f = ap (λ (t : Bool). t && nonempty (points a b)) f
          no a b l true f = last (these a b) (ap₂ (λ (x y : ℕ). nonempty (points x y)) same.0 same.1 ∙ e)
            where
              same : (a ≡ j) × (b ≡ i)
              same = ways (eqb a i && eqb b j) refl
                where
                  ways : (t : Bool) → (eqb a i && eqb b j) ≡ t → (a ≡ j) × (b ≡ i)
                  ways true g = let w = and_both (eqb a i) (eqb b j) g in absurd (omega (arith, eqb-true a i w.0, eqb-true b j w.1))
                  ways false g =
                      let w = and_both (eqb a j) (eqb b i) (sym (ap (λ (t : Bool). t || (eqb a j && eqb b i)) g) ∙ f) in
                      (eqb-true a j w.0, eqb-true b i w.1)
