-- No meeting point names a closed circle (specs/Closed.antt): a pair with it has none, and of other pairs it adopts
-- none.
use mathlib.Core.Path.{◌≡◌, refl, sym, ap, ap₂, ◌∙◌}
use mathlib.Core.Bool.{Bool, true, false, ◌||◌}
use mathlib.Core.List.{List, [], ◌∷◌, map}
use Prim.Native.Nat.{ℕ, ◌+◌, ◌-◌, ◌<◌}
use native.Mathlib.Decide.{ℕ_discrete}
use borrow.Author.Tests.{ne_eqb}
use lib.ListN.{length}
use Rattle.geometry.specs.Circle.{is_closed, intersection_points}
use Rattle.geometry.specs.declared.point.Point.{Point}
use Rattle.geometry.specs.declared.circle.Circle.{Circle}
use Rattle.geometry.proofs.Closed.{closed_circle}
use Rattle.lists.specs.Some.{any}
use Rattle.lists.proofs.Somes.{some_none, any_up_to}
use Rattle.masks.specs.Gather.{in_gather}
use Rattle.intersections.specs.Members.{circle_at, has_parent}
use Rattle.intersections.specs.Points.{adopts_by, adopts_point, with_adopters_by, pair_points_by, later_points_by}
use Rattle.intersections.specs.Points.{adopts, with_adopters, pair_points, later_points, collected_by, collected}
use Rattle.intersections.specs.Closed.{names, ClosedNamedNowhere}

-- none of a mapped list passes
none_mapped : {A B : Type 0} (p : B → Bool) (f : A → B) (l : List A) → ((x : A) → p (f x) ≡ false)
    → any p (map f l) ≡ false
unfolding any
none_mapped p f [] e = refl
none_mapped p f (x ∷ l) e = ap₂ ◌||◌ (e x) (none_mapped p f l e)

module _ (cs : List Circle) (k : ℕ) (below : k < length cs) (closed : is_closed (circle_at cs k) ≡ true) where
  -- the points of heads i and j
  of_pair : (i j : ℕ) → any (names k) (pair_points cs i j) ≡ false
  unfolding any pair_points_by with_adopters_by adopts_by adopts_point has_parent
  of_pair i j = by (ℕ_discrete i k) (ℕ_discrete j k)
    where
      none : (l : List Point) → l ≡ [] → any (names k) (map (with_adopters cs i j) l) ≡ false
      none l e = ap (λ (m : List Point). any (names k) (map (with_adopters cs i j) m)) e

      by : Dec (i ≡ k) → Dec (j ≡ k) → any (names k) (pair_points cs i j) ≡ false
      by (yes e) other =
          none _
          (ap (λ (m : ℕ). intersection_points (circle_at cs m) (circle_at cs j)) e
          ∙ (closed_circle (circle_at cs k) closed).meets_none (circle_at cs j))
      by (no n) (yes e) =
          none _
          (ap (λ (m : ℕ). intersection_points (circle_at cs i) (circle_at cs m)) e
          ∙ (closed_circle (circle_at cs k) closed).met_by_none (circle_at cs i))
      by (no n) (no m) =
          none_mapped (names k) (with_adopters cs i j) _
          (λ p. rw (ne_eqb i k n, ne_eqb j k m)
          (in_gather (length cs) (adopts cs i j p) k below
          ∙ rw (ne_eqb k i (λ e. n (sym e)), ne_eqb k j (λ e. m (sym e)))
          ((closed_circle (circle_at cs k) closed).no_point p)))

  of_all : any (names k) (collected cs) ≡ false
  unfolding collected_by later_points_by
  of_all =
      any_up_to (names k) (later_points cs) (length cs)
      ∙ some_none (length cs) (λ i. any (names k) (later_points cs i))
      (λ i h. any_up_to (names k) (λ d. pair_points cs i (i + 1 + d)) (length cs - (i + 1))
      ∙ some_none (length cs - (i + 1)) (λ d. any (names k) (pair_points cs i (i + 1 + d)))
      (λ d l. of_pair i (i + 1 + d)))

pub closed_named_nowhere : ClosedNamedNowhere
closed_named_nowhere = of_all
