-- Two rules that say the same give the same meeting points.
use mathlib.Core.Path.{◌≡◌, refl, ap, ap₂, ◌∙◌}
use mathlib.Core.Bool.{Bool, true, false, ◌||◌}
use mathlib.Core.List.{List, [], ◌∷◌, map}
use Prim.Native.Nat.{ℕ, ◌+◌, ◌-◌, ◌<◌}
use native.Mathlib.Omega.{arith}
use borrow.Author.Tests.{eqb-false}
use lib.Dec.{eqb}
use lib.ListN.{length}
use Rattle.lists.specs.Every.{Every, every_all, every_map}
use Rattle.lists.proofs.Lists.{up_to_cong}
use Rattle.geometry.proofs.AsBefore.{circles_as_before}
use Rattle.geometry.specs.declared.point.Point.{Point}
use Rattle.geometry.specs.declared.circle.Circle.{Circle}
use Rattle.intersections.specs.Members.{circle_at}
use Rattle.masks.specs.Gather.{gather_same}
use Rattle.intersections.specs.Points.{Rule, rule, outline_rule, adopts_point, adopts_by, with_adopters_by}
use Rattle.intersections.specs.Points.{pair_points_by, later_points_by, collected_by}
use Rattle.intersections.specs.Alike.{AdoptAlike, AdoptersAlike, PointsAlike, CollectedAlike}
use Rattle.intersections.specs.Alike.{CollectedAsBefore}

map_cong : {A B : Type 0} (f g : A → B) (l : List A) → Every (λ x. f x ≡ g x) l → map f l ≡ map g l
map_cong f g [] e = refl
map_cong f g (x ∷ l) e = ap₂ ◌∷◌ e.0 (map_cong f g l e.1)

module _ (r s : Rule) (cs : List Circle) where
  -- of a parent nothing is asked
  adopts_alike : (i j : ℕ) (p : Point) → AdoptAlike r s cs i j p → (l : ℕ) → l < length cs
      → adopts_by r cs i j p l ≡ adopts_by s cs i j p l
  unfolding adopts_by
  adopts_alike i j p e l h = by (eqb l i) (eqb l j) refl refl
    where
      x : Bool
      x = r.adopting (circle_at cs i) (circle_at cs j) (circle_at cs l) p

      y : Bool
      y = s.adopting (circle_at cs i) (circle_at cs j) (circle_at cs l) p

      by : (a b : Bool) → eqb l i ≡ a → eqb l j ≡ b → (a || (b || x)) ≡ (a || (b || y))
      by true b f g = refl
      by false true f g = refl
      by false false f g = e l h (eqb-false l i f) (eqb-false l j g)

  pub adopters_alike : AdoptersAlike r s cs
  unfolding with_adopters_by
  adopters_alike i j p e =
      ap (λ (m : ℕ). record { point = p; first = i; second = j; adopters = m })
      (gather_same (length cs) _ _ (adopts_alike i j p e))

  pub pair_alike : PointsAlike r s cs
  unfolding pair_points_by
  pair_alike i j e =
      map_cong _ _ _ (every_map _ (λ p k. adopters_alike i j p k) e.adopt)
      ∙ ap (map (with_adopters_by s cs i j)) e.meet

  pub collected_alike : CollectedAlike r s cs
  unfolding collected_by later_points_by
  collected_alike e =
      up_to_cong _ _ (length cs) (λ i h. up_to_cong _ _ (length cs - (i + 1)) (λ d k.
      pair_alike i (i + 1 + d) (e i (i + 1 + d) (omega arith) (omega arith))))

pub collected_as_before : CollectedAsBefore
unfolding adopts_point
collected_as_before cs above = collected_alike rule outline_rule cs (λ i j h k. record {
  meet = (circles_as_before (circle_at cs i) (circle_at cs j) (above i (omega arith)) (above j k)).meets;
  adopt = every_all _ _
      (λ p l m f g. (circles_as_before (circle_at cs l) (circle_at cs l) (above l m) (above l m)).holds p);
})
