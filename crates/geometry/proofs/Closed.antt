-- A closed circle meets nothing, contains nothing and is contained in nothing (specs/Closed.antt).
use mathlib.Core.Path.{◌≡◌, ap, ◌∙◌}
use mathlib.Core.Bool.{Bool, true, false, not, cond, ◌&&◌, ◌||◌, or-true}
use mathlib.Core.List.{[]}
use Rattle.geometry.specs.Circle.{is_closed, either_closed, covers, covers_point, outline_points}
use Rattle.geometry.specs.declared.circle.Circle.{Circle}
use Rattle.geometry.specs.Closed.{ClosedCircles}

-- where one of the two is closed, whichever
module _ (a b : Circle) (one : either_closed a b ≡ true) where
  no_points : cond (either_closed a b) [] (outline_points a b) ≡ []
  no_points = ap (λ (c : Bool). cond c [] (outline_points a b)) one

  not_within : (not (either_closed a b) && covers a b) ≡ false
  not_within = ap (λ (c : Bool). not c && covers a b) one

pub closed_circle : ClosedCircles
closed_circle c closed = record {
  meets_none = λ other. no_points c other (first other);
  met_by_none = λ other. no_points other c (second other);
  contains_none = λ other. not_within c other (first other);
  in_none = λ other. not_within other c (second other);
  no_point = λ p. ap (λ (b : Bool). not b && covers_point c p) closed;
}
  where
    first : (other : Circle) → either_closed c other ≡ true
    first other = ap (λ (b : Bool). b || is_closed other) closed

    second : (other : Circle) → either_closed other c ≡ true
    second other = ap (λ (b : Bool). is_closed other || b) closed ∙ or-true (is_closed other)
