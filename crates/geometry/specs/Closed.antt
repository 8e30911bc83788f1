-- What is claimed of a closed circle and any other, closed or not. Proved in proofs/Closed.antt.
use Rattle.std.specs.Prelude.{true, false, ◌≡◌, []}
use Rattle.geometry.specs.Circle.{is_closed, contains, contains_point, intersection_points}
use Rattle.geometry.specs.declared.point.Point.{Point}
use Rattle.geometry.specs.declared.circle.Circle.{Circle}

-- It meets no circle, asked first or second; it contains none and is contained in none; and it holds no point, not even
-- its centre.
pub record ClosedCircle (c : Circle) : Type 0 where
  pub meets_none : (other : Circle) → intersection_points c other ≡ []
  pub met_by_none : (other : Circle) → intersection_points other c ≡ []
  pub contains_none : (other : Circle) → contains c other ≡ false
  pub in_none : (other : Circle) → contains other c ≡ false
  pub no_point : (p : Point) → contains_point c p ≡ false

abbrev pub ClosedCircles : Type 0
ClosedCircles = (c : Circle) → is_closed c ≡ true → ClosedCircle c
