-- What is said of circles of radii above 0 did not move when circles could be closed: they contain each other, meet
-- and hold points as their outlines do. It is said of the radii, not of what counts as closed. proofs/AsBefore.antt
-- proves it: `circles_as_before`.
use Rattle.std.specs.Prelude.{◌≡◌, true}
use Rattle.binary64.specs.Constants.{zero64}
use Rattle.binary64.specs.Floats.{◌<ᶠ◌}
use Rattle.geometry.specs.Circle.{covers, covers_point, outline_points, contains, contains_point, intersection_points}
use Rattle.geometry.specs.declared.point.Point.{Point}
use Rattle.geometry.specs.declared.circle.Circle.{Circle}

-- the radius is above 0
abbrev pub RadiusAbove : Circle → Type 0
RadiusAbove c = (zero64 <ᶠ c.radius) ≡ true

pub record AsBefore (a b : Circle) : Type 0 where
  pub contains : contains a b ≡ covers a b
  pub meets : intersection_points a b ≡ outline_points a b
  pub holds : (p : Point) → contains_point a p ≡ covers_point a p

abbrev pub CirclesAsBefore : Type 0
CirclesAsBefore = (a b : Circle) → RadiusAbove a → RadiusAbove b → AsBefore a b
