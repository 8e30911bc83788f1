-- What is said of circles of radii above 0 did not move when circles could be closed.
use mathlib.Core.Path.{◌≡◌, refl, ap, ap₂}
use mathlib.Core.Bool.{Bool, false, not, ◌||◌}
use Rattle.geometry.specs.AsBefore.{RadiusAbove, CirclesAsBefore}
use Rattle.geometry.specs.Circle.{is_closed, either_closed}
use Rattle.geometry.specs.declared.circle.Circle.{Circle}

pub above_not_closed : (c : Circle) → RadiusAbove c → is_closed c ≡ false
above_not_closed c h = ap not h

above_neither_closed : (a b : Circle) → RadiusAbove a → RadiusAbove b → either_closed a b ≡ false
above_neither_closed a b h g = ap₂ (λ (p q : Bool). p || q) (above_not_closed a h) (above_not_closed b g)

pub circles_as_before : CirclesAsBefore
circles_as_before a b h g = record {
  contains = rw (above_neither_closed a b h g) refl;
  meets = rw (above_neither_closed a b h g) refl;
  holds = λ p. rw (above_not_closed a h) refl;
}
