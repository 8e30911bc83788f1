-- What the tests that save two divisions say of a radius, of a squared distance, and of the implicit form.
use Rattle.std.specs.Prelude.{false, ◌≡◌, Float}
use Rattle.binary64.specs.Constants.{one64}
use Rattle.binary64.specs.Floats.{◌+ᶠ◌, ◌-ᶠ◌, ◌*ᶠ◌, ◌/ᶠ◌, ◌<ᶠ◌, ◌≤ᶠ◌}
use Rattle.binary64.specs.Functions.{absolute}
use Rattle.binary64.specs.Magnitude.{Most, Least}
use Rattle.binary64.specs.Units.{minus}
use Rattle.geometry.specs.declared.circle.Circle.{Circle}
use Rattle.boundary.specs.Outline.{tolerance}

-- r is from 1 to 2^20, and s not below zero and at most 2^64
pub record Measured (r s : Float) : Type 0 where
  pub radius_most : Most 1 1094 r
  pub radius_least : Least 1 1074 r
  pub radius_minus : minus r ≡ 0
  pub squared_most : Most 1 1138 s
  pub squared_minus : minus s ≡ 0

-- the implicit form of the circle, for a point at this squared distance, is neither above 1 nor near it
pub record FarIn (s : Float) (c : Circle) : Type 0 where
  pub not_out : (one64 +ᶠ tolerance c <ᶠ s /ᶠ (c.radius *ᶠ c.radius)) ≡ false
  pub not_near : (absolute (s /ᶠ (c.radius *ᶠ c.radius) -ᶠ one64) ≤ᶠ tolerance c) ≡ false
