-- What the steps of the recipe are handed: finite floats without the sign bit.
use Rattle.std.specs.Prelude.{◌≡◌, ◌+◌, ◌<◌, ◌≤◌, false, Float}
use Rattle.binary64.specs.Units.{Finite, mag, negative}

-- A point (x, y) with neither x nor y below zero, and not both zero.
pub record InQuarter (x y : Float) : Type 0 where
  pub x_finite : Finite x
  pub y_finite : Finite y
  pub x_sign : negative x ≡ false
  pub y_sign : negative y ≡ false
  pub some : 0 < mag x + mag y

-- 0 ≤ low ≤ high, and 0 < high.
pub record Ordered (low high : Float) : Type 0 where
  pub point : InQuarter low high
  pub order : mag low ≤ mag high
