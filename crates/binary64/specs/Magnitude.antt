-- How large a finite float is at most, and at least: j * 2 ^ a units. Bounds in this form do not double along a sum:
-- the j's add up. The number 1 is 2 ^ 1074 units, so |x| ≤ 5 is `Most 5 1074 x`.
use Rattle.std.specs.Prelude.{ℕ, ◌*◌, ◌≤◌, Float}
use Rattle.binary64.specs.Units.{pow2, Finite, mag}

-- x is finite, and |x| ≤ j * 2 ^ a units.
pub record Most (j a : ℕ) (x : Float) : Type 0 where
  pub finite : Finite x
  pub bound : mag x ≤ j * pow2 a

-- x is finite, and |x| ≥ j * 2 ^ a units.
pub record Least (j a : ℕ) (x : Float) : Type 0 where
  pub finite : Finite x
  pub bound : j * pow2 a ≤ mag x
