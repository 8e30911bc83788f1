-- What the tests that save a root say: numbers whose squares are finite, and a root past a number.
use Rattle.std.specs.Prelude.{true, false, ◌≡◌, refl, ◌^◌, Float}
use Rattle.std.specs.Float.{binary64}
use Rattle.std.specs.Float.Ieee.{round, of_bits}
use Rattle.binary64.specs.Floats.{◌<ᶠ◌, ◌≤ᶠ◌}
use Rattle.binary64.specs.Magnitude.{Most}
use Rattle.binary64.specs.Units.{Finite}

-- 2^64
abbrev pub two_to_the64 : Float
two_to_the64 = of_bits binary64 0x43F0_0000_0000_0000

pub two_to_the64_is : two_to_the64 ≡ round binary64 false (2 ^ 64) 1
unfolding of_bits round
two_to_the64_is = refl

-- w, at most 2^64, is above t
pub record Above (t w : Float) : Type 0 where
  pub over : (t <ᶠ w) ≡ true
  pub not_within : (w ≤ᶠ t) ≡ false
  pub bound : Finite t
  pub most : Most 1 1138 w
