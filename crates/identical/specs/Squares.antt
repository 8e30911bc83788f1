-- The squares of sine and cosine add up to nearly 1.
use Rattle.std.specs.Prelude.{◌*◌, ◌+◌, ◌^◌, ◌≤◌, Float}
use Rattle.binary64.specs.Units.{one, mag}
use Rattle.elementary.specs.Sine.{sine, cosine}
use Rattle.elementary.specs.SinePromise.{Domain}

-- Within 7 × 2^-40 of 1, over units of the smallest float: sine² + cosine² is `sum` over one².
pub record NearOne (v : Float) : Type 0 where
  pub most : (mag (sine v) * mag (sine v) + mag (cosine v) * mag (cosine v)) * 2 ^ 40 ≤ one * one * (2 ^ 40 + 7)
  pub least : one * one * 2 ^ 40 ≤ (mag (sine v) * mag (sine v) + mag (cosine v) * mag (cosine v)) * 2 ^ 40 + one * one * 7

abbrev pub SquaresNearOne : Type 0
SquaresNearOne = (v : Float) → Domain v → NearOne v
