-- The recipe of sine and cosine, step by step: the float v is cut to a whole number of units of 2^-59, the sine is
-- worked out in whole numbers (crate series, Kernel), and made a float. So the bits of every answer are fixed.
use Rattle.std.specs.Prelude.{◌≡◌, ℕ, ◌+◌, ◌^◌, Bool, false, cond, pos, refl, Float}
use Rattle.std.specs.Float.{binary64}
use Rattle.std.specs.Float.Ieee.{of_bits, neg, mul, lt, le, round, of_int, to_unsigned, unlike}
use Rattle.binary64.specs.Constants.{zero64}
use Rattle.binary64.specs.Functions.{absolute}
use Rattle.series.specs.Kernel.{quarter, quarter_sine, reduced, half_turned}

-- The number 16 and the factors 2^59 and 2^-61, by their bits.
abbrev pub sixteen : Float
sixteen = of_bits binary64 0x4030000000000000

abbrev pub angle_scale : Float
angle_scale = of_bits binary64 0x43A0000000000000

abbrev pub sine_scale : Float
sine_scale = of_bits binary64 0x3C20000000000000

-- These are their bits.
pub constants_are :
    (sixteen ≡ round binary64 false 16 1) × (angle_scale ≡ round binary64 false (2 ^ 59) 1)
    × (sine_scale ≡ round binary64 false 1 (2 ^ 61))
unfolding of_bits round
constants_are = (refl, refl, refl)

-- |v| in units of 2^-59, cut
abbrev pub angle : Float → ℕ
angle v = to_unsigned 64 (mul binary64 (absolute v) angle_scale)

-- The sine of the angle w, negated or not, as a float: the whole number of units of 2^-61, rounded once.
unfoldable pub fixed_sine : Bool → ℕ → Float
fixed_sine negative w =
    let size = mul binary64 (of_int binary64 (pos (quarter_sine (reduced w)))) sine_scale in
    cond (unlike negative (half_turned w)) (neg size) size

-- Sine: for |v| ≤ 16; +0 outside, and for a NaN.
unfoldable pub sine : Float → Float
unfolding fixed_sine
sine v = cond (le (absolute v) sixteen) (fixed_sine (lt v zero64) (angle v)) zero64

-- Cosine: the sine a quarter turn on, whatever the sign of v.
unfoldable pub cosine : Float → Float
unfolding fixed_sine
cosine v = cond (le (absolute v) sixteen) (fixed_sine false (angle v + quarter)) zero64
