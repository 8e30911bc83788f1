-- Float constants that the geometry's code and definitions share. A float literal of the code is `of_bits binary64
-- BITS`, so each constant is written so, and beside it stands the theorem that these are the bits of the decimal,
-- rounded to nearest.
use Rattle.std.specs.Prelude.{◌≡◌, ◌^◌, false, refl, Float}
use Rattle.std.specs.Float.{binary64}
use Rattle.std.specs.Float.Ieee.{round, mul, of_bits}
use Rattle.binary64.specs.Units.{signed_zero}

-- ---- exact constants

-- 0.0
abbrev pub zero64 : Float
zero64 = of_bits binary64 0

pub zero64_is : zero64 ≡ signed_zero false
unfolding of_bits
zero64_is = refl

-- 0.5
abbrev pub half64 : Float
half64 = of_bits binary64 0x3FE0_0000_0000_0000

pub half64_is : half64 ≡ round binary64 false 1 2
unfolding of_bits round
half64_is = refl

-- 1.0
abbrev pub one64 : Float
one64 = of_bits binary64 0x3FF0_0000_0000_0000

pub one64_is : one64 ≡ round binary64 false 1 1
unfolding of_bits round
one64_is = refl

-- 2.0
abbrev pub two64 : Float
two64 = of_bits binary64 0x4000_0000_0000_0000

pub two64_is : two64 ≡ round binary64 false 2 1
unfolding of_bits round
two64_is = refl

-- 4.0
abbrev pub four64 : Float
four64 = of_bits binary64 0x4010_0000_0000_0000

pub four64_is : four64 ≡ round binary64 false 4 1
unfolding of_bits round
four64_is = refl

-- ---- tolerances

-- 1e-7
abbrev pub ten_to_minus7 : Float
ten_to_minus7 = of_bits binary64 0x3E7A_D7F2_9ABC_AF48

pub ten_to_minus7_is : ten_to_minus7 ≡ round binary64 false 1 (10 ^ 7)
unfolding of_bits round
ten_to_minus7_is = refl

-- 1e-9
abbrev pub ten_to_minus9 : Float
ten_to_minus9 = of_bits binary64 0x3E11_2E0B_E826_D695

pub ten_to_minus9_is : ten_to_minus9 ≡ round binary64 false 1 (10 ^ 9)
unfolding of_bits round
ten_to_minus9_is = refl

-- 1e-10
abbrev pub ten_to_minus10 : Float
ten_to_minus10 = of_bits binary64 0x3DDB_7CDF_D9D7_BDBB

pub ten_to_minus10_is : ten_to_minus10 ≡ round binary64 false 1 (10 ^ 10)
unfolding of_bits round
ten_to_minus10_is = refl

-- 1e-12
abbrev pub ten_to_minus12 : Float
ten_to_minus12 = of_bits binary64 0x3D71_9799_812D_EA11

pub ten_to_minus12_is : ten_to_minus12 ≡ round binary64 false 1 (10 ^ 12)
unfolding of_bits round
ten_to_minus12_is = refl

-- ---- PI

-- 3.14159265358979323846264338327950288, the decimal of Rust's std::f64::consts::PI
abbrev pub pi : Float
pi = of_bits binary64 0x4009_21FB_5444_2D18

pub pi_is : pi ≡ round binary64 false 314159265358979323846264338327950288 (10 ^ 35)
unfolding of_bits round
pi_is = refl

-- 2.0 * PI
abbrev pub two_pi : Float
two_pi = of_bits binary64 0x4019_21FB_5444_2D18

pub two_pi_is : two_pi ≡ mul binary64 two64 pi
unfolding of_bits mul
two_pi_is = refl
