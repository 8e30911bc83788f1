-- The sizes of the constants: 1 is `one` units, 0.5 half of that, and PI lies from 3 to 4. Rests on Magnitude.
use Rattle.std.proofs.Common.{◌≡◌, false, refl}
use lib.Ieee.{of_bits}
use Rattle.binary64.specs.Units.{pow2, one, mag, negative}
use Rattle.binary64.specs.Constants.{half64, one64, pi, two_pi}
use Rattle.binary64.specs.Magnitude.{Most, Least}
use Rattle.binary64.proofs.Magnitude.{literal_most, literal_least}

-- 0.5 is 2 ^ 1073 units.
pub half64_mag : mag half64 ≡ pow2 1073
unfolding of_bits mag pow2
half64_mag = refl

-- 0.5 in the form of a bound
pub half64_most : Most 1 1073 half64
unfolding of_bits mag pow2
half64_most = literal_most 0x3FE0_0000_0000_0000 1 1073 tt tt

-- 1.0 is `one` units.
pub one64_mag : mag one64 ≡ one
unfolding of_bits mag pow2
one64_mag = refl

pub one64_sign : negative one64 ≡ false
unfolding of_bits
one64_sign = refl

pub one64_most : Most 1 1074 one64
unfolding of_bits mag pow2
one64_most = literal_most 0x3FF0_0000_0000_0000 1 1074 tt tt

-- 3 ≤ PI ≤ 4 and 6 ≤ 2 * PI ≤ 7
pub pi_most : Most 4 1074 pi
unfolding of_bits mag pow2
pi_most = literal_most 0x4009_21FB_5444_2D18 4 1074 tt tt

pub two_pi_most : Most 7 1074 two_pi
unfolding of_bits mag pow2
two_pi_most = literal_most 0x4019_21FB_5444_2D18 7 1074 tt tt

pub two_pi_least : Least 6 1074 two_pi
unfolding of_bits mag pow2
two_pi_least = literal_least 0x4019_21FB_5444_2D18 6 1074 tt tt
