-- The recipe of atan2, step by step, and acos and asin over it. The smaller of |x| and |y| over the larger is one float
-- division, cut to a whole number of units of 2^-64; the angle is worked out in whole numbers of units of 2^-62 (crate
-- cells, Arc), and made a float. So the bits of every answer are fixed.
use Rattle.std.specs.Prelude.{◌≡◌, ℕ, ◌-◌, ◌^◌, Bool, false, cond, ◌&&◌, ◌||◌, pos, refl, Float}
use Rattle.std.specs.Float.{binary64}
use Rattle.std.specs.Float.Ieee.{of_bits, neg, add, sub, mul, div, lt, le, round, of_int, to_unsigned}
use Rattle.binary64.specs.Constants.{zero64, one64}
use Rattle.binary64.specs.Functions.{absolute}
use Rattle.binary64.specs.Units.{negative}
use Rattle.elementary.specs.Root.{root}
use Rattle.cells.specs.Arc.{arc, quarter_turn, half_turn}

-- The largest magnitude 2^20, and the factors 2^64 and 2^-62, by their bits.
abbrev pub largest : Float
largest = of_bits binary64 0x4130000000000000

abbrev pub tangent_scale : Float
tangent_scale = of_bits binary64 0x43F0000000000000

abbrev pub angle_scale : Float
angle_scale = of_bits binary64 0x3C10000000000000

-- These are their bits.
pub constants_are :
    (largest ≡ round binary64 false (2 ^ 20) 1) × (tangent_scale ≡ round binary64 false (2 ^ 64) 1)
    × (angle_scale ≡ round binary64 false 1 (2 ^ 62))
unfolding of_bits round
constants_are = (refl, refl, refl)

-- low / high in units of 2^-64, cut, and 2^64 - 1 where it rounds to 1
unfoldable pub tangent : Float → Float → ℕ
tangent low high =
    let q = div binary64 low high in
    cond (lt q one64) (to_unsigned 64 (mul binary64 q tangent_scale)) (2 ^ 64 - 1)

-- The angle of the point (x, y) with x and y not below zero: beyond the diagonal it is a quarter turn less that of the
-- swapped point.
unfoldable pub first_quarter : Float → Float → ℕ
unfolding tangent arc
first_quarter x y = cond (lt x y) (quarter_turn - arc (tangent x y)) (arc (tangent y x))

-- The angle of the point (x, height), where width is |x|: with a negative x it is a half turn less that of the mirrored
-- point.
unfoldable pub upper_half : Float → Float → Float → ℕ
unfolding first_quarter
upper_half x width height =
    let first = first_quarter width height in
    cond (negative x) (half_turn - first) first

-- Where atan2 is promised, by the magnitudes: up to 2^20, and not both zero. (No comparison with a NaN passes.)
unfoldable pub in_domain : Float → Float → Bool
in_domain width height = le width largest && le height largest && (lt zero64 width || lt zero64 height)

-- The angle as a float, with the sign of y; +0 outside the domain.
unfoldable pub atan2 : Float → Float → Float
unfolding in_domain upper_half
atan2 y x =
    let width = absolute x in
    let height = absolute y in
    let t = mul binary64 (of_int binary64 (pos (upper_half x width height))) angle_scale in
    cond (in_domain width height) (cond (negative y) (neg t) t) zero64

-- root((1-c)×(1+c)), each step rounded: the sine of the angle whose cosine is c, and the cosine of the one whose sine
-- is c.
unfoldable pub cofunction : Float → Float
unfolding root
cofunction c = root (mul binary64 (sub binary64 one64 c) (add binary64 one64 c))

-- -1 ≤ c ≤ 1
abbrev pub in_unit : Float → Bool
in_unit c = le (neg one64) c && le c one64

-- Document 01: "`acos(c)` is atan2(root((1-c)×(1+c)), c); `asin(c)` is atan2(c, root((1-c)×(1+c))). Both have the
-- domain -1 to 1." +0 outside.
unfoldable pub acos : Float → Float
unfolding atan2 cofunction
acos c = cond (in_unit c) (atan2 (cofunction c) c) zero64

unfoldable pub asin : Float → Float
unfolding atan2 cofunction
asin c = cond (in_unit c) (atan2 c (cofunction c)) zero64
