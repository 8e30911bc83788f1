-- Points so far from the edge of a circle that no division is needed to tell on which side they lie (specs/Measured.antt).
use Prim.{tt}
use mathlib.Core.Path.{◌≡◌, refl, ap, ◌∙◌}
use mathlib.Core.Bool.{true, not}
use Prim.Native.Nat.{◌+◌, ◌*◌, ◌≤◌, ◌<◌}
use native.Mathlib.Nat.{le_refl, lt_of_lt_of_le, mul-le-mul}
use native.Mathlib.Omega.{arith}
use lib.Dec.{T, leb→le}
use lib.Ieee.{Float, binary64, fits, lt, le, add, sub, mul, div, of_bits}
use Rattle.binary64.specs.Constants.{zero64, one64, two64}
use Rattle.binary64.specs.Functions.{absolute}
use Rattle.binary64.specs.Magnitude.{Most, Least}
use Rattle.binary64.specs.Rounding.{Rounded}
use Rattle.binary64.specs.Units.{pow2, one, mag, plus, minus, Finite}
use Rattle.binary64.proofs.Constants.{one64_mag, one64_most}
use Rattle.binary64.proofs.Functions.{larger_most, absolute_finite, absolute_mag, absolute_sign}
use Rattle.binary64.proofs.Magnitude.{literal_most, add_most, sub_most, mul_most, div_most}
use Rattle.binary64.proofs.Operations.{result_rounded, add_result, sub_result, mul_result, div_result}
use Rattle.binary64.proofs.Rounding.{plus_le, plus_ge, minus_ge, minus_none}
use Rattle.binary64.proofs.Units.{one_pos, zero64_finite, zero64_plus, zero64_minus, plus_is, plus_minus, mag_digits}
use Rattle.binary64.proofs.Units.{units_of_lt, units_of_le, le_of_units, lt_of_units, not_lt_of_units, le_not_lt}
use Rattle.geometry.specs.declared.circle.Circle.{Circle}
use Rattle.geometry.specs.Tolerances.{coincidence, coincidence_share}
use Rattle.geometry.specs.Moderate.{two_to_the64}
use Rattle.geometry.proofs.Roots.{just_above_one, top_most, finite_between, not_below, product_below, product_above}
use Rattle.boundary.specs.Measured.{Measured, FarIn}
use Rattle.boundary.specs.Outline.{tolerance}
use Rattle.boundary.proofs.Identical.{one_plus}

-- ---- numbers next to 1, in units

-- 1 - 2^-10, 2^-10, and 1 with 2^-19 more or less
abbrev pub just_below_one : Float
just_below_one = of_bits binary64 0x3FEF_F800_0000_0000

abbrev between : Float
between = of_bits binary64 0x3F50_0000_0000_0000

abbrev upper : Float
upper = of_bits binary64 0x3FF0_0002_0000_0000

abbrev lower : Float
lower = of_bits binary64 0x3FEF_FFFC_0000_0000

above_most : Most 2 1074 just_above_one
unfolding mag pow2 of_bits
above_most = literal_most 0x3FF0_0400_0000_0000 2 1074 tt tt

below_most : Most 1 1074 just_below_one
unfolding mag pow2 of_bits
below_most = literal_most 0x3FEF_F800_0000_0000 1 1074 tt tt

between_finite : Finite between
unfolding mag pow2 of_bits
between_finite = (literal_most 0x3F50_0000_0000_0000 1 1074 tt tt).finite

upper_finite : Finite upper
unfolding mag pow2 of_bits
upper_finite = (literal_most 0x3FF0_0002_0000_0000 2 1074 tt tt).finite

lower_finite : Finite lower
unfolding mag pow2 of_bits
lower_finite = (literal_most 0x3FEF_FFFC_0000_0000 1 1074 tt tt).finite

-- how they lie to each other, and to the tolerance, which is at most 2^-20
upper_reaches : one + 2 * pow2 1053 ≤ mag upper
unfolding mag pow2 of_bits
upper_reaches = leb→le (one + 2 * pow2 1053) (mag upper) tt

upper_less : mag upper + 1 ≤ mag just_above_one
unfolding mag pow2 of_bits
upper_less = leb→le (mag upper + 1) (mag just_above_one) tt

lower_reaches : mag lower + 2 * pow2 1053 ≤ one
unfolding mag pow2 of_bits
lower_reaches = leb→le (mag lower + 2 * pow2 1053) one tt

below_less : mag just_below_one ≤ mag lower
unfolding mag pow2 of_bits
below_less = leb→le (mag just_below_one) (mag lower) tt

between_fits : mag just_below_one + mag between ≤ one
unfolding mag pow2 of_bits
between_fits = leb→le (mag just_below_one + mag between) one tt

between_more : 2 * pow2 1053 + 1 ≤ mag between
unfolding mag pow2 of_bits
between_more = leb→le (2 * pow2 1053 + 1) (mag between) tt

no_sign : (minus just_above_one ≡ 0) × (minus just_below_one ≡ 0)
unfolding minus mag of_bits
no_sign = (refl, refl)

one_wide : Most 1 1138 one64
unfolding mag pow2 of_bits
one_wide = literal_most 0x3FF0_0000_0000_0000 1 1138 tt tt

-- ---- what the tests say

radius_top : Most 1 1094 (of_bits binary64 0x4130_0000_0000_0000)
unfolding mag pow2 of_bits
radius_top = literal_most 0x4130_0000_0000_0000 1 1094 tt tt

pub measured : (r s : Float) → T (fits binary64 r) → T (fits binary64 s) → le one64 r ≡ true → lt r (of_bits binary64 0x4130_0000_0000_0000) ≡ true
    → le zero64 s ≡ true → lt s two_to_the64 ≡ true → Measured r s
measured r s fr fs a b d e =
    let f = finite_between r one64 (of_bits binary64 0x4130_0000_0000_0000) fr one64_most.finite radius_top.finite a b in
    let g = finite_between s zero64 two_to_the64 fs zero64_finite top_most.finite d e in
    let u = units_of_le one64_most.finite f a in
    let p = not_below f (le_of_units zero64_finite f (omega (arith, u, one_plus.0, one_plus.1, zero64_plus, zero64_minus))) in
    let q = not_below g d in
    record {
      radius_most = record {
        finite = f;
        bound = omega (arith, units_of_lt f radius_top.finite b, p, plus_minus r, plus_minus (of_bits binary64 0x4130_0000_0000_0000), radius_top.bound);
      };
      radius_least = record { finite = f; bound = omega (arith, u, p, one_plus.0, one_plus.1, plus_minus r) };
      radius_minus = p;
      squared_most = record {
        finite = g;
        bound = omega (arith, units_of_lt g top_most.finite e, q, plus_minus s, plus_minus two_to_the64, top_most.bound);
      };
      squared_minus = q;
    }

-- ---- the tolerance of a circle of radius 1 or more

two_most : Most 2 1074 two64
unfolding of_bits mag pow2
two_most = literal_most 0x4000_0000_0000_0000 2 1074 tt tt

coincidence_most : Most 1 1053 coincidence
unfolding of_bits mag pow2
coincidence_most = literal_most 0x3E7A_D7F2_9ABC_AF48 1 1053 tt tt

share_most : Most 2 1053 coincidence_share
unfolding of_bits mag pow2
share_most = literal_most 0x3D71_9799_812D_EA11 2 1053 tt tt

module _ (c : Circle) (s : Float) (m : Measured c.radius s) where
  tolerance_most : Most 2 1053 (tolerance c)
  unfolding tolerance
  tolerance_most =
      larger_most
      (div_most (mul_most two_most coincidence_most 1053 refl (omega arith) (omega arith)) m.radius_least 2 1053 refl (omega arith) (omega arith) (omega arith)
      (omega arith))
      share_most

  -- 1 and the tolerance
  abbrev raised : Float
  raised = add binary64 one64 (tolerance c)

  one_coarse : Most 2097152 1053 one64
  unfolding mag pow2 of_bits
  one_coarse = literal_most 0x3FF0_0000_0000_0000 2097152 1053 tt tt

  raised_most : Most 2097154 1053 raised
  raised_most = add_most one_coarse tolerance_most (omega arith) (omega arith)

  raised_is : Rounded raised (plus one64 + plus (tolerance c)) (minus one64 + minus (tolerance c)) 1
  raised_is = result_rounded (le_refl 1) (add_result one64_most.finite tolerance_most.finite) raised_most.finite

  raised_above : mag lower ≤ plus raised
  raised_above =
      plus_ge (le_refl 1) raised_is (mag_digits lower_finite)
      (omega (arith, one_plus.0, one_plus.1, plus_minus (tolerance c), tolerance_most.bound, lower_reaches))

  raised_none : minus raised ≡ 0
  raised_none =
      minus_none (le_refl 1) raised_is (omega (arith, one_plus.0, one_plus.1, plus_minus (tolerance c), tolerance_most.bound, lower_reaches))

  raised_below : plus raised ≤ mag upper
  raised_below =
      plus_le (le_refl 1) raised_is (mag_digits upper_finite)
      (omega (arith, one_plus.0, one_plus.1, plus_minus (tolerance c), tolerance_most.bound, upper_reaches))

  -- the square of the radius, and the implicit form
  abbrev area : Float
  area = mul binary64 c.radius c.radius

  area_most : Most 1 1114 area
  area_most = mul_most m.radius_most m.radius_most 1114 refl (omega arith) (omega arith)

  whole : plus c.radius ≡ mag c.radius
  whole = omega (arith, plus_minus c.radius, m.radius_minus)

  square : Rounded area (plus c.radius * plus c.radius + minus c.radius * minus c.radius)
      (plus c.radius * minus c.radius + minus c.radius * plus c.radius) one
  square = result_rounded one_pos (mul_result m.radius_most.finite m.radius_most.finite) area_most.finite

  area_none : minus area ≡ 0
  area_none = minus_none one_pos square (rw m.radius_minus (omega arith))

  area_least : one ≤ plus area
  area_least =
      plus_ge one_pos square (rw one64_mag at (mag_digits one64_most.finite))
      (rw (m.radius_minus, whole) (let g = mul-le-mul m.radius_least.bound m.radius_least.bound in omega (arith, g)))

  area_pos : 0 < plus area
  area_pos = lt_of_lt_of_le one_pos area_least

  area_whole : plus area ≡ mag area
  area_whole = omega (arith, plus_minus area, area_none)

  abbrev form : Float
  form = div binary64 s area

  area_lower : Least 1 1074 area
  area_lower = record { finite = area_most.finite; bound = omega (arith, area_least, area_whole) }

  form_most : Most 1 1138 form
  form_most = div_most m.squared_most area_lower 1 1138 refl (omega arith) (omega arith) (omega arith) (omega arith)

  form_is : Rounded form (plus s * one) (minus s * one) (plus area)
  form_is = result_rounded area_pos (div_result m.squared_most.finite area_most.finite area_pos) form_most.finite

  squared_whole : plus s ≡ mag s
  squared_whole = omega (arith, plus_minus s, m.squared_minus)

  form_none : minus form ≡ 0
  form_none = minus_none area_pos form_is (rw m.squared_minus (omega arith))

  -- ---- beyond

  pub far-out : lt (mul binary64 area just_above_one) s ≡ true → lt raised form ≡ true
  far-out e =
      let q = mul_most area_most above_most 1114 refl (omega arith) (omega arith) in
      let g = product_above m.squared_most.finite area_most.finite above_most.finite q.finite m.squared_minus area_none no_sign.0 e in
      let l = plus_ge area_pos form_is (mag_digits above_most.finite) (rw (m.squared_minus, squared_whole, area_whole) (omega (arith, g))) in
      lt_of_units raised_most.finite form_most.finite (omega (arith, l, raised_below, upper_less, form_none))

  -- ---- well within

  module _ (e : lt s (mul binary64 area just_below_one) ≡ true) where
    form_below : plus form ≤ mag just_below_one
    form_below =
        let q = mul_most area_most below_most 1114 refl (omega arith) (omega arith) in
        let g = product_below m.squared_most.finite area_most.finite below_most.finite q.finite m.squared_minus area_none no_sign.1 e in
        plus_le area_pos form_is (mag_digits below_most.finite) (rw (m.squared_minus, squared_whole, area_whole) (omega (arith, g)))

    -- what the form lacks to 1
    abbrev off : Float
    off = sub binary64 form one64

    off_most : Most 2 1138 off
    off_most = sub_most form_most one_wide (omega arith) (omega arith)

    off_more : mag between ≤ minus off
    off_more =
        minus_ge (le_refl 1) (result_rounded (le_refl 1) (sub_result form_most.finite one64_most.finite) off_most.finite) (mag_digits between_finite)
        (omega (arith, form_below, between_fits, one_plus.0, one_plus.1))

    pub far-in : FarIn s c
    far-in =
        let f = absolute_finite off_most.finite in
        let w = plus_is (absolute off) (absolute_sign off) in
        record {
          not_out = not_lt_of_units raised_most.finite form_most.finite (omega (arith, form_below, below_less, raised_above, raised_none, form_none));
          not_near =
              le_not_lt f tolerance_most.finite
              ∙ ap not (lt_of_units tolerance_most.finite f
              (omega (arith, w.0, w.1, absolute_mag off, plus_minus off, off_more, between_more, plus_minus (tolerance c), tolerance_most.bound)));
        }
