-- What lies up to r from v, rounded, lies from v - r to v + r, rounded (specs/Within.antt).
use Rattle.std.proofs.Common.{◌≡◌, refl, ap₂, true, ◌&&◌, ℕ, ◌+◌, ◌-◌, ◌*◌, ◌≤◌, le_refl, mul-le-mul, arith, T, Float}
use lib.Ieee.{binary64, fits, lt, le, of_bits, neg}
use Rattle.binary64.specs.Constants.{zero64}
use Rattle.binary64.specs.Floats.{◌+ᶠ◌, ◌-ᶠ◌, ◌*ᶠ◌}
use Rattle.binary64.specs.Units.{pow2, one, mag, plus, minus, Finite}
use Rattle.binary64.specs.Magnitude.{Most}
use Rattle.binary64.specs.Rounding.{Rounded}
use Rattle.binary64.proofs.Units.{one_pos, plus_minus, mag_digits, above_zero, units_of_le, le_of_units}
use Rattle.binary64.proofs.Rounding.{rnd_mono, plus_le, minus_le}
use Rattle.binary64.proofs.Operations.{result_rounded, add_result, sub_result, mul_result}
use Rattle.binary64.proofs.Magnitude.{literal_most, add_most, sub_most, mul_most, most_between}
use Rattle.masks.specs.Subset.{and_both}
use Rattle.elementary.specs.Sine.{sine, cosine}
use Rattle.elementary.proofs.sine.Promise.{sine_promise, cosine_promise}
use Rattle.boundary.specs.Outline.{point_at}
use Rattle.geometry.specs.declared.bounds.Bounds.{Bounds}
use Rattle.geometry.specs.declared.circle.Circle.{Circle}
use Rattle.geometry.specs.Moderate.{two_to_the64}
use Rattle.geometry.specs.Tolerances.{clip_box}
use Rattle.geometry.proofs.Roots.{top_most}
use Rattle.inside.specs.Parts.{near_side, in_box}
use Rattle.inside.specs.Within.{StaysNear}

tolerance_most : Most 1 1138 clip_box
unfolding mag pow2 of_bits
tolerance_most = literal_most 0x3E11_2E0B_E826_D695 1 1138 tt tt

-- a number that passes the test is at most 2^64
abbrev pub Bounded : Float → Type 0
Bounded x = T (fits binary64 x) × ((le (neg two_to_the64) x && le x two_to_the64) ≡ true)

bounded_most : {x : Float} → Bounded x → Most 1 1138 x
bounded_most {x} b = let w = and_both _ _ b.1 in most_between b.0 top_most w.0 w.1

-- what is no more comes out as no more
rounded_le : {z y : Float} {p n q m : ℕ} → Finite z → Finite y → Rounded z p n 1 → Rounded y q m 1 → p + m ≤ q + n
    → le z y ≡ true
rounded_le {p = p} {n = n} {q = q} {m = m} z y r s h =
    let up = rnd_mono (p - n) 1 (q - m) 1 (le_refl 1) (le_refl 1) (omega arith) in
    let down = rnd_mono (m - q) 1 (n - p) 1 (le_refl 1) (le_refl 1) (omega arith) in
    le_of_units z y (omega (arith, r.up, r.down, s.up, s.down))

float_le_trans : {x y z : Float} → Finite x → Finite y → Finite z → le x y ≡ true → le y z ≡ true → le x z ≡ true
float_le_trans x y z h k = le_of_units x z (omega (arith, units_of_le x y h, units_of_le y z k))

module _ {v r d : Float} (mv : Most 1 1138 v) (mr : Most 1 1138 r) (md : Most 1 1074 d) (none : minus r ≡ 0) where
  abbrev share : Float
  share = r *ᶠ d

  share_most : Most 1 1138 share
  share_most = mul_most mr md 1138 refl (omega arith) (omega arith)

  part : (e : ℕ) → e ≤ mag d → mag r * e ≤ mag r * one
  part e h = mul-le-mul (le_refl (mag r)) (omega (arith, md.bound))

  -- the share of r is no more than r
  share_le : (plus share ≤ mag r) × (minus share ≤ mag r)
  share_le =
      let whole : plus r ≡ mag r = omega (arith, plus_minus r) in
      let rounded = result_rounded one_pos (mul_result mr.finite md.finite) share_most.finite in
      let sides = plus_minus d in
      let fits = mag_digits mr.finite in (
        plus_le one_pos rounded fits (rw (none, whole) (omega (arith, part (plus d) (omega arith)))),
        minus_le one_pos rounded fits (rw (none, whole) (omega (arith, part (minus d) (omega arith)))),
      )

  point_most : Most 2 1138 (v +ᶠ share)
  point_most = add_most mv share_most (omega arith) (omega arith)

  point : Rounded (v +ᶠ share) (plus v + plus share) (minus v + minus share) 1
  point = result_rounded (le_refl 1) (add_result mv.finite share_most.finite) point_most.finite

  low_most : Most 2 1138 (v -ᶠ r)
  low_most = sub_most mv mr (omega arith) (omega arith)

  high_most : Most 2 1138 (v +ᶠ r)
  high_most = add_most mv mr (omega arith) (omega arith)

  from_low : le (v -ᶠ r) (v +ᶠ share) ≡ true
  from_low =
      rounded_le low_most.finite point_most.finite
      (result_rounded (le_refl 1) (sub_result mv.finite mr.finite) low_most.finite) point
      (omega (arith, none, plus_minus r, share_le))

  to_high : le (v +ᶠ share) (v +ᶠ r) ≡ true
  to_high =
      rounded_le point_most.finite high_most.finite point
      (result_rounded (le_refl 1) (add_result mv.finite mr.finite) high_most.finite)
      (omega (arith, none, plus_minus r, share_le))

  -- between two ends that are near the side it is near the side
  stays : {low high : Float} → Most 1 1138 low → Most 1 1138 high → near_side low high (v -ᶠ r) ≡ true
      → near_side low high (v +ᶠ r) ≡ true → near_side low high (v +ᶠ share) ≡ true
  unfolding near_side
  stays l h e f =
      let a = sub_most l tolerance_most (omega arith) (omega arith) in
      let b = add_most h tolerance_most (omega arith) (omega arith) in
      ap₂ ◌&&◌ (float_le_trans a.finite low_most.finite point_most.finite (and_both _ _ e).0 from_low)
      (float_le_trans point_most.finite high_most.finite b.finite to_high (and_both _ _ f).1)

-- The tests of the code, put together.
pub all_near : (low high v r d : Float) → Bounded low → Bounded high → Bounded v → Bounded r → lt zero64 r ≡ true
    → near_side low high (v -ᶠ r) ≡ true → near_side low high (v +ᶠ r) ≡ true
    → Most 1 1074 d → near_side low high (v +ᶠ r *ᶠ d) ≡ true
all_near low high v r d l h mv mr p e f md =
    let m = bounded_most mr in
    stays (bounded_most mv) m md (above_zero m.finite p).1 (bounded_most l) (bounded_most h) e f

-- A circle that stays near all four sides is in the box at every angle: sine and cosine are at most 1.
pub at_every_angle : (box : Bounds) (c : Circle) (phi : Float) → StaysNear box.x_min box.x_max c.center.x c.radius
    → StaysNear box.y_min box.y_max c.center.y c.radius → in_box box (point_at c phi) ≡ true
unfolding in_box point_at
at_every_angle box c phi h v =
    ap₂ ◌&&◌ (h (cosine phi) (cosine_promise.size phi)) (v (sine phi) (sine_promise.size phi))
