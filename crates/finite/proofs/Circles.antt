-- The area of a circle and the area that two circles share are finite. Rests on exact's bounds of a head's circle and of two centres' distance.
use mathlib.Core.Path.{◌≡◌, refl, subst, sym}
use mathlib.Core.Bool.{Bool, true, false}
use Prim.Native.Nat.{ℕ, ◌*◌, ◌^◌, ◌≤◌}
use native.Mathlib.Nat.{mul-le-mul_right}
use native.Mathlib.Omega.{arith}
use lib.Dec.{lit≤}
use lib.Ieee.{Float, binary64, lt}
use lib.Ieee.Fits.{div-fits}
use Rattle.binary64.specs.Constants.{zero64, half64, pi}
use Rattle.binary64.specs.Functions.{absolute}
use Rattle.binary64.specs.Magnitude.{Most}
use Rattle.binary64.specs.Units.{one, mag}
use Rattle.binary64.proofs.Constants.{pi_most}
use Rattle.binary64.proofs.Functions.{smaller_most}
use Rattle.binary64.proofs.Magnitude.{most_weaken, most_coarser, most_zero, most_either, add_most, sub_most, mul_most}
use Rattle.binary64.proofs.Units.{pow2_split, not_below_zero}
use Rattle.elementary.specs.Arctangent.{acos}
use Rattle.elementary.specs.Root.{root}
use Rattle.elementary.proofs.root.Promise.{root_promise}
use Rattle.elementary.proofs.root.Squares.{root_most}
use Rattle.geometry.specs.Circle.{lens}
use Rattle.binary64.specs.Floats.{◌+ᶠ◌, ◌-ᶠ◌, ◌*ᶠ◌, ◌/ᶠ◌, ◌≤ᶠ◌}
use Rattle.geometry.specs.Point.{distance}
use Rattle.exact.specs.Circle.{circle_of}
use Rattle.exact.proofs.Theorem.{is-drawn, stays_bounded}
use Rattle.finite.specs.Circles.{CircleFinite, SharedFinite}
use Rattle.finite.proofs.Clipped.{half_most}
use Rattle.finite.proofs.Promises.{arccosine_most}

-- PI × r × r
disc_most : {r : Float} → Most 20000 1074 r → Most 1600000000 1074 (pi *ᶠ r *ᶠ r)
disc_most h = mul_most (mul_most pi_most h 1074 refl (lit≤ tt) (lit≤ tt)) h 1074 refl (lit≤ tt) (lit≤ tt)

-- r × r × acos q, whatever the quotient q
sector_most : {r : Float} (a b : Float) → Most 20000 1074 r → Most 1600000000 1074 (r *ᶠ r *ᶠ acos (a /ᶠ b))
sector_most a b h = mul_most (mul_most h h 1074 refl (lit≤ tt) (lit≤ tt)) (arccosine_most (a /ᶠ b) (div-fits binary64 a b)) 1074 refl (lit≤ tt) (lit≤ tt)

-- The root of a number of at most 118,350,000,000,000 × 2^20 is at most 2^34.
large_root : (x : Float) → Most 118350000000000 1094 x → Most 17179869184 1074 (root x)
large_root x h = by (lt x zero64) refl
  where
    square : (n m : ℕ) → m ≤ 118350000000000 * (2 ^ 20 * n) → m * n ≤ 17179869184 * n * (17179869184 * n)
    square n m k = omega (arith, mul-le-mul_right n k)

    by : (below : Bool) → lt x zero64 ≡ below → Most 17179869184 1074 (root x)
    by true e = subst (Most 17179869184 1074) (sym (root_promise.negatives x e)) most_zero
    by false e = root_most h.finite (not_below_zero h.finite e) 17179869184 1074 (lit≤ tt) (square one (mag x) (subst (λ p. mag x ≤ 118350000000000 * p) (pow2_split 20 1074) h.bound))

-- four numbers of at most 105,536, multiplied one after another
four_most : {a b c d : Float} → Most 105536 1074 a → Most 105536 1074 b → Most 105536 1074 c → Most 105536 1074 d → Most 118350000000000 1094 (a *ᶠ b *ᶠ c *ᶠ d)
four_most ha hb hc hd =
    let three = mul_most (mul_most ha hb 1074 refl (lit≤ tt) (lit≤ tt)) hc 1074 refl (lit≤ tt) (lit≤ tt) in
    most_weaken (mul_most (most_coarser three 20 1121000000 (lit≤ tt)) hd 1094 refl (lit≤ tt) (lit≤ tt)) (lit≤ tt)

module _ {r s d : Float} (hr : Most 20000 1074 r) (hs : Most 20000 1074 s) (hd : Most 65536 1074 d) where
  -- the kite between the centres and the points
  kite_most : Most 8589934592 1074 (half64 *ᶠ root ((r +ᶠ s -ᶠ d) *ᶠ (d +ᶠ r -ᶠ s) *ᶠ (d -ᶠ r +ᶠ s) *ᶠ (d +ᶠ r +ᶠ s)))
  kite_most =
      half_most
      (large_root _
      (four_most
      (sub_most (add_most hr hs (lit≤ tt) (lit≤ tt)) hd (lit≤ tt) (lit≤ tt))
      (sub_most (add_most hd hr (lit≤ tt) (lit≤ tt)) hs (lit≤ tt) (lit≤ tt))
      (add_most (sub_most hd hr (lit≤ tt) (lit≤ tt)) hs (lit≤ tt) (lit≤ tt))
      (add_most (add_most hd hr (lit≤ tt) (lit≤ tt)) hs (lit≤ tt) (lit≤ tt))))
      (lit≤ tt) (lit≤ tt)

  lens_most : Most 11789934592 1074 (lens r s d)
  lens_most = sub_most (add_most (sector_most _ _ hr) (sector_most _ _ hs) (lit≤ tt) (lit≤ tt)) kite_most (lit≤ tt) (lit≤ tt)

-- The area of a head's circle.
pub circle_finite : CircleFinite
circle_finite h t = disc_most (is-drawn h t).most

-- The area that two heads share.
pub shared_finite : SharedFinite
shared_finite a b ta tb =
    let ra = (is-drawn a ta).most in
    let rb = (is-drawn b tb).most in
    let d = distance (circle_of a).center (circle_of b).center in
    most_either ((circle_of a).radius +ᶠ (circle_of b).radius ≤ᶠ d) most_zero
    (most_either (d ≤ᶠ absolute ((circle_of a).radius -ᶠ (circle_of b).radius)) (most_weaken (disc_most (smaller_most ra rb)) (lit≤ tt)) (lens_most ra rb (stays_bounded a b ta tb).near))
