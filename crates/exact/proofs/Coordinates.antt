-- The coordinates of the points where two outlines meet: finite, and how large they are at most. The foot of the chord
-- lies at most r₁ from the first centre along each axis, and each point at most 2 r₁ from the foot. Rests on binary64's
-- Operations.
use mathlib.Core.Path.{◌≡◌, sym, ap}
use Prim.Native.Nat.{ℕ, ◌*◌, ◌^◌, ◌≤◌, ◌<◌}
use native.Mathlib.Nat.{le_trans, le_of_eq, lt_of_lt_of_le, mul_assoc}
use native.Mathlib.Nat.{mul-pos, mul-le-mul, mul-le-mul_left, mul-le-mul_right}
use native.Mathlib.Omega.{arith}
use lib.Ieee.{Float, binary64, add, mul, div, unlike}
use Rattle.binary64.specs.Units.{pow2, one, Finite, mag, negative}
use Rattle.binary64.specs.Magnitude.{Most}
use Rattle.binary64.proofs.Units.{one_pos}
use Rattle.binary64.proofs.Rounding.{rnd_le, rnd_ge, rnd_twice}
use Rattle.binary64.proofs.Operations.{round_finite, mul_round, mul_mag, div_round, div_mag}
use Rattle.binary64.proofs.Magnitude.{bound_digits, bound_limit, most_weaken, add_most}

-- ---- a product and a quotient against a bound that is a float itself

module _ {x y : Float} (h : Finite x) (k : Finite y) {j a : ℕ} (J : j ≤ 2 ^ 53) (A : a ≤ 2044) where
  -- x * y and x / y are at most j * 2 ^ a units, where the exact values are
  pub product_most : mag x * mag y ≤ j * pow2 a * one → Most j a (mul binary64 x y)
  product_most l = record {
    finite = f;
    bound = le_trans (le_of_eq (mul_mag h k f)) (rnd_le (mag x * mag y) one one_pos (bound_digits a J) l);
  }
    where
      f : Finite (mul binary64 x y)
      f =
          rw (mul_round h k)
          (round_finite (unlike (negative x) (negative y)) (mag x * mag y) (one * one) (mul-pos one_pos one_pos)
          (bound_digits a J) (bound_limit J A)
          (le_trans (mul-le-mul_right one l) (le_of_eq (mul_assoc (j * pow2 a) one one))))

  pub quotient_most : 0 < mag y → mag x * one ≤ j * pow2 a * mag y → Most j a (div binary64 x y)
  quotient_most Y l = record {
    finite = f;
    bound = le_trans (le_of_eq (div_mag h k Y f)) (rnd_le (mag x * one) (mag y) Y (bound_digits a J) l);
  }
    where
      f : Finite (div binary64 x y)
      f =
          rw (div_round h k Y)
          (round_finite (unlike (negative x) (negative y)) (mag x) (mag y) Y (bound_digits a J) (bound_limit J A) l)

module _ {x y : Float} (h : Finite x) (k : Finite y) {j : ℕ} (a : ℕ) (J : j ≤ 2 ^ 53) where
  -- and at least, where they are
  pub product_least : Finite (mul binary64 x y) → j * pow2 a * one ≤ mag x * mag y → j * pow2 a ≤ mag (mul binary64 x y)
  product_least f l =
      le_trans (rnd_ge (mag x * mag y) one one_pos (bound_digits a J) l) (le_of_eq (sym (mul_mag h k f)))

  pub quotient_least : 0 < mag y → Finite (div binary64 x y) → j * pow2 a * mag y ≤ mag x * one
      → j * pow2 a ≤ mag (div binary64 x y)
  quotient_least Y f l =
      le_trans (rnd_ge (mag x * one) (mag y) Y (bound_digits a J) l) (le_of_eq (sym (div_mag h k Y f)))

-- h / d, for a distance d of at least 1
pub part_most : {h d : Float} {r : ℕ} → Finite d → one ≤ mag d → r ≤ 20000 → Most r 1074 h
    → Most r 1074 (div binary64 h d)
part_most {r =
    r} D P R H =
    quotient_most H.finite D (omega arith) (omega arith) (lt_of_lt_of_le one_pos P)
    (le_trans (mul-le-mul_right one H.bound) (mul-le-mul_left (r * one) P))

-- ---- along one axis

-- Δ is the difference of the centres along an axis: the whole number m or -m, at most the distance d.
pub record Leg (Δ d : Float) (m : ℕ) : Type 0 where
  pub finite : Finite Δ
  pub size : mag Δ ≡ m * one
  pub small : m < 2 ^ 16
  pub within : m * one ≤ mag d

module _ {Δ d : Float} {m : ℕ} (leg : Leg Δ d m) (D : Finite d) (P : one ≤ mag d) {r : ℕ} (R : r ≤ 20000) where
  d_pos : 0 < mag d
  d_pos = lt_of_lt_of_le one_pos P

  -- the way from the centre to the foot, f * Δ / d: at most |f|, since |Δ| is at most d
  pub way_most : {f : Float} → Most r 1074 f → Most r 1074 (div binary64 (mul binary64 f Δ) d)
  way_most {f} F =
      quotient_most product.finite D (omega arith) (omega arith) d_pos
      (le_trans (mul-le-mul_right one product.bound) (omega (arith, mul-le-mul_left (r * one) leg.within)))
    where
      product : Most (r * m) 1074 (mul binary64 f Δ)
      product =
          product_most F.finite leg.finite (omega (arith, mul-le-mul R leg.small)) (omega arith)
          (le_trans (mul-le-mul F.bound (le_of_eq leg.size)) (omega arith))

  -- the way from the foot to a point, Δ * (h / d): at most 2 |h|, for an h of which h / d is at least one unit, so that
  -- rounding does not double it
  pub offset_most : {h : Float} → Most r 1074 h → mag d ≤ mag h * one
      → Most (2 * r) 1074 (mul binary64 Δ (div binary64 h d))
  offset_most {h} H l =
      let q = part_most D P R H in
      let twice = (rnd_twice (mag h * one) (mag d) d_pos l).0 in
      let e = ap (λ (n : ℕ). n * mag d) (div_mag H.finite D d_pos q.finite) in
      let w = mul-le-mul_right (mag (div binary64 h d)) (le_trans (le_of_eq leg.size) leg.within) in
      product_most leg.finite q.finite (omega arith) (omega arith) (omega (arith, mul-le-mul_right one H.bound))

  -- where h is a zero there is none
  pub offset_none : {h : Float} → Most 0 1074 h → Most 0 1074 (mul binary64 Δ (div binary64 h d))
  offset_none {h} H =
      let q = part_most D P (omega arith) H in
      product_most leg.finite q.finite (omega arith) (omega arith)
      (le_trans (mul-le-mul_left (mag Δ) q.bound) (omega arith))

  -- the foot
  pub foot_most : {x f : Float} → Most 20000 1074 x → Most r 1074 f
      → Most 40000 1074 (add binary64 x (div binary64 (mul binary64 f Δ) d))
  foot_most X F = most_weaken (add_most X (way_most F) (omega arith) (omega arith)) (omega arith)
