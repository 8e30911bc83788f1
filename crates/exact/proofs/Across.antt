-- What is left across, where the foot of the chord lies inside the circle of radius r by 2 ^ -33: r² less the square of
-- its distance f is at least 2 ^ -33, so each point lies at least 2 ^ -17 from the foot, and the two points differ.
-- Rests on Steps and Coordinates.
use mathlib.Core.Path.{◌≡◌, refl, sym, ap, ◌∙◌}
use mathlib.Core.Logic.{◌⊎◌, inl, inr}
use mathlib.Core.Bool.{false}
use Prim.Native.Nat.{ℕ, ◌+◌, ◌-◌, ◌*◌, ◌^◌, ◌≤◌, ◌<◌}
use native.Mathlib.Nat.{le_refl, le_trans, le_of_eq, lt_of_lt_of_le, mul-le-mul, mul-le-mul_left, mul-le-mul_right}
use native.Mathlib.Omega.{arith}
use lib.Dec.{eqb, eqb→eq, not_T}
use lib.Ieee.{Float, binary64, add, sub, mul, div, eq}
use lib.Ieee.Bits.{is_false}
use Rattle.binary64.specs.Units.{pow2, one, Finite, mag, plus, minus}
use Rattle.binary64.specs.Rounding.{Rounded, Near}
use Rattle.binary64.specs.Magnitude.{Most}
use Rattle.std.proofs.lemmas.Bool.{cases_lt}
use Rattle.binary64.proofs.Units.{one_pos, pow2_pos, pow2_mono, pow2_split, plus_minus, one_sided, eq_units}
use Rattle.binary64.proofs.Rounding.{plus_le, plus_ge, minus_none}
use Rattle.binary64.proofs.Operations.{sub_result, result_rounded}
use Rattle.binary64.proofs.Magnitude.{bound_digits, add_most, sub_most}
use Rattle.binary64.proofs.Error.{add_near, sub_near}
use Rattle.elementary.proofs.root.Values.{root_finite}
use Rattle.elementary.proofs.root.Squares.{at_most, at_least}
use Rattle.exact.proofs.Distance.{margin, is_most}
use Rattle.exact.proofs.Steps.{rest, across, square_is, square_parts}
use Rattle.exact.proofs.Coordinates.{product_most, part_most, product_least, quotient_least, Leg, offset_most}

module _ (r : ℕ) (P : 1 ≤ r) (L : r ≤ 20000) {f : Float} (F : Most (r * 2 ^ 33 - 1) 1041 f) where
  -- The square of f stays below r² by 2 ^ -33: its bound is r² less one in the last of 33 or 24 digits after the point,
  -- for which r² leaves room.
  squared : Finite (mul binary64 f f) × (mag (mul binary64 f f) + pow2 1041 ≤ r * r * one)
  squared = go (r * 2 ^ 33 - 1) (omega arith) F.bound (cases_lt r 1024)
    where
      by : (a v w : ℕ) → mag f ≤ w * pow2 1041 → v ≤ 2 ^ 53 → a ≤ 2044
          → w * pow2 1041 * (w * pow2 1041) ≤ v * pow2 a * one → (v + 1) * pow2 a ≡ r * r * one → pow2 1041 ≤ pow2 a
          → Finite (mul binary64 f f) × (mag (mul binary64 f f) + pow2 1041 ≤ r * r * one)
      by a v w h few A l e m =
          let p = product_most F.finite F.finite {j = v} {a = a} few A (le_trans (mul-le-mul h h) l) in
          (p.finite, omega (arith, p.bound))

      -- w and v stand for r * 2 ^ 33 - 1 and for r² * 2 ^ 33 - 1, or r² * 2 ^ 24 - 1
      small : (w v : ℕ) → w + 1 ≡ r * 2 ^ 33 → v + 1 ≡ r * r * 2 ^ 33
          → (w * pow2 1041 * (w * pow2 1041) ≤ v * pow2 1041 * one) × ((v + 1) * pow2 1041 ≡ r * r * one)
      small w v e g =
          let h : w * w ≤ v * 2 ^ 33 = omega (arith, ap (λ (k : ℕ). k * k) e) in
          rw (pow2_split 33 1041)
          (omega (arith, mul-le-mul_right (pow2 1041 * pow2 1041) h), omega (arith, ap (λ (k : ℕ). k * pow2 1041) g))

      large : (w v : ℕ) → 1024 ≤ r → w + 1 ≡ r * 2 ^ 33 → v + 1 ≡ r * r * 2 ^ 24
          → (w * pow2 1041 * (w * pow2 1041) ≤ v * pow2 1050 * one) × ((v + 1) * pow2 1050 ≡ r * r * one)
      large w v l e g =
          let h : w * w ≤ v * 2 ^ 42 = omega (arith, ap (λ (k : ℕ). k * k) e) in
          rw (pow2_split 33 1041, pow2_split 9 1041)
          (omega (arith, mul-le-mul_right (pow2 1041 * pow2 1041) h), omega (arith, ap (λ (k : ℕ). k * pow2 1041) g))

      go : (w : ℕ) → w + 1 ≡ r * 2 ^ 33 → mag f ≤ w * pow2 1041 → (r < 1024) ⊎ (1024 ≤ r)
          → Finite (mul binary64 f f) × (mag (mul binary64 f f) + pow2 1041 ≤ r * r * one)
      go w e h (inl l) =
          let v = r * r * 2 ^ 33 - 1 in
          let s = small w v e (omega (arith, mul-le-mul P P)) in
          by 1041 v w h (omega (arith, mul-le-mul l l)) (omega arith) s.0 s.1 (le_refl (pow2 1041))
      go w e h (inr l) =
          let v = r * r * 2 ^ 24 - 1 in
          let s = large w v l e (omega (arith, mul-le-mul P P)) in
          by 1050 v w h (omega (arith, mul-le-mul L L)) (omega arith) s.0 s.1 (pow2_mono (omega arith))

  -- r² - f², of which only the last rounding is not exact
  rest_finite : Finite (rest r f)
  rest_finite =
      (sub_most {j = 400000000} {k = 400000000} (is_most (square_is r L) (omega (arith, mul-le-mul L L)))
      (record { finite = squared.0; bound = omega (arith, squared.1, mul-le-mul_right one (mul-le-mul L L)) })
      (omega arith) (omega arith)).finite

  rest_rounded : Rounded (rest r f) (r * r * one + 0) (0 + mag (mul binary64 f f)) 1
  rest_rounded =
      let a = square_is r L in
      let z = square_parts F.finite squared.0 in
      rw (a.up, a.down, z.0, z.1) at (result_rounded (le_refl 1) (sub_result a.finite squared.0) rest_finite)

  -- it is between 2 ^ -33 and r²
  rest_down : minus (rest r f) ≡ 0
  rest_down = minus_none (le_refl 1) rest_rounded (omega (arith, squared))

  rest_least : 1 * pow2 1041 ≤ mag (rest r f)
  rest_least =
      le_trans (plus_ge (le_refl 1) rest_rounded (bound_digits 1041 (omega arith)) (omega (arith, squared)))
      (omega (arith, plus_minus (rest r f)))

  rest_most : mag (rest r f) ≤ r * r * one
  rest_most =
      le_trans (omega (arith, plus_minus (rest r f), rest_down))
      (plus_le (le_refl 1) rest_rounded (bound_digits 1074 (omega (arith, mul-le-mul L L))) (omega arith))

  -- so the points lie from 2 ^ -17 to r across
  pub across_most : Most r 1074 (across r f)
  across_most = record {
    finite = root_finite (rest r f) rest_finite.fit;
    bound =
        at_most rest_finite rest_down (r * one) (bound_digits 1074 (omega arith))
        (le_trans (mul-le-mul_right one rest_most) (omega arith));
  }

  pub across_least : 1 * pow2 1057 ≤ mag (across r f)
  across_least =
      at_least rest_finite rest_down (1 * pow2 1057) (bound_digits 1057 (omega arith))
      (le_trans (rw (pow2_split 16 1041, pow2_split 33 1041) (omega arith)) (mul-le-mul_right one rest_least))

  -- ---- the offset along an axis, for a distance below 2 ^ 16

  module _ {d : Float} (M : Most (2 ^ 16) 1074 d) (N : one ≤ mag d) where
    -- 2 ^ -17, in units, is 2 ^ 16 times 2 ^ -33
    across_units : 2 ^ 16 * pow2 1041 ≤ mag (across r f)
    across_units = rw (← pow2_split 16 1041) (le_trans (omega arith) across_least)

    -- across / d is at least one unit
    pub across_over : mag d ≤ mag (across r f) * one
    across_over = le_trans M.bound (mul-le-mul_right one (omega (arith, across_units, pow2_pos 1041)))

    -- across / d is at least 2 ^ -33, and so is the offset along an axis on which the centres differ
    part_least : 1 * pow2 1041 ≤ mag (div binary64 (across r f) d)
    part_least =
        quotient_least across_most.finite M.finite 1041 (omega arith) (lt_of_lt_of_le one_pos N)
        (part_most M.finite N L across_most).finite
        (le_trans (mul-le-mul_left (1 * pow2 1041) M.bound) (omega (arith, mul-le-mul_right one across_units)))

    pub offset_least : {Δ : Float} {m : ℕ} → Leg Δ d m → 0 < m
        → 1 * pow2 1041 ≤ mag (mul binary64 Δ (div binary64 (across r f) d))
    offset_least {m = m} leg p =
        let q = part_most M.finite N L across_most in
        let whole : one ≤ m * one = omega (arith, mul-le-mul_right one p) in
        product_least leg.finite q.finite 1041 (omega arith)
        (offset_most leg M.finite N L across_most across_over).finite
        (le_trans (omega arith) (mul-le-mul (le_trans whole (le_of_eq (sym leg.size))) part_least))

-- ---- the two points differ

-- x + z and x - z are different numbers, where |z| is at least 2 ^ -33
pub other_side : {x z : Float} → Most 40000 1074 x → Most 40000 1074 z → 1 * pow2 1041 ≤ mag z
    → eq (add binary64 x z) (sub binary64 x z) ≡ false
other_side {x} {z} X Z l = eq_units a s ∙ is_false (eqb p q) (not_T (eqb p q) (λ t. apart (one_sided z) (eqb→eq p q t)))
  where
    a : Finite (add binary64 x z)
    a = (add_most X Z (omega arith) (omega arith)).finite

    s : Finite (sub binary64 x z)
    s = (sub_most X Z (omega arith) (omega arith)).finite

    p : ℕ
    p = plus (add binary64 x z) + minus (sub binary64 x z)

    q : ℕ
    q = plus (sub binary64 x z) + minus (add binary64 x z)

    -- each is within 2 ^ -37 of its exact value
    A : Near (add binary64 x z) (plus x + plus z) (minus x + minus z) 1 margin
    A = add_near X Z a 17 1037 (omega arith) refl

    S : Near (sub binary64 x z) (plus x + minus z) (minus x + plus z) 1 margin
    S = sub_near X Z s 17 1037 (omega arith) refl

    far : 16 * margin ≤ mag z
    far = le_trans (le_of_eq (sym (pow2_split 4 1037))) (le_trans (omega arith) l)

    apart : ((plus z ≡ mag z) × (minus z ≡ 0)) ⊎ ((plus z ≡ 0) × (minus z ≡ mag z)) → p ≡ q → ⊥
    apart (inl u) e = omega (arith, A, S, u, far, pow2_pos 1037)
    apart (inr u) e = omega (arith, A, S, u, far, pow2_pos 1037)
