-- The steps of `crossing` by name, over the radii as natural numbers: the foot of the chord, what is left across. The
-- squares of the radii and their difference are exact. Rests on binary64's Rounding and Operations.
use mathlib.Core.Path.{◌≡◌, refl, sym, ap, ◌∙◌}
use mathlib.Core.Bool.{Bool, true, false}
use mathlib.Core.Logic.{◌⊎◌, inl, inr}
use Prim.Native.Nat.{ℕ, ◌+◌, ◌*◌, ◌^◌, ◌≤◌, ◌<◌}
use native.Mathlib.Nat.{le_refl, mul-le-mul, mul-one}
use native.Mathlib.Omega.{arith}
use lib.IntN.{pos}
use lib.Ieee.{Float, binary64, add, sub, mul, div, of_int, unlike}
use Rattle.heads.specs.Relation.{gap}
use Rattle.heads.specs.Outlines.{gap_le}
use Rattle.binary64.specs.Units.{one, limit, Finite, mag, negative, plus, minus, Digits53}
use Rattle.binary64.specs.Rounding.{Result}
use Rattle.binary64.proofs.Units.{plus_is, plus_minus}
use Rattle.binary64.proofs.Rounding.{plus_exact, minus_exact, plus_none, minus_none}
use Rattle.binary64.proofs.Operations.{sub_result, result_finite, result_rounded, mul_sign}
use Rattle.binary64.proofs.Magnitude.{bound_digits, bound_limit}
use Rattle.binary64.proofs.Whole.{of_int_whole, mul_of_int_pos}
use Rattle.elementary.specs.Root.{root}
use Rattle.binary64.specs.Constants.{two64, two64_is}
use Rattle.exact.proofs.Chord.{gap_either}
use Rattle.exact.proofs.Distance.{Is, whole_is}

-- ---- a sum or difference that comes out exactly

-- z is p - n, which is w units or -w units
pub record Exact (z : Float) (p n w : ℕ) : Type 0 where
  pub finite : Finite z
  pub parts : plus z + n ≡ minus z + p
  pub size : mag z ≡ w

-- It is so where w has 53 digits.
pub exact : {z : Float} {p n w : ℕ} → Result z p n 1 → Digits53 w → w < limit → (p ≡ n + w) ⊎ (n ≡ p + w)
    → Exact z p n w
exact {z} {p} {n} {w} r d l h = record { finite = f; parts = (go h).0; size = (go h).1 }
  where
    f : Finite z
    f = result_finite (le_refl 1) r d (bound h).0 (bound h).1 l
      where
        bound : (p ≡ n + w) ⊎ (n ≡ p + w) → (p ≤ n + w * 1) × (n ≤ p + w * 1)
        bound (inl e) = omega arith
        bound (inr e) = omega arith

    go : (p ≡ n + w) ⊎ (n ≡ p + w) → (plus z + n ≡ minus z + p) × (mag z ≡ w)
    go (inl e) =
        let u = plus_exact (le_refl 1) (result_rounded (le_refl 1) r f) d (e ∙ ap (λ (k : ℕ). n + k) (sym (mul-one w)))
        in
        let v = minus_none (le_refl 1) (result_rounded (le_refl 1) r f) (omega arith) in
        (omega arith, omega (arith, plus_minus z))
    go (inr e) =
        let u = minus_exact (le_refl 1) (result_rounded (le_refl 1) r f) d (e ∙ ap (λ (k : ℕ). p + k) (sym (mul-one w)))
        in
        let v = plus_none (le_refl 1) (result_rounded (le_refl 1) r f) (omega arith) in
        (omega arith, omega (arith, plus_minus z))

-- ---- the squares of the radii

-- The square of a float has no sign.
pub square_parts : {f : Float} → Finite f → Finite (mul binary64 f f)
    → (plus (mul binary64 f f) ≡ mag (mul binary64 f f)) × (minus (mul binary64 f f) ≡ 0)
square_parts {f} h k = plus_is (mul binary64 f f) (mul_sign h h k ∙ alike (negative f))
  where
    alike : (s : Bool) → unlike s s ≡ false
    alike true = refl
    alike false = refl

-- r², for a radius r
pub square_is : (r : ℕ) → r ≤ 20000 → Is (mul binary64 (of_int binary64 (pos r)) (of_int binary64 (pos r))) (r * r)
square_is r L = rw (mul_of_int_pos r r (omega arith) (omega arith)) (whole_is (r * r) (omega (arith, mul-le-mul L L)))

-- the radius r
abbrev pub float : ℕ → Float
float r = of_int binary64 (pos r)

-- 2.0
pub two_is : two64 ≡ float 2
two_is = two64_is ∙ sym (of_int_whole (pos 2))

-- r₁² - r₂²
abbrev pub difference : ℕ → ℕ → Float
difference r₁ r₂ = sub binary64 (mul binary64 (float r₁) (float r₁)) (mul binary64 (float r₂) (float r₂))

-- how far the foot of the chord lies from the first centre, towards the second
abbrev pub along : ℕ → ℕ → Float → Float
along r₁ r₂ d = div binary64 (add binary64 (difference r₁ r₂) (mul binary64 d d)) (mul binary64 two64 d)

-- r₁² less the square of that, and how far the points lie from the foot
abbrev pub rest : ℕ → Float → Float
rest r₁ f = sub binary64 (mul binary64 (float r₁) (float r₁)) (mul binary64 f f)

abbrev pub across : ℕ → Float → Float
across r₁ f = root (rest r₁ f)

-- r₁² - r₂² is exact
pub difference_exact : (r₁ r₂ : ℕ) → r₁ ≤ 20000 → r₂ ≤ 20000
    → Exact (difference r₁ r₂) (r₁ * r₁ * one + 0) (0 + r₂ * r₂ * one) (gap (r₁ * r₁) (r₂ * r₂) * one)
difference_exact r₁ r₂ L₁ L₂ =
    let a = square_is r₁ L₁ in
    let b = square_is r₂ L₂ in
    let few : gap (r₁ * r₁) (r₂ * r₂) ≤ 2 ^ 53 =
    omega (arith, gap_le (r₁ * r₁) (r₂ * r₂), mul-le-mul L₁ L₁, mul-le-mul L₂ L₂) in
    exact (rw (a.up, a.down, b.up, b.down) at (sub_result a.finite b.finite)) (bound_digits 1074 few)
    (bound_limit few (omega arith)) (go (gap (r₁ * r₁) (r₂ * r₂)) (gap_either (r₁ * r₁) (r₂ * r₂)))
  where
    go : (w : ℕ) → (r₁ * r₁ ≡ r₂ * r₂ + w) ⊎ (r₂ * r₂ ≡ r₁ * r₁ + w)
        → (r₁ * r₁ * one + 0 ≡ 0 + r₂ * r₂ * one + w * one) ⊎ (0 + r₂ * r₂ * one ≡ r₁ * r₁ * one + 0 + w * one)
    go w (inl h) = inl (omega (arith, ap (λ (k : ℕ). k * one) h))
    go w (inr h) = inr (omega (arith, ap (λ (k : ℕ). k * one) h))
