-- What atan2 is worth, in document 01's words: "not both zero: an angle t of magnitude at most the f64 `PI`, with |x×S
-- - y×C| ≤ 2^-40 × (|x|+|y|) and x×C + y×S > 0, where S and C are those 40-term sums at t. Zero signs follow IEEE 754";
-- "promised for magnitudes up to 2^20"; outside +0. The proof is proofs/arctangent/Promise.antt.
use Rattle.std.specs.Prelude.{◌≡◌, ℕ, suc, ◌+◌, ◌*◌, ◌^◌, ◌<◌, ◌≤◌, true}
use Rattle.std.specs.Prelude.{false, cond, T, pos, ◌-ℤ◌, ◌*ℤ◌, unsigned_abs, refl, Float}
use Rattle.std.specs.Float.{binary64}
use Rattle.std.specs.Float.Ieee.{fits, of_bits, neg, round}
use Rattle.binary64.specs.Units.{Finite, mag, negative, signed_zero}
use Rattle.binary64.specs.Magnitude.{Most}
use Rattle.binary64.specs.Constants.{zero64, pi}
use Rattle.series.specs.Fraction.{Fraction, ◌⊹◌, exact}
use Rattle.series.specs.Taylor.{sin40, cos40}
use Rattle.elementary.specs.Arctangent.{atan2, cofunction, acos, asin}

-- ---- fractions (no denominator here is 0: proofs/arctangent/Fractions.antt)

-- a / b × c / d
infixl 7 ◌⊛◌
unfoldable pub ◌⊛◌ : Fraction → Fraction → Fraction
f ⊛ g = record { num = f.num *ℤ g.num; den = f.den * g.den }

-- a / b - c / d
infixl 6 ◌⊝◌
unfoldable pub ◌⊝◌ : Fraction → Fraction → Fraction
f ⊝ g = record { num = f.num *ℤ pos g.den -ℤ g.num *ℤ pos f.den; den = f.den * g.den }

-- |a / b|
abbrev pub size : Fraction → Fraction
size f = record { num = pos (unsigned_abs f.num); den = f.den }

-- 2^-40
abbrev pub 2^-40 : Fraction
2^-40 = record { num = pos 1; den = 2 ^ 40 }

-- |f| ≤ |g|
abbrev pub AtMost : Fraction → Fraction → Type 0
AtMost f g = unsigned_abs f.num * g.den ≤ unsigned_abs g.num * f.den

-- f > 0
abbrev pub Positive : Fraction → Type 0
Positive f = (n : ℕ) × (f.num ≡ pos (suc n))

-- ---- the promise

-- Magnitudes up to 2^20, not both zero. (`Most j 1074 x`: x is finite and |x| ≤ j, since 1 is 2^1074 units of the
-- smallest float.)
pub record Domain (y x : Float) : Type 0 where
  pub x_size : Most 1048576 1074 x
  pub y_size : Most 1048576 1074 y
  pub some : 0 < mag x + mag y

-- t is finite, and at most PI in magnitude.
pub record UpToPi (t : Float) : Type 0 where
  pub finite : Finite t
  pub most : mag t ≤ mag pi

-- t is the angle of the point (x, y).
pub record Angle (y x t : Float) : Type 0 where
  pub residual : AtMost (exact x ⊛ sin40 (exact t) ⊝ exact y ⊛ cos40 (exact t))
      (2^-40 ⊛ (size (exact x) ⊹ size (exact y)))
  pub ahead : Positive (exact x ⊛ cos40 (exact t) ⊹ exact y ⊛ sin40 (exact t))
  pub within : UpToPi t

-- PI / 2, rounded.
abbrev pub half_pi : Float
half_pi = of_bits binary64 0x3FF9_21FB_5444_2D18

pub half_pi_is : half_pi ≡ round binary64 false 314159265358979323846264338327950288 (2 * 10 ^ 35)
unfolding of_bits round
half_pi_is = refl

-- t with the sign bit of y, for a t above zero
abbrev pub with_sign : Float → Float → Float
with_sign y t = cond (negative y) (neg t) t

pub record Atan2Promise : Type 0 where
  pub angle : (y x : Float) → Domain y x → Angle y x (atan2 y x)
  -- "Zero signs follow IEEE 754": the sign bit of every answer is y's, also where the angle is too small to be told
  -- from 0
  pub sign : (y x : Float) → Domain y x → negative (atan2 y x) ≡ negative y
  pub outside : (y x : Float) → T (fits binary64 y) → T (fits binary64 x) → (Domain y x → ⊥) → atan2 y x ≡ zero64
  -- whatever a program hands it
  pub always : (y x : Float) → T (fits binary64 y) → T (fits binary64 x) → UpToPi (atan2 y x)
  -- IEEE 754's zeros, y's sign on each: atan2(±0, x) is ±0 for x above zero and ±PI for x below zero; atan2(y, ±0) is
  -- ±PI/2 for y not zero
  pub right : (y x : Float) → Domain y x → mag y ≡ 0 → negative x ≡ false → atan2 y x ≡ signed_zero (negative y)
  pub left : (y x : Float) → Domain y x → mag y ≡ 0 → negative x ≡ true → atan2 y x ≡ with_sign y pi
  pub upright : (y x : Float) → Domain y x → mag x ≡ 0 → atan2 y x ≡ with_sign y half_pi

-- ---- acos and asin

-- f c is atan2 of y c and x c for c from -1 to 1, and so the angle of that point; +0 outside; finite and at most PI in
-- magnitude everywhere.
pub record InversePromise (f y x : Float → Float) : Type 0 where
  pub is : (c : Float) → Most 1 1074 c → f c ≡ atan2 (y c) (x c)
  pub angle : (c : Float) → Most 1 1074 c → Angle (y c) (x c) (f c)
  pub outside : (c : Float) → T (fits binary64 c) → (Most 1 1074 c → ⊥) → f c ≡ zero64
  pub always : (c : Float) → T (fits binary64 c) → UpToPi (f c)

-- Document 01: "`acos(c)` is atan2(root((1-c)×(1+c)), c)"
abbrev pub AcosPromise : Type 0
AcosPromise = InversePromise acos cofunction (λ c. c)

-- "`asin(c)` is atan2(c, root((1-c)×(1+c)))"
abbrev pub AsinPromise : Type 0
AsinPromise = InversePromise asin (λ c. c) cofunction
