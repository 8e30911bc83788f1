-- What the proofs of the small functions of f64 rest on, the test for a NaN and the sign bit of a float's bits, and
-- laws that callers cite: sizes and signs of what the functions give.
use Rattle.std.proofs.Common.{◌≡◌, ℕ, ◌+◌, Bool, true, false, cond, not, ◌||◌, T}
use Rattle.std.proofs.Common.{leb, sym, refl, ap, ◌∙◌, subst, ap₂, true≢false, le_trans, le_of_eq, add-zero}
use mathlib.Core.Bool.{false≢true}
use Rattle.std.specs.Float.{is_sign_negative, float_with_sign}
use lib.Ieee.{Float, nan, inf, fin, binary64, is_nan, fits, of_bits, neg, lt, le, eq, ne}
use lib.Ieee.Bits.{is_false}
use lib.Ieee.Compare.{differs_from_itself}
use Rattle.binary64.specs.Units.{Finite, mag, negative, plus, minus}
use Rattle.binary64.specs.Constants.{zero64}
use Rattle.binary64.specs.Magnitude.{Most}
use Rattle.binary64.specs.Functions.{absolute, unit, signum_of, larger_of, smaller_of}
use Rattle.binary64.proofs.Units.{neg_finite, plus_is}
use Rattle.binary64.proofs.Units.{not_nan, le_units}
use Rattle.binary64.proofs.Magnitude.{most_either}

-- ---- x == x fails just for a NaN

-- what fails it is a NaN
pub only_nan : (x : Float) → eq x x ≡ false → x ≡ nan
unfolding ne
only_nan x e = differs_from_itself x (subst (λ (b : Bool). T (not b)) (sym e) tt)

-- a NaN is one value, and has no sign bit
pub nan_is : (x : Float) → is_nan x ≡ true → x ≡ nan
unfolding is_nan
nan_is nan e = refl
nan_is (inf s) e = absurd (false≢true e)
nan_is (fin s m d) e = absurd (false≢true e)

pub nan_sign : (x : Float) → is_nan x ≡ true → negative x ≡ false
nan_sign x e = ap negative (nan_is x e)

-- ---- what the methods of f64 give

pub sign_is : (x : Float) → is_sign_negative x ≡ negative x
unfolding is_sign_negative
sign_is nan = refl
sign_is (inf s) = refl
sign_is (fin s m d) = refl

pub absolute_is : (x : Float) → float_with_sign false x ≡ absolute x
unfolding float_with_sign
absolute_is nan = refl
absolute_is (inf s) = refl
absolute_is (fin s m d) = refl

-- ---- the sign bit

-- With the sign bit set |x| is -x, and otherwise x.
pub absolute_of_negative : (x : Float) → negative x ≡ true → neg x ≡ absolute x
unfolding neg
absolute_of_negative nan e = refl
absolute_of_negative (inf s) e = ap (λ (b : Bool). inf (not b)) e
absolute_of_negative (fin s m d) e = ap (λ (b : Bool). fin (not b) m d) e

pub absolute_of_other : (x : Float) → negative x ≡ false → x ≡ absolute x
absolute_of_other nan e = refl
absolute_of_other (inf s) e = ap inf e
absolute_of_other (fin s m d) e = ap (λ (b : Bool). fin b m d) e

-- The signum of a number is 1 or -1 by the sign bit.
pub signum_of_number : (x : Float) (s : Bool) → is_nan x ≡ false → negative x ≡ s → signum_of x ≡ unit s
unfolding is_nan
signum_of_number nan s n e = absurd (true≢false n)
signum_of_number (inf t) s n e = ap unit e
signum_of_number (fin t m d) s n e = ap unit e

-- a finite float is no NaN
number : {x : Float} → Finite x → is_nan x ≡ false
number {x} h = is_false (is_nan x) (not_nan h)

-- ---- abs

-- |x| has no sign bit, and x's magnitude.
pub absolute_sign : (x : Float) → negative (absolute x) ≡ false
absolute_sign nan = refl
absolute_sign (inf s) = refl
absolute_sign (fin s m e) = refl

pub absolute_mag : (x : Float) → mag (absolute x) ≡ mag x
unfolding mag
absolute_mag nan = refl
absolute_mag (inf s) = refl
absolute_mag (fin s m e) = refl

pub absolute_finite : {x : Float} → Finite x → Finite (absolute x)
absolute_finite {x} h = go (negative x) refl
  where
    go : (s : Bool) → negative x ≡ s → Finite (absolute x)
    go true e = subst (λ (y : Float). Finite y) (absolute_of_negative x e) (neg_finite h)
    go false e = subst (λ (y : Float). Finite y) (absolute_of_other x e) h

-- |x| is as large as x, and above zero.
pub absolute_most : {j a : ℕ} {x : Float} → Most j a x → Most j a (absolute x)
absolute_most {x =
    x} m = record { finite = absolute_finite m.finite; bound = le_trans (le_of_eq (absolute_mag x)) m.bound }

-- All of |x| is above zero.
pub absolute_parts : (x : Float) → (plus (absolute x) ≡ mag x) × (minus (absolute x) ≡ 0)
absolute_parts x = let w = plus_is (absolute x) (absolute_sign x) in (w.0 ∙ absolute_mag x, w.1)

-- Where |x| ≤ y for a number y, x is a number,
pub absolute_number : (x y : Float) → T (fits binary64 x) → Finite y → le (absolute x) y ≡ true → Finite x
unfolding le lt eq
absolute_number (fin s m e) y f h t = record { fit = f; number = tt }
absolute_number nan y f h t = absurd (false≢true t)
absolute_number (inf s) nan f h t = absurd h.number
absolute_number (inf s) (inf r) f h t = absurd h.number
absolute_number (inf s) (fin r m e) f h t = absurd (false≢true t)

-- and among numbers the test is one of magnitudes, where y has no sign bit.
pub absolute_test : {x y : Float} → Finite x → Finite y → negative y ≡ false → le (absolute x) y ≡ leb (mag x) (mag y)
absolute_test {x} {y} f h s =
    let w = absolute_parts x in
    let b = plus_is y s in
    le_units (absolute_finite f) h
    ∙ ap₂ leb (ap₂ (λ (i k : ℕ). i + k) w.0 b.1 ∙ add-zero (mag x))
    (ap₂ (λ (i k : ℕ). i + k) b.0 w.1 ∙ add-zero (mag y))

-- ---- the clamp

-- What is above zero is a number without the sign bit.
pub above_sign : (x : Float) → lt zero64 x ≡ true → (negative x ≡ false) × (is_nan x ≡ false)
unfolding lt is_nan of_bits
above_sign nan e = absurd (false≢true e)
above_sign (inf true) e = absurd (false≢true e)
above_sign (inf false) e = (refl, refl)
above_sign (fin true m d) e = absurd (false≢true e)
above_sign (fin false m d) e = (refl, refl)

-- ---- larger and smaller

-- Of numbers the larger is picked by one test.
pub larger_is : (x y : Float) → is_nan x ≡ false → larger_of x y ≡ cond (lt x y) y x
larger_is x y e = rw e

-- They are bounded as both are.
pub larger_most : {j a : ℕ} {x y : Float} → Most j a x → Most j a y → Most j a (larger_of x y)
larger_most {x = x} {y = y} m n = most_either (is_nan x || lt x y) n m

pub smaller_most : {j a : ℕ} {x y : Float} → Most j a x → Most j a y → Most j a (smaller_of x y)
smaller_most {x = x} {y = y} m n = most_either (is_nan x || lt y x) n m
