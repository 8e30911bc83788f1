-- The root of a float as a number of units: `root_units` of its own units, finite and not below zero.
use Rattle.std.proofs.Common.{◌≡◌, ℕ, zero, suc, ◌<◌, ◌≤◌, Bool, true, false, T, ◌⊎◌}
use Rattle.std.proofs.Common.{ℤ, sym, refl, ap, ◌∙◌, subst, inl, inr, zero-lt-suc, mul-pos, arith}
use lib.Ieee.{Float, nan, inf, fin, binary64, down, size, fits}
use lib.Ieee.Digits.{size-le}
use lib.Ieee.Fits.{up_pos}
use lib.Ieee.Positive.{first_pos}
use Rattle.binary64.specs.Units.{limit, mag, negative, minus, Finite, Digits53}
use Rattle.binary64.proofs.Units.{limit_pow, one_pos, mag_exact, mag_digits, mag_limit, of_units_mag, of_units_sign}
use Rattle.binary64.proofs.Units.{of_units_finite, below_limit, plus_is}
use Rattle.binary64.proofs.Units.{minus_is, zero64_finite, zero64_minus, zero64_sign}
use Rattle.elementary.specs.Root.{root, root_units}
use Rattle.elementary.proofs.root.Cases.{root_positive, zero_units}
use Rattle.elementary.proofs.root.Neighbours.{root_digits, root_units_zero, by_zero}
use Rattle.elementary.proofs.root.Scale.{scaled}

-- ---- above zero

-- the root of a finite number is finite: half its exponent is far below the largest
root_limit : (n : ℕ) → 0 < n → Digits53 n → n < limit → root_units n < limit
root_limit n p d h =
    let s = scaled n p d in
    let few : size n ≤ 2098 = size-le n 2098 (subst (λ (z : ℕ). n < z) limit_pow h) in
    subst (λ (r : ℕ). r < limit) (sym s.is) (below_limit s.q s.j s.most (omega (arith, s.place)))

module _ {x : Float} (f : Finite x) (s : negative x ≡ false) (p : 0 < mag x) where
  above : root_units (mag x) < limit
  above = root_limit (mag x) p (mag_digits f) (mag_limit f)

  digits : Digits53 (root_units (mag x))
  digits = root_digits (mag x) p (mag_digits f)

  -- the root of a number above zero, in units
  pub positive_mag : mag (root x) ≡ root_units (mag x)
  positive_mag = ap mag (root_positive f s p) ∙ of_units_mag false (root_units (mag x)) digits above

  pub positive_sign : negative (root x) ≡ false
  positive_sign = ap negative (root_positive f s p) ∙ of_units_sign false (root_units (mag x)) digits above

  pub positive_finite : Finite (root x)
  positive_finite =
      subst (λ (r : Float). Finite r) (sym (root_positive f s p))
      (of_units_finite false (root_units (mag x)) digits above)

-- ---- finite, and not below zero

some_units : (s : Bool) (m : ℕ) (e : ℤ) → T (fits binary64 (fin s (suc m) e)) → 0 < mag (fin s (suc m) e)
some_units s m e f =
    first_pos (mag (fin s (suc m) e)) (down e)
    (subst (λ (n : ℕ). 0 < n) (sym (mag_exact s (suc m) e f)) (mul-pos (mul-pos (zero-lt-suc m) (up_pos e)) one_pos))

-- The root of whatever a program holds is finite,
pub root_finite : (x : Float) → T (fits binary64 x) → Finite (root x)
unfolding root
root_finite nan f = zero64_finite
root_finite (inf s) f = zero64_finite
root_finite (fin s zero e) f = record { fit = f; number = tt }
root_finite (fin true (suc m) e) f = zero64_finite
root_finite (fin false (suc m) e) f = positive_finite (record { fit = f; number = tt }) refl (some_units false m e f)

-- and not below zero.
pub root_minus : (x : Float) → T (fits binary64 x) → minus (root x) ≡ 0
unfolding root minus
root_minus nan f = zero64_minus
root_minus (inf s) f = zero64_minus
root_minus (fin true zero e) f = zero_units true e
root_minus (fin false zero e) f = refl
root_minus (fin true (suc m) e) f = zero64_minus
root_minus (fin false (suc m) e) f =
    (plus_is (root (fin false (suc m) e))
    (positive_sign (record { fit = f; number = tt }) refl (some_units false m e f))).1

-- The root of a number without a sign has none.
pub root_sign : (x : Float) → T (fits binary64 x) → negative x ≡ false → negative (root x) ≡ false
unfolding root
root_sign nan f h = zero64_sign
root_sign (inf s) f h = zero64_sign
root_sign (fin s zero e) f h = h
root_sign (fin true (suc m) e) f h = zero64_sign
root_sign (fin false (suc m) e) f h = positive_sign (record { fit = f; number = tt }) refl (some_units false m e f)

-- ---- in units

zero_root : (x : Float) → Finite x → mag x ≡ 0 → root x ≡ x
unfolding root
zero_root nan f h = absurd f.number
zero_root (inf s) f h = absurd f.number
zero_root (fin s zero e) f h = refl
zero_root (fin s (suc m) e) f h = absurd (none (mag (fin s (suc m) e)) (some_units s m e f.fit) h)
  where
    none : (n : ℕ) → 0 < n → n ≡ 0 → ⊥
    none n p h = omega arith

-- what is not below zero and not zero has no sign
no_sign : (x : Float) → minus x ≡ 0 → 0 < mag x → negative x ≡ false
no_sign x m p = go (negative x) refl
  where
    none : (a b : ℕ) → a ≡ b → a ≡ 0 → 0 < b → ⊥
    none a b e z p = omega arith

    go : (s : Bool) → negative x ≡ s → s ≡ false
    go false e = refl
    go true e = absurd (none (minus x) (mag x) (minus_is x e).1 m p)

-- The root of a finite number not below zero, in units.
pub root_mag : {x : Float} → Finite x → minus x ≡ 0 → mag (root x) ≡ root_units (mag x)
root_mag {x} f m = go (by_zero (mag x))
  where
    go : (mag x ≡ 0) ⊎ (0 < mag x) → mag (root x) ≡ root_units (mag x)
    go (inl z) = ap mag (zero_root x f z) ∙ z ∙ sym (ap root_units z ∙ root_units_zero)
    go (inr p) = positive_mag f (no_sign x m p) p
