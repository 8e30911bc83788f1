-- Laws of `Within`: distances of fractions add up, and a bound may be weakened.
use mathlib.Core.Path.{◌≡◌, sym, ap, ap₂, ◌∙◌}
use Prim.Native.Nat.{ℕ, ◌+◌, ◌*◌, ◌^◌, ◌≤◌, ◌<◌}
use native.Mathlib.Nat.{le_trans, le_of_eq, mul-le-mul_left, mul-le-mul_right, le_of_mul-le-mul_right}
use native.Mathlib.Omega.{arith}
use lib.IntN.{ℤ, pos, ◌*ℤ◌, *ℤ_comm}
use Rattle.series.specs.Fraction.{Fraction, Within}
use Rattle.series.proofs.Integers.{dist, dist_trans, dist_scale, *ℤ-left-comm}

module _ (f g h : Fraction) where
  abbrev apart : Fraction → Fraction → ℕ
  apart f g = dist (f.num *ℤ pos g.den) (g.num *ℤ pos f.den)

  -- |f - h| over the common denominator
  across : g.den * apart f h ≤ h.den * apart f g + f.den * apart g h
  across =
      le_trans (le_of_eq (sym (dist_scale g.den (f.num *ℤ pos h.den) (h.num *ℤ pos f.den))))
      (le_trans (dist_trans _ (pos h.den *ℤ (g.num *ℤ pos f.den)) _)
      (le_of_eq (ap₂ (λ (a b : ℕ). a + b)
      (ap (λ (z : ℤ). dist z (pos h.den *ℤ (g.num *ℤ pos f.den))) (outer (pos g.den) f.num (pos h.den))
      ∙ dist_scale h.den (f.num *ℤ pos g.den) (g.num *ℤ pos f.den))
      (ap₂ dist (outer (pos h.den) g.num (pos f.den)) (outer (pos g.den) h.num (pos f.den))
      ∙ dist_scale f.den (g.num *ℤ pos h.den) (h.num *ℤ pos g.den)))))
    where
      outer : (a x b : ℤ) → a *ℤ (x *ℤ b) ≡ b *ℤ (x *ℤ a)
      outer a x b = simp (*ℤ_comm, *ℤ-left-comm)

  -- |f - h| ≤ |f - g| + |g - h|
  pub within_trans : (a b k : ℕ) → 0 < g.den → Within f g a k → Within g h b k → Within f h (a + b) k
  unfolding dist
  within_trans a b k p x y =
      le_of_mul-le-mul_right
      (collect (apart f h) (apart f g) (apart g h) f.den g.den h.den across (mul-le-mul_right h.den x)
      (mul-le-mul_right f.den y)) p
    where
      collect : (d e i f g h : ℕ) → g * d ≤ h * e + f * i → e * k * h ≤ a * (f * g) * h → i * k * f ≤ b * (g * h) * f
          → d * k * g ≤ (a + b) * (f * h) * g
      collect d e i f g h m x y = omega (arith, mul-le-mul_left k m)

-- 698 / 2^61 is below 1 / 2^40
pub within_weaken : (f g : Fraction) → Within f g 698 (2 ^ 61) → Within f g 1 (2 ^ 40)
unfolding dist
within_weaken f g h = omega arith
