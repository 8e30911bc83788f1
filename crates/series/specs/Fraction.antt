-- Fractions of an integer and a natural number, compared without dividing. A denominator is never 0 where a promise
-- names it.
use Rattle.std.specs.Prelude.{ℕ, ◌*◌, ◌≤◌, ℤ, pos, neg_ℤ, nat_abs, ◌+ℤ◌, ◌-ℤ◌, ◌*ℤ◌, Bool, cond, Float}
use Rattle.std.specs.Float.{nan, inf, fin}
use Rattle.std.specs.Float.Ieee.{up, down}

-- num / den
pub record Fraction : Type 0 where
  pub num : ℤ
  pub den : ℕ

-- a / b + c / d = (a d + c b) / (b d)
infixl 6 ◌⊹◌
unfoldable pub ◌⊹◌ : Fraction → Fraction → Fraction
f ⊹ g = record { num = f.num *ℤ pos g.den +ℤ g.num *ℤ pos f.den; den = f.den * g.den }

-- |f - g| ≤ n / k
abbrev pub Within : Fraction → Fraction → ℕ → ℕ → Type 0
Within f g n k = nat_abs (f.num *ℤ pos g.den -ℤ g.num *ℤ pos f.den) * k ≤ n * (f.den * g.den)

-- ±n
abbrev pub signed : Bool → ℕ → ℤ
signed s n = cond s (neg_ℤ (pos n)) (pos n)

-- A finite float as a fraction: ±m × 2^e. (A NaN and an infinity have none; 0 stands there.)
unfoldable pub exact : Float → Fraction
exact nan = record { num = pos 0; den = 1 }
exact (inf s) = record { num = pos 0; den = 1 }
exact (fin s m e) = record { num = signed s (m * up e); den = down e }
