-- The first 40 terms of the Taylor series of sine and cosine, taken exactly as a fraction.
use Rattle.std.specs.Prelude.{ℕ, zero, suc, ◌+◌, ◌*◌, ◌^◌, ℤ, pos, neg_ℤ, ◌*ℤ◌}
use Rattle.std.proofs.Math.IntN.{pow}
use Rattle.series.specs.Fraction.{Fraction, ◌⊹◌}

-- i!
unfoldable pub factorial : ℕ → ℕ
factorial zero = 1
factorial (suc i) = suc i * factorial i

-- (-1)^k
unfoldable pub sign : ℕ → ℤ
sign zero = pos 1
sign (suc k) = neg_ℤ (sign k)

-- (-1)^k v^i / i!
unfoldable pub term : ℕ → ℕ → Fraction → Fraction
unfolding factorial sign pow
term k i v = record { num = sign k *ℤ pow v.num i; den = factorial i * v.den ^ i }

-- f k + f (k + 1) + .., n terms
unfoldable pub total : ℕ → ℕ → (ℕ → Fraction) → Fraction
unfolding ◌⊹◌
total k zero f = record { num = pos 0; den = 1 }
total k (suc n) f = f k ⊹ total (suc k) n f

-- v - v^3 / 3! + v^5 / 5! - .., to degree 79
unfoldable pub sin40 : Fraction → Fraction
unfolding term total
sin40 v = total 0 40 (λ k. term k (2 * k + 1) v)

-- 1 - v^2 / 2! + v^4 / 4! - .., to degree 78
unfoldable pub cos40 : Fraction → Fraction
unfolding term total
cos40 v = total 0 40 (λ k. term k (2 * k) v)
