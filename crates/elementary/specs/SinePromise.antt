-- What sine and cosine are worth, in document 01's words: "for |v| ≤ 16: within 2^-40 of the first 40 terms of the
-- Taylor series at v, taken exactly as a fraction (terms to degree 79 and 78)"; "results lie in -1 to 1"; outside +0.
-- The proof is proofs/sine/Promise.antt.
use Rattle.std.specs.Prelude.{◌≡◌, ◌^◌, T, Float}
use Rattle.std.specs.Float.{binary64}
use Rattle.std.specs.Float.Ieee.{fits}
use Rattle.binary64.specs.Constants.{zero64}
use Rattle.binary64.specs.Magnitude.{Most}
use Rattle.series.specs.Fraction.{Fraction, Within, exact}
use Rattle.series.specs.Taylor.{sin40, cos40}
use Rattle.elementary.specs.Sine.{sine, cosine}

-- v is finite, and |v| ≤ 16. (`Most j 1074 x`: x is finite and |x| ≤ j, since 1 is 2^1074 units of the smallest float.)
abbrev pub Domain : Float → Type 0
Domain v = Most 16 1074 v

-- `f` is within 2^-40 of the 40-term sum on the domain, +0 outside it, and finite and within -1 to 1 everywhere.
pub record Promise (f : Float → Float) (sum : Fraction → Fraction) : Type 0 where
  pub close : (v : Float) → Domain v → Within (sum (exact v)) (exact (f v)) 1 (2 ^ 40)
  pub outside : (v : Float) → T (fits binary64 v) → (Domain v → ⊥) → f v ≡ zero64
  pub size : (v : Float) → Most 1 1074 (f v)

abbrev pub SinePromise : Type 0
SinePromise = Promise sine sin40

abbrev pub CosinePromise : Type 0
CosinePromise = Promise cosine cos40
