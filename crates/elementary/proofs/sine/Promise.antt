-- The promises of sine and cosine: the angle is exact up to its cut (Entry), the fixed-point part is within 442 units
-- of 2^-61 of the sums (crate series), the float within 256 more (Exit): 698 units, less than 2^-40.
use Rattle.std.proofs.Common.{◌≡◌, ℕ, zero, suc, ◌+◌, ◌*◌, ◌/◌, ◌^◌, ◌<◌, ◌≤◌, Bool, true, false}
use Rattle.std.proofs.Common.{T, ℤ, sym, refl, ap, ◌∙◌, subst}
use Rattle.std.proofs.Common.{subst₂, le_trans, le_of_eq, lt_irrefl, zero-mul, arith, leb→le}
use lib.Ieee.{Float, nan, inf, fin, binary64, up, down, fits, lt, le, unlike}
use lib.Ieee.Fits.{down_pos}
use lib.Ieee.Nearest.{div_same}
use Rattle.binary64.specs.Constants.{zero64}
use Rattle.binary64.specs.Functions.{absolute}
use Rattle.binary64.specs.Units.{one, Finite, mag}
use Rattle.binary64.specs.Magnitude.{Most}
use Rattle.binary64.proofs.Units.{one_pos, mag_exact, plus_is, minus_is, below_zero, not_below_zero}
use Rattle.binary64.proofs.Magnitude.{most_zero}
use Rattle.series.specs.Fraction.{Fraction, Within, signed, exact}
use Rattle.series.specs.Taylor.{sin40, cos40}
use Rattle.series.specs.Kernel.{quarter, quarter_sine, reduced, half_turned}
use Rattle.series.proofs.Angles.{fraction, sine_within, cosine_within}
use Rattle.series.proofs.Fractions.{within_trans, within_weaken}
use Rattle.elementary.specs.Sine.{sine, cosine, fixed_sine, sixteen, angle}
use Rattle.elementary.specs.SinePromise.{Domain, SinePromise, CosinePromise}
use Rattle.elementary.proofs.sine.Arms.{sine_inside, sine_outside, cosine_inside, cosine_outside}
use Rattle.elementary.proofs.sine.Entry.{angle_is, angle_small, inside_domain, domain_inside}
use Rattle.elementary.proofs.sine.Exit.{made_most, made_within}

-- ---- the entry, as a fraction

-- |v| as a fraction: m × 2^e
numerator : Float → ℕ
numerator nan = 0
numerator (inf s) = 0
numerator (fin s m e) = m * up e

denominator : Float → ℕ
denominator nan = 1
denominator (inf s) = 1
denominator (fin s m e) = down e

denominator_pos : (v : Float) → 0 < denominator v
unfolding denominator
denominator_pos nan = leb→le 1 1 tt
denominator_pos (inf s) = leb→le 1 1 tt
denominator_pos (fin s m e) = down_pos e

-- the angle is that fraction, in units of 2^-59, cut
angle_fraction : (v : Float) → Domain v → angle v ≡ 2 ^ 59 * numerator v / denominator v
unfolding numerator denominator
angle_fraction nan d = absurd d.finite.number
angle_fraction (inf s) d = absurd d.finite.number
angle_fraction (fin s m e) d =
    angle_is d
    ∙ div_same (mag (fin s m e) * 2 ^ 59) one (2 ^ 59 * (m * up e)) (down e) one_pos (down_pos e)
    (omega (arith, mag_exact s m e d.finite.fit))

-- the sign bit and the test against zero differ only at -0
sign_same : (s b : Bool) (m : ℕ) (e : ℤ) → Finite (fin s m e) → lt (fin s m e) zero64 ≡ b
    → signed s (m * up e) ≡ signed b (m * up e)
sign_same true true m e f h = refl
sign_same false false m e f h = refl
sign_same true false m e f h =
    ap (signed true) is_zero ∙ sym (ap (signed false) is_zero)
  where
    mag_zero : mag (fin true m e) ≡ 0
    mag_zero = sym (minus_is (fin true m e) refl).1 ∙ not_below_zero f h

    is_zero : m * up e ≡ 0
    is_zero =
        none (m * up e) one (sym (mag_exact true m e f.fit) ∙ ap (λ (k : ℕ). k * down e) mag_zero ∙ zero-mul (down e))
        one_pos
      where
        none : (k o : ℕ) → k * o ≡ 0 → 0 < o → k ≡ 0
        none zero o h p = refl
        none (suc k) o h p = absurd (omega arith)
sign_same false true m e f h =
    absurd (lt_irrefl 0 (subst (λ (k : ℕ). 0 < k) (plus_is (fin false m e) refl).1 (below_zero f h).1))

-- v is that fraction, with the sign that the recipe reads off it
exact_fraction : (v : Float) → Domain v → exact v ≡ fraction (lt v zero64) (numerator v) (denominator v)
unfolding exact numerator denominator
exact_fraction nan d = absurd d.finite.number
exact_fraction (inf s) d = absurd d.finite.number
exact_fraction (fin s m e) d =
    ap (λ (z : ℤ). record { num = z; den = down e }) (sign_same s (lt (fin s m e) zero64) m e d.finite refl)

-- what the fixed-point part asks of the angle
angle_asks : (v : Float) → Domain v → 2 ^ 59 * numerator v / denominator v ≤ 2 ^ 63
angle_asks v d = le_trans (le_of_eq (sym (angle_fraction v d))) (angle_small d)

-- ---- the exit

sine_small : (w : ℕ) → quarter_sine (reduced w) ≤ 2 ^ 61
unfolding quarter_sine
sine_small w = omega arith

fixed_within : (t : Bool) (w : ℕ)
    → Within (fraction (unlike t (half_turned w)) (quarter_sine (reduced w)) (2 ^ 61)) (exact (fixed_sine t w)) 256
    (2 ^ 61)
unfolding fixed_sine
fixed_within t w = made_within (quarter_sine (reduced w)) (sine_small w) (unlike t (half_turned w))

fixed_most : (t : Bool) (w : ℕ) → Most 1 1074 (fixed_sine t w)
unfolding fixed_sine
fixed_most t w = made_most (quarter_sine (reduced w)) (sine_small w) (unlike t (half_turned w))

-- the two parts of the error
joined : (f g h : Fraction) → 0 < g.den → Within f g 442 (2 ^ 61) → Within g h 256 (2 ^ 61) → Within f h 1 (2 ^ 40)
joined f g h p x y = within_weaken f h (within_trans f g h 442 256 (2 ^ 61) p x y)

-- ---- the promises

two_61_pos : 0 < 2 ^ 61
two_61_pos = leb→le 1 (2 ^ 61) tt

sine_close : (v : Float) → Domain v → Within (sin40 (exact v)) (exact (sine v)) 1 (2 ^ 40)
sine_close v d =
    subst₂ (λ (f : Fraction) (x : Float). Within (sin40 f) (exact x) 1 (2 ^ 40)) (sym (exact_fraction v d))
    (sym (sine_inside v (domain_inside d)))
    (joined (sin40 (fraction (lt v zero64) (numerator v) (denominator v)))
    (fraction (unlike (lt v zero64) (half_turned (angle v))) (quarter_sine (reduced (angle v))) (2 ^ 61))
    (exact (fixed_sine (lt v zero64) (angle v))) two_61_pos
    (subst (λ (w : ℕ). Within (sin40 (fraction (lt v zero64) (numerator v) (denominator v)))
    (fraction (unlike (lt v zero64) (half_turned w)) (quarter_sine (reduced w)) (2 ^ 61)) 442 (2 ^ 61))
    (sym (angle_fraction v d))
    (sine_within (numerator v) (denominator v) (denominator_pos v) (angle_asks v d) (lt v zero64)))
    (fixed_within (lt v zero64) (angle v)))

cosine_close : (v : Float) → Domain v → Within (cos40 (exact v)) (exact (cosine v)) 1 (2 ^ 40)
cosine_close v d =
    subst₂ (λ (f : Fraction) (x : Float). Within (cos40 f) (exact x) 1 (2 ^ 40)) (sym (exact_fraction v d))
    (sym (cosine_inside v (domain_inside d)))
    (joined (cos40 (fraction (lt v zero64) (numerator v) (denominator v)))
    (fraction (unlike false (half_turned (angle v + quarter))) (quarter_sine (reduced (angle v + quarter))) (2 ^ 61))
    (exact (fixed_sine false (angle v + quarter))) two_61_pos
    (subst (λ (w : ℕ). Within (cos40 (fraction (lt v zero64) (numerator v) (denominator v)))
    (fraction (unlike false (half_turned (w + quarter))) (quarter_sine (reduced (w + quarter))) (2 ^ 61)) 442
    (2 ^ 61)) (sym (angle_fraction v d))
    (subst (λ (t : Bool). Within (cos40 (fraction (lt v zero64) (numerator v) (denominator v)))
    (fraction t (quarter_sine (reduced (2 ^ 59 * numerator v / denominator v + quarter))) (2 ^ 61)) 442 (2 ^ 61))
    (sym (unlike_false (half_turned (2 ^ 59 * numerator v / denominator v + quarter))))
    (cosine_within (numerator v) (denominator v) (denominator_pos v) (angle_asks v d) (lt v zero64))))
    (fixed_within false (angle v + quarter)))
  where
    unlike_false : (b : Bool) → unlike false b ≡ b
    unlike_false true = refl
    unlike_false false = refl

-- a function that is +0 where its test fails, and the fixed-point sine where it passes
module _ (f : Float → Float) (fixed : Float → Float) (fixed-size : (v : Float) → Most 1 1074 (fixed v))
    (pass : (v : Float) → le (absolute v) sixteen ≡ true → f v ≡ fixed v)
    (fail : (v : Float) → le (absolute v) sixteen ≡ false → f v ≡ zero64) where
  outside_zero : (v : Float) → T (fits binary64 v) → (Domain v → ⊥) → f v ≡ zero64
  outside_zero v t n = go (le (absolute v) sixteen) refl
    where
      go : (b : Bool) → le (absolute v) sixteen ≡ b → f v ≡ zero64
      go true e = absurd (n (inside_domain t e))
      go false e = fail v e

  everywhere_small : (v : Float) → Most 1 1074 (f v)
  everywhere_small v = go (le (absolute v) sixteen) refl
    where
      go : (b : Bool) → le (absolute v) sixteen ≡ b → Most 1 1074 (f v)
      go true e = subst (λ (x : Float). Most 1 1074 x) (sym (pass v e)) (fixed-size v)
      go false e = subst (λ (x : Float). Most 1 1074 x) (sym (fail v e)) most_zero

pub sine_promise : SinePromise
sine_promise = record {
  close = sine_close;
  outside =
      outside_zero sine (λ v. fixed_sine (lt v zero64) (angle v)) (λ v. fixed_most (lt v zero64) (angle v)) sine_inside
      sine_outside;
  size =
      everywhere_small sine (λ v. fixed_sine (lt v zero64) (angle v)) (λ v. fixed_most (lt v zero64) (angle v))
      sine_inside sine_outside;
}

pub cosine_promise : CosinePromise
cosine_promise = record {
  close = cosine_close;
  outside =
      outside_zero cosine (λ v. fixed_sine false (angle v + quarter)) (λ v. fixed_most false (angle v + quarter))
      cosine_inside cosine_outside;
  size =
      everywhere_small cosine (λ v. fixed_sine false (angle v + quarter)) (λ v. fixed_most false (angle v + quarter))
      cosine_inside cosine_outside;
}
