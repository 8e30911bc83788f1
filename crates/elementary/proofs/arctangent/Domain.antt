-- The floats at the entry: the domain by the recipe's tests and in units of 2^-1074. Rests on the crate binary64.
use mathlib.Core.Bool.{or-true}
use Rattle.std.proofs.Common.{◌≡◌, ℕ, ◌+◌, ◌*◌, ◌<◌, ◌≤◌, Bool, true, false, ◌&&◌, ◌||◌, T}
use Rattle.std.proofs.Common.{◌⊎◌, sym, refl, ap, ◌∙◌, subst, ap₂, subst₂, inl, inr, ⊎_elim, arith}
use lib.Ieee.Fits.{and_l, and_r}
use lib.Ieee.Bits.{is_true}
use lib.Ieee.{Float, binary64, fits, of_bits, lt, le}
use Rattle.binary64.specs.Constants.{zero64}
use Rattle.binary64.specs.Functions.{absolute}
use Rattle.binary64.specs.Magnitude.{Most}
use Rattle.binary64.specs.Units.{pow2, one, Finite, mag}
use Rattle.std.proofs.lemmas.Bool.{cases_lt}
use Rattle.binary64.proofs.Units.{lt_of_units, zero64_finite, zero64_plus, zero64_minus, above_zero}
use Rattle.binary64.proofs.Functions.{absolute_sign, absolute_mag, absolute_finite, absolute_parts}
use Rattle.elementary.specs.Arctangent.{largest, in_domain}
use Rattle.elementary.specs.ArctangentSteps.{InQuarter}
use Rattle.elementary.specs.ArctangentPromise.{Domain}
use Rattle.elementary.proofs.fixed.Literal.{Literal, most_of_test, test_of_most}

largest_units : Literal (1048576 * one) largest
unfolding of_bits fits mag pow2
largest_units = record { finite = record { fit = tt; number = tt }; sign = refl; size = refl }

-- |x| > 0, by the test and in units
some_of_test : {x : Float} → Finite x → T (lt zero64 (absolute x)) → 0 < mag x
some_of_test {x} f t =
    subst (λ (m : ℕ). 0 < m) (absolute_parts x).0
    (above_zero (absolute_finite f) (is_true (lt zero64 (absolute x)) t)).0

test_of_some : {x : Float} → Finite x → 0 < mag x → lt zero64 (absolute x) ≡ true
test_of_some {x} f h =
    lt_of_units zero64_finite (absolute_finite f) (omega (arith, zero64_plus, zero64_minus, absolute_parts x))

either : (a b : Bool) → T (a || b) → T a ⊎ T b
either true b t = inl tt
either false b t = inr t

-- a point of the domain, by its magnitudes
pub point : {y x : Float} → Domain y x → InQuarter (absolute x) (absolute y)
point {y} {x} d = record {
  x_finite = absolute_finite d.x_size.finite;
  y_finite = absolute_finite d.y_size.finite;
  x_sign = absolute_sign x;
  y_sign = absolute_sign y;
  some = subst₂ (λ (m n : ℕ). 0 < m + n) (sym (absolute_mag x)) (sym (absolute_mag y)) d.some;
}

-- Where the tests of the recipe pass, there is the domain,
pub domain : {y x : Float} → T (fits binary64 y) → T (fits binary64 x) → in_domain (absolute x) (absolute y) ≡ true
    → Domain y x
unfolding in_domain
domain {y} {x} g f t = record {
  x_size = X;
  y_size = Y;
  some =
      ⊎_elim (λ k. omega (arith, some_of_test X.finite k)) (λ k. omega (arith, some_of_test Y.finite k))
      (either (lt zero64 (absolute x)) (lt zero64 (absolute y)) (and_r (a && b) c all));
}
  where
    a : Bool
    a = le (absolute x) largest

    b : Bool
    b = le (absolute y) largest

    c : Bool
    c = lt zero64 (absolute x) || lt zero64 (absolute y)

    all : T (a && b && c)
    all = subst T (sym t) tt

    X : Most 1048576 1074 x
    X = most_of_test 1048576 largest_units f (is_true a (and_l a b (and_l (a && b) c all)))

    Y : Most 1048576 1074 y
    Y = most_of_test 1048576 largest_units g (is_true b (and_r a b (and_l (a && b) c all)))

-- and the other way.
pub inside : {y x : Float} → Domain y x → in_domain (absolute x) (absolute y) ≡ true
unfolding in_domain
inside {y} {x} d =
    ap₂ (λ (a b : Bool). a && b)
    (ap₂ (λ (a b : Bool). a && b) (test_of_most 1048576 largest_units d.x_size)
    (test_of_most 1048576 largest_units d.y_size)) (⊎_elim first second (cases_lt 0 (mag x)))
  where
    first : 0 < mag x → (lt zero64 (absolute x) || lt zero64 (absolute y)) ≡ true
    first l = ap (λ (b : Bool). b || lt zero64 (absolute y)) (test_of_some d.x_size.finite l)

    other : (m n : ℕ) → m ≤ 0 → 0 < m + n → 0 < n
    other m n h k = omega arith

    second : mag x ≤ 0 → (lt zero64 (absolute x) || lt zero64 (absolute y)) ≡ true
    second l =
        ap (λ (b : Bool). lt zero64 (absolute x) || b) (test_of_some d.y_size.finite (other (mag x) (mag y) l d.some))
        ∙ or-true (lt zero64 (absolute x))
