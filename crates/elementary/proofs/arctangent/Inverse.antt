-- acos and asin: for c from -1 to 1 the point that they hand to atan2 lies in its domain. Rests on Promise and on the
-- laws of the root.
use Rattle.std.proofs.Common.{◌≡◌, ℕ, ◌+◌, ◌*◌, ◌<◌, ◌≤◌, Bool, true, false, cond, ◌&&◌, T, sym}
use Rattle.std.proofs.Common.{refl, ap, ◌∙◌, subst, ap₂, ⊎_elim, le_trans}
use Rattle.std.proofs.Common.{le_of_eq, mul-le-mul_right, add_comm, one-mul, arith, lit<, lit≤}
use lib.Ieee.{Float, binary64, fits, of_bits, neg, add, sub, mul, sum, round, le}
use lib.Ieee.Fits.{and_l, and_r}
use lib.Ieee.Bits.{is_true}
use Rattle.binary64.specs.Units.{pow2, one, mag, negative, plus, minus, signed_zero}
use Rattle.binary64.specs.Constants.{zero64, one64}
use Rattle.binary64.specs.Magnitude.{Most}
use Rattle.std.proofs.lemmas.Bool.{cases_lt}
use Rattle.binary64.proofs.Units.{one_pos, is_zero, plus_is, plus_minus, neg_finite, neg_plus, neg_minus, le_of_units}
use Rattle.binary64.proofs.Constants.{one64_mag, one64_sign, one64_most}
use Rattle.binary64.proofs.Rounding.{minus_none}
use Rattle.binary64.proofs.Operations.{result_rounded, sub_result, add_result, mul_result}
use Rattle.binary64.proofs.Magnitude.{most_weaken, most_between, add_most, sub_most, mul_most}
use Rattle.elementary.specs.Root.{root}
use Rattle.elementary.proofs.root.Squares.{root_most}
use Rattle.elementary.specs.Arctangent.{atan2, cofunction, in_unit, acos, asin}
use Rattle.elementary.specs.ArctangentPromise.{Domain, UpToPi, Angle, InversePromise, AcosPromise, AsinPromise}
use Rattle.elementary.proofs.arctangent.Promise.{atan2_promise, zero_within}

-- ---- from -1 to 1

one_parts : (plus one64 ≡ one) × (minus one64 ≡ 0)
one_parts = let p = plus_is one64 one64_sign in (p.0 ∙ one64_mag, p.1)

-- the tests, and the size
pub in-unit : (c : Float) → T (fits binary64 c) → in_unit c ≡ true → Most 1 1074 c
in-unit c f t = most_between f one64_most (is_true low (and_l low high both)) (is_true high (and_r low high both))
  where
    low : Bool
    low = le (neg one64) c

    high : Bool
    high = le c one64

    both : T (low && high)
    both = subst T (sym t) tt

pub unit_inside : {c : Float} → Most 1 1074 c → in_unit c ≡ true
unit_inside {c} m =
    let f = one64_most.finite in
    ap₂ (λ (a b : Bool). a && b)
    (le_of_units (neg_finite f) m.finite
    (low (plus (neg one64)) (minus (neg one64)) (plus c) (minus c) (mag c) one (neg_plus f ∙ one_parts.1)
    (neg_minus f ∙ one_parts.0) (plus_minus c) m.bound))
    (le_of_units m.finite f
    (high (plus one64) (minus one64) (plus c) (minus c) (mag c) one one_parts.0 one_parts.1 (plus_minus c) m.bound))
  where
    low : (a b p n m u : ℕ) → a ≡ 0 → b ≡ u → p + n ≡ m → m ≤ 1 * u → a + n ≤ p + b
    low a b p n m u z e s h = omega arith

    high : (a b p n m u : ℕ) → a ≡ u → b ≡ 0 → p + n ≡ m → m ≤ 1 * u → p + b ≤ a + n
    high a b p n m u e z s h = omega arith

-- ---- root((1-c)×(1+c))

module _ {c : Float} (m : Most 1 1074 c) where
  size : mag c ≤ one
  size = le_trans m.bound (le_of_eq (one-mul one))

  abbrev less : Float
  less = sub binary64 one64 c

  abbrev more : Float
  more = add binary64 one64 c

  abbrev product : Float
  product = mul binary64 less more

  less_most : Most 2 1074 less
  less_most = sub_most one64_most m (lit≤ tt) (lit≤ tt)

  more_most : Most 2 1074 more
  more_most = add_most one64_most m (lit≤ tt) (lit≤ tt)

  product_most : Most 4 1074 product
  product_most = mul_most less_most more_most 1074 refl (lit≤ tt) (lit≤ tt)

  -- neither factor is below zero, and so the product is not
  less_minus : minus less ≡ 0
  less_minus =
      minus_none (lit< tt) (result_rounded (lit< tt) (sub_result one64_most.finite m.finite) less_most.finite)
      (fits_in (plus one64) (minus one64) (plus c) (minus c) (mag c) one one_parts.0 one_parts.1 (plus_minus c) size)
    where
      fits_in : (a b p n m u : ℕ) → a ≡ u → b ≡ 0 → p + n ≡ m → m ≤ u → b + p ≤ a + n
      fits_in a b p n m u e z s h = omega arith

  more_minus : minus more ≡ 0
  more_minus =
      minus_none (lit< tt) (result_rounded (lit< tt) (add_result one64_most.finite m.finite) more_most.finite)
      (fits_in (plus one64) (minus one64) (plus c) (minus c) (mag c) one one_parts.0 one_parts.1 (plus_minus c) size)
    where
      fits_in : (a b p n m u : ℕ) → a ≡ u → b ≡ 0 → p + n ≡ m → m ≤ u → b + n ≤ a + p
      fits_in a b p n m u e z s h = omega arith

  product_minus : minus product ≡ 0
  product_minus =
      minus_none one_pos (result_rounded one_pos (mul_result less_most.finite more_most.finite) product_most.finite)
      (le_trans (le_of_eq (ap₂ (λ (a b : ℕ). plus less * a + b * plus more) more_minus less_minus)) (omega arith))

  cofunction_most : Most 2 1074 (cofunction c)
  unfolding cofunction
  cofunction_most =
      root_most product_most.finite product_minus 2 1074 (lit≤ tt)
      (le_trans (mul-le-mul_right one product_most.bound) (le_of_eq (omega arith)))

-- not both are zero: at c = 0 the root is 1
cofunction_at_zero : (s : Bool) → cofunction (signed_zero s) ≡ one64
unfolding cofunction root sub add mul neg sum round of_bits pow2
cofunction_at_zero true = refl
cofunction_at_zero false = refl

some : {c : Float} → Most 1 1074 c → 0 < mag c + mag (cofunction c)
some {c} m =
    ⊎_elim (λ h. omega arith)
    (λ h. right (mag c) (mag (cofunction c)) one one_pos
    (ap (λ (z : Float). mag (cofunction z)) (is_zero m.finite (none (mag c) h))
    ∙ ap mag (cofunction_at_zero (negative c)) ∙ one64_mag)) (cases_lt 0 (mag c))
  where
    none : (k : ℕ) → k ≤ 0 → k ≡ 0
    none k h = omega arith

    right : (a b u : ℕ) → 0 < u → b ≡ u → 0 < a + b
    right a b u h e = omega arith

acos_domain : (c : Float) → Most 1 1074 c → Domain (cofunction c) c
acos_domain c m = record {
  x_size = most_weaken m (lit≤ tt);
  y_size = most_weaken (cofunction_most m) (lit≤ tt);
  some = some m;
}

asin_domain : (c : Float) → Most 1 1074 c → Domain c (cofunction c)
asin_domain c m = record {
  x_size = most_weaken (cofunction_most m) (lit≤ tt);
  y_size = most_weaken m (lit≤ tt);
  some = subst (λ (k : ℕ). 0 < k) (add_comm (mag c) (mag (cofunction c))) (some m);
}

-- ---- the promises

-- f is atan2 of y and x inside, and +0 outside
module _ (f y x : Float → Float) (recipe : (c : Float) → f c ≡ cond (in_unit c) (atan2 (y c) (x c)) zero64)
    (place : (c : Float) → Most 1 1074 c → Domain (y c) (x c)) where
  is : (c : Float) → Most 1 1074 c → f c ≡ atan2 (y c) (x c)
  is c m = recipe c ∙ ap (λ (b : Bool). cond b (atan2 (y c) (x c)) zero64) (unit_inside m)

  angle : (c : Float) → Most 1 1074 c → Angle (y c) (x c) (f c)
  angle c m = subst (Angle (y c) (x c)) (sym (is c m)) (atan2_promise.angle (y c) (x c) (place c m))

  outside : (c : Float) → T (fits binary64 c) → (Most 1 1074 c → ⊥) → f c ≡ zero64
  outside c h none = recipe c ∙ go (in_unit c) refl
    where
      go : (b : Bool) → in_unit c ≡ b → cond b (atan2 (y c) (x c)) zero64 ≡ zero64
      go true t = absurd (none (in-unit c h t))
      go false t = refl

  always : (c : Float) → T (fits binary64 c) → UpToPi (f c)
  always c h = subst UpToPi (sym (recipe c)) (go (in_unit c) refl)
    where
      go : (b : Bool) → in_unit c ≡ b → UpToPi (cond b (atan2 (y c) (x c)) zero64)
      go true t = (atan2_promise.angle (y c) (x c) (place c (in-unit c h t))).within
      go false t = zero_within

  inverse : InversePromise f y x
  inverse = record { is = is; angle = angle; outside = outside; always = always }

acos_recipe : (c : Float) → acos c ≡ cond (in_unit c) (atan2 (cofunction c) c) zero64
unfolding acos
acos_recipe c = refl

asin_recipe : (c : Float) → asin c ≡ cond (in_unit c) (atan2 c (cofunction c)) zero64
unfolding asin
asin_recipe c = refl

pub acos_promise : AcosPromise
acos_promise = inverse acos cofunction (λ c. c) acos_recipe acos_domain

pub asin_promise : AsinPromise
asin_promise = inverse asin (λ c. c) cofunction asin_recipe asin_domain
