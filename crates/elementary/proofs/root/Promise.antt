-- The promise of specs/RootPromise.antt.
use Rattle.std.proofs.Common.{◌≡◌, ℕ, zero, suc, ◌+◌, ◌*◌, ◌<◌, Bool, true}
use Rattle.std.proofs.Common.{false, T, ltb, sym, refl, ◌∙◌, subst, zero-add, zero-mul, arith, ltb→lt}
use lib.Ieee.{Float, nan, inf, fin, binary64, up, down, fits, of_bits, lt}
use Rattle.binary64.specs.Units.{one, mag, negative, Finite}
use Rattle.binary64.specs.Constants.{zero64}
use Rattle.binary64.proofs.Units.{mag_digits, plus_is, plus_sign, not_lt_of_units}
use Rattle.binary64.proofs.Units.{same_float, zero64_finite, zero64_plus, above_zero}
use Rattle.elementary.specs.Root.{root}
use Rattle.elementary.specs.RootPromise.{Nearest, RootPromise}
use Rattle.elementary.proofs.root.Neighbours.{neighbour_above, neighbour_below}
use Rattle.elementary.proofs.root.Values.{positive_mag, positive_sign, positive_finite, root_finite, root_minus}

module _ {x : Float} (f : Finite x) (s : negative x ≡ false) (p : 0 < mag x) where
  positive_nearest : Nearest x (root x)
  positive_nearest = record {
    finite = positive_finite f s p;
    sign = positive_sign f s p;
    above = λ u g h. subst (λ (r : ℕ). 4 * (mag x * one) < (mag u + r) * (mag u + r)) (sym (positive_mag f s p))
        (neighbour_above (mag x) p (mag_digits f) (mag u) (mag_digits g)
        (subst (λ (r : ℕ). r < mag u) (positive_mag f s p) h));
    below = λ u g h. subst (λ (r : ℕ). (mag u + r) * (mag u + r) < 4 * (mag x * one)) (sym (positive_mag f s p))
        (neighbour_below (mag x) p (mag_digits f) (mag u) (mag_digits g)
        (subst (λ (r : ℕ). mag u < r) (positive_mag f s p) h));
  }

-- of two floats that are nearest none is the larger
not_larger : {x r t : Float} → Nearest x r → Nearest x t → mag r < mag t → ⊥
not_larger {x} {r} {t} a b l = omega (arith, a.above t b.finite l, b.below r a.finite l)

nearest_only : {x r t : Float} → Nearest x r → Nearest x t → r ≡ t
nearest_only {x} {r} {t} a b =
    same_float a.finite b.finite (a.sign ∙ sym b.sign) (omega (arith, not_larger a b, not_larger b a))

-- ---- the cases

positive : {x : Float} → Finite x → lt zero64 x ≡ true → (negative x ≡ false) × (0 < mag x)
positive {x} f h =
    let p = (above_zero f h).0 in
    let s = plus_sign x p in
    (s, subst (λ (k : ℕ). 0 < k) (plus_is x s).0 p)

-- nothing is below 0 times a number
not_below : (a c : ℕ) → ltb a (0 * c) ≡ true → ⊥
not_below a c h = none a (0 * c) (zero-mul c) (ltb→lt a (0 * c) (subst (λ (t : Bool). T t) (sym h) tt))
  where
    none : (a b : ℕ) → b ≡ 0 → a < b → ⊥
    none a b e l = omega arith

no_sum : (a b : ℕ) → ltb 0 (0 * a * 1 + 0 * b) ≡ true → ⊥
no_sum a b h =
    none (0 * a * 1 + 0 * b) (simp (zero-mul, zero-add))
    (ltb→lt 0 (0 * a * 1 + 0 * b) (subst (λ (t : Bool). T t) (sym h) tt))
  where
    none : (a : ℕ) → a ≡ 0 → 0 < a → ⊥
    none a e l = omega arith

below_zero : (x : Float) → lt x zero64 ≡ true → root x ≡ zero64
unfolding lt root of_bits
below_zero nan h = refl
below_zero (inf s) h = refl
below_zero (fin true zero e) h = absurd (no_sum (up e) (down e) h)
below_zero (fin true (suc m) e) h = refl
below_zero (fin false m e) h = absurd (not_below (m * up e * 1) (down e) h)

not_below_zero : (x : Float) → T (fits binary64 x) → lt (root x) zero64 ≡ false
not_below_zero x f = not_lt_of_units (root_finite x f) zero64_finite (omega (arith, zero64_plus, root_minus x f))

-- Document 01's sentences on the root hold.
pub root_promise : RootPromise
unfolding root
root_promise = record {
  nearest = λ x f h. let a = positive f h in positive_nearest f a.0 a.1;
  only = λ x r f h n. let a = positive f h in nearest_only n (positive_nearest f a.0 a.1);
  zeros = λ s. refl;
  negatives = below_zero;
  no_number = refl;
  infinities = λ s. refl;
  finite = root_finite;
  not_below = not_below_zero;
}
