-- +0 added to a sum changes nothing, where the sum is not -0; and a sum that begins at +0 never is.
use mathlib.Core.Path.{◌≡◌, refl, sym, ap, ◌∙◌}
use mathlib.Core.Bool.{Bool, true, false, ◌&&◌}
use Prim.Native.Nat.{ℕ, ◌+◌, ◌*◌, ◌≤◌, ◌<◌}
use native.Mathlib.Omega.{arith}
use borrow.Author.Tests.{eqb-true, eqb-false, ltb-true, ltb-false}
use lib.Dec.{T, eqb, ltb, lit≤}
use lib.Ieee.{Float, nan, inf, fin, binary64, fits, add}
use lib.Ieee.Fits.{add-fits}
use Rattle.binary64.specs.Units.{Finite, Digits53, mag, plus, minus, negative, signed_zero}
use Rattle.binary64.specs.Constants.{zero64, zero64_is}
use Rattle.binary64.specs.Floats.{◌+ᶠ◌}
use Rattle.binary64.proofs.Units.{zero64_finite, zero64_sign, zero64_plus, zero64_minus, plus_is}
use Rattle.binary64.proofs.Units.{minus_is, mag_digits, mag_limit, is_of_units, is_zero, digits53}
use Rattle.binary64.proofs.Operations.{add_result, add_zero_sum, result_plus, result_minus, result_mag, result_sign}
use Rattle.binary64.proofs.Rounding.{rnd_ge}

-- what a program holds, and not -0
pub record Sound (s : Float) : Type 0 where
  pub fit : T (fits binary64 s)
  pub upright : Finite s → negative s ≡ true → 0 < mag s

not_both : (b : Bool) → b ≡ true → b ≡ false → ⊥
not_both true e f = let z : ◌≡◌ {A = ℕ} 0 1 = cc in omega arith
not_both false e f = let z : ◌≡◌ {A = ℕ} 0 1 = cc in omega arith

pub zero_sound : Sound zero64
zero_sound = record { fit = zero64_finite.fit; upright = λ f e. absurd (not_both (negative zero64) e zero64_sign) }

-- a finite number that is not -0, and +0
finite_add_zero : (s : Float) → Finite s → (negative s ≡ true → 0 < mag s) → add binary64 s zero64 ≡ s
finite_add_zero s f h = by (negative s) refl (ltb 0 (mag s)) refl
  where
    by : (b : Bool) → negative s ≡ b → (t : Bool) → ltb 0 (mag s) ≡ t → add binary64 s zero64 ≡ s
    by false e true g =
        let p = plus_is s e in
        result_plus (omega arith) (add_result f zero64_finite) (ltb-true 0 (mag s) g) (mag_digits f) (mag_limit f)
        (omega (arith, p.0, p.1, zero64_plus, zero64_minus))
        ∙ sym (is_of_units f ∙ rw e)
    by true e true g =
        let p = minus_is s e in
        result_minus (omega arith) (add_result f zero64_finite) (ltb-true 0 (mag s) g) (mag_digits f) (mag_limit f)
        (omega (arith, p.0, p.1, zero64_plus, zero64_minus))
        ∙ sym (is_of_units f ∙ rw e)
    by false e false g =
        let p = plus_is s e in
        let z : mag s ≡ 0 = omega (arith, ltb-false 0 (mag s) g) in
        add_zero_sum f zero64_finite (omega (arith, p.0, p.1, zero64_plus, zero64_minus))
        ∙ ap (λ b. signed_zero (b && negative zero64)) e
        ∙ sym (is_zero f z ∙ rw e)
    by true e false g = absurd (omega (arith, h e, ltb-false 0 (mag s) g))

pub add-zero : (s : Float) → Sound s → s +ᶠ zero64 ≡ s
unfolding add
add-zero nan h = refl
add-zero (inf b) h = rw zero64_is
add-zero (fin b m e) h =
    let f : Finite (fin b m e) = record { fit = h.fit; number = tt } in
    finite_add_zero (fin b m e) f (h.upright f)

-- a sum is -0 only if both are
sum_upright : (s x : Float) → Finite s → Finite x → (negative s ≡ true → 0 < mag s) → Finite (add binary64 s x)
    → negative (add binary64 s x) ≡ true → 0 < mag (add binary64 s x)
sum_upright s x fs fx h f e = by (eqb (plus s + plus x) (minus s + minus x)) refl
  where
    one_digit : Digits53 1
    one_digit = digits53 1 0 (lit≤ tt)

    both : (a b : Bool) → a && b ≡ true → a ≡ true
    both true b k = refl
    both false b k = k

    by : (t : Bool) → eqb (plus s + plus x) (minus s + minus x) ≡ t → 0 < mag (add binary64 s x)
    by true g =
        let z = eqb-true (plus s + plus x) (minus s + minus x) g in
        let e' : negative s && negative x ≡ true = sym (ap negative (add_zero_sum fs fx z)) ∙ e in
        let ns : negative s ≡ true = both (negative s) (negative x) e' in
        let nx : negative x ≡ true = other (negative s) (negative x) e' in
        absurd (omega (arith, h ns, z, minus_is s ns, minus_is x nx))
      where
        other : (a b : Bool) → a && b ≡ true → b ≡ true
        other true b k = k
        other false true k = refl
        other false false k = k
    by false g =
        let r = add_result fs fx in
        let ne = eqb-false (plus s + plus x) (minus s + minus x) g in
        let below = r.below (sym (result_sign (omega arith) r f) ∙ e) in
        let some : 1 * 1 ≤ r.size = positive r.size (λ k. ne (omega (arith, below, k))) in
        omega (arith, result_mag (omega arith) r f, rnd_ge r.size 1 (omega arith) one_digit some)
      where
        positive : (n : ℕ) → (n ≡ 0 → ⊥) → 1 * 1 ≤ n
        positive n k = go (ltb 0 n) refl
          where
            go : (t : Bool) → ltb 0 n ≡ t → 1 * 1 ≤ n
            go true q = omega (arith, ltb-true 0 n q)
            go false q = absurd (k (omega (arith, ltb-false 0 n q)))

pub add_sound : (s x : Float) → Sound s → T (fits binary64 x) → Sound (s +ᶠ x)
unfolding add
add_sound s x h k = record { fit = add-fits binary64 s x; upright = by s x h k }
  where
    by : (s x : Float) → Sound s → T (fits binary64 x) → Finite (s +ᶠ x) → negative (s +ᶠ x) ≡ true → 0 < mag (s +ᶠ x)
    by nan x h k f e = absurd f.number
    by (inf b) nan h k f e = absurd f.number
    by (inf false) (inf false) h k f e = absurd f.number
    by (inf false) (inf true) h k f e = absurd f.number
    by (inf true) (inf false) h k f e = absurd f.number
    by (inf true) (inf true) h k f e = absurd f.number
    by (inf b) (fin t n d) h k f e = absurd f.number
    by (fin b m d) nan h k f e = absurd f.number
    by (fin b m d) (inf t) h k f e = absurd f.number
    by (fin b m d) (fin t n g) h k f e =
        let fs : Finite (fin b m d) = record { fit = h.fit; number = tt } in
        let fx : Finite (fin t n g) = record { fit = k; number = tt } in
        sum_upright (fin b m d) (fin t n g) fs fx (h.upright fs) f e
