-- The 40-term sums as integer polynomials: 79! times the sum has the coefficients ±79! / i!. The bridge: at a fraction
-- x / q the sum is the polynomial's value over 79! q^80. Rests on Polynomial and Integers.
use mathlib.Core.Path.{◌≡◌, refl, sym, ap, ap₂, ◌∙◌, subst}
use mathlib.Core.List.{List, [], ◌∷◌}
use Prim.Native.Nat.{ℕ, zero, suc, ◌+◌, ◌*◌, ◌^◌}
use native.Mathlib.Nat.{one-mul, add-zero, suc-add, add-suc}
use native.Mathlib.Numerals.{add-one}
use native.Mathlib.Omega.{arith}
use lib.ListN.{length}
use lib.Pow.{pow-add}
use lib.IntN.{ℤ, pos, ◌+ℤ◌, ◌*ℤ◌, pow, one, *ℤ-zero, zero-*ℤ, *ℤ_comm, *ℤ-one}
use Rattle.series.specs.Fraction.{Fraction, ◌⊹◌}
use Rattle.series.specs.Taylor.{factorial, sign, term, total, sin40, cos40}
use Rattle.series.proofs.Integers.{parts, ⊖-eq, differences, *ℤ-assoc, *ℤ-left-comm}
use Rattle.series.proofs.Polynomial.{hval}

-- (i + 1) (i + 2) .. (i + r)
unfoldable pub rising : ℕ → ℕ → ℕ
rising i zero = 1
rising i (suc r) = suc i * rising (suc i) r

factorial_rising : (i r : ℕ) → rising i r * factorial i ≡ factorial (i + r)
unfolding rising factorial
factorial_rising i zero = one-mul (factorial i) ∙ ap factorial (sym (add-zero i))
factorial_rising i (suc r) =
    regroup (suc i) (rising (suc i) r) (factorial i) ∙ factorial_rising (suc i) r
    ∙ ap factorial (suc-add i r ∙ sym (add-suc i r))
  where
    regroup : (a b c : ℕ) → a * b * c ≡ b * (a * c)
    regroup a b c = omega arith

-- The coefficients from degree 2 k on, for m more terms: 0, then ±79! / i! at i = 2 k + 1.
unfoldable pub sin_from : ℕ → ℕ → List ℤ
unfolding sign rising
sin_from k zero = []
sin_from k (suc m) = pos 0 ∷ (sign k *ℤ pos (rising (2 * k + 1) (2 * m))) ∷ sin_from (suc k) m

unfoldable pub cos_from : ℕ → ℕ → List ℤ
unfolding sign rising
cos_from k zero = []
cos_from k (suc m) = (sign k *ℤ pos (rising (2 * k) (2 * m + 1))) ∷ pos 0 ∷ cos_from (suc k) m

unfoldable pub sin79 : List ℤ
unfolding sin_from
sin79 = sin_from 0 40

unfoldable pub cos79 : List ℤ
unfolding cos_from
cos79 = cos_from 0 40

length_sin : (k m : ℕ) → length (sin_from k m) ≡ 2 * m
unfolding sin_from
length_sin k zero = refl
length_sin k (suc m) = ap (λ (n : ℕ). suc (suc n)) (length_sin (suc k) m) ∙ twice m
  where
    twice : (m : ℕ) → suc (suc (2 * m)) ≡ 2 * suc m
    twice m = omega arith

length_cos : (k m : ℕ) → length (cos_from k m) ≡ 2 * m
unfolding cos_from
length_cos k zero = refl
length_cos k (suc m) = ap (λ (n : ℕ). suc (suc n)) (length_cos (suc k) m) ∙ twice m
  where
    twice : (m : ℕ) → suc (suc (2 * m)) ≡ 2 * suc m
    twice m = omega arith

-- ---- the bridge

-- f = n / e
Over : ℤ → ℕ → Fraction → Type 0
Over n e f = f.num *ℤ pos e ≡ n *ℤ pos f.den

over_sum : (n o : ℤ) (e : ℕ) (f g : Fraction) → Over n e f → Over o e g → Over (n +ℤ o) e (f ⊹ g)
unfolding Over ◌⊹◌
over_sum n o e f g p q =
    first f.num g.num e f.den g.den ∙ ap₂ (λ (a b : ℤ). a *ℤ pos g.den +ℤ b *ℤ pos f.den) p q ∙ last n o f.den g.den
  where
    first : (a c : ℤ) (e b d : ℕ) → (a *ℤ pos d +ℤ c *ℤ pos b) *ℤ pos e ≡ (a *ℤ pos e) *ℤ pos d +ℤ (c *ℤ pos e) *ℤ pos b
    first a c e b d =
        let a' = parts a in
        let c' = parts c in
        rw (a'.2, c'.2) (simp differences (⊖-eq _ _ _ _ (omega arith)))

    last : (n o : ℤ) (b d : ℕ) → (n *ℤ pos b) *ℤ pos d +ℤ (o *ℤ pos d) *ℤ pos b ≡ (n +ℤ o) *ℤ pos (b * d)
    last n o b d =
        let n' = parts n in
        let o' = parts o in
        rw (n'.2, o'.2) (simp differences (⊖-eq _ _ _ _ (omega arith)))

-- one term: its coefficient R with R i! = N, and the power Y of q with Y q^i = Q
over_term : (k i : ℕ) (v : Fraction) (R Y N Q : ℕ) → R * factorial i ≡ N → Y * v.den ^ i ≡ Q
    → Over (pow v.num i *ℤ ((sign k *ℤ pos R) *ℤ pos Y)) (N * Q) (term k i v)
unfolding Over term
over_term k i v R Y N Q p q =
    ap (λ (e : ℕ). (sign k *ℤ pow v.num i) *ℤ pos e) (sym (ap₂ (λ (a b : ℕ). a * b) p q))
    ∙ regroup (sign k) (pow v.num i) R (factorial i) Y (v.den ^ i)
  where
    reorder : (s X r a y b : ℤ) → (s *ℤ X) *ℤ ((r *ℤ a) *ℤ (y *ℤ b)) ≡ (X *ℤ ((s *ℤ r) *ℤ y)) *ℤ (a *ℤ b)
    reorder s X r a y b = simp (*ℤ-assoc, *ℤ-left-comm)

    regroup : (s X : ℤ) (R a Y b : ℕ)
        → (s *ℤ X) *ℤ pos (R * a * (Y * b)) ≡ (X *ℤ ((s *ℤ pos R) *ℤ pos Y)) *ℤ pos (a * b)
    regroup s X R a Y b = reorder s X (pos R) (pos a) (pos Y) (pos b)

-- X (c Y + x H) = X (c Y) + (X x) H
split_first : (X c x H : ℤ) (Y : ℕ) → X *ℤ (c *ℤ pos Y) +ℤ (X *ℤ x) *ℤ H ≡ X *ℤ (c *ℤ pos Y +ℤ x *ℤ H)
split_first X c x H Y =
    let X' = parts X in
    let c' = parts c in
    let x' = parts x in
    let H' = parts H in
    rw (X'.2, c'.2, x'.2, H'.2) (simp differences (⊖-eq _ _ _ _ (omega arith)))

skip_zero : (X x H : ℤ) (Y : ℕ) → (X *ℤ x) *ℤ H ≡ X *ℤ (pos 0 *ℤ pos Y +ℤ x *ℤ H)
skip_zero X x H Y =
    let X' = parts X in
    let x' = parts x in
    let H' = parts H in
    rw (X'.2, x'.2, H'.2) (simp differences (⊖-eq _ _ _ _ (omega arith)))

-- 79!
abbrev pub scale : ℕ
scale = factorial 79

module _ (v : Fraction) where
  -- x^i times the value of the coefficients from degree i on, over 79! q^80, is what f stands for
  Rest : ℕ → List ℤ → Fraction → Type 0
  Rest i p f = Over (pow v.num i *ℤ hval p v.num v.den) (scale * v.den ^ 80) f

  rest_term : (k i r : ℕ) (p : List ℤ) (f : Fraction) → i + r ≡ 79 → length p ≡ r → Rest (suc i) p f
      → Rest i ((sign k *ℤ pos (rising i r)) ∷ p) (term k i v ⊹ f)
  unfolding Rest hval pow
  rest_term k i r p f h l t =
      subst (λ (n : ℤ). Over n (scale * v.den ^ 80) (term k i v ⊹ f))
      (split_first (pow v.num i) (sign k *ℤ pos (rising i r)) v.num (hval p v.num v.den) (v.den ^ suc (length p)))
      (over_sum _ _ (scale * v.den ^ 80) (term k i v) f
      (over_term k i v (rising i r) (v.den ^ suc (length p)) scale (v.den ^ 80)
      (factorial_rising i r ∙ ap factorial h)
      (sym (pow-add v.den (suc (length p)) i) ∙ ap (λ (n : ℕ). v.den ^ n) (omega arith)))
      t)

  rest_zero : (i : ℕ) (p : List ℤ) (f : Fraction) → Rest (suc i) p f → Rest i (pos 0 ∷ p) f
  unfolding Rest hval pow
  rest_zero i p f t =
      subst (λ (n : ℤ). Over n (scale * v.den ^ 80) f)
      (skip_zero (pow v.num i) v.num (hval p v.num v.den) (v.den ^ suc (length p))) t

  rest_none : (i : ℕ) → Rest i [] (record { num = pos 0; den = 1 })
  unfolding Rest Over hval
  rest_none i = zero-*ℤ (pos (scale * v.den ^ 80)) ∙ sym (ap (λ (z : ℤ). z *ℤ pos 1) (*ℤ-zero (pow v.num i)))

  sin_rest : (k m : ℕ) → k + m ≡ 40 → Rest (2 * k) (sin_from k m) (total k m (λ j. term j (2 * j + 1) v))
  unfolding sin_from total
  sin_rest k zero h = rest_none (2 * k)
  sin_rest k (suc m) h =
      rest_zero (2 * k) _ _
      (subst (λ (i : ℕ). Rest i ((sign k *ℤ pos (rising (2 * k + 1) (2 * m))) ∷ sin_from (suc k) m)
      (term k (2 * k + 1) v ⊹ total (suc k) m (λ j. term j (2 * j + 1) v))) (add-one (2 * k))
      (rest_term k (2 * k + 1) (2 * m) (sin_from (suc k) m) _ (degree k m h) (length_sin (suc k) m)
      (subst (λ (i : ℕ). Rest i (sin_from (suc k) m) (total (suc k) m (λ j. term j (2 * j + 1) v))) (next k)
      (sin_rest (suc k) m (onward k m h)))))
    where
      degree : (k m : ℕ) → k + suc m ≡ 40 → 2 * k + 1 + 2 * m ≡ 79
      degree k m h = omega arith

      next : (k : ℕ) → 2 * suc k ≡ suc (2 * k + 1)
      next k = omega arith

      onward : (k m : ℕ) → k + suc m ≡ 40 → suc k + m ≡ 40
      onward k m h = omega arith

  cos_rest : (k m : ℕ) → k + m ≡ 40 → Rest (2 * k) (cos_from k m) (total k m (λ j. term j (2 * j) v))
  unfolding cos_from total
  cos_rest k zero h = rest_none (2 * k)
  cos_rest k (suc m) h =
      rest_term k (2 * k) (2 * m + 1) (pos 0 ∷ cos_from (suc k) m) _ (degree k m h)
      (ap suc (length_cos (suc k) m) ∙ sym (add-one (2 * m)))
      (rest_zero (suc (2 * k)) (cos_from (suc k) m) _
      (subst (λ (i : ℕ). Rest i (cos_from (suc k) m) (total (suc k) m (λ j. term j (2 * j) v))) (next k)
      (cos_rest (suc k) m (onward k m h))))
    where
      degree : (k m : ℕ) → k + suc m ≡ 40 → 2 * k + (2 * m + 1) ≡ 79
      degree k m h = omega arith

      next : (k : ℕ) → 2 * suc k ≡ suc (suc (2 * k))
      next k = omega arith

      onward : (k m : ℕ) → k + suc m ≡ 40 → suc k + m ≡ 40
      onward k m h = omega arith

  whole : (p : List ℤ) (f : Fraction) → Rest 0 p f → f.num *ℤ pos (scale * v.den ^ 80) ≡ hval p v.num v.den *ℤ pos f.den
  unfolding Rest Over pow one
  whole p f t = t ∙ ap (λ (z : ℤ). z *ℤ pos f.den) (*ℤ_comm (pos 1) (hval p v.num v.den) ∙ *ℤ-one (hval p v.num v.den))

  -- the 40 terms of the sine, as one polynomial
  pub sin40_value : (sin40 v).num *ℤ pos (scale * v.den ^ 80) ≡ hval sin79 v.num v.den *ℤ pos (sin40 v).den
  unfolding sin40 sin79
  sin40_value = whole (sin_from 0 40) (total 0 40 (λ j. term j (2 * j + 1) v)) (sin_rest 0 40 refl)

  pub cos40_value : (cos40 v).num *ℤ pos (scale * v.den ^ 80) ≡ hval cos79 v.num v.den *ℤ pos (cos40 v).den
  unfolding cos40 cos79
  cos40_value = whole (cos_from 0 40) (total 0 40 (λ j. term j (2 * j) v)) (cos_rest 0 40 refl)
