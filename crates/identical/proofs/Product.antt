-- The product of two polynomials in the form of series' Polynomial: values at a fraction without dividing.
use mathlib.Core.Path.{◌≡◌, refl, sym, ap, ap₂, ◌∙◌}
use mathlib.Core.List.{List, [], ◌∷◌, ◌++◌, map}
use Prim.Native.Nat.{ℕ, suc, ◌+◌, ◌*◌, ◌^◌}
use native.Mathlib.Nat.{suc_inj}
use native.Mathlib.Omega.{arith}
use lib.ListN.{length, replicate, length-append, length-map, length-replicate}
use lib.IntN.{ℤ, pos, ◌+ℤ◌, ◌*ℤ◌}
use lib.Pow.{pow-add}
use Rattle.series.proofs.Exact.{zeros_value}
use Rattle.series.proofs.Integers.{parts, ⊖-eq, differences}
use Rattle.series.proofs.Polynomial.{hval}

-- p + q, for polynomials of one length
unfoldable pub plus : List ℤ → List ℤ → List ℤ
plus [] q = []
plus (c ∷ p) [] = []
plus (c ∷ p) (d ∷ q) = (c +ℤ d) ∷ plus p q

pub length_plus : (p q : List ℤ) → length p ≡ length q → length (plus p q) ≡ length p
unfolding plus
length_plus [] q e = refl
length_plus (c ∷ p) [] e = absurd (omega (arith, e))
length_plus (c ∷ p) (d ∷ q) e = ap suc (length_plus p q (suc_inj e))

pub plus_value : (p q : List ℤ) → length p ≡ length q → (x : ℤ) (y : ℕ) → hval (plus p q) x y ≡ hval p x y +ℤ hval q x y
unfolding plus hval
plus_value [] [] e x y = refl
plus_value [] (d ∷ q) e x y = absurd (omega (arith, e))
plus_value (c ∷ p) [] e x y = absurd (omega (arith, e))
plus_value (c ∷ p) (d ∷ q) e x y =
    let same = suc_inj e in
    rw (length_plus p q same, plus_value p q same x y, ← same) (gather c d x (hval p x y) (hval q x y) (y ^ suc (length p)))
  where
    gather : (c d x P Q : ℤ) (Y : ℕ) → (c +ℤ d) *ℤ pos Y +ℤ x *ℤ (P +ℤ Q) ≡ (c *ℤ pos Y +ℤ x *ℤ P) +ℤ (d *ℤ pos Y +ℤ x *ℤ Q)
    gather c d x P Q Y =
        let c' = parts c in
        let d' = parts d in
        let x' = parts x in
        let P' = parts P in
        let Q' = parts Q in
        rw (c'.2, d'.2, x'.2, P'.2, Q'.2) (simp differences (⊖-eq _ _ _ _ (omega arith)))

-- c p
pub scaled_value : (c : ℤ) (p : List ℤ) (x : ℤ) (y : ℕ) → hval (map (λ d. c *ℤ d) p) x y ≡ c *ℤ hval p x y
unfolding hval
scaled_value c [] x y = zero_right c
  where
    zero_right : (c : ℤ) → pos 0 ≡ c *ℤ pos 0
    zero_right c = let c' = parts c in rw c'.2 (simp differences (⊖-eq _ _ _ _ (omega arith)))
scaled_value c (d ∷ p) x y = rw (length-map p (λ d. c *ℤ d), scaled_value c p x y) (gather c d x (hval p x y) (y ^ suc (length p)))
  where
    gather : (c d x P : ℤ) (Y : ℕ) → (c *ℤ d) *ℤ pos Y +ℤ x *ℤ (c *ℤ P) ≡ c *ℤ (d *ℤ pos Y +ℤ x *ℤ P)
    gather c d x P Y =
        let c' = parts c in
        let d' = parts d in
        let x' = parts x in
        let P' = parts P in
        rw (c'.2, d'.2, x'.2, P'.2) (simp differences (⊖-eq _ _ _ _ (omega arith)))

-- k zeros beyond p
pub padded_value : (p : List ℤ) (k : ℕ) (x : ℤ) (y : ℕ) → hval (p ++ replicate k (pos 0)) x y ≡ hval p x y *ℤ pos (y ^ k)
unfolding hval
padded_value [] k x y = zeros_value k x y ∙ zero_left (y ^ k)
  where
    zero_left : (Y : ℕ) → pos 0 ≡ pos 0 *ℤ pos Y
    zero_left Y = simp differences (⊖-eq _ _ _ _ (omega arith))
padded_value (c ∷ p) k x y =
    ap₂ (λ (e : ℕ) (z : ℤ). c *ℤ pos e +ℤ x *ℤ z) (power (length p) (length (p ++ replicate k (pos 0))) many) (padded_value p k x y)
    ∙ gather c x (hval p x y) (y ^ suc (length p)) (y ^ k)
  where
    many : length (p ++ replicate k (pos 0)) ≡ length p + k
    many = length-append p (replicate k (pos 0)) ∙ ap (λ (b : ℕ). length p + b) (length-replicate k (pos 0))

    power : (a n : ℕ) → n ≡ a + k → y ^ suc n ≡ y ^ suc a * y ^ k
    power a n e = let more : suc n ≡ suc a + k = omega (arith, e) in ap (λ (i : ℕ). y ^ i) more ∙ pow-add y (suc a) k

    gather : (c x P : ℤ) (Y K : ℕ) → c *ℤ pos (Y * K) +ℤ x *ℤ (P *ℤ pos K) ≡ (c *ℤ pos Y +ℤ x *ℤ P) *ℤ pos K
    gather c x P Y K =
        let c' = parts c in
        let x' = parts x in
        let P' = parts P in
        rw (c'.2, x'.2, P'.2) (simp differences (⊖-eq _ _ _ _ (omega arith)))

-- p q, with as many coefficients as both have together
unfoldable pub times : List ℤ → List ℤ → List ℤ
unfolding plus
times [] q = replicate (length q) (pos 0)
times (c ∷ p) q = plus (map (λ d. c *ℤ d) q ++ replicate (suc (length p)) (pos 0)) (pos 0 ∷ times p q)

length_first : (c : ℤ) (p q : List ℤ) → length (map (λ d. c *ℤ d) q ++ replicate (suc (length p)) (pos 0)) ≡ suc (length p + length q)
length_first c p q =
    length-append (map (λ d. c *ℤ d) q) (replicate (suc (length p)) (pos 0))
    ∙ ap₂ (λ (a b : ℕ). a + b) (length-map q (λ d. c *ℤ d)) (length-replicate (suc (length p)) (pos 0)) ∙ omega arith

pub length_times : (p q : List ℤ) → length (times p q) ≡ length p + length q
unfolding times
length_times [] q = length-replicate (length q) (pos 0) ∙ omega arith
length_times (c ∷ p) q =
    length_plus (map (λ d. c *ℤ d) q ++ replicate (suc (length p)) (pos 0)) (pos 0 ∷ times p q) (length_first c p q ∙ ap suc (sym (length_times p q)))
    ∙ length_first c p q ∙ together (length p) (length q)
  where
    together : (a b : ℕ) → suc (a + b) ≡ suc a + b
    together a b = omega arith

pub times_value : (p q : List ℤ) (x : ℤ) (y : ℕ) → hval (times p q) x y ≡ hval p x y *ℤ hval q x y
unfolding times hval
times_value [] q x y = zeros_value (length q) x y ∙ zero_left (hval q x y)
  where
    zero_left : (Q : ℤ) → pos 0 ≡ pos 0 *ℤ Q
    zero_left Q = let Q' = parts Q in rw Q'.2 (simp differences (⊖-eq _ _ _ _ (omega arith)))
times_value (c ∷ p) q x y =
    plus_value (map (λ d. c *ℤ d) q ++ replicate (suc (length p)) (pos 0)) (pos 0 ∷ times p q) (length_first c p q ∙ ap suc (sym (length_times p q))) x y
    ∙ ap₂ (λ (a b : ℤ). a +ℤ (pos 0 *ℤ pos (y ^ suc (length (times p q))) +ℤ x *ℤ b))
    (padded_value (map (λ d. c *ℤ d) q) (suc (length p)) x y ∙ ap (λ (z : ℤ). z *ℤ pos (y ^ suc (length p))) (scaled_value c q x y)) (times_value p q x y)
    ∙ gather c x (hval p x y) (hval q x y) (y ^ suc (length p)) (y ^ suc (length (times p q)))
  where
    gather : (c x P Q : ℤ) (Y Z : ℕ) → (c *ℤ Q) *ℤ pos Y +ℤ (pos 0 *ℤ pos Z +ℤ x *ℤ (P *ℤ Q)) ≡ (c *ℤ pos Y +ℤ x *ℤ P) *ℤ Q
    gather c x P Q Y Z =
        let c' = parts c in
        let x' = parts x in
        let P' = parts P in
        let Q' = parts Q in
        rw (c'.2, x'.2, P'.2, Q'.2) (simp differences (⊖-eq _ _ _ _ (omega arith)))
