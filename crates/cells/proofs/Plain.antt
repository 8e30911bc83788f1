-- Values of integer polynomials at an integer, lowest coefficient first: sums, products, composition, and the distance
-- of two values by the distances of the coefficients, for polynomials of any two lengths. Rests on the crate series.
use mathlib.Core.Path.{◌≡◌, refl, sym, ap, ap₂, ◌∙◌, subst}
use mathlib.Core.List.{List, [], ◌∷◌}
use Prim.Native.Nat.{ℕ, ◌+◌, ◌*◌, ◌^◌, ◌≤◌}
use native.Mathlib.Nat.{le_refl, le_trans, le_of_eq, add-le-add, mul-le-mul, pow-suc, mul-one}
use native.Mathlib.Omega.{arith}
use lib.ListN.{length}
use lib.IntN.{ℤ, pos, ◌+ℤ◌, ◌-ℤ◌, ◌*ℤ◌, nat_abs, *ℤ-zero, zero-*ℤ, +ℤ_idl, +ℤ_idr}
use Rattle.series.proofs.Integers.{parts, ⊖-eq, differences, dist, dist_self}
use Rattle.series.proofs.Integers.{abs_add, abs_mul, distrib, distrib_r, *ℤ-assoc, *ℤ-left-comm}
use Rattle.series.proofs.Polynomial.{hval, one_pow, shift, shift_value}

-- Σ c_i x^i
unfoldable pub val : List ℤ → ℤ → ℤ
val [] x = pos 0
val (c ∷ p) x = c +ℤ x *ℤ val p x

-- The value at x y / y without dividing is y^n times the value at x.
pub value_units : (p : List ℤ) (x : ℤ) (y : ℕ) → hval p (x *ℤ pos y) y ≡ pos (y ^ length p) *ℤ val p x
unfolding hval val
value_units [] x y = sym (*ℤ-zero (pos (y ^ 0)))
value_units (c ∷ p) x y = rw (value_units p x y, pow-suc y (length p)) (gather c x (val p x) (y ^ length p) y)
  where
    gather : (c x H : ℤ) (Y y : ℕ) → c *ℤ pos (Y * y) +ℤ (x *ℤ pos y) *ℤ (pos Y *ℤ H) ≡ pos (Y * y) *ℤ (c +ℤ x *ℤ H)
    gather c x H Y y =
        let c' = parts c in
        let x' = parts x in
        let H' = parts H in
        rw (c'.2, x'.2, H'.2) (simp differences (⊖-eq _ _ _ _ (omega arith)))

pub value_whole : (p : List ℤ) (x : ℤ) → hval p x 1 ≡ val p x
unfolding hval val
value_whole [] x = refl
value_whole (c ∷ p) x = rw (value_whole p x, one_pow) (ap (λ (z : ℤ). z +ℤ x *ℤ val p x) (once c))
  where
    once : (c : ℤ) → c *ℤ pos 1 ≡ c
    once c =
        let c' = parts c in
        rw c'.2 (simp differences (⊖-eq _ _ _ _ (omega arith)))

-- p shifted by b, at x, is p at x + b
pub shifted_value : (p : List ℤ) (b : ℕ) (x : ℤ) → val (shift p b) x ≡ val p (x +ℤ pos b)
shifted_value p b x =
    sym (value_whole (shift p b) x) ∙ shift_value p b x 1 ∙ ap (λ (k : ℕ). hval p (x +ℤ pos k) 1) (mul-one b)
    ∙ value_whole p (x +ℤ pos b)

-- ---- sums, products, composition

unfoldable pub plus : List ℤ → List ℤ → List ℤ
plus [] q = q
plus (c ∷ p) [] = c ∷ p
plus (c ∷ p) (d ∷ q) = (c +ℤ d) ∷ plus p q

pub plus_value : (p q : List ℤ) (x : ℤ) → val (plus p q) x ≡ val p x +ℤ val q x
unfolding val plus
plus_value [] q x = sym (+ℤ_idl (val q x))
plus_value (c ∷ p) [] x = sym (+ℤ_idr (c +ℤ x *ℤ val p x))
plus_value (c ∷ p) (d ∷ q) x = rw (plus_value p q x) (gather c d x (val p x) (val q x))
  where
    gather : (c d x H G : ℤ) → (c +ℤ d) +ℤ x *ℤ (H +ℤ G) ≡ (c +ℤ x *ℤ H) +ℤ (d +ℤ x *ℤ G)
    gather c d x H G =
        let c' = parts c in
        let d' = parts d in
        let x' = parts x in
        let H' = parts H in
        let G' = parts G in
        rw (c'.2, d'.2, x'.2, H'.2, G'.2) (simp differences (⊖-eq _ _ _ _ (omega arith)))

unfoldable pub scaled : ℤ → List ℤ → List ℤ
scaled k [] = []
scaled k (c ∷ p) = (k *ℤ c) ∷ scaled k p

pub scaled_value : (k : ℤ) (p : List ℤ) (x : ℤ) → val (scaled k p) x ≡ k *ℤ val p x
unfolding val scaled
scaled_value k [] x = sym (*ℤ-zero k)
scaled_value k (c ∷ p) x =
    rw (scaled_value k p x)
    (ap (λ (z : ℤ). k *ℤ c +ℤ z) (*ℤ-left-comm x k (val p x)) ∙ sym (distrib k c (x *ℤ val p x)))

unfoldable pub times : List ℤ → List ℤ → List ℤ
unfolding plus scaled
times [] q = []
times (c ∷ p) q = plus (scaled c q) (pos 0 ∷ times p q)

pub times_value : (p q : List ℤ) (x : ℤ) → val (times p q) x ≡ val p x *ℤ val q x
unfolding val times
times_value [] q x = sym (zero-*ℤ (val q x))
times_value (c ∷ p) q x =
    plus_value (scaled c q) (pos 0 ∷ times p q) x
    ∙ ap₂ (λ (a b : ℤ). a +ℤ b) (scaled_value c q x)
    (+ℤ_idl (x *ℤ val (times p q) x) ∙ ap (λ (z : ℤ). x *ℤ z) (times_value p q x)
    ∙ sym (*ℤ-assoc x (val p x) (val q x)))
    ∙ sym (distrib_r c (x *ℤ val p x) (val q x))

-- p of b
unfoldable pub compose : List ℤ → List ℤ → List ℤ
unfolding plus times
compose [] b = []
compose (c ∷ p) b = plus (c ∷ []) (times b (compose p b))

pub compose_value : (p b : List ℤ) (x : ℤ) → val (compose p b) x ≡ val p (val b x)
unfolding val compose
compose_value [] b x = refl
compose_value (c ∷ p) b x =
    plus_value (c ∷ []) (times b (compose p b)) x
    ∙ ap₂ (λ (a b : ℤ). a +ℤ b) (ap (λ (z : ℤ). c +ℤ z) (*ℤ-zero x) ∙ +ℤ_idr c)
    (times_value b (compose p b) x ∙ ap (λ (z : ℤ). val b x *ℤ z) (compose_value p b x))

-- ---- the distance of values

-- the distances of coefficients, 0 standing for those that one of the two has not
unfoldable pub gaps : List ℤ → List ℤ → List ℕ
unfolding dist
gaps [] [] = []
gaps [] (d ∷ q) = dist (pos 0) d ∷ gaps [] q
gaps (c ∷ p) [] = dist c (pos 0) ∷ gaps p []
gaps (c ∷ p) (d ∷ q) = dist c d ∷ gaps p q

-- Σ c_i X^i
unfoldable pub bound : List ℕ → ℕ → ℕ
bound [] X = 0
bound (c ∷ p) X = c + X * bound p X

-- |(c + x H) - (d + x G)| ≤ |c - d| + X |H - G|
apart : (c d x H G : ℤ) (X B : ℕ) → nat_abs x ≤ X → dist H G ≤ B → dist (c +ℤ x *ℤ H) (d +ℤ x *ℤ G) ≤ dist c d + X * B
unfolding dist
apart c d x H G X B h k =
    rw (gather c d x H G)
    (le_trans (abs_add (c -ℤ d) (x *ℤ (H -ℤ G)))
    (add-le-add (le_refl (nat_abs (c -ℤ d))) (le_trans (le_of_eq (abs_mul x (H -ℤ G))) (mul-le-mul h k))))
  where
    gather : (c d x H G : ℤ) → (c +ℤ x *ℤ H) -ℤ (d +ℤ x *ℤ G) ≡ (c -ℤ d) +ℤ x *ℤ (H -ℤ G)
    gather c d x H G =
        let c' = parts c in
        let d' = parts d in
        let x' = parts x in
        let H' = parts H in
        let G' = parts G in
        rw (c'.2, d'.2, x'.2, H'.2, G'.2) (simp differences (⊖-eq _ _ _ _ (omega arith)))

none : (x : ℤ) → pos 0 +ℤ x *ℤ pos 0 ≡ pos 0
none x = +ℤ_idl (x *ℤ pos 0) ∙ *ℤ-zero x

-- where the coefficients are close, so are the values
pub values_close : (p q : List ℤ) (x : ℤ) (X : ℕ) → nat_abs x ≤ X → dist (val p x) (val q x) ≤ bound (gaps p q) X
unfolding val gaps bound
values_close [] [] x X h = le_of_eq (dist_self (pos 0))
values_close [] (d ∷ q) x X h =
    subst (λ (z : ℤ). dist z (d +ℤ x *ℤ val q x) ≤ dist (pos 0) d + X * bound (gaps [] q) X) (none x)
    (apart (pos 0) d x (pos 0) (val q x) X (bound (gaps [] q) X) h (values_close [] q x X h))
values_close (c ∷ p) [] x X h =
    subst (λ (z : ℤ). dist (c +ℤ x *ℤ val p x) z ≤ dist c (pos 0) + X * bound (gaps p []) X) (none x)
    (apart c (pos 0) x (val p x) (pos 0) X (bound (gaps p []) X) h (values_close p [] x X h))
values_close (c ∷ p) (d ∷ q) x X h = apart c d x (val p x) (val q x) X (bound (gaps p q) X) h (values_close p q x X h)
