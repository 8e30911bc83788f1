-- Alternating polynomials in x²: as a list of integer coefficients, as an exact sum of natural numbers, and by Horner's
-- rule with cut products.
use mathlib.Core.Path.{◌≡◌, refl, sym, ap, ◌∙◌, subst}
use mathlib.Core.List.{List, [], ◌∷◌}
use mathlib.Core.Bool.{Bool, true, ◌&&◌}
use Prim.Native.Nat.{ℕ, suc, ◌+◌, ◌-◌, ◌*◌, ◌/◌, ◌%◌, ◌^◌, ◌≤◌, ◌<◌, zero-le}
use native.Mathlib.Nat.{le_refl, le_trans, le_of_eq, mul-le-mul, mul-le-mul_left, mul-le-mul_right, pow-suc, mul-zero}
use native.Mathlib.Nat.{mul_comm, mul_assoc, mul-pos, sub-le}
use native.Mathlib.Nat.{le_of_mul-le-mul_right, div-mul-le_self, div-add-mod', mod-lt}
use native.Mathlib.Omega.{arith}
use lib.ListN.{length}
use lib.Dec.{T, leb, leb→le}
use lib.Pow.{pow_pos}
use lib.Ieee.Fits.{and_l, and_r}
use lib.IntN.{ℤ, pos, neg_ℤ, ◌+ℤ◌, ◌-ℤ◌, ◌*ℤ◌}
use Rattle.series.specs.Kernel.{mulhi, horner}
use Rattle.series.proofs.Integers.{parts, ⊖-eq, differences}
use Rattle.series.proofs.Polynomial.{hval}

-- ---- negated lists

unfoldable pub negated : List ℤ → List ℤ
negated [] = []
negated (c ∷ p) = neg_ℤ c ∷ negated p

pub length_negated : (p : List ℤ) → length (negated p) ≡ length p
unfolding negated
length_negated [] = refl
length_negated (c ∷ p) = ap suc (length_negated p)

pub negated_value : (p : List ℤ) (x : ℤ) (y : ℕ) → hval (negated p) x y ≡ neg_ℤ (hval p x y)
unfolding hval negated
negated_value [] x y = refl
negated_value (c ∷ p) x y = rw (length_negated p, negated_value p x y) (gather c x (hval p x y) (y ^ suc (length p)))
  where
    gather : (c x H : ℤ) (Y : ℕ) → neg_ℤ c *ℤ pos Y +ℤ x *ℤ neg_ℤ H ≡ neg_ℤ (c *ℤ pos Y +ℤ x *ℤ H)
    gather c x H Y =
        let c' = parts c in
        let x' = parts x in
        let H' = parts H in
        rw (c'.2, x'.2, H'.2) (simp differences (⊖-eq _ _ _ _ (omega arith)))

-- ---- the list: c_0 g u^k, 0, -c_1 g u^(k-1), 0, c_2 g u^(k-2), .., then zeros

unfoldable pub alternating : ℕ → ℕ → List ℤ → List ℕ → List ℤ
unfolding negated
alternating g u zeros [] = zeros
alternating g u zeros (c ∷ cs) = pos (c * u ^ length cs * g) ∷ pos 0 ∷ negated (alternating g u zeros cs)

-- ---- the exact sum: c_0 u^k - s (c_1 u^(k-1) - s (..)), all of it natural numbers

unfoldable pub exact_sum : ℕ → ℕ → List ℕ → ℕ
exact_sum u s [] = 0
exact_sum u s (c ∷ cs) = c * u ^ length cs - s * exact_sum u s cs

-- no coefficient is larger than the one before
unfoldable pub falling : ℕ → List ℕ → Bool
falling c [] = true
falling c (d ∷ cs) = leb d c && falling d cs

-- s times the sum from the next coefficient on is no more than what it is taken from, for s ≤ u
fits_below : (u s c d : ℕ) (cs : List ℕ) → s ≤ u → d ≤ c → s * exact_sum u s (d ∷ cs) ≤ c * u ^ suc (length cs)
unfolding exact_sum
fits_below u s c d cs h k =
    le_trans
    (mul-le-mul h (le_trans (sub-le (d * u ^ length cs) (s * exact_sum u s cs)) (mul-le-mul_right (u ^ length cs) k)))
    (le_of_eq ((omega arith) ∙ ap (λ (z : ℕ). c * z) (sym (pow-suc u (length cs)))))

zero_fits : (s c : ℕ) → s * 0 ≤ c
zero_fits s c = le_trans (le_of_eq (mul-zero s)) zero-le

-- nothing is cut off by the subtractions of `exact_sum`
no_cut : (u s c : ℕ) (cs : List ℕ) → s ≤ u → T (falling c cs) → s * exact_sum u s cs ≤ c * u ^ length cs
unfolding falling exact_sum
no_cut u s c [] h t = zero_fits s (c * u ^ 0)
no_cut u s c (d ∷ cs) h t = fits_below u s c d cs h (leb→le d c (and_l (leb d c) (falling d cs) t))

-- α + x (0 + x (-B)) = α - x² B
twice : (x : ℤ) (α W B : ℕ) → pos α +ℤ x *ℤ (pos (0 * W) +ℤ x *ℤ neg_ℤ (pos B)) ≡ pos α -ℤ (x *ℤ x) *ℤ pos B
twice x α W B =
    let x' = parts x in
    rw x'.2 (simp differences (⊖-eq _ _ _ _ (omega arith)))

difference : (α β d : ℕ) → α ≡ d + β → pos α -ℤ pos β ≡ pos d
difference α β d h = simp differences (⊖-eq _ _ _ _ (omega arith))

-- The list's value at x / y, where x is ±n y, is y^length g times the exact sum at n². So it is the same at -x.
module _ (g u n y : ℕ) (small : n * n ≤ u) (zeros : List ℤ) (x : ℤ) (none : hval zeros x y ≡ pos 0)
    (square : x *ℤ x ≡ pos (n * n * (y * y))) where
  one_step : (a Y E W : ℕ) → n * n * E ≤ a
      → pos (a * g * (Y * y * y)) +ℤ x *ℤ (pos (0 * W) +ℤ x *ℤ neg_ℤ (pos (Y * (g * E))))
      ≡ pos (Y * y * y * (g * (a - n * n * E)))
  one_step a Y E W h =
      twice x (a * g * (Y * y * y)) W (Y * (g * E))
      ∙ ap (λ (z : ℤ). pos (a * g * (Y * y * y)) -ℤ z *ℤ pos (Y * (g * E))) square
      ∙ difference (a * g * (Y * y * y)) (n * n * (y * y) * (Y * (g * E))) (Y * y * y * (g * (a - n * n * E)))
      (gather a (n * n) E (a - n * n * E) Y y g (omega arith))
    where
      gather : (a m E d Y y g : ℕ) → a ≡ d + m * E
          → a * g * (Y * y * y) ≡ Y * y * y * (g * d) + m * (y * y) * (Y * (g * E))
      gather a m E d Y y g e = ap (λ (k : ℕ). k * g * (Y * y * y)) e ∙ (omega arith)

  next : (p : List ℤ) (a E : ℕ) → n * n * E ≤ a → hval p x y ≡ pos (y ^ length p * (g * E))
      → hval (pos (a * g) ∷ pos 0 ∷ negated p) x y ≡ pos (y ^ suc (suc (length (negated p))) * (g * (a - n * n * E)))
  unfolding hval
  next p a E h e =
      rw (length_negated p, negated_value p x y, e, pow-suc y (suc (length p)), pow-suc y (length p))
      (one_step a (y ^ length p) E (y ^ length p * y) h)

  pub alternating_value : (c : ℕ) (cs : List ℕ) → T (falling c cs)
      → hval (alternating g u zeros (c ∷ cs)) x y
      ≡ pos (y ^ length (alternating g u zeros (c ∷ cs)) * (g * exact_sum u (n * n) (c ∷ cs)))
  unfolding alternating exact_sum falling
  alternating_value c [] t =
      next zeros (c * u ^ 0) 0 (zero_fits (n * n) (c * u ^ 0))
      (none ∙ ap pos (sym (ap (λ (k : ℕ). y ^ length zeros * k) (mul-zero g) ∙ mul-zero (y ^ length zeros))))
  alternating_value c (d ∷ cs) t =
      next (alternating g u zeros (d ∷ cs)) (c * u ^ suc (length cs)) (exact_sum u (n * n) (d ∷ cs))
      (no_cut u (n * n) c (d ∷ cs) small t)
      (alternating_value d cs (and_r (leb d c) (falling d cs) t))

-- ---- Horner's rule with cut products, against the exact sum

-- h stands for E / U, to e either way
pub record Stands (h E U e : ℕ) : Type 0 where
  pub above : h * U ≤ E + e * U
  pub below : E ≤ h * U + e * U

module _ (A B m z : ℕ) (z-low : z * B ≤ m) (z-high : m ≤ z * B + B) (m-small : m ≤ A * B) where
  -- one product, cut: f stands for m E / (A B U) where h stands for E / U
  product_above : (f h : ℕ) → f * A ≤ z * h → f * (A * B) ≤ m * h
  product_above f h k =
      le_trans (le_of_eq (sym (mul_assoc f A B)))
      (le_trans (mul-le-mul_right B k) (le_trans (le_of_eq (omega arith)) (mul-le-mul_right h z-low)))

  product_below : (f h : ℕ) → z * h ≤ f * A + A → h ≤ A → m * h ≤ (f + 2) * (A * B)
  product_below f h k l =
      le_trans (mul-le-mul_right h z-high)
      (omega (arith, mul-le-mul_right B k, mul-le-mul_right B l))

  product_stands : (f h E U e : ℕ) → f * A ≤ z * h → z * h ≤ f * A + A → h ≤ A → Stands h E U e
      → Stands f (m * E) (U * (A * B)) (e + 2)
  product_stands f h E U e k l s t = record {
    above =
        up (mul-le-mul_right U (product_above f h k)) (mul-le-mul_left m t.above) (mul-le-mul_right (e * U) m-small);
    below =
        down (mul-le-mul_right U (product_below f h l s)) (mul-le-mul_left m t.below)
        (mul-le-mul_right (e * U) m-small);
  }
    where
      up : f * (A * B) * U ≤ m * h * U → m * (h * U) ≤ m * (E + e * U) → m * (e * U) ≤ A * B * (e * U)
          → f * (U * (A * B)) ≤ m * E + (e + 2) * (U * (A * B))
      up p q r = omega arith

      down : m * h * U ≤ (f + 2) * (A * B) * U → m * E ≤ m * (h * U + e * U) → m * (e * U) ≤ A * B * (e * U)
          → m * E ≤ f * (U * (A * B)) + (e + 2) * (U * (A * B))
      down p q r = omega arith

-- c - f stands for c - E / U where f stands for E / U
taken_stands : (c f E U e : ℕ) → f ≤ c → E ≤ c * U → Stands f E U e → Stands (c - f) (c * U - E) U e
taken_stands c f E U e h k t = record {
  above = up (c - f) (c * U - E) (omega arith) (omega arith) t.below;
  below = down (c - f) (c * U - E) (omega arith) (omega arith) t.above;
}
  where
    up : (h G : ℕ) → c ≡ h + f → c * U ≡ G + E → E ≤ f * U + e * U → h * U ≤ G + e * U
    up h G p q r = omega (arith, ap (λ (k : ℕ). k * U) p)

    down : (h G : ℕ) → c ≡ h + f → c * U ≡ G + E → f * U ≤ E + e * U → G ≤ h * U + e * U
    down h G p q r = omega (arith, ap (λ (k : ℕ). k * U) p)

-- a quotient, against what was divided
pub quotient_above : (a A : ℕ) → a / A * A ≤ a
quotient_above a A = div-mul-le_self a A

pub quotient_below : (a A : ℕ) → 0 < A → a ≤ a / A * A + A
quotient_below a A h = le_trans (le_of_eq (sym (div-add-mod' a A))) (rest (a / A * A) (a % A) A (mod-lt a h))
  where
    rest : (q r A : ℕ) → r < A → q + r ≤ q + A
    rest q r A k = omega arith

module _ (B m z : ℕ) (z-low : z * B ≤ m) (z-high : m ≤ z * B + B) (m-small : m ≤ 2 ^ 64 * B) (B-pos : 0 < B) where
  product_le : (f h c : ℕ) → f * 2 ^ 64 ≤ z * h → h ≤ c → f ≤ c
  product_le f h c k l =
      le_of_mul-le-mul_right
      (le_trans (product_above (2 ^ 64) B m z z-low z-high m-small f h k)
      (le_trans (mul-le-mul m-small l) (le_of_eq (mul_comm (2 ^ 64 * B) c))))
      (mul-pos (pow_pos 64) B-pos)

  -- Horner's rule with k products stands for the exact sum, to 2 k
  pub horner_stands : (c : ℕ) (cs : List ℕ) → c ≤ 2 ^ 64 → T (falling c cs) →
      Stands (horner c cs z) (exact_sum (2 ^ 64 * B) m (c ∷ cs)) ((2 ^ 64 * B) ^ length cs) (2 * length cs)
      × (horner c cs z ≤ c)
  unfolding horner exact_sum falling
  horner_stands c [] k t = (record { above = omega arith; below = (omega arith) }, le_refl c)
  horner_stands c (d ∷ cs) k t =
      let d≤c = leb→le d c (and_l (leb d c) (falling d cs) t) in
      let rest = horner_stands d cs (le_trans d≤c k) (and_r (leb d c) (falling d cs) t) in
      let h = horner d cs z in
      let low = quotient_above (z * h) (2 ^ 64) in
      let high = quotient_below (z * h) (2 ^ 64) (pow_pos 64) in
      let product : Stands (mulhi z h) (m * exact_sum (2 ^ 64 * B) m (d ∷ cs)) ((2 ^ 64 * B) ^ length cs * (2 ^ 64 * B))
      (2 * length cs + 2) =
      product_stands (2 ^ 64) B m z z-low z-high m-small (mulhi z h) h (exact_sum (2 ^ 64 * B) m (d ∷ cs))
      ((2 ^ 64 * B) ^ length cs) (2 * length cs)
      low high (le_trans rest.1 (le_trans d≤c k)) rest.0 in (
        subst (λ (e : ℕ). Stands (c - mulhi z h)
            (c * (2 ^ 64 * B) ^ suc (length cs) - m * exact_sum (2 ^ 64 * B) m (d ∷ cs))
            ((2 ^ 64 * B) ^ suc (length cs)) e) (omega arith)
            (taken_stands c (mulhi z h) (m * exact_sum (2 ^ 64 * B) m (d ∷ cs)) ((2 ^ 64 * B) ^ suc (length cs))
            (2 * length cs + 2)
            (product_le (mulhi z h) h c low (le_trans rest.1 d≤c))
            (no_cut (2 ^ 64 * B) m c (d ∷ cs) m-small t)
            (subst (λ (U : ℕ). Stands (mulhi z h) (m * exact_sum (2 ^ 64 * B) m (d ∷ cs)) U (2 * length cs + 2))
            (sym (pow-suc (2 ^ 64 * B) (length cs))) product)),
        sub-le c (mulhi z h),
      )
