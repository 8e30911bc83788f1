-- The computed test: the squares of the 40-term sums add up to 1 within 2^-48, for every angle up to 16 either way.
use mathlib.Core.Path.{◌≡◌, refl, sym, ap, ap₂, ◌∙◌, subst₂}
use mathlib.Core.List.{List, ◌∷◌}
use Prim.Native.Nat.{ℕ, ◌+◌, ◌*◌, ◌^◌, ◌≤◌}
use native.Mathlib.Nat.{le_refl, le_trans, le_of_eq, add-le-add, mul-le-mul_left}
use native.Mathlib.Omega.{arith}
use lib.Dec.{T, leb, leb→le}
use lib.ListN.{length, replicate}
use lib.IntN.{ℤ, pos, negsuc, nat_abs, ◌+ℤ◌, ◌*ℤ◌}
use lib.Pow.{pow-add}
use Rattle.series.specs.Taylor.{factorial, sign}
use Rattle.series.proofs.Integers.{parts, ⊖-eq, differences, dist, dist_comm, size_near}
use Rattle.series.proofs.Exact.{zeros_value}
use Rattle.series.proofs.Polynomial.{hval, nval, dists, values_near, nval_units, length_dists}
use Rattle.series.proofs.Sums.{rising, sin_from, cos_from, sin79, cos79, scale}
use Rattle.identical.proofs.Product.{plus, times, length_plus, plus_value, length_times, times_value}

-- 79!² (sine² + cosine²), and what it is near to
unfoldable pub squares : List ℤ
unfolding plus times sin79 cos79
squares = plus (times sin79 sin79) (times cos79 cos79)

unfoldable pub unit_square : List ℤ
unit_square = pos (scale * scale) ∷ replicate 159 (pos 0)

test : T (leb (nval (dists squares unit_square) 16 1 * 2 ^ 48) (scale * scale))
unfolding squares unit_square plus times sin79 cos79 sin_from cos_from rising sign factorial nval dists dist
test = tt

-- ---- the lengths

sine_many : length sin79 ≡ 80
unfolding sin79 sin_from
sine_many = refl

cosine_many : length cos79 ≡ 80
unfolding cos79 cos_from
cosine_many = refl

sines : length (times sin79 sin79) ≡ 160
sines = length_times sin79 sin79 ∙ ap₂ (λ (a b : ℕ). a + b) sine_many sine_many

cosines : length (times cos79 cos79) ≡ 160
cosines = length_times cos79 cos79 ∙ ap₂ (λ (a b : ℕ). a + b) cosine_many cosine_many

squares_many : length squares ≡ 160
unfolding squares
squares_many = length_plus (times sin79 sin79) (times cos79 cos79) (sines ∙ sym cosines) ∙ sines

unit_many : length unit_square ≡ 160
unfolding unit_square
unit_many = refl

-- ---- the values

square_size : (z : ℤ) → z *ℤ z ≡ pos (nat_abs z * nat_abs z)
square_size (pos n) = refl
square_size (negsuc n) = refl

squares_value : (x : ℤ) (y : ℕ) → let a = nat_abs (hval sin79 x y) in let b = nat_abs (hval cos79 x y) in hval squares x y ≡ pos (a * a + b * b)
unfolding squares
squares_value x y =
    plus_value (times sin79 sin79) (times cos79 cos79) (sines ∙ sym cosines) x y
    ∙ ap₂ (λ (s c : ℤ). s +ℤ c) (times_value sin79 sin79 x y ∙ square_size (hval sin79 x y)) (times_value cos79 cos79 x y ∙ square_size (hval cos79 x y))

unit_value : (x : ℤ) (y : ℕ) → hval unit_square x y ≡ pos (scale * scale * y ^ 160)
unfolding unit_square hval
unit_value x y =
    ap (λ (z : ℤ). pos (scale * scale) *ℤ pos (y ^ 160) +ℤ x *ℤ z) (zeros_value 159 x y) ∙ gather (scale * scale) (y ^ 160) x
  where
    gather : (s Y : ℕ) (x : ℤ) → pos s *ℤ pos Y +ℤ x *ℤ pos 0 ≡ pos (s * Y)
    gather s Y x = let x' = parts x in rw x'.2 (simp differences (⊖-eq _ _ _ _ (omega arith)))

-- two naturals by the distance of their integers
by_distance : (m n d : ℕ) → dist (pos m) (pos n) ≤ d → (m ≤ n + d) × (n ≤ m + d)
by_distance m n d h =
    let back = le_trans (le_of_eq (dist_comm (pos n) (pos m))) h in
    (le_trans (size_near (pos m) (pos n)) (add-le-add (le_refl n) h), le_trans (size_near (pos n) (pos m)) (add-le-add (le_refl m) back))

-- With E for 79! y^80, the value of both polynomials over it is the sine and the cosine of x / y: their squares add up to 1 within 2^-48.
pub sums_near : (x : ℤ) (y : ℕ) → nat_abs x ≤ 16 * y → (a b E : ℕ) → nat_abs (hval sin79 x y) ≡ a → nat_abs (hval cos79 x y) ≡ b → scale * y ^ 80 ≡ E
    → ((a * a + b * b) * 2 ^ 48 ≤ E * E * 2 ^ 48 + E * E) × (E * E * 2 ^ 48 ≤ (a * a + b * b) * 2 ^ 48 + E * E)
sums_near x y h a b E ea eb e_e = scaled (a * a + b * b) (E * E) (y ^ 160) (nval (dists squares unit_square) 16 1) (scale * scale) whole bounds (leb→le _ _ test)
  where
    whole : E * E ≡ scale * scale * y ^ 160
    whole = ap₂ (λ (m n : ℕ). m * n) (sym e_e) (sym e_e) ∙ powers scale (y ^ 80) (y ^ 160) (pow-add y 80 80)
      where
        powers : (s Y Z : ℕ) → Z ≡ Y * Y → s * Y * (s * Y) ≡ s * s * Z
        powers s Y Z e = rw e (omega arith)

    near : dist (pos (a * a + b * b)) (pos (E * E)) ≤ y ^ 160 * nval (dists squares unit_square) 16 1
    near =
        subst₂ (λ (m n : ℤ). dist m n ≤ y ^ 160 * nval (dists squares unit_square) 16 1)
        (squares_value x y ∙ ap₂ (λ (p q : ℕ). pos (p * p + q * q)) ea eb) (unit_value x y ∙ ap pos (sym whole))
        (le_trans (values_near squares unit_square (squares_many ∙ sym unit_many) x (16 * y) h y)
        (le_of_eq (nval_units (dists squares unit_square) 16 y
        ∙ ap (λ (k : ℕ). y ^ k * nval (dists squares unit_square) 16 1) (length_dists squares unit_square (squares_many ∙ sym unit_many) ∙ squares_many))))

    bounds : (a * a + b * b ≤ E * E + y ^ 160 * nval (dists squares unit_square) 16 1) × (E * E ≤ a * a + b * b + y ^ 160 * nval (dists squares unit_square) 16 1)
    bounds = by_distance (a * a + b * b) (E * E) _ near

    scaled : (s e Y n S : ℕ) → e ≡ S * Y → (s ≤ e + Y * n) × (e ≤ s + Y * n) → n * 2 ^ 48 ≤ S → (s * 2 ^ 48 ≤ e * 2 ^ 48 + e) × (e * 2 ^ 48 ≤ s * 2 ^ 48 + e)
    scaled s e Y n S q (up, down) l =
        let small : Y * n * 2 ^ 48 ≤ e = omega (arith, mul-le-mul_left Y l, q) in
        (omega (arith, up, small), omega (arith, down, small))
