-- A passed test says something at every angle: a whole number of quarter turns and n more, or n less, the sum is near ±
-- the recipe's polynomial at n, within 144 units of 2^-61. Rests on Tests and Exact.
use mathlib.Core.Path.{◌≡◌, refl, sym, ap, ◌∙◌, subst}
use mathlib.Core.List.{List}
use Prim.Native.Nat.{ℕ, zero, suc, ◌+◌, ◌-◌, ◌*◌, ◌^◌, ◌≤◌, ◌<◌}
use native.Mathlib.Nat.{le_trans, le_of_eq, le_of_lt, mul-le-mul_left, mul-le-mul_right, pow-suc, zero-add}
use native.Mathlib.Omega.{arith}
use lib.ListN.{length}
use lib.Dec.{T, leb→le}
use lib.IntN.{ℤ, pos, neg_ℤ, ◌+ℤ◌, ◌*ℤ◌, nat_abs, neg_ℤ-neg_ℤ}
use Rattle.series.specs.Kernel.{quarter}
use Rattle.series.proofs.Integers.{◌⊖◌, neg-pos-⊖, pos-⊖, ⊖-eq, differences, dist}
use Rattle.series.proofs.Integers.{dist-⊖, dist_trans, dist_neg, abs-⊖, abs-negℤ, neg-*ℤ}
use Rattle.series.proofs.Polynomial.{hval, nval, shift, shift_value, length_shift, dists, length_dists}
use Rattle.series.proofs.Polynomial.{sizes, length_sizes, slope, values_near, values_follow, nval_units, slope_units}
use Rattle.series.proofs.Alternating.{negated_value, length_negated}
use Rattle.series.proofs.Tests.{grain, unit, recipe, turned, near}
use Rattle.series.proofs.Tests.{recipe_slope, sine, sine_nears, cosine, cosine_nears, nears_at}
use Rattle.series.proofs.Exact.{sum_at, exact_sine, length_recipe, recipe_value}

-- ---- a passed test, at every angle

module _ (p q : List ℤ) (b : ℕ) (p-length : length p ≡ 80) (q-length : length q ≡ 80) (test : T (near p b q)) where
  near_lengths : length (shift p (b * quarter)) ≡ length q
  near_lengths = length_shift p (b * quarter) ∙ p-length ∙ sym q-length

  pub near_values : (r : ℤ) (y : ℕ) → nat_abs r ≤ quarter * y
      → dist (hval p (r +ℤ pos (b * quarter * y)) y) (hval q r y) ≤ y ^ 80 * (128 * unit)
  unfolding near
  near_values r y h =
      rw (← shift_value p (b * quarter) r y)
      (le_trans (values_near (shift p (b * quarter)) q near_lengths r (quarter * y) h y)
      (le_trans
      (le_of_eq
      (nval_units (dists (shift p (b * quarter)) q) quarter y
      ∙ ap (λ (k : ℕ). y ^ k * nval (dists (shift p (b * quarter)) q) quarter 1)
      (length_dists (shift p (b * quarter)) q near_lengths ∙ near_lengths ∙ q-length)))
      (mul-le-mul_left (y ^ 80) (leb→le (nval (dists (shift p (b * quarter)) q) quarter 1) (128 * unit) test))))

-- the recipe's polynomial moves by little where its argument moves by at most one unit
recipe_follows : (r x : ℤ) (y : ℕ) → nat_abs r ≤ quarter * y → nat_abs x ≤ quarter * y → dist r x ≤ y
    → dist (hval recipe r y) (hval recipe x y) ≤ y ^ 80 * (16 * unit)
recipe_follows r x y h k l =
    le_trans (values_follow recipe r x (quarter * y) h k y)
    (le_trans (mul-le-mul_right (slope (sizes recipe) (quarter * y) y) l)
    (le_trans
    (le_of_eq
    (slope_units (sizes recipe) quarter y
    ∙ ap (λ (k : ℕ). y ^ k * slope (sizes recipe) quarter 1) (length_sizes recipe ∙ length_recipe)))
    (mul-le-mul_left (y ^ 80) (leb→le (slope (sizes recipe) quarter 1) (16 * unit) recipe_slope))))

-- (-1)^h z
unfoldable pub flip : ℕ → ℤ → ℤ
flip zero z = z
flip (suc h) z = neg_ℤ (flip h z)

flip_neg : (h : ℕ) (z : ℤ) → flip h (neg_ℤ z) ≡ neg_ℤ (flip h z)
unfolding flip
flip_neg zero z = refl
flip_neg (suc h) z = ap neg_ℤ (flip_neg h z)

dist_flip : (h : ℕ) (a b : ℤ) → dist (flip h a) (flip h b) ≡ dist a b
unfolding flip
dist_flip zero a b = refl
dist_flip (suc h) a b = dist_neg (flip h a) (flip h b) ∙ dist_flip h a b

turned_value : (h : ℕ) (q : List ℤ) (x : ℤ) (y : ℕ) → hval (turned h q) x y ≡ flip h (hval q x y)
unfolding turned flip
turned_value zero q x y = refl
turned_value (suc h) q x y = negated_value (turned h q) x y ∙ ap neg_ℤ (turned_value h q x y)

length_turned : (h : ℕ) (q : List ℤ) → length (turned h q) ≡ length q
unfolding turned
length_turned zero q = refl
length_turned (suc h) q = length_negated (turned h q) ∙ length_turned h q

module _ (p : List ℤ) (p-length : length p ≡ 80) (b h : ℕ) (test : T (near p b (turned h recipe))) where
  near_recipe : (r x : ℤ) (y : ℕ) → nat_abs r ≤ quarter * y → nat_abs x ≤ quarter * y → dist r x ≤ y →
      dist (hval p (r +ℤ pos (b * quarter * y)) y) (flip h (hval recipe x y)) ≤ y ^ 80 * (144 * unit)
  near_recipe r x y i k l =
      le_trans
      (dist_trans (hval p (r +ℤ pos (b * quarter * y)) y) (flip h (hval recipe r y)) (flip h (hval recipe x y)))
      (omega (
        arith,
        subst (λ (z : ℤ). dist (hval p (r +ℤ pos (b * quarter * y)) y) z ≤ y ^ 80 * (128 * unit))
            (turned_value h recipe r y)
            (near_values p (turned h recipe) b p-length (length_turned h recipe ∙ length_recipe) test r y i),
        le_trans
            (le_of_eq (dist_flip h (hval recipe r y) (hval recipe x y))) (recipe_follows r x y i k l),
      ))

-- ---- the angle X / y, a number of quarter turns and n more, or n less

pub abs_pos : (n : ℕ) → nat_abs (neg_ℤ (pos n)) ≡ n
abs_pos n = abs-negℤ (pos n)

module _ (p : List ℤ) (p-length : length p ≡ 80) (b n w f y : ℕ) (f-small : f ≤ y) where
  spread : (n y S : ℕ) → n * y * (y ^ 79 * S) ≡ y ^ 80 * (n * S)
  spread n y S = (omega arith) ∙ ap (λ (k : ℕ). k * (n * S)) (sym (pow-suc y 79))

  pub beyond : (h : ℕ) → T (near p b (turned h recipe)) → w ≡ b * quarter + n → n < quarter →
      dist (hval p (pos (w * y + f)) y) (flip h (pos (y ^ 80 * exact_sine n))) ≤ y ^ 80 * (144 * unit)
  unfolding exact_sine
  beyond h test e l =
      subst (λ (z : ℤ). dist (hval p z y) (flip h (pos (y ^ 80 * (n * (grain * sum_at n))))) ≤ y ^ 80 * (144 * unit))
      (ap pos (place e))
      (subst (λ (z : ℤ). dist (hval p (pos (n * y + f + b * quarter * y)) y) (flip h z) ≤ y ^ 80 * (144 * unit))
      (recipe_value n y (le_of_lt l) (pos (n * y)) (ap pos (square n y)) ∙ ap pos (spread n y (grain * sum_at n)))
      (near_recipe p p-length b h test (pos (n * y + f)) (pos (n * y)) y (reach l) (mul-le-mul_right y (le_of_lt l))
      (le_trans (le_of_eq (gap (n * y) f)) f-small)))
    where
      square : (n y : ℕ) → n * y * (n * y) ≡ n * n * (y * y)
      square n y = omega arith

      place : w ≡ b * quarter + n → n * y + f + b * quarter * y ≡ w * y + f
      place e = omega (arith, ap (λ (k : ℕ). k * y) e)

      reach : n < quarter → n * y + f ≤ quarter * y
      reach l = omega (arith, mul-le-mul_right y l)

      gap : (a f : ℕ) → dist (pos (a + f)) (pos a) ≡ f
      gap a f = simp (pos-⊖, dist-⊖) (omega arith)

  pub short : (h : ℕ) → T (near p b (turned (suc h) recipe)) → w + n ≡ b * quarter → 0 < n → n ≤ quarter →
      dist (hval p (pos (w * y + f)) y) (flip h (pos (y ^ 80 * exact_sine n))) ≤ y ^ 80 * (144 * unit)
  unfolding exact_sine flip
  short h test e m l =
      subst (λ (z : ℤ). dist (hval p z y) (flip h (pos (y ^ 80 * (n * (grain * sum_at n))))) ≤ y ^ 80 * (144 * unit))
      (place e)
      (subst (λ (z : ℤ). dist (hval p (f ⊖ n * y +ℤ pos (b * quarter * y)) y) z ≤ y ^ 80 * (144 * unit))
      (ap neg_ℤ
      (ap (flip h)
      (recipe_value n y l (neg_ℤ (pos (n * y))) (square n y) ∙ neg-*ℤ (pos (n * y)) (pos (y ^ 79 * (grain * sum_at n)))
      ∙ ap (λ (k : ℕ). neg_ℤ (pos k)) (spread n y (grain * sum_at n)))
      ∙ flip_neg h (pos (y ^ 80 * (n * (grain * sum_at n)))))
      ∙ neg_ℤ-neg_ℤ (flip h (pos (y ^ 80 * (n * (grain * sum_at n))))))
      (near_recipe p p-length b (suc h) test (f ⊖ n * y) (neg_ℤ (pos (n * y))) y
      (le_trans (le_of_eq (abs-⊖ f (n * y))) (reach m l)) (le_trans (le_of_eq (abs_pos (n * y))) (mul-le-mul_right y l))
      (le_trans (le_of_eq (gap (n * y) f)) f-small)))
    where
      square : (n y : ℕ) → neg_ℤ (pos (n * y)) *ℤ neg_ℤ (pos (n * y)) ≡ pos (n * n * (y * y))
      square n y = simp differences (⊖-eq _ _ _ _ (omega arith))

      place : w + n ≡ b * quarter → f ⊖ n * y +ℤ pos (b * quarter * y) ≡ pos (w * y + f)
      place e = simp differences (⊖-eq _ _ _ _ (omega (arith, ap (λ (k : ℕ). k * y) e)))

      reach : 0 < n → n ≤ quarter → (f - n * y) + (n * y - f) ≤ quarter * y
      reach m l = omega (arith, mul-le-mul_right y m, mul-le-mul_right y l)

      gap : (a f : ℕ) → dist (f ⊖ a) (neg_ℤ (pos a)) ≡ f
      gap a f = simp (neg-pos-⊖, dist-⊖) (omega arith)

-- p is near the recipe's polynomial, a whole number of quarter turns on, of which with o more there are an even number
-- 2 h
abbrev pub Waves : List ℤ → ℕ → Type 0
Waves p o = (b h : ℕ) → b + o ≡ 2 * h → b ≤ 11 → T (near p b (turned h recipe))

pub sine_waves : Waves sine 0
sine_waves b h e l =
    subst (λ (k : ℕ). T (near sine k (turned h recipe))) (twice b h e)
    (subst (λ (k : ℕ). T (near sine (0 + 2 * h) (turned k recipe))) (zero-add h)
    (nears_at sine 0 0 6 h sine_nears (few b h e l)))
  where
    twice : (b h : ℕ) → b + 0 ≡ 2 * h → 0 + 2 * h ≡ b
    twice b h e = omega arith

    few : (b h : ℕ) → b + 0 ≡ 2 * h → b ≤ 11 → h < 6
    few b h e l = omega arith

pub cosine_waves : Waves cosine 1
cosine_waves b h e l =
    subst (λ (k : ℕ). T (near cosine k (turned h recipe))) (twice b h e)
    (subst (λ (k : ℕ). T (near cosine (1 + 2 * (h - 1)) (turned k recipe))) (omega arith)
    (nears_at cosine 1 1 6 (h - 1) cosine_nears (few b h e l)))
  where
    twice : (b h : ℕ) → b + 1 ≡ 2 * h → 1 + 2 * (h - 1) ≡ b
    twice b h e = omega arith

    few : (b h : ℕ) → b + 1 ≡ 2 * h → b ≤ 11 → h - 1 < 6
    few b h e l = omega arith
