-- Two crossing circles over whole numbers: the foot of the chord lies within the first circle by more than all that is
-- rounded. D is the squared distance of the centres, r₁ and r₂ are the radii, t is their difference and s their sum.
-- Nothing here is about floats.
use native.Mathlib.Nat.{lt_of_not-le, le_of_suc-le-suc}
use mathlib.Core.Path.{◌≡◌, ap}
use mathlib.Core.Logic.{◌⊎◌, inl, inr}
use Prim.Native.Nat.{ℕ, zero, suc, ◌+◌, ◌-◌, ◌*◌, ◌^◌, ◌≤◌, ◌<◌}
use native.Mathlib.Nat.{lt_irrefl, lt_of_lt_of_le, mul-le-mul, mul-le-mul_left, mul-le-mul_right}
use native.Mathlib.Omega.{arith}
use Rattle.heads.specs.Relation.{gap}
use Rattle.std.proofs.lemmas.Bool.{cases_lt}

-- ---- the difference of two numbers

-- the larger is the smaller and the difference
pub gap_either : (a b : ℕ) → (a ≡ b + gap a b) ⊎ (b ≡ a + gap a b)
unfolding gap
gap_either a b = go (cases_lt a b)
  where
    go : (a < b) ⊎ (b ≤ a) → (a ≡ b + ((a - b) + (b - a))) ⊎ (b ≡ a + ((a - b) + (b - a)))
    go (inl h) = inr (omega arith)
    go (inr h) = inl (omega arith)

-- and neither is beyond the other by more
pub gap_within : (a b : ℕ) → (a ≤ b + gap a b) × (b ≤ a + gap a b)
unfolding gap
gap_within a b = omega arith

-- its square
pub gap_square : (a b : ℕ) → gap a b * gap a b + 2 * (a * b) ≡ a * a + b * b
gap_square a b = go (gap a b) (gap_either a b)
  where
    go : (t : ℕ) → (a ≡ b + t) ⊎ (b ≡ a + t) → t * t + 2 * (a * b) ≡ a * a + b * b
    go t (inl e) = omega (arith, ap (λ (k : ℕ). k * k) e, ap (λ (k : ℕ). k * b) e)
    go t (inr e) = omega (arith, ap (λ (k : ℕ). k * k) e, ap (λ (k : ℕ). a * k) e)

-- ---- X = r₁² - r₂² + D, which over twice the distance is how far the foot of the chord lies from the first centre

-- |X|
abbrev pub reach : ℕ → ℕ → ℕ → ℕ
reach r₁ r₂ D = gap (r₁ * r₁ + D) (r₂ * r₂)

-- two numbers above zero: their product is at least their sum less one
product_least : (p m : ℕ) → 0 < p → 0 < m → p + m ≤ p * m + 1
product_least (suc p) (suc m) h k = omega arith
product_least zero m h k = absurd (omega arith)
product_least (suc p) zero h k = absurd (omega arith)

-- with a and b for the squares of the radii, c for their product, τ and σ for t² and s², D = τ + p and σ = D + m
by_parts : (D a b c τ σ p m A : ℕ) → c * c ≡ a * b → τ + 2 * c ≡ a + b → σ ≡ a + b + 2 * c → D ≡ τ + p → σ ≡ D + m
    → A * A + 2 * ((a + D) * b) ≡ (a + D) * (a + D) + b * b
    → A * A + p * m ≡ 4 * (D * a)
by_parts D a b c τ σ p m A C T S P M Q =
    let τσ : τ * σ + 4 * (a * b) ≡ (a + b) * (a + b) =
    omega (
      arith,
      ap (λ (z : ℕ). σ * z) T,
      ap (λ (z : ℕ). a * z) S,
      ap (λ (z : ℕ). b * z) S,
      ap (λ (z : ℕ). c * z)
          S,
    ) in
    let sum : D * σ + D * τ ≡ D * (2 * a + 2 * b) = omega (arith, ap (λ (z : ℕ). D * z) S, ap (λ (z : ℕ). D * z) T) in
    let pm : p * m + D * D + τ * σ ≡ D * σ + D * τ =
    omega (arith, ap (λ (z : ℕ). p * z) M, ap (λ (z : ℕ). D * z) P, ap (λ (z : ℕ). σ * z) P) in
    omega (arith, τσ, sum, pm)

module _ (r₁ r₂ D : ℕ) (low : gap r₁ r₂ * gap r₁ r₂ < D) (high : D < (r₁ + r₂) * (r₁ + r₂)) where
  -- X² + (D - t²)(s² - D) = 4 D r₁², with p and m for the two factors
  heron : (p m : ℕ) → D ≡ gap r₁ r₂ * gap r₁ r₂ + p → (r₁ + r₂) * (r₁ + r₂) ≡ D + m
      → reach r₁ r₂ D * reach r₁ r₂ D + p * m ≡ 4 * (D * (r₁ * r₁))
  heron p m P M =
      by_parts D (r₁ * r₁) (r₂ * r₂) (r₁ * r₂) (gap r₁ r₂ * gap r₁ r₂) ((r₁ + r₂) * (r₁ + r₂)) p m (reach r₁ r₂ D)
      (omega arith) (gap_square r₁ r₂) (omega arith) P M (gap_square (r₁ * r₁ + D) (r₂ * r₂))

  -- and the product is at least 3 r₁ r₂
  pub reach_square : 0 < r₁ * r₂ → reach r₁ r₂ D * reach r₁ r₂ D + 3 * (r₁ * r₂) ≤ 4 * (D * (r₁ * r₁))
  reach_square R = least (D - gap r₁ r₂ * gap r₁ r₂) ((r₁ + r₂) * (r₁ + r₂) - D) (omega arith) (omega arith)
    where
      least : (p m : ℕ) → D ≡ gap r₁ r₂ * gap r₁ r₂ + p → (r₁ + r₂) * (r₁ + r₂) ≡ D + m
          → reach r₁ r₂ D * reach r₁ r₂ D + 3 * (r₁ * r₂) ≤ 4 * (D * (r₁ * r₁))
      least p m P M = omega (arith, heron p m P M, product_least p m (omega arith) (omega arith), gap_square r₁ r₂)

  -- |X| is at most what it is where the circles touch from outside
  pub reach_most : reach r₁ r₂ D ≤ 2 * (r₁ * (r₁ + r₂))
  reach_most = go (gap_either (r₁ * r₁ + D) (r₂ * r₂))
    where
      go : (r₁ * r₁ + D ≡ r₂ * r₂ + reach r₁ r₂ D) ⊎ (r₂ * r₂ ≡ r₁ * r₁ + D + reach r₁ r₂ D)
          → reach r₁ r₂ D ≤ 2 * (r₁ * (r₁ + r₂))
      go (inl e) = omega arith
      go (inr e) = omega (arith, gap_square r₁ r₂)

-- A stands for |X|, and q for √D in units of 2 ^ -37: whole numbers with q² ≤ D * 2 ^ 74 ≤ q² + 2 q.
module _ (r₁ r₂ D A q : ℕ) (R : 0 < r₁ * r₂) (L₁ : r₁ ≤ 20000) (L₂ : r₂ ≤ 20000) (M : r₁ ≤ 20000 * r₂)
    (h : A * A + 3 * (r₁ * r₂) ≤ 4 * (D * (r₁ * r₁))) (k : A ≤ 2 * (r₁ * (r₁ + r₂))) (low : D * 2 ^ 74 ≤ q * q + 2 * q)
    (top : q ≤ (r₁ + r₂) * 2 ^ 37) where
  -- were the foot no farther inside than 2 ^ -33, then 3 r₁ r₂ would be small
  too_near : 2 * (r₁ * q) ≤ A * 2 ^ 37 + 1411072
      → 3 * (r₁ * r₂) * 2 ^ 74 ≤ 2 * (A * 2 ^ 37 * 1411072) + 1411072 * 1411072 + 8 * (r₁ * r₁ * q)
  too_near g =
      let squares = mul-le-mul g g in
      let radicand = mul-le-mul_left (4 * (r₁ * r₁)) low in
      omega (arith, h)

  too_small : 2 * (A * 2 ^ 37 * 1411072) + 1411072 * 1411072 + 8 * (r₁ * r₁ * q) < 3 * (r₁ * r₂) * 2 ^ 74
  too_small =
      let a : r₁ * r₁ ≤ 20000 * (r₁ * r₂) = omega (arith, mul-le-mul_left r₁ M) in
      let b : r₁ * r₁ * q ≤ 20000 * (20001 * (r₁ * r₂)) * 2 ^ 37 =
      omega (arith, mul-le-mul_left (r₁ * r₁) top, mul-le-mul_right (r₁ * r₁) L₁, mul-le-mul_right (r₁ * r₂) L₁) in
      omega arith

  -- |X| / (2 √D), with the errors of numerator and distance, is at most r₁ - 2 ^ -33.
  pub inside : (A * 2 ^ 20 + 1) * 2 ^ 49 + q ≤ r₁ * 2 ^ 33 * q
  inside =
      le_of_suc-le-suc (lt_of_not-le (λ (l : r₁ * 2 ^ 33 * q < (A * 2 ^ 20 + 1) * 2 ^ 49 + q).
      lt_irrefl _ (lt_of_lt_of_le too_small (too_near (omega arith)))))
