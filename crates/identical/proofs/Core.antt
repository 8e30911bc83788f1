-- The sum of two squares against r², over whole numbers of units: what rounding and the errors of sine and cosine leave. u is 1, w is 2^-40.
use mathlib.Core.Path.{◌≡◌, ap}
use Prim.Native.Nat.{ℕ, zero, suc, ◌+◌, ◌*◌, ◌^◌, ◌≤◌, ◌<◌}
use native.Mathlib.Nat.{mul-le-mul, mul-le-mul_left, mul-le-mul_right, le_of_mul-le-mul_right}
use native.Mathlib.Omega.{arith}

module _ (u w : ℕ) (unit : u ≡ 2 ^ 40 * w) where
  -- A is at most r u, and P within 10 w of it: so are their squares, within (20 r + 1) u w
  square_near : (P A r : ℕ) → P ≤ A + 10 * w → A ≤ P + 10 * w → A ≤ r * u
      → (P * P ≤ A * A + (20 * r + 1) * (u * w)) × (A * A ≤ P * P + (20 * r + 1) * (u * w))
  square_near P A r up down l =
      let small : 300 * (w * w) ≤ u * w = omega (arith, ap (λ (z : ℕ). z * w) unit) in
      let size = mul-le-mul_right w l in
      (omega (arith, mul-le-mul up up, small, size), omega (arith, mul-le-mul down down, mul-le-mul_right w up, small, size))

  -- the squares of sine and cosine, m and n, add up to 1 within 7 w
  sum_near : (s : ℕ) → s * 2 ^ 40 ≤ u * u * (2 ^ 40 + 7) → u * u * 2 ^ 40 ≤ s * 2 ^ 40 + u * u * 7
      → (s ≤ u * u + 7 * (u * w)) × (u * u ≤ s + 7 * (u * w))
  sum_near s up down = let e : u * u ≡ u * w * 2 ^ 40 = omega (arith, ap (λ (z : ℕ). u * z) unit) in (omega (arith, up, e), omega (arith, down, e))

  -- z is what is worked out for P² + Q², in units: two products and a sum, rounded
  module _ (r m n P Q a b z : ℕ) (hm : m ≤ u) (hn : n ≤ u)
      (p : (P ≤ r * m + 10 * w) × (r * m ≤ P + 10 * w)) (q : (Q ≤ r * n + 10 * w) × (r * n ≤ Q + 10 * w))
      (s : ((m * m + n * n) * 2 ^ 40 ≤ u * u * (2 ^ 40 + 7)) × (u * u * 2 ^ 40 ≤ (m * m + n * n) * 2 ^ 40 + u * u * 7))
      (ha : (a * u ≤ P * P + 2 ^ 15 * w * u) × (P * P ≤ a * u + 2 ^ 15 * w * u))
      (hb : (b * u ≤ Q * Q + 2 ^ 15 * w * u) × (Q * Q ≤ b * u + 2 ^ 15 * w * u))
      (hz : (z ≤ a + b + 2 ^ 16 * w) × (a + b ≤ z + 2 ^ 16 * w)) (U : 0 < u) where
    PP : (P * P ≤ r * m * (r * m) + (20 * r + 1) * (u * w)) × (r * m * (r * m) ≤ P * P + (20 * r + 1) * (u * w))
    PP = square_near P (r * m) r p.0 p.1 (mul-le-mul_left r hm)

    QQ : (Q * Q ≤ r * n * (r * n) + (20 * r + 1) * (u * w)) × (r * n * (r * n) ≤ Q * Q + (20 * r + 1) * (u * w))
    QQ = square_near Q (r * n) r q.0 q.1 (mul-le-mul_left r hn)

    one_near : (r * r * (m * m + n * n) ≤ r * r * (u * u) + 7 * (r * r) * (u * w)) × (r * r * (u * u) ≤ r * r * (m * m + n * n) + 7 * (r * r) * (u * w))
    one_near =
        let near = sum_near (m * m + n * n) s.0 s.1 in
        (omega (arith, mul-le-mul_left (r * r) near.0), omega (arith, mul-le-mul_left (r * r) near.1))

    -- z is r² within (7 r² + 40 r + 131074) w
    pub within : (z ≤ r * r * u + (7 * (r * r) + 40 * r + 131074) * w) × (r * r * u ≤ z + (7 * (r * r) + 40 * r + 131074) * w)
    within = (
      le_of_mul-le-mul_right (omega (arith, mul-le-mul_right u hz.0, ha.0, hb.0, PP.0, QQ.0, one_near.0)) U,
      le_of_mul-le-mul_right (omega (arith, mul-le-mul_right u hz.1, ha.1, hb.1, PP.1, QQ.1, one_near.1)) U,
    )

-- (r - 1) (20000 - r) is not below zero
parabola : (r : ℕ) → 1 ≤ r → r ≤ 20000 → r * r + 20000 ≤ 20001 * r
parabola zero h l = absurd (omega arith)
parabola (suc k) h l = let g = mul-le-mul_right k l in omega (arith, g)

-- the quotient by r², v: within 219902 w / r of 1
module _ (u w r z v : ℕ) (h : 1 ≤ r) (l : r ≤ 20000)
    (near : (z ≤ r * r * u + (7 * (r * r) + 40 * r + 131074) * w) × (r * r * u ≤ z + (7 * (r * r) + 40 * r + 131074) * w))
    (rounded : (v * (r * r) ≤ z + w * (r * r)) × (z ≤ v * (r * r) + w * (r * r))) where
  few : 8 * (r * r) + 40 * r + 131074 ≤ 219902 * r
  few = omega (arith, parabola r h l)

  -- d is how far v lies above 1, or below it
  pub above : (d : ℕ) → v ≡ u + d → d * r ≤ 219902 * w
  above d e =
      le_of_mul-le-mul_right {k = r}
      (omega (arith, near.0, rounded.0, ap (λ (k : ℕ). k * (r * r)) e, mul-le-mul_right w few)) h

  pub below : (d : ℕ) → u ≡ v + d → d * r ≤ 219902 * w
  below d e =
      le_of_mul-le-mul_right {k = r}
      (omega (arith, near.1, rounded.1, ap (λ (k : ℕ). k * (r * r)) e, mul-le-mul_right w few)) h
