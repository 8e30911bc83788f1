-- A point of a circle's edge, worked out from a centre of whole numbers, and its way back from that centre along one axis: within 2^-36 of what it is
-- exactly, r times the sine or the cosine. 2^-40 is `fine` units.
use mathlib.Core.Path.{◌≡◌, refl, ap}
use mathlib.Core.Logic.{◌⊎◌, inl, inr}
use Prim.Native.Nat.{ℕ, ◌+◌, ◌*◌, ◌≤◌, ◌<◌}
use native.Mathlib.Nat.{le_of_mul-le-mul_right}
use native.Mathlib.Omega.{arith}
use lib.IntN.{ℤ, pos, nat_abs}
use lib.Ieee.{Float, binary64, of_int, add, sub, mul}
use Rattle.binary64.specs.Units.{one, pow2, mag, plus, minus}
use Rattle.binary64.specs.Magnitude.{Most}
use Rattle.binary64.proofs.Error.{add_near, sub_near, mul_near}
use Rattle.binary64.proofs.Magnitude.{add_most, sub_most, mul_most}
use Rattle.binary64.proofs.Units.{one_pos, one_sided, plus_minus, pow2_split}
use Rattle.binary64.proofs.Whole.{of_int_most, of_int_pos}

abbrev pub fine : ℕ
fine = pow2 1034

-- two numbers p - n and r (P - N), of which each has one part, within h of each other: so are their sizes
sizes : (p n P N r h : ℕ) → (n ≡ 0) ⊎ (p ≡ 0) → (N ≡ 0) ⊎ (P ≡ 0) → p + r * N ≤ n + r * P + h → n + r * P ≤ p + r * N + h
    → (p + n ≤ r * (P + N) + h) × (r * (P + N) ≤ p + n + h)
sizes p n P N r h (inl a) (inl b) up down = let c = ap (λ (z : ℕ). r * z) b in omega arith
sizes p n P N r h (inl a) (inr b) up down = let c = ap (λ (z : ℕ). r * z) b in omega arith
sizes p n P N r h (inr a) (inl b) up down = let c = ap (λ (z : ℕ). r * z) b in omega arith
sizes p n P N r h (inr a) (inr b) up down = let c = ap (λ (z : ℕ). r * z) b in omega arith

sides : (x : Float) → (minus x ≡ 0) ⊎ (plus x ≡ 0)
sides x = go (one_sided x)
  where
    go : ((plus x ≡ mag x) × (minus x ≡ 0)) ⊎ ((plus x ≡ 0) × (minus x ≡ mag x)) → (minus x ≡ 0) ⊎ (plus x ≡ 0)
    go (inl e) = inl e.1
    go (inr e) = inr e.0

module _ (z : ℤ) (r : ℕ) (hz : nat_abs z ≤ 20000) (most : r ≤ 20000) (t : Float) (ht : Most 1 1074 t) where
  radius : Float
  radius = of_int binary64 (pos r)

  radius_most : Most 20000 1074 radius
  unfolding radius
  radius_most = of_int_most (pos r) (omega arith) most

  centre_most : Most 20000 1074 (of_int binary64 z)
  centre_most = of_int_most z (omega arith) hz

  way : Float
  way = mul binary64 radius t

  way_most : Most 20000 1074 way
  unfolding way
  way_most = mul_most radius_most ht 1074 refl (omega arith) (omega arith)

  place : Float
  place = add binary64 (of_int binary64 z) way

  place_most : Most 40000 1074 place
  unfolding place
  place_most = add_most centre_most way_most (omega arith) (omega arith)

  back : Float
  back = sub binary64 place (of_int binary64 z)

  back_most : Most 60000 1074 back
  unfolding back
  back_most = sub_most place_most centre_most (omega arith) (omega arith)

  -- each step in units of 2^-39
  way_near : (plus way + r * minus t ≤ minus way + r * plus t + pow2 1035) × (minus way + r * plus t ≤ plus way + r * minus t + pow2 1035)
  unfolding way radius
  way_near =
      let near = mul_near radius_most ht way_most.finite 1074 15 1035 refl (omega arith) refl in
      let parts = of_int_pos r (omega arith) in
      cancelled (plus way) (minus way) (plus t) (minus t) (plus radius) (minus radius) one (pow2 1035) parts.0 parts.1 near.over near.under one_pos
    where
      cancelled : (p n P N R M u h : ℕ) → R ≡ r * u → M ≡ 0 → p * u + (R * N + M * P) ≤ n * u + (R * P + M * N) + h * u
          → n * u + (R * P + M * N) ≤ p * u + (R * N + M * P) + h * u → 0 < u → (p + r * N ≤ n + r * P + h) × (n + r * P ≤ p + r * N + h)
      cancelled p n P N R M u h e f up down U =
          let a = ap (λ (k : ℕ). k * N) e in
          let b = ap (λ (k : ℕ). k * P) e in
          let c = ap (λ (k : ℕ). k * N) f in
          let d = ap (λ (k : ℕ). k * P) f in
          (le_of_mul-le-mul_right (omega (arith, up, a, b, c, d)) U, le_of_mul-le-mul_right (omega (arith, down, a, b, c, d)) U)

  back_near : (plus back + r * minus t ≤ minus back + r * plus t + 10 * fine) × (minus back + r * plus t ≤ plus back + r * minus t + 10 * fine)
  unfolding back place
  back_near =
      let there = add_near centre_most way_most place_most.finite 16 1036 (omega arith) refl in
      let again = sub_near place_most centre_most back_most.finite 16 1036 (omega arith) refl in
      let halves : pow2 1036 ≡ 4 * fine = pow2_split 2 1034 in
      let quarters : pow2 1035 ≡ 2 * fine = pow2_split 1 1034 in
      (omega (arith, there.over, again.over, way_near.0, halves, quarters), omega (arith, there.under, again.under, way_near.1, halves, quarters))

  -- the way back is r times t, within 10 × 2^-40
  pub back_size : (mag (sub binary64 (add binary64 (of_int binary64 z) (mul binary64 (of_int binary64 (pos r)) t)) (of_int binary64 z)) ≤ r * mag t + 10 * fine)
      × (r * mag t ≤ mag (sub binary64 (add binary64 (of_int binary64 z) (mul binary64 (of_int binary64 (pos r)) t)) (of_int binary64 z)) + 10 * fine)
  unfolding back place way radius
  back_size =
      let both = sizes (plus back) (minus back) (plus t) (minus t) r (10 * fine) (sides back) (sides t) back_near.0 back_near.1 in
      let own = plus_minus back in
      let times = ap (λ (k : ℕ). r * k) (plus_minus t) in
      (omega (arith, both.0, own, times), omega (arith, both.1, own, times))

  pub back_finite : Most 60000 1074 (sub binary64 (add binary64 (of_int binary64 z) (mul binary64 (of_int binary64 (pos r)) t)) (of_int binary64 z))
  unfolding back place way radius
  back_finite = back_most
