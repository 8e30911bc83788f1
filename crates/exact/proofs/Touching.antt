-- Two circles that touch, so that their distance is the whole number n: every step is exact. The foot of the chord is
-- the point of touch, r₁ from the first centre, nothing is left across, and both points are equal. Rests on Squares and
-- Coordinates.
use mathlib.Core.Path.{◌≡◌, refl, sym, ap, ap₂, ◌∙◌}
use mathlib.Core.Logic.{◌⊎◌, inl, inr}
use mathlib.Core.Bool.{Bool, true, false}
use Prim.Native.Nat.{ℕ, ◌+◌, ◌-◌, ◌*◌, ◌^◌, ◌≤◌, ◌<◌}
use native.Mathlib.Nat.{le_refl, le_of_eq, mul-pos, mul-le-mul, mul-le-mul_right}
use native.Mathlib.Omega.{arith}
use lib.Ieee.{Float, binary64, add, sub, mul, eq, unlike}
use Rattle.binary64.specs.Units.{one, mag, negative, plus, minus}
use Rattle.std.proofs.lemmas.Bool.{cases_lt}
use Rattle.binary64.specs.Rounding.{rnd}
use Rattle.binary64.specs.Magnitude.{Most}
use Rattle.binary64.proofs.Units.{one_pos, plus_minus, plus_sign, minus_sign, eq_of_units}
use Rattle.binary64.proofs.Rounding.{rnd_exact}
use Rattle.binary64.proofs.Operations.{add_result, sub_result, result_rounded, mul_mag, div_mag, div_sign}
use Rattle.binary64.proofs.Magnitude.{bound_digits, bound_limit, add_most, sub_most}
use Rattle.binary64.proofs.Whole.{mul_of_int_pos}
use Rattle.elementary.proofs.root.Values.{root_finite}
use Rattle.elementary.proofs.root.Squares.{at_most}
use Rattle.binary64.specs.Constants.{two64}
use Rattle.exact.proofs.Distance.{Is, whole_is, is_mag}
use Rattle.exact.proofs.Steps.{float, two_is, difference, along, rest}
use Rattle.exact.proofs.Steps.{across, Exact, exact, square_is, square_parts, difference_exact}
use Rattle.exact.proofs.Coordinates.{product_most, quotient_most}

module _ (r₁ r₂ n : ℕ) (L₁ : r₁ ≤ 20000) (L₂ : r₂ ≤ 20000) (N : 1 ≤ n) (M : n ≤ 40000)
    (touch : (r₁ * r₁ + n * n ≡ r₂ * r₂ + 2 * (r₁ * n)) ⊎ (r₂ * r₂ ≡ r₁ * r₁ + n * n + 2 * (r₁ * n))) where
  -- n² and 2 n
  d_squared : Is (mul binary64 (float n) (float n)) (n * n)
  d_squared = rw (mul_of_int_pos n n (omega arith) (omega arith)) (whole_is (n * n) (omega (arith, mul-le-mul M M)))

  d_twice : Is (mul binary64 two64 (float n)) (2 * n)
  d_twice = rw (two_is, mul_of_int_pos 2 n (omega arith) (omega arith)) (whole_is (2 * n) (omega arith))

  d_twice_pos : 0 < mag (mul binary64 two64 (float n))
  d_twice_pos = let p : 0 < 2 * n = omega arith in rw (is_mag d_twice) (mul-pos p one_pos)

  -- r₁² - r₂² + n² is 2 r₁ n or -2 r₁ n
  abbrev numerator : Float
  numerator = add binary64 (difference r₁ r₂) (mul binary64 (float n) (float n))

  abbrev up : ℕ
  up = plus (difference r₁ r₂) + plus (mul binary64 (float n) (float n))

  abbrev down : ℕ
  down = minus (difference r₁ r₂) + minus (mul binary64 (float n) (float n))

  numerator_parts : (up ≡ down + 2 * (r₁ * n) * one) ⊎ (down ≡ up + 2 * (r₁ * n) * one)
  numerator_parts = go touch
    where
      go : (r₁ * r₁ + n * n ≡ r₂ * r₂ + 2 * (r₁ * n)) ⊎ (r₂ * r₂ ≡ r₁ * r₁ + n * n + 2 * (r₁ * n))
          → (up ≡ down + 2 * (r₁ * n) * one) ⊎ (down ≡ up + 2 * (r₁ * n) * one)
      go (inl e) =
          inl (omega
          (arith, ap (λ (k : ℕ). k * one) e, (difference_exact r₁ r₂ L₁ L₂).parts, d_squared.up, d_squared.down))
      go (inr e) =
          inr (omega
          (arith, ap (λ (k : ℕ). k * one) e, (difference_exact r₁ r₂ L₁ L₂).parts, d_squared.up, d_squared.down))

  few : 2 * (r₁ * n) ≤ 2 ^ 53
  few = omega (arith, mul-le-mul L₁ M)

  numerator_exact : Exact numerator up down (2 * (r₁ * n) * one)
  numerator_exact =
      exact (add_result (difference_exact r₁ r₂ L₁ L₂).finite d_squared.finite) (bound_digits 1074 few)
      (bound_limit few (omega arith)) numerator_parts

  -- over 2 n that is r₁ or -r₁
  quotient : mag numerator * one ≡ r₁ * one * mag (mul binary64 two64 (float n))
  quotient = rw (numerator_exact.size, is_mag d_twice) (omega arith)

  -- the foot's distance along, and its size
  pub along_most : Most r₁ 1074 (along r₁ r₂ (float n))
  along_most =
      quotient_most numerator_exact.finite d_twice.finite (omega arith) (omega arith) d_twice_pos (le_of_eq quotient)

  pub along_mag : mag (along r₁ r₂ (float n)) ≡ r₁ * one
  along_mag =
      div_mag numerator_exact.finite d_twice.finite d_twice_pos along_most.finite
      ∙ ap (λ (k : ℕ). rnd k (mag (mul binary64 two64 (float n)))) quotient
      ∙ rnd_exact (r₁ * one) (mag (mul binary64 two64 (float n))) d_twice_pos (bound_digits 1074 (omega arith))

  -- its sign: ahead, where the second centre lies not at the point of touch, or behind
  pub along_side : 1 ≤ r₁ → 1 ≤ r₂
      → ((negative (along r₁ r₂ (float n)) ≡ false) × ((r₁ < n) ⊎ (n < r₁))) ⊎ (negative (along r₁ r₂ (float n)) ≡ true)
  along_side P₁ P₂ = go touch
    where
      some : 0 < 2 * (r₁ * n) * one
      some = mul-pos (omega (arith, mul-le-mul P₁ N)) one_pos

      by_numerator : (s : Bool) → negative numerator ≡ s → negative (along r₁ r₂ (float n)) ≡ s
      by_numerator s e =
          div_sign numerator_exact.finite d_twice.finite d_twice_pos along_most.finite
          ∙ ap₂ unlike e
          (plus_sign (mul binary64 two64 (float n)) (omega (arith, d_twice.up, mul-le-mul_right one N, one_pos)))
          ∙ plain s
        where
          plain : (b : Bool) → unlike b false ≡ b
          plain true = refl
          plain false = refl

      other : r₁ * r₁ + n * n ≡ r₂ * r₂ + 2 * (r₁ * n) → (r₁ < n) ⊎ (n ≤ r₁) → (r₁ < n) ⊎ (n < r₁)
      other e (inl l) = inl l
      other e (inr l) = by (cases_lt n r₁)
        where
          by : (n < r₁) ⊎ (r₁ ≤ n) → (r₁ < n) ⊎ (n < r₁)
          by (inl k) = inr k
          by (inr k) =
              let same : n ≡ r₁ = omega arith in
              absurd (omega (arith, mul-le-mul P₂ P₂, ap (λ (i : ℕ). i * i) same, ap (λ (i : ℕ). r₁ * i) same))

      go : (r₁ * r₁ + n * n ≡ r₂ * r₂ + 2 * (r₁ * n)) ⊎ (r₂ * r₂ ≡ r₁ * r₁ + n * n + 2 * (r₁ * n))
          → ((negative (along r₁ r₂ (float n)) ≡ false) × ((r₁ < n) ⊎ (n < r₁)))
          ⊎ (negative (along r₁ r₂ (float n)) ≡ true)
      go (inl e) =
          let p : up ≡ down + 2 * (r₁ * n) * one =
          omega (arith, ap (λ (k : ℕ). k * one) e, (difference_exact r₁ r₂ L₁ L₂).parts, d_squared.up, d_squared.down)
          in
          inl (
            by_numerator false (plus_sign numerator (omega (arith, numerator_exact.parts, p, some))),
            other e
                (cases_lt r₁ n),
          )
      go (inr e) =
          let p : down ≡ up + 2 * (r₁ * n) * one =
          omega (arith, ap (λ (k : ℕ). k * one) e, (difference_exact r₁ r₂ L₁ L₂).parts, d_squared.up, d_squared.down)
          in
          inr (by_numerator true (minus_sign numerator (omega (arith, numerator_exact.parts, p, some))))

  -- its square is r₁², and nothing is left
  abbrev squared : Float
  squared = mul binary64 (along r₁ r₂ (float n)) (along r₁ r₂ (float n))

  squared_most : Most (r₁ * r₁) 1074 squared
  squared_most =
      product_most along_most.finite along_most.finite (omega (arith, mul-le-mul L₁ L₁)) (omega arith)
      (rw along_mag (omega arith))

  squared_is : Is squared (r₁ * r₁)
  squared_is =
      let p = square_parts along_most.finite squared_most.finite in
      record {
        finite = squared_most.finite;
        up =
            p.0 ∙ mul_mag along_most.finite along_most.finite squared_most.finite
            ∙ ap (λ (k : ℕ). rnd (k * k) one) along_mag ∙ ap (λ (k : ℕ). rnd k one) (omega arith)
            ∙ rnd_exact (r₁ * r₁ * one) one one_pos (bound_digits 1074 (omega (arith, mul-le-mul L₁ L₁)));
        down = p.1;
      }

  abbrev nothing : Float
  nothing = rest r₁ (along r₁ r₂ (float n))

  nothing_exact : Exact nothing (r₁ * r₁ * one + 0) (0 + r₁ * r₁ * one) (0 * one)
  nothing_exact =
      let a = square_is r₁ L₁ in
      exact (rw (a.up, a.down, squared_is.up, squared_is.down) at (sub_result a.finite squared_is.finite))
      (bound_digits 1074 (omega arith)) (bound_limit {j = 0} (omega arith) (omega arith)) (inl (omega arith))

  -- so its root is a zero
  pub across_none : Most 0 1074 (across r₁ (along r₁ r₂ (float n)))
  across_none = record {
    finite = root_finite nothing nothing_exact.finite.fit;
    bound =
        at_most nothing_exact.finite (omega (arith, plus_minus nothing, nothing_exact.size)) (0 * one)
        (bound_digits 1074 (omega arith)) (rw nothing_exact.size (omega arith));
  }

-- ---- both points are equal

-- x + z and x - z are the same number, where z is a zero
pub same_side : {x z : Float} {j : ℕ} → Most j 1074 x → Most 0 1074 z → j ≤ 2 ^ 53
    → eq (add binary64 x z) (sub binary64 x z) ≡ true
same_side {x} {z} X Z J =
    let a = (add_most X Z (omega arith) (omega arith)).finite in
    let s = (sub_most X Z (omega arith) (omega arith)).finite in
    let p : plus z ≡ 0 = omega (arith, plus_minus z, Z.bound) in
    let m : minus z ≡ 0 = omega (arith, plus_minus z, Z.bound) in
    let A = result_rounded (le_refl 1) (add_result X.finite Z.finite) a in
    let S = result_rounded (le_refl 1) (sub_result X.finite Z.finite) s in
    let up : plus (add binary64 x z) ≡ plus (sub binary64 x z) =
    A.up ∙ ap₂ (λ (i j : ℕ). rnd ((plus x + i) - (minus x + j)) 1) (p ∙ sym m) (m ∙ sym p) ∙ sym S.up in
    let down : minus (add binary64 x z) ≡ minus (sub binary64 x z) =
    A.down ∙ ap₂ (λ (i j : ℕ). rnd ((minus x + j) - (plus x + i)) 1) (p ∙ sym m) (m ∙ sym p) ∙ sym S.down in
    eq_of_units a s (ap₂ (λ (i j : ℕ). i + j) up (sym down))
