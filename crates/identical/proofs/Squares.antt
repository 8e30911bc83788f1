-- The squares of sine and cosine add up to nearly 1, from their promises alone: each is within 2^-40 of its 40-term sum, and the squares of these
-- sums add up to 1 within 2^-48.
use mathlib.Core.Path.{◌≡◌, refl, sym, ap, ap₂, ◌∙◌, subst₂}
use Prim.Native.Nat.{ℕ, ◌+◌, ◌*◌, ◌^◌, ◌≤◌, ◌<◌}
use native.Mathlib.Nat.{one-mul, one-le-pow, le_trans, le_of_eq, mul-pos, mul-le-mul_left, mul-le-mul_right}
use native.Mathlib.Nat.{le_of_mul-le-mul_right}
use native.Mathlib.Omega.{arith}
use lib.Dec.{leb→le}
use lib.IntN.{ℤ, pos, nat_abs, ◌*ℤ◌, ◌-ℤ◌}
use lib.Ieee.{Float}
use Rattle.binary64.specs.Units.{one, Finite, mag, negative}
use Rattle.binary64.proofs.Units.{one_pos}
use Rattle.series.specs.Fraction.{Fraction, Within, exact}
use Rattle.series.specs.Taylor.{factorial, sin40, cos40}
use Rattle.series.proofs.Integers.{abs_mul, dist, dist_comm, size_near}
use Rattle.series.proofs.Polynomial.{hval}
use Rattle.series.proofs.Sums.{sin79, cos79, scale, sin40_value, cos40_value}
use Rattle.elementary.specs.Sine.{sine, cosine}
use Rattle.elementary.specs.SinePromise.{Domain}
use Rattle.elementary.proofs.arctangent.Fractions.{sin40_proper, cos40_proper, exact_proper, signed_size, units, exact_units}
use Rattle.elementary.proofs.sine.Promise.{sine_promise, cosine_promise}
use Rattle.identical.specs.Squares.{SquaresNearOne}
use Rattle.identical.proofs.Sums.{sums_near}

-- ---- a float beside a fraction

-- |x| in units, as the fraction has it
in_units : {x : Float} → Finite x → mag x * (exact x).den ≡ nat_abs (exact x).num * one
in_units {x} f =
    ap (λ (k : ℕ). k * (exact x).den) (sym (signed_size (negative x) (mag x))) ∙ sym (abs_mul (units x) (pos (exact x).den))
    ∙ ap nat_abs (exact_units f) ∙ abs_mul (exact x).num (pos one)

-- f is A / E, and the float s within 2^-40 of it: so are their sizes.
close_sizes : (f : Fraction) (A : ℤ) (E : ℕ) (s : Float) → Finite s → 0 < f.den → f.num *ℤ pos E ≡ A *ℤ pos f.den → Within f (exact s) 1 (2 ^ 40)
    → (nat_abs A * one * 2 ^ 40 ≤ mag s * E * 2 ^ 40 + E * one) × (mag s * E * 2 ^ 40 ≤ nat_abs A * one * 2 ^ 40 + E * one)
unfolding dist
close_sizes f A E s fin proper is w =
    crossed (nat_abs f.num) f.den (nat_abs (exact s).num) (exact s).den (nat_abs A) E (mag s) one (2 ^ 40) proper (exact_proper s)
    (sym (abs_mul f.num (pos E)) ∙ ap nat_abs is ∙ abs_mul A (pos f.den)) (in_units fin)
    (nat_abs (f.num *ℤ pos (exact s).den -ℤ (exact s).num *ℤ pos f.den))
    (le_trans (le_of_eq (sym (abs_mul f.num (pos (exact s).den))))
    (le_trans (size_near (f.num *ℤ pos (exact s).den) ((exact s).num *ℤ pos f.den))
    (le_of_eq (ap (λ (k : ℕ). k + dist (f.num *ℤ pos (exact s).den) ((exact s).num *ℤ pos f.den)) (abs_mul (exact s).num (pos f.den))))))
    (le_trans (le_of_eq (sym (abs_mul (exact s).num (pos f.den))))
    (le_trans (size_near ((exact s).num *ℤ pos f.den) (f.num *ℤ pos (exact s).den))
    (le_of_eq (ap₂ (λ (k d : ℕ). k + d) (abs_mul f.num (pos (exact s).den)) (dist_comm ((exact s).num *ℤ pos f.den) (f.num *ℤ pos (exact s).den))))))
    w
  where
    crossed : (p d g e a E m u K : ℕ) → 0 < d → 0 < e → p * E ≡ a * d → m * e ≡ g * u
        → (w : ℕ) → p * e ≤ g * d + w → g * d ≤ p * e + w → w * K ≤ 1 * (d * e)
        → (a * u * K ≤ m * E * K + E * u) × (m * E * K ≤ a * u * K + E * u)
    crossed p d g e a E m u K D G i j w up down l =
        let top = mul-le-mul_right (E * u * K) up in
        let low = mul-le-mul_right (E * u * K) down in
        let rest = mul-le-mul_right (E * u) l in
        let first = ap (λ (z : ℕ). z * (u * e * K)) i in
        let second = ap (λ (z : ℕ). z * (E * d * K)) j in
        let over : a * u * K ≤ m * E * K + E * u = le_of_mul-le-mul_right (omega (arith, top, rest, first, second)) (mul-pos D G) in
        (over, le_of_mul-le-mul_right (omega (arith, low, rest, first, second)) (mul-pos D G))

-- ---- squares

near_square : (X Y P K : ℕ) → 1 ≤ K → X * K ≤ Y * K + P → Y * K ≤ X * K + P → X ≤ P
    → (X * X * K ≤ Y * Y * K + 3 * (P * P)) × (Y * Y * K ≤ X * X * K + 3 * (P * P))
near_square X Y P K k up down l =
    let near : Y ≤ X + P = le_of_mul-le-mul_right (omega (arith, down, mul-le-mul_left P k)) k in
    let x = mul-le-mul_right P l in
    let y = mul-le-mul_right P near in
    (omega (arith, mul-le-mul_left X up, mul-le-mul_left Y up, x, y), omega (arith, mul-le-mul_left X down, mul-le-mul_left Y down, x, y))

-- an angle of the domain, as the fraction has it
up_to_16 : (v : Float) → Domain v → nat_abs (exact v).num ≤ 16 * (exact v).den
up_to_16 v d = le_of_mul-le-mul_right (le_trans (le_of_eq (sym (in_units d.finite))) (widened (mag v) (exact v).den one d.bound)) one_pos
  where
    widened : (m e u : ℕ) → m ≤ 16 * u → m * e ≤ 16 * e * u
    widened m e u h = omega (arith, mul-le-mul_right e h)

scale_pos : 0 < scale
unfolding factorial
scale_pos = leb→le 1 scale tt

-- m / u is within 2^-40 of a / E
abbrev Beside : ℕ → ℕ → ℕ → ℕ → Type 0
Beside a m E u = (a * u * 2 ^ 40 ≤ m * E * 2 ^ 40 + E * u) × (m * E * 2 ^ 40 ≤ a * u * 2 ^ 40 + E * u)

-- the squares of two such fractions
together : (m n a b E u : ℕ) → 0 < E → Beside a m E u → Beside b n E u → m ≤ u → n ≤ u
    → ((a * a + b * b) * 2 ^ 48 ≤ E * E * 2 ^ 48 + E * E) × (E * E * 2 ^ 48 ≤ (a * a + b * b) * 2 ^ 48 + E * E)
    → ((m * m + n * n) * 2 ^ 40 ≤ u * u * (2 ^ 40 + 7)) × (u * u * 2 ^ 40 ≤ (m * m + n * n) * 2 ^ 40 + u * u * 7)
together m n a b E u pos-E s c hm hn sum =
    let S = near_square (m * E) (a * u) (E * u) (2 ^ 40) (omega arith) s.1 s.0 (omega (arith, mul-le-mul_right E hm)) in
    let C = near_square (n * E) (b * u) (E * u) (2 ^ 40) (omega arith) c.1 c.0 (omega (arith, mul-le-mul_right E hn)) in
    let Q = E * u * (E * u) in
    let Y = a * u * (a * u) + b * u * (b * u) in
    let over : Y * 2 ^ 48 ≤ Q * 2 ^ 48 + Q = subst₂ ◌≤◌ (spread a b u (2 ^ 48)) (square E u (2 ^ 48)) (mul-le-mul_right (u * u) sum.0) in
    let under : Q * 2 ^ 48 ≤ Y * 2 ^ 48 + Q = subst₂ ◌≤◌ (spread_one E u (2 ^ 48)) (spread_more a b E u (2 ^ 48)) (mul-le-mul_right (u * u) sum.1) in (
      le_of_mul-le-mul_right
          (subst₂ ◌≤◌ (sym (spread m n E (2 ^ 40))) (sym (target E u))
          (all_most (m * E * (m * E)) (n * E * (n * E)) (a * u * (a * u)) (b * u * (b * u)) Q S.0 C.0 (coarser Y Q over)))
          (mul-pos pos-E pos-E),
      le_of_mul-le-mul_right
          (subst₂ ◌≤◌ (sym (spread_one u E (2 ^ 40) ∙ ap (λ (z : ℕ). z * 2 ^ 40) (turned u E))) (sym (target_more m n E u))
          (all_least (m * E * (m * E)) (n * E * (n * E)) (a * u * (a * u)) (b * u * (b * u)) Q S.1 C.1 (coarser_back Y Q under)))
          (mul-pos pos-E pos-E),
    )
  where
    spread : (a b u K : ℕ) → (a * a + b * b) * K * (u * u) ≡ (a * u * (a * u) + b * u * (b * u)) * K
    spread a b u K = omega arith

    square : (E u K : ℕ) → (E * E * K + E * E) * (u * u) ≡ E * u * (E * u) * K + E * u * (E * u)
    square E u K = omega arith

    spread_one : (E u K : ℕ) → E * E * K * (u * u) ≡ E * u * (E * u) * K
    spread_one E u K = omega arith

    spread_more : (a b E u K : ℕ) → ((a * a + b * b) * K + E * E) * (u * u) ≡ (a * u * (a * u) + b * u * (b * u)) * K + E * u * (E * u)
    spread_more a b E u K = omega arith

    turned : (u E : ℕ) → u * E * (u * E) ≡ E * u * (E * u)
    turned u E = omega arith

    target : (E u : ℕ) → u * u * (2 ^ 40 + 7) * (E * E) ≡ E * u * (E * u) * (2 ^ 40 + 7)
    target E u = omega arith

    target_more : (m n E u : ℕ) → ((m * m + n * n) * 2 ^ 40 + u * u * 7) * (E * E) ≡ (m * E * (m * E) + n * E * (n * E)) * 2 ^ 40 + E * u * (E * u) * 7
    target_more m n E u = omega arith

    coarser : (Y Q : ℕ) → Y * 2 ^ 48 ≤ Q * 2 ^ 48 + Q → Y * 2 ^ 40 ≤ Q * 2 ^ 40 + Q
    coarser Y Q h = omega (arith, h)

    coarser_back : (Y Q : ℕ) → Q * 2 ^ 48 ≤ Y * 2 ^ 48 + Q → Q * 2 ^ 40 ≤ Y * 2 ^ 40 + Q
    coarser_back Y Q h = omega (arith, h)

    all_most : (S C s c Q : ℕ) → S * 2 ^ 40 ≤ s * 2 ^ 40 + 3 * Q → C * 2 ^ 40 ≤ c * 2 ^ 40 + 3 * Q → (s + c) * 2 ^ 40 ≤ Q * 2 ^ 40 + Q
        → (S + C) * 2 ^ 40 ≤ Q * (2 ^ 40 + 7)
    all_most S C s c Q h k l = omega (arith, h, k, l)

    all_least : (S C s c Q : ℕ) → s * 2 ^ 40 ≤ S * 2 ^ 40 + 3 * Q → c * 2 ^ 40 ≤ C * 2 ^ 40 + 3 * Q → Q * 2 ^ 40 ≤ (s + c) * 2 ^ 40 + Q
        → Q * 2 ^ 40 ≤ (S + C) * 2 ^ 40 + Q * 7
    all_least S C s c Q h k l = omega (arith, h, k, l)

pub squares_near_one : SquaresNearOne
squares_near_one v d =
    let F = exact v in
    let E = scale * F.den ^ 80 in
    let A = hval sin79 F.num F.den in
    let B = hval cos79 F.num F.den in
    let sines = close_sizes (sin40 F) A E (sine v) (sine_promise.size v).finite (sin40_proper F (exact_proper v)) (sin40_value F) (sine_promise.close v d) in
    let cosines =
    close_sizes (cos40 F) B E (cosine v) (cosine_promise.size v).finite (cos40_proper F (exact_proper v)) (cos40_value F) (cosine_promise.close v d) in
    let both =
    together (mag (sine v)) (mag (cosine v)) (nat_abs A) (nat_abs B) E one (mul-pos scale_pos (one-le-pow 80 F.den (exact_proper v))) sines cosines
    (le_trans (sine_promise.size v).bound (le_of_eq (one-mul one))) (le_trans (cosine_promise.size v).bound (le_of_eq (one-mul one)))
    (sums_near F.num F.den (up_to_16 v d) (nat_abs A) (nat_abs B) E refl refl refl) in
    record { most = both.0; least = both.1 }
