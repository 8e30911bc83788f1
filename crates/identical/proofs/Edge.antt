-- A point of the edge of a circle of whole numbers, worked out at an angle of the domain, counts as on that edge: the implicit form differs from 1 by at
-- most the tolerance.
use mathlib.Core.Path.{◌≡◌, refl, sym, ap, ap₂, ◌∙◌, subst}
use mathlib.Core.Bool.{Bool, true, false, cond}
use mathlib.Core.Logic.{◌⊎◌, inl, inr}
use Prim.Native.Nat.{ℕ, ◌+◌, ◌-◌, ◌*◌, ◌^◌, ◌≤◌, ◌<◌}
use native.Mathlib.Nat.{le_refl, le_trans, le_of_eq, lt_of_lt_of_le, one-mul, mul-pos, mul-le-mul, mul-le-mul_right, le_of_mul-le-mul_right}
use native.Mathlib.Omega.{arith}
use lib.Dec.{leb→le}
use lib.IntN.{ℤ, pos, nat_abs}
use lib.Ieee.{Float, nan, inf, fin, binary64, of_int, of_bits, mul, lt, round, is_nan, unlike}
use borrow.Author.Tests.{le-leb}
use Rattle.binary64.specs.Constants.{one64}
use Rattle.binary64.specs.Floats.{◌+ᶠ◌, ◌-ᶠ◌, ◌*ᶠ◌, ◌/ᶠ◌, ◌≤ᶠ◌}
use Rattle.binary64.specs.Functions.{absolute, larger_of}
use Rattle.binary64.specs.Magnitude.{Most}
use Rattle.binary64.specs.Rounding.{rnd, Rounded}
use Rattle.binary64.specs.Units.{one, pow2, Finite, mag, negative, plus, minus}
use Rattle.binary64.proofs.Constants.{one64_most}
use Rattle.binary64.proofs.Error.{add_near}
use Rattle.binary64.proofs.Functions.{absolute_test, larger_is}
use Rattle.binary64.proofs.Magnitude.{most_weaken, add_most, sub_most, mul_most, div_most}
use Rattle.std.proofs.lemmas.Bool.{cases_lt}
use Rattle.binary64.proofs.Operations.{add_result, sub_result, result_rounded, mul_mag, mul_sign, div_mag, div_sign}
use Rattle.binary64.proofs.Rounding.{rnd_near, rnd_mono, minus_none, rnd_zero}
use Rattle.binary64.proofs.Units.{one_pos, pow2_pos, pow2_mono, pow2_split, plus_is, plus_minus, plus_sign, units_of_lt}
use Rattle.binary64.proofs.Whole.{of_int_finite, of_int_mag, of_int_sign, of_int_least, square_of_int}
use Rattle.elementary.specs.Sine.{sine, cosine}
use Rattle.elementary.specs.SinePromise.{Domain}
use Rattle.elementary.proofs.sine.Promise.{sine_promise, cosine_promise}
use Rattle.geometry.specs.Point.{squared_distance}
use Rattle.geometry.specs.Tolerances.{coincidence_share}
use Rattle.boundary.specs.Identical.{whole_circle}
use Rattle.boundary.specs.Outline.{implicit_value, tolerance, point_at}
use Rattle.boundary.proofs.Identical.{share, share_most, quotient_most, quotient_sign, least_share, tolerance_most, tolerance_sign, radius_mag, one_finite, one_plus}
use Rattle.identical.proofs.Axis.{fine, back_size, back_finite}
use Rattle.identical.proofs.Core.{within, above, below}
use Rattle.identical.proofs.Squares.{squares_near_one}

-- ---- a square

alike : (s : Bool) → unlike s s ≡ false
alike true = refl
alike false = refl

square_most : {d : Float} → Most 20001 1074 d → Most (2 ^ 29) 1074 (mul binary64 d d)
square_most m = most_weaken (mul_most m m 1074 refl (omega arith) (omega arith)) (omega arith)

square_parts : {d : Float} → Most 20001 1074 d → (plus (mul binary64 d d) ≡ mag (mul binary64 d d)) × (minus (mul binary64 d d) ≡ 0)
square_parts {d} m = plus_is (mul binary64 d d) (mul_sign m.finite m.finite (square_most m).finite ∙ alike (negative d))

square_near : {d : Float} → Most 20001 1074 d
    → (mag (mul binary64 d d) * one ≤ mag d * mag d + 2 ^ 15 * fine * one) × (mag d * mag d ≤ mag (mul binary64 d d) * one + 2 ^ 15 * fine * one)
square_near {d} m =
    let is = mul_mag m.finite m.finite (square_most m).finite in
    let ulp : pow2 1049 ≡ 2 ^ 15 * fine = pow2_split 15 1034 in
    let unit : one ≡ 2 ^ 25 * pow2 1049 = pow2_split 25 1049 in
    let near = rnd_near (mag d * mag d) one 1049 one_pos (bounded (mag d) one (pow2 1049) unit m.bound) in
    rw (is, ← ulp) near
  where
    bounded : (k u h : ℕ) → u ≡ 2 ^ 25 * h → k ≤ 20001 * u → k * k ≤ 2 ^ 54 * h * u
    bounded k u h e l = omega (arith, mul-le-mul l l, ap (λ (z : ℕ). z * u) e)

-- ---- the tolerance

-- twice the distance at which edges coincide is at least 219902 × 2^-40
share_least : 219902 * fine ≤ mag share
unfolding mul round of_bits mag pow2
share_least = leb→le (219902 * fine) (mag share) tt

number : {x : Float} → Finite x → is_nan x ≡ false
unfolding is_nan
number {x = nan} h = absurd h.number
number {x = inf s} h = refl
number {x = fin s m e} h = refl

-- the larger of two is at least the first
larger_least : (a b : Float) → Finite a → Finite b → negative a ≡ false → negative b ≡ false → mag a ≤ mag (larger_of a b)
larger_least a b fa fb na nb = subst (λ (z : Float). mag a ≤ mag z) (sym (larger_is a b (number fa))) (go (lt a b) refl)
  where
    go : (t : Bool) → lt a b ≡ t → mag a ≤ mag (cond t b a)
    go true e = let p = plus_is a na in let q = plus_is b nb in let l = units_of_lt fa fb e in omega (arith, p.0, p.1, q.0, q.1, l)
    go false e = le_refl (mag a)

module _ (x y : ℤ) (r : ℕ) (hx : nat_abs x ≤ 20000) (hy : nat_abs y ≤ 20000) (least : 1 ≤ r) (most : r ≤ 20000) where
  least_share_sign : negative coincidence_share ≡ false
  unfolding of_bits
  least_share_sign = refl

  quotient_below : mag (share /ᶠ of_int binary64 (pos r)) ≤ mag (tolerance (whole_circle x y r))
  unfolding tolerance
  quotient_below =
      larger_least (share /ᶠ of_int binary64 (pos r)) coincidence_share (quotient_most x y r hx hy least most).finite least_share.finite
      (quotient_sign x y r hx hy least most) least_share_sign

  -- a distance d from 1 that r times is at most the share rounds to at most the tolerance
  radius_units : mag (of_int binary64 (pos r)) ≡ r * one
  radius_units = of_int_mag (pos r) (omega arith)

  rounded_below : (d : ℕ) → d * r ≤ 219902 * fine → rnd d 1 ≤ mag (tolerance (whole_circle x y r))
  rounded_below d h =
      le_trans
      (rnd_mono d 1 (mag share * one) (mag (of_int binary64 (pos r))) (le_refl 1) (radius_mag x y r hx hy least most)
      (rw radius_units (scaled d (mag share) one (le_trans h share_least))))
      (le_trans
      (le_of_eq
      (sym
      (div_mag share_most.finite (of_int_finite (pos r) (omega arith)) (radius_mag x y r hx hy least most) (quotient_most x y r hx hy least most).finite)))
      quotient_below)
    where
      scaled : (d s u : ℕ) → d * r ≤ s → d * (r * u) ≤ s * u * 1
      scaled d s u h = omega (arith, mul-le-mul_right u h)

  -- ---- the point at an angle

  module _ (phi : Float) (dom : Domain phi) where
    abbrev dx : Float
    dx = of_int binary64 x +ᶠ of_int binary64 (pos r) *ᶠ cosine phi -ᶠ of_int binary64 x

    abbrev dy : Float
    dy = of_int binary64 y +ᶠ of_int binary64 (pos r) *ᶠ sine phi -ᶠ of_int binary64 y

    unit : one ≡ 2 ^ 40 * fine
    unit = pow2_split 40 1034

    at_most_one : {t : Float} → Most 1 1074 t → mag t ≤ one
    at_most_one m = le_trans m.bound (le_of_eq (one-mul one))

    cos_most : Most 1 1074 (cosine phi)
    cos_most = cosine_promise.size phi

    sin_most : Most 1 1074 (sine phi)
    sin_most = sine_promise.size phi

    narrow : {d : Float} (t : Float) → Finite d → mag t ≤ one → mag d ≤ r * mag t + 10 * fine → Most 20001 1074 d
    narrow {d} t f h l = record { finite = f; bound = bounded (mag d) (mag t) one fine unit h l }
      where
        bounded : (k m u w : ℕ) → u ≡ 2 ^ 40 * w → m ≤ u → k ≤ r * m + 10 * w → k ≤ 20001 * u
        bounded k m u w e h l = omega (arith, mul-le-mul most h, l, e)

    dx_most : Most 20001 1074 dx
    dx_most =
        narrow (cosine phi) (back_finite x r hx most (cosine phi) cos_most).finite (at_most_one cos_most) (back_size x r hx most (cosine phi) cos_most).0

    dy_most : Most 20001 1074 dy
    dy_most = narrow (sine phi) (back_finite y r hy most (sine phi) sin_most).finite (at_most_one sin_most) (back_size y r hy most (sine phi) sin_most).0

    abbrev sum : Float
    sum = dx *ᶠ dx +ᶠ dy *ᶠ dy

    sum_most : Most (2 ^ 30) 1074 sum
    sum_most = add_most (square_most dx_most) (square_most dy_most) (omega arith) (omega arith)

    sum_none : minus sum ≡ 0
    sum_none =
        minus_none (le_refl 1) (result_rounded (le_refl 1) (add_result (square_most dx_most).finite (square_most dy_most).finite) sum_most.finite)
        (omega (arith, (square_parts dx_most).1, (square_parts dy_most).1))

    sum_near : (mag sum ≤ mag (dx *ᶠ dx) + mag (dy *ᶠ dy) + 2 ^ 16 * fine) × (mag (dx *ᶠ dx) + mag (dy *ᶠ dy) ≤ mag sum + 2 ^ 16 * fine)
    sum_near =
        let near = add_near (square_most dx_most) (square_most dy_most) sum_most.finite 30 1050 (omega arith) refl in
        let ulp : pow2 1050 ≡ 2 ^ 16 * fine = pow2_split 16 1034 in
        let a = square_parts dx_most in
        let b = square_parts dy_most in
        let s = plus_minus sum in
        (omega (arith, near.over, a.0, a.1, b.0, b.1, s, sum_none, ulp), omega (arith, near.under, a.0, a.1, b.0, b.1, s, sum_none, ulp))

    sum_within : (mag sum ≤ r * r * one + (7 * (r * r) + 40 * r + 131074) * fine) × (r * r * one ≤ mag sum + (7 * (r * r) + 40 * r + 131074) * fine)
    sum_within =
        let near = squares_near_one phi dom in
        within one fine unit r (mag (cosine phi)) (mag (sine phi)) (mag dx) (mag dy) (mag (dx *ᶠ dx)) (mag (dy *ᶠ dy)) (mag sum)
        (at_most_one cos_most) (at_most_one sin_most)
        (back_size x r hx most (cosine phi) cos_most) (back_size y r hy most (sine phi) sin_most)
        (swapped (mag (cosine phi)) (mag (sine phi)) one near.most near.least) (square_near dx_most) (square_near dy_most) sum_near one_pos
      where
        swapped : (m n u : ℕ) → (n * n + m * m) * 2 ^ 40 ≤ u * u * (2 ^ 40 + 7) → u * u * 2 ^ 40 ≤ (n * n + m * m) * 2 ^ 40 + u * u * 7
            → ((m * m + n * n) * 2 ^ 40 ≤ u * u * (2 ^ 40 + 7)) × (u * u * 2 ^ 40 ≤ (m * m + n * n) * 2 ^ 40 + u * u * 7)
        swapped m n u h k = (omega (arith, h), omega (arith, k))

    -- ---- the quotient by r²

    abbrev square : Float
    square = of_int binary64 (pos (r * r))

    small : r * r ≤ 400000000
    small = mul-le-mul most most

    square_finite : Finite square
    square_finite = of_int_finite (pos (r * r)) (omega (arith, small))

    square_units : mag square ≡ r * r * one
    square_units = of_int_mag (pos (r * r)) (omega (arith, small))

    some : 1 ≤ r * r
    some = mul-le-mul least least

    square_pos : 0 < mag square
    square_pos = lt_of_lt_of_le one_pos (le_trans (le_of_eq (sym (one-mul one))) (le_trans (mul-le-mul_right one some) (le_of_eq (sym square_units))))

    abbrev v : Float
    v = sum /ᶠ square

    v_most : Most (2 ^ 30) 1074 v
    v_most =
        div_most sum_most (of_int_least (pos (r * r)) (omega (arith, small)) some) (2 ^ 30) 1074 refl (omega arith) (omega arith) (omega arith) (omega arith)

    -- the errors are less than r²
    errors : (7 * (r * r) + 40 * r + 131074) * fine + fine ≤ r * r * one
    errors = fewer (r * r) one fine unit some
      where
        fewer : (q u w : ℕ) → u ≡ 2 ^ 40 * w → 1 ≤ q → (7 * q + 40 * r + 131074) * w + w ≤ q * u
        fewer q u w e o =
            let enough : 7 * q + 40 * r + 131075 ≤ 2 ^ 40 * q = omega arith in
            omega (arith, mul-le-mul_right w enough, ap (λ (k : ℕ). q * k) e)

    sum_sign : negative sum ≡ false
    sum_sign = plus_sign sum (lt_of_lt_of_le (pow2_pos 1034) (omega (arith, errors, sum_within.1, plus_minus sum, sum_none)))

    v_sign : negative v ≡ false
    v_sign = div_sign sum_most.finite square_finite square_pos v_most.finite ∙ ap₂ unlike sum_sign (of_int_sign (pos (r * r)) (omega (arith, small)))

    v_near : (mag v * (r * r) ≤ mag sum + fine * (r * r)) × (mag sum ≤ mag v * (r * r) + fine * (r * r))
    v_near =
        let is : mag v ≡ rnd (mag sum * one) (r * r * one) =
        div_mag sum_most.finite square_finite square_pos v_most.finite ∙ ap (λ (k : ℕ). rnd (mag sum * one) k) square_units in
        let double : one ≡ 2 ^ 53 * pow2 1021 = pow2_split 53 1021 in
        let ulp : pow2 1021 ≤ fine = pow2_mono (omega arith) in
        let near =
        rnd_near (mag sum * one) (r * r * one) 1021 (mul-pos some one_pos) (bounded (mag sum) (r * r) one (pow2 1021) fine double errors sum_within.0) in
        cancelled (mag v) (mag sum) (r * r) one (pow2 1021) fine ulp
        (subst (λ (k : ℕ). k * (r * r * one) ≤ mag sum * one + pow2 1021 * (r * r * one)) (sym is) near.0)
        (subst (λ (k : ℕ). mag sum * one ≤ k * (r * r * one) + pow2 1021 * (r * r * one)) (sym is) near.1) one_pos
      where
        bounded : (z q u h w : ℕ) → u ≡ 2 ^ 53 * h → (7 * q + 40 * r + 131074) * w + w ≤ q * u → z ≤ q * u + (7 * q + 40 * r + 131074) * w
            → z * u ≤ 2 ^ 54 * h * (q * u)
        bounded z q u h w e f l =
            let twice : z ≤ 2 * (q * u) = omega (arith, f, l) in
            omega (arith, mul-le-mul_right u twice, ap (λ (k : ℕ). k * (q * u)) e)

        cancelled : (v z q u h w : ℕ) → h ≤ w → v * (q * u) ≤ z * u + h * (q * u) → z * u ≤ v * (q * u) + h * (q * u) → 0 < u
            → (v * q ≤ z + w * q) × (z ≤ v * q + w * q)
        cancelled v z q u h w l up down U =
            let wider = mul-le-mul_right q l in
            let over : v * q ≤ z + h * q = le_of_mul-le-mul_right {k = u} (omega (arith, up)) U in
            let under : z ≤ v * q + h * q = le_of_mul-le-mul_right {k = u} (omega (arith, down)) U in
            (omega (arith, over, wider), omega (arith, under, wider))

    -- ---- the implicit form less 1

    abbrev off : Float
    off = v -ᶠ one64

    off_most : Most (2 ^ 30 + 1) 1074 off
    off_most = sub_most v_most one64_most (omega arith) (omega arith)

    off_size : mag off ≤ mag (tolerance (whole_circle x y r))
    off_size = go (cases_lt (mag v) one)
      where
        rounded : Rounded off (plus v + minus one64) (minus v + plus one64) 1
        rounded = result_rounded (le_refl 1) (sub_result v_most.finite one_finite) off_most.finite

        parts : (plus v ≡ mag v) × (minus v ≡ 0)
        parts = plus_is v v_sign

        up : plus off ≡ rnd (mag v - one) 1
        up = rounded.up ∙ ap (λ (k : ℕ). rnd k 1) (ap₂ (λ (p n : ℕ). p - n) (omega (arith, parts.0, one_plus.1)) (omega (arith, parts.1, one_plus.0)))

        down : minus off ≡ rnd (one - mag v) 1
        down = rounded.down ∙ ap (λ (k : ℕ). rnd k 1) (ap₂ (λ (p n : ℕ). p - n) (omega (arith, parts.1, one_plus.0)) (omega (arith, parts.0, one_plus.1)))

        nothing : (k : ℕ) → k ≡ 0 → rnd k 1 ≡ 0
        nothing k e = ap (λ (n : ℕ). rnd n 1) e ∙ rnd_zero 1 (le_refl 1)

        go : (mag v < one) ⊎ (one ≤ mag v) → mag off ≤ mag (tolerance (whole_circle x y r))
        go (inr h) =
            le_trans (omega (arith, plus_minus off, up, down, nothing (one - mag v) (omega arith)))
            (rounded_below (mag v - one) (above one fine r (mag sum) (mag v) least most sum_within v_near (mag v - one) (omega arith)))
        go (inl h) =
            le_trans (omega (arith, plus_minus off, up, down, nothing (mag v - one) (omega arith)))
            (rounded_below (one - mag v) (below one fine r (mag sum) (mag v) least most sum_within v_near (one - mag v) (omega arith)))

    value_is : implicit_value (point_at (whole_circle x y r) phi) (whole_circle x y r) ≡ v
    unfolding implicit_value squared_distance point_at
    value_is = ap (λ (q : Float). sum /ᶠ q) (square_of_int (pos r) (omega arith))

    pub on_edge : (absolute (implicit_value (point_at (whole_circle x y r) phi) (whole_circle x y r) -ᶠ one64) ≤ᶠ tolerance (whole_circle x y r)) ≡ true
    on_edge =
        ap (λ (z : Float). absolute (z -ᶠ one64) ≤ᶠ tolerance (whole_circle x y r)) value_is
        ∙ absolute_test off_most.finite (tolerance_most x y r hx hy least most).finite (tolerance_sign x y r hx hy least most)
        ∙ le-leb (mag off) (mag (tolerance (whole_circle x y r))) off_size
