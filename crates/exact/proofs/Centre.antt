-- A point where two outlines meet is not the centre of either circle. Along each axis the point lies w + ρ from the
-- first centre, where w leads to the foot of the chord and ρ across. Seen from a centre, w points as Δ does, or against
-- it, along both axes alike, while ρ points as Δ along one axis and against it along the other; so along one axis both
-- point the same way and cannot cancel. Rests on Steps, Coordinates and Across.
use mathlib.Core.Path.{◌≡◌, refl, sym, ap, ap₂, ◌∙◌}
use mathlib.Core.Logic.{◌⊎◌, inl, inr}
use mathlib.Core.Bool.{Bool, true, false, not}
use Prim.Native.Nat.{ℕ, ◌+◌, ◌-◌, ◌*◌, ◌^◌, ◌≤◌, ◌<◌}
use native.Mathlib.Nat.{le_refl, le_trans, le_of_eq, lt_of_lt_of_le, mul-le-mul, mul-le-mul_left, mul-le-mul_right}
use native.Mathlib.Omega.{arith}
use lib.Ieee.{Float, binary64, add, sub, mul, div, unlike}
use Rattle.binary64.specs.Constants.{zero64}
use Rattle.binary64.specs.Units.{pow2, one, Finite, mag, negative, plus, minus}
use Rattle.binary64.specs.Rounding.{rnd, Near}
use Rattle.binary64.specs.Magnitude.{Most}
use Rattle.std.proofs.lemmas.Bool.{cases_lt}
use Rattle.binary64.proofs.Units.{one_pos, pow2_pos, pow2_split, plus_minus}
use Rattle.binary64.proofs.Units.{plus_is, minus_is, plus_sign, zero64_plus, zero64_minus}
use Rattle.binary64.proofs.Rounding.{rnd_mono, rnd_relative, plus_ge, minus_ge}
use Rattle.binary64.proofs.Operations.{sub_result, result_rounded, mul_mag, mul_sign, div_sign}
use Rattle.binary64.proofs.Magnitude.{bound_digits, add_most, sub_most}
use Rattle.binary64.proofs.Error.{add_near}
use Rattle.exact.proofs.Distance.{margin, Is, whole_is, is_mag}
use Rattle.exact.proofs.Steps.{float}
use Rattle.exact.proofs.Coordinates.{product_most, quotient_most, product_least, quotient_least}
use Rattle.exact.proofs.Coordinates.{part_most, Leg, way_most, offset_most}

-- ---- along one axis

-- The point z = x + w + ρ against c = x + T: T may be 0, for the first centre, or Δ, for the second, and is known
-- within 2 ^ -37.
module _ {x w ρ T c : Float} (X : Most 20000 1074 x) (W : Most 20000 1074 w) (R : Most 40000 1074 ρ)
    (C : Most 20000 1074 c)
    (near : Near T (plus c + minus x) (minus c + plus x) 1 margin) where
  abbrev foot : Float
  foot = add binary64 x w

  foot_most : Most 40000 1074 foot
  foot_most = add_most X W (omega arith) (omega arith)

  abbrev z : Float
  z = add binary64 foot ρ

  z_most : Most 80000 1074 z
  z_most = add_most foot_most R (omega arith) (omega arith)

  difference_finite : Finite (sub binary64 z c)
  difference_finite = (sub_most z_most C (omega arith) (omega arith)).finite

  A : Near foot (plus x + plus w) (minus x + minus w) 1 margin
  A = add_near X W foot_most.finite 17 1037 (omega arith) refl

  B : Near z (plus foot + plus ρ) (minus foot + minus ρ) 1 margin
  B = add_near foot_most R z_most.finite 17 1037 (omega arith) refl

  -- where w - T + ρ is at least 2 ^ -35 in size, the point is not at c
  pub above_centre : plus T + minus w + minus ρ + 4 * margin ≤ plus w + minus T + plus ρ → 0 < mag (sub binary64 z c)
  above_centre h =
      let least : 1 * margin ≤ plus (sub binary64 z c) =
      plus_ge (le_refl 1) (result_rounded (le_refl 1) (sub_result z_most.finite C.finite) difference_finite)
      (bound_digits 1037 (omega arith)) (omega (arith, A, B, near)) in
      omega (arith, plus_minus (sub binary64 z c), pow2_pos 1037)

  pub below_centre : plus w + minus T + plus ρ + 4 * margin ≤ plus T + minus w + minus ρ → 0 < mag (sub binary64 z c)
  below_centre h =
      let least : 1 * margin ≤ minus (sub binary64 z c) =
      minus_ge (le_refl 1) (result_rounded (le_refl 1) (sub_result z_most.finite C.finite) difference_finite)
      (bound_digits 1037 (omega arith)) (omega (arith, A, B, near)) in
      omega (arith, plus_minus (sub binary64 z c), pow2_pos 1037)

-- w lies above T, or below it, give or take 2 ^ -37
abbrev pub SideIs : Bool → Float → Float → Type 0
SideIs false w T = plus T + minus w ≤ plus w + minus T + margin
SideIs true w T = plus w + minus T ≤ plus T + minus w + margin

-- On the side to which ρ points, the point is not at c.
pub off_axis : {x w ρ T c : Float} → Most 20000 1074 x → Most 20000 1074 w → Most 40000 1074 ρ → Most 20000 1074 c
    → Near T (plus c + minus x) (minus c + plus x) 1 margin → (s : Bool) → SideIs s w T → negative ρ ≡ s
    → 1 * pow2 1041 ≤ mag ρ
    → 0 < mag (sub binary64 (add binary64 (add binary64 x w) ρ) c)
off_axis {ρ = ρ} X W R C near false side e l =
    let u = plus_is ρ e in
    above_centre X W R C near (omega (arith, side, u, rw (pow2_split 4 1037) at l))
off_axis {ρ = ρ} X W R C near true side e l =
    let u = minus_is ρ e in
    below_centre X W R C near (omega (arith, side, u, rw (pow2_split 4 1037) at l))

-- ---- the way to the foot, f * Δ / d, against Δ

-- with a for d, n for 2 ^ -37 and b for d * m: the last digit of 53 of b is less than 2 ^ -37 times d
no_more : (p a m n b : ℕ) → m ≤ 2 ^ 16 → b ≡ a * (m * (2 ^ 37 * n)) → 2 ^ 53 * p ≤ 2 ^ 53 * b + b
    → p ≤ (m * 2 ^ 37 + 1) * n * a
no_more p a m n b h e k = omega (arith, mul-le-mul_right (a * n) h)

no_less : (p a m n b w : ℕ) → m ≤ 2 ^ 16 → w + 1 ≡ m * 2 ^ 37 → b ≡ a * (m * (2 ^ 37 * n)) → 2 ^ 53 * b ≤ 2 ^ 53 * p + b
    → w * n * a ≤ p
no_less p a m n b w h e g k = omega (arith, mul-le-mul_right (a * n) h, ap (λ (i : ℕ). i * (a * n)) e)

unlike_plain : (b : Bool) → unlike b false ≡ b
unlike_plain true = refl
unlike_plain false = refl

module _ {Δ d f : Float} {m : ℕ} (leg : Leg Δ d m) (D : Finite d) (far : one ≤ mag d) (ahead : negative d ≡ false)
    {r : ℕ} (L : r ≤ 20000) (F : Most r 1074 f) where
  abbrev w : Float
  w = div binary64 (mul binary64 f Δ) d

  d_pos : 0 < mag d
  d_pos = lt_of_lt_of_le one_pos far

  product_finite : Finite (mul binary64 f Δ)
  product_finite =
      (product_most F.finite leg.finite {j = r * m} {a = 1074} (omega (arith, mul-le-mul L leg.small)) (omega arith)
      (le_trans (mul-le-mul F.bound (le_of_eq leg.size)) (omega arith))).finite

  w_finite : Finite w
  w_finite = (way_most leg D far L F).finite

  -- it points as f * Δ does
  pub way_sign : negative w ≡ unlike (negative f) (negative Δ)
  way_sign =
      div_sign product_finite D d_pos w_finite
      ∙ ap₂ unlike (mul_sign F.finite leg.finite product_finite) ahead
      ∙ unlike_plain (unlike (negative f) (negative Δ))

  -- f * Δ beside d * Δ
  abbrev whole : ℕ
  whole = mag d * mag Δ

  whole_parts : whole ≡ mag d * (m * (2 ^ 37 * margin))
  whole_parts = ap (λ (k : ℕ). mag d * k) (leg.size ∙ ap (λ (k : ℕ). m * k) (pow2_split 37 1037))

  whole_large : 0 < m → 2 ^ 52 * one ≤ whole
  whole_large h =
      let digits : 2 ^ 52 ≤ one = le_trans (omega (arith, pow2_pos 1022)) (le_of_eq (sym (pow2_split 52 1022))) in
      let leg_large : one ≤ mag Δ = le_trans (omega (arith, mul-le-mul_right one h)) (le_of_eq (sym leg.size)) in
      mul-le-mul (le_trans digits far) leg_large

  relative : 0 < m
      → (2 ^ 53 * (rnd whole one * one) ≤ 2 ^ 53 * whole + whole)
      × (2 ^ 53 * whole ≤ 2 ^ 53 * (rnd whole one * one) + whole)
  relative h = rnd_relative whole one one_pos (whole_large h)

  product_is : mag (mul binary64 f Δ) ≡ rnd (mag f * mag Δ) one
  product_is = mul_mag F.finite leg.finite product_finite

  -- where |f| is at most d, it is at most |Δ|, give or take 2 ^ -37
  way_short : 0 < m → mag f ≤ mag d → mag w ≤ mag Δ + margin
  way_short h k =
      let mono = rnd_mono (mag f * mag Δ) one whole one one_pos one_pos
      (mul-le-mul_right one (mul-le-mul_right (mag Δ) k)) in
      let p : 2 ^ 53 * (mag (mul binary64 f Δ) * one) ≤ 2 ^ 53 * whole + whole =
      omega (arith, relative h, mul-le-mul_right one (le_trans (le_of_eq product_is) mono)) in
      let q = quotient_most product_finite D {j = m * 2 ^ 37 + 1} {a = 1037} (omega (arith, leg.small)) (omega arith)
      d_pos
      (no_more (mag (mul binary64 f Δ) * one) (mag d) m margin whole (omega (arith, leg.small)) whole_parts p) in
      omega (arith, q.bound, leg.size, ap (λ (i : ℕ). m * i) (pow2_split 37 1037))

  -- where it is at least d, at least |Δ|
  way_long : 0 < m → mag d ≤ mag f → mag Δ ≤ mag w + margin
  way_long h k = go (m * 2 ^ 37 - 1) (omega arith)
    where
      go : (v : ℕ) → v + 1 ≡ m * 2 ^ 37 → mag Δ ≤ mag w + margin
      go v e =
          let mono = rnd_mono whole one (mag f * mag Δ) one one_pos one_pos
          (mul-le-mul_right one (mul-le-mul_right (mag Δ) k)) in
          let p : 2 ^ 53 * whole ≤ 2 ^ 53 * (mag (mul binary64 f Δ) * one) + whole =
          omega (arith, relative h, mul-le-mul_right one (le_trans mono (le_of_eq (sym product_is)))) in
          let q = quotient_least product_finite D 1037 (omega (arith, leg.small)) d_pos w_finite
          (no_less (mag (mul binary64 f Δ) * one) (mag d) m margin whole v (omega (arith, leg.small)) e whole_parts p)
          in
          omega (arith, q, leg.size, ap (λ (i : ℕ). m * i) (pow2_split 37 1037), ap (λ (i : ℕ). i * margin) e)

  -- seen from the second centre it points as Δ does where f is at least d, and against it otherwise; from the first as
  -- f says
  pub from_second : 0 < m → (g : Bool) → (g ≡ false → mag d ≤ plus f) → (g ≡ true → plus f ≤ mag d)
      → SideIs (unlike g (negative Δ)) w Δ
  from_second h false long short =
      let l = long refl in
      let s = way_sign ∙ ap (λ (b : Bool). unlike b (negative Δ)) (plus_sign f (lt_of_lt_of_le d_pos l)) in
      let k = way_long h (omega (arith, plus_minus f)) in
      by (negative Δ) refl s k
    where
      by : (b : Bool) → negative Δ ≡ b → negative w ≡ unlike false (negative Δ) → mag Δ ≤ mag w + margin
          → SideIs (unlike false (negative Δ)) w Δ
      by false e s k =
          rw e (let u = plus_is Δ e in let v = plus_is w (s ∙ ap (unlike false) e) in omega (arith, u, v, k))
      by true e s k =
          rw e (let u = minus_is Δ e in let v = minus_is w (s ∙ ap (unlike false) e) in omega (arith, u, v, k))
  from_second h true long short = by (negative f) (negative Δ) refl refl
    where
      by : (a b : Bool) → negative f ≡ a → negative Δ ≡ b → SideIs (unlike true (negative Δ)) w Δ
      by false false i e =
          rw e (let u = plus_is Δ e in let v = plus_is w (way_sign ∙ ap₂ unlike i e) in
          omega (arith, u, v, way_short h (omega (arith, plus_is f i, short refl))))
      by false true i e =
          rw e (let u = minus_is Δ e in let v = minus_is w (way_sign ∙ ap₂ unlike i e) in
          omega (arith, u, v, way_short h (omega (arith, plus_is f i, short refl))))
      by true false i e =
          rw e (let u = plus_is Δ e in let v = minus_is w (way_sign ∙ ap₂ unlike i e) in omega (arith, u, v))
      by true true i e =
          rw e (let u = minus_is Δ e in let v = plus_is w (way_sign ∙ ap₂ unlike i e) in omega (arith, u, v))

  -- without a leg there is no way
  way_none : m ≤ 0 → (plus w ≡ 0) × (minus w ≡ 0)
  way_none h =
      let nothing : mag Δ ≤ 0 = omega (arith, leg.size, mul-le-mul_right one h) in
      let p = product_most F.finite leg.finite {j = 0} {a = 1074} (omega arith) (omega arith)
      (omega (arith, mul-le-mul_left (mag f) nothing)) in
      let q = quotient_most product_finite D {j = 0} {a = 1074} (omega arith) (omega arith) d_pos
      (omega (arith, mul-le-mul_right one p.bound)) in
      omega (arith, plus_minus w, q.bound)

  pub from_first : SideIs (unlike (negative f) (negative Δ)) w zero64
  from_first = rw (← way_sign) (by (negative w) refl)
    where
      by : (b : Bool) → negative w ≡ b → SideIs b w zero64
      by false e = let v = plus_is w e in omega (arith, v, zero64_plus, zero64_minus)
      by true e = let v = minus_is w e in omega (arith, v, zero64_plus, zero64_minus)

  -- on which side of 0, and of Δ, it lies; where Δ is 0, on both
  pub side_of_first : (s : Bool) → (0 < m → s ≡ unlike (negative f) (negative Δ)) → SideIs s w zero64
  side_of_first s h = go (cases_lt 0 m)
    where
      both : (s : Bool) → m ≤ 0 → SideIs s w zero64
      both false k = omega (arith, way_none k, zero64_plus, zero64_minus)
      both true k = omega (arith, way_none k, zero64_plus, zero64_minus)

      go : (0 < m) ⊎ (m ≤ 0) → SideIs s w zero64
      go (inl k) = rw (h k) from_first
      go (inr k) = both s k

  pub side_of_second : (g : Bool) → (g ≡ false → mag d ≤ plus f) → (g ≡ true → plus f ≤ mag d) → (s : Bool)
      → (0 < m → s ≡ unlike g (negative Δ)) → SideIs s w Δ
  side_of_second g long short s h = go (cases_lt 0 m)
    where
      both : (s : Bool) → m ≤ 0 → SideIs s w Δ
      both false k =
          let nothing : mag Δ ≤ 0 = omega (arith, leg.size, mul-le-mul_right one k) in
          omega (arith, way_none k, plus_minus Δ)
      both true k =
          let nothing : mag Δ ≤ 0 = omega (arith, leg.size, mul-le-mul_right one k) in
          omega (arith, way_none k, plus_minus Δ)

      go : (0 < m) ⊎ (m ≤ 0) → SideIs s w Δ
      go (inl k) = rw (h k) (from_second k g long short)
      go (inr k) = both s k

-- ---- both axes

-- w points the same way as ρ along one axis: ρ is across, so it points against Δy along x and as Δx along y, or the
-- other way round
pub one_agrees : (g nx ny e : Bool) → (unlike e (not ny) ≡ unlike g nx) ⊎ (unlike e nx ≡ unlike g ny)
one_agrees false false false false = inr refl
one_agrees false false false true = inl refl
one_agrees false false true false = inl refl
one_agrees false false true true = inr refl
one_agrees false true false false = inl refl
one_agrees false true false true = inr refl
one_agrees false true true false = inr refl
one_agrees false true true true = inl refl
one_agrees true false false false = inl refl
one_agrees true false false true = inr refl
one_agrees true false true false = inr refl
one_agrees true false true true = inl refl
one_agrees true true false false = inr refl
one_agrees true true false true = inl refl
one_agrees true true true false = inl refl
one_agrees true true true true = inr refl

-- what is known along one axis
pub record Axis (x w ρ T c : Float) : Type 0 where
  pub start : Most 20000 1074 x
  pub way : Most 20000 1074 w
  pub offset : Most 40000 1074 ρ
  pub centre : Most 20000 1074 c
  pub near : Near T (plus c + minus x) (minus c + plus x) 1 margin

-- The point x + wx + ρx, y + wy + ρy is not at cx, cy.
pub off_both : {x y wx wy ρx ρy Tx Ty cx cy : Float} → Axis x wx ρx Tx cx → Axis y wy ρy Ty cy → (mx my : ℕ)
    → (0 < mx) ⊎ (0 < my) → (g nx ny e : Bool)
    → negative ρx ≡ unlike e (not ny) → negative ρy ≡ unlike e nx → (0 < my → 1 * pow2 1041 ≤ mag ρx)
    → (0 < mx → 1 * pow2 1041 ≤ mag ρy)
    → ((s : Bool) → (0 < mx → s ≡ unlike g nx) → SideIs s wx Tx)
    → ((s : Bool) → (0 < my → s ≡ unlike g ny) → SideIs s wy Ty)
    → (0 < mag (sub binary64 (add binary64 (add binary64 x wx) ρx) cx))
    ⊎ (0 < mag (sub binary64 (add binary64 (add binary64 y wy) ρy) cy))
off_both {x} {y} {wx} {wy} {ρx} {ρy} {Tx} {Ty} {cx} {cy} ax ay mx my some g nx ny e ex ey lx ly sx sy =
    go (cases_lt 0 mx) (cases_lt 0 my)
  where
    at_x : (s : Bool) → SideIs s wx Tx → negative ρx ≡ s → 1 * pow2 1041 ≤ mag ρx
        → 0 < mag (sub binary64 (add binary64 (add binary64 x wx) ρx) cx)
    at_x = off_axis ax.start ax.way ax.offset ax.centre ax.near

    at_y : (s : Bool) → SideIs s wy Ty → negative ρy ≡ s → 1 * pow2 1041 ≤ mag ρy
        → 0 < mag (sub binary64 (add binary64 (add binary64 y wy) ρy) cy)
    at_y = off_axis ay.start ay.way ay.offset ay.centre ay.near

    neither : mx ≤ 0 → my ≤ 0 → (0 < mx) ⊎ (0 < my) → ⊥
    neither h k (inl l) = omega arith
    neither h k (inr l) = omega arith

    go : (0 < mx) ⊎ (mx ≤ 0) → (0 < my) ⊎ (my ≤ 0)
        → (0 < mag (sub binary64 (add binary64 (add binary64 x wx) ρx) cx))
        ⊎ (0 < mag (sub binary64 (add binary64 (add binary64 y wy) ρy) cy))
    go (inr h) (inr k) = absurd (neither h k some)
    go (inr h) (inl k) = inl (at_x (unlike e (not ny)) (sx (unlike e (not ny)) (λ l. absurd (omega arith))) ex (lx k))
    go (inl h) (inr k) = inr (at_y (unlike e nx) (sy (unlike e nx) (λ l. absurd (omega arith))) ey (ly h))
    go (inl h) (inl k) = agree (one_agrees g nx ny e)
      where
        agree : (unlike e (not ny) ≡ unlike g nx) ⊎ (unlike e nx ≡ unlike g ny)
            → (0 < mag (sub binary64 (add binary64 (add binary64 x wx) ρx) cx))
            ⊎ (0 < mag (sub binary64 (add binary64 (add binary64 y wy) ρy) cy))
        agree (inl q) = inl (at_x (unlike g nx) (sx (unlike g nx) (λ _. refl)) (ex ∙ q) (lx k))
        agree (inr q) = inr (at_y (unlike g ny) (sy (unlike g ny) (λ _. refl)) (ey ∙ q) (ly h))

-- ---- where the circles cross

-- what is across over d has no sign, so the offsets point as -Δy and as Δx do
module _ {Δ d h : Float} {m : ℕ} (leg : Leg Δ d m) (D : Finite d) (far : one ≤ mag d) (ahead : negative d ≡ false)
    {r : ℕ} (L : r ≤ 20000) (H : Most r 1074 h)
    (plain : negative h ≡ false) (over : mag d ≤ mag h * one) where
  pub offset_sign : negative (mul binary64 Δ (div binary64 h d)) ≡ negative Δ
  offset_sign =
      let q = part_most D far L H in
      mul_sign leg.finite q.finite (offset_most leg D far L H over).finite
      ∙ ap (unlike (negative Δ)) (div_sign H.finite D (lt_of_lt_of_le one_pos far) q.finite ∙ ap₂ unlike plain ahead)
      ∙ unlike_plain (negative Δ)

-- a sign as it is, and turned
pub as_it_is : (b : Bool) → b ≡ unlike false b
as_it_is true = refl
as_it_is false = refl

pub turned : (b : Bool) → not b ≡ unlike true b
turned true = refl
turned false = refl

-- ---- where they touch: nothing is across, and f is r₁ or -r₁

module _ {Δ f : Float} {m n : ℕ} (leg : Leg Δ (float n) m) (some : 0 < m) (N : 1 ≤ n) (M : n ≤ 40000)
    {r : ℕ} (P : 1 ≤ r) (L : r ≤ 20000) (F : Most r 1074 f) (size : mag f ≡ r * one) where
  abbrev d : Float
  d = float n

  d_is : Is d n
  d_is = whole_is n (omega arith)

  d_far : one ≤ mag d
  d_far = le_trans (omega (arith, mul-le-mul_right one N)) (le_of_eq (sym (is_mag d_is)))

  d_ahead : negative d ≡ false
  d_ahead = plus_sign d (omega (arith, d_is.up, mul-le-mul_right one N, one_pos))

  -- r₁ m, which is whole
  product : mag f * mag Δ ≡ r * m * one * one
  product = ap₂ (λ (i j : ℕ). i * j) size leg.size ∙ omega arith

  few : r * m ≤ 2 ^ 53
  few = omega (arith, mul-le-mul L leg.small)

  touch_product : Most (r * m) 1074 (mul binary64 f Δ)
  touch_product = product_most F.finite leg.finite few (omega arith) (le_of_eq product)

  touch_product_least : r * m * one ≤ mag (mul binary64 f Δ)
  touch_product_least = product_least F.finite leg.finite 1074 few touch_product.finite (le_of_eq (sym product))

  abbrev touch_way : Float
  touch_way = div binary64 (mul binary64 f Δ) d

  touch_finite : Finite touch_way
  touch_finite = (way_most leg d_is.finite d_far L F).finite

  -- over n: at least 2 ^ -17,
  touch_least : 1 * pow2 1057 ≤ mag touch_way
  touch_least =
      quotient_least touch_product.finite d_is.finite 1057 (omega arith) (lt_of_lt_of_le one_pos d_far) touch_finite
      (rw (is_mag d_is) (le_trans (scaled n M) (mul-le-mul_right one touch_product_least)))
    where
      scaled : (n : ℕ) → n ≤ 40000 → 1 * pow2 1057 * (n * one) ≤ r * m * one * one
      scaled n h =
          let whole : 1 ≤ r * m = mul-le-mul P some in
          let digits : n * pow2 1057 ≤ one =
          le_trans (mul-le-mul_right (pow2 1057) (omega (arith, h))) (le_of_eq (sym (pow2_split 17 1057))) in
          omega (arith, mul-le-mul_right one digits, mul-le-mul_right (one * one) whole)

  -- less than |Δ| by as much where r₁ < n, and more where n < r₁
  touch_short : r < n → mag touch_way + pow2 1057 ≤ mag Δ
  touch_short h = go (m * 2 ^ 17 - 1) (omega arith)
    where
      go : (v : ℕ) → v + 1 ≡ m * 2 ^ 17 → mag touch_way + pow2 1057 ≤ mag Δ
      go v e =
          let room : r * m * 2 ^ 17 ≤ v * n =
          omega (arith, mul-le-mul_left (m * 2 ^ 17) h, ap (λ (i : ℕ). i * n) e, mul-le-mul_right n some) in
          let q = quotient_most touch_product.finite d_is.finite {j = v} {a = 1057} (omega (arith, leg.small))
          (omega arith)
          (lt_of_lt_of_le one_pos d_far)
          (rw (is_mag d_is) (le_trans (mul-le-mul_right one touch_product.bound) (scaled v room))) in
          omega (arith, q.bound, leg.size, ap (λ (i : ℕ). m * i) (pow2_split 17 1057), ap (λ (i : ℕ). i * pow2 1057) e)
        where
          scaled : (v : ℕ) → r * m * 2 ^ 17 ≤ v * n → r * m * one * one ≤ v * pow2 1057 * (n * one)
          scaled v h = rw (pow2_split 17 1057) (omega (arith, mul-le-mul_right (pow2 1057 * (2 ^ 17 * pow2 1057)) h))

  touch_long : n < r → mag Δ + pow2 1057 ≤ mag touch_way
  touch_long h =
      let room : (m * 2 ^ 17 + 1) * n ≤ r * m * 2 ^ 17 =
      omega (arith, mul-le-mul_left (m * 2 ^ 17) h, mul-le-mul_right n some) in
      let q = quotient_least touch_product.finite d_is.finite {j = m * 2 ^ 17 + 1} 1057 (omega (arith, leg.small))
      (lt_of_lt_of_le one_pos d_far) touch_finite
      (rw (is_mag d_is) (le_trans (scaled (m * 2 ^ 17 + 1) room) (mul-le-mul_right one touch_product_least))) in
      omega (arith, q, leg.size, ap (λ (i : ℕ). m * i) (pow2_split 17 1057))
    where
      scaled : (v : ℕ) → v * n ≤ r * m * 2 ^ 17 → v * pow2 1057 * (n * one) ≤ r * m * one * one
      scaled v h = rw (pow2_split 17 1057) (omega (arith, mul-le-mul_right (pow2 1057 * (2 ^ 17 * pow2 1057)) h))

  far_margin : 4 * margin ≤ pow2 1057
  far_margin = rw (pow2_split 20 1037) (omega arith)

  module _ {x ρ T c : Float} (axis : Axis x touch_way ρ T c) (none : Most 0 1074 ρ) where
    no_offset : (plus ρ ≡ 0) × (minus ρ ≡ 0)
    no_offset = omega (arith, plus_minus ρ, none.bound)

    up_from : plus T + minus touch_way + pow2 1057 ≤ plus touch_way + minus T
        → 0 < mag (sub binary64 (add binary64 (add binary64 x touch_way) ρ) c)
    up_from h =
        above_centre axis.start axis.way axis.offset axis.centre axis.near (omega (arith, no_offset, far_margin))

    down_from : plus touch_way + minus T + pow2 1057 ≤ plus T + minus touch_way
        → 0 < mag (sub binary64 (add binary64 (add binary64 x touch_way) ρ) c)
    down_from h =
        below_centre axis.start axis.way axis.offset axis.centre axis.near (omega (arith, no_offset, far_margin))

  -- the point of touch is neither centre
  pub touch_off_first : {x ρ c : Float} → Axis x touch_way ρ zero64 c → Most 0 1074 ρ
      → 0 < mag (sub binary64 (add binary64 (add binary64 x touch_way) ρ) c)
  touch_off_first {x} {ρ} {c} axis none = by (negative touch_way) refl
    where
      by : (b : Bool) → negative touch_way ≡ b → 0 < mag (sub binary64 (add binary64 (add binary64 x touch_way) ρ) c)
      by false e =
          let v = plus_is touch_way e in up_from axis none (omega (arith, v, touch_least, zero64_plus, zero64_minus))
      by true e =
          let v = minus_is touch_way e in down_from axis none (omega (arith, v, touch_least, zero64_plus, zero64_minus))

  pub touch_off_second : ((negative f ≡ false) × ((r < n) ⊎ (n < r))) ⊎ (negative f ≡ true)
      → {x ρ c : Float} → Axis x touch_way ρ Δ c → Most 0 1074 ρ
      → 0 < mag (sub binary64 (add binary64 (add binary64 x touch_way) ρ) c)
  touch_off_second side {x} {ρ} {c} axis none = by side (negative Δ) refl
    where
      sign : negative touch_way ≡ unlike (negative f) (negative Δ)
      sign = way_sign leg d_is.finite d_far d_ahead L F

      by : ((negative f ≡ false) × ((r < n) ⊎ (n < r))) ⊎ (negative f ≡ true) → (b : Bool) → negative Δ ≡ b
          → 0 < mag (sub binary64 (add binary64 (add binary64 x touch_way) ρ) c)
      by (inl (i, inl h)) false e =
          let u = plus_is Δ e in let v = plus_is touch_way (sign ∙ ap₂ unlike i e) in
          down_from axis none (omega (arith, u, v, touch_short h))
      by (inl (i, inl h)) true e =
          let u = minus_is Δ e in let v = minus_is touch_way (sign ∙ ap₂ unlike i e) in
          up_from axis none (omega (arith, u, v, touch_short h))
      by (inl (i, inr h)) false e =
          let u = plus_is Δ e in let v = plus_is touch_way (sign ∙ ap₂ unlike i e) in
          up_from axis none (omega (arith, u, v, touch_long h))
      by (inl (i, inr h)) true e =
          let u = minus_is Δ e in let v = minus_is touch_way (sign ∙ ap₂ unlike i e) in
          down_from axis none (omega (arith, u, v, touch_long h))
      by (inr i) false e =
          let u = plus_is Δ e in let v = minus_is touch_way (sign ∙ ap₂ unlike i e) in
          down_from axis none (omega (arith, u, v, touch_least))
      by (inr i) true e =
          let u = minus_is Δ e in let v = plus_is touch_way (sign ∙ ap₂ unlike i e) in
          up_from axis none (omega (arith, u, v, touch_least))
