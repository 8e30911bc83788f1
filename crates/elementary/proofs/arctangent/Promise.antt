-- atan2's promise: the recipe's angle as a float, against the 40-term sums at that float. Rests on Aimed, Exit and
-- Fractions.
use Rattle.std.proofs.Common.{◌≡◌, ℕ, ◌+◌, ◌-◌, ◌*◌, ◌^◌, ◌<◌, ◌≤◌, Bool}
use Rattle.std.proofs.Common.{true, false, cond, not, T, length, ℤ, pos, ◌*ℤ◌}
use Rattle.std.proofs.Common.{nat_abs, sym, refl, ap, ◌∙◌, subst, ap₂, subst₂, zero-le}
use Rattle.std.proofs.Common.{le_trans, le_of_eq, mul-le-mul_right, mul_assoc}
use Rattle.std.proofs.Common.{mul_comm, mul-le-mul_left, le_of_mul-le-mul_right, arith, leb→le}
use lib.IntN.{*ℤ_comm}
use lib.Ieee.{Float, binary64, fits, of_bits, neg, mul, lt, of_int, round}
use Rattle.series.specs.Fraction.{exact, signed}
use Rattle.series.specs.Kernel.{horner}
use Rattle.series.specs.Taylor.{factorial}
use Rattle.series.proofs.Integers.{dist, dist_trans, dist_scale, abs_mul, *ℤ-left-comm}
use Rattle.series.proofs.Polynomial.{hval, finer_value}
use Rattle.series.proofs.Quarter.{dist_signed}
use Rattle.series.proofs.Sums.{scale, sin_from, cos_from, sin79, cos79}
use Rattle.binary64.specs.Units.{one, Finite, mag, negative, signed_zero}
use Rattle.binary64.specs.Constants.{zero64, pi}
use Rattle.binary64.specs.Functions.{absolute}
use Rattle.binary64.proofs.Units.{pow2_split, one_pos, neg_mag, neg_sign, neg_finite, zero64_finite, zero64_mag}
use Rattle.binary64.proofs.Functions.{absolute_mag}
use Rattle.cells.specs.Arc.{arc, quarter_turn, half_turn}
use Rattle.cells.proofs.Plain.{val, value_units}
use Rattle.cells.proofs.Tests.{sine80, cosine80, unit80, tick}
use Rattle.cells.proofs.Turns.{length_sine, length_cosine, sine_follows, cosine_follows}
use Rattle.elementary.specs.Arctangent.{atan2, in_domain, tangent, first_quarter, upper_half}
use Rattle.elementary.specs.ArctangentPromise.{Domain, UpToPi, Angle, half_pi, with_sign, Atan2Promise}
use Rattle.elementary.specs.ArctangentSteps.{InQuarter}
use Rattle.elementary.proofs.arctangent.Domain.{point, domain, inside}
use Rattle.elementary.proofs.arctangent.Slope.{below_diagonal, above_diagonal, tangent_zero}
use Rattle.elementary.proofs.arctangent.Exit.{grain, angle_of, angle_made, angle_most, pi_units}
use Rattle.elementary.proofs.arctangent.Good.{Good, scaled, moved, loosened}
use Rattle.elementary.proofs.arctangent.Aimed.{Aimed, place_small, below_axis, upper_aimed}
use Rattle.elementary.proofs.arctangent.Fractions.{exact_units, exact_proper, units}
use Rattle.elementary.proofs.arctangent.Fractions.{signed_times, signed_size, residual_fractions, ahead_fractions}

-- ---- constants

scales : (2 ^ 600) ^ 80 * scale ≡ 2 ^ 61 * unit80
unfolding unit80 factorial
scales = refl

unit_pos : 0 < unit80
unfolding unit80 factorial
unit_pos = leb→le 1 unit80 tt

-- 2^600 × 2^-62 is a tick × 1
ticks : 2 ^ 600 * grain ≡ tick * one
unfolding tick
ticks = mul_assoc (2 ^ 538) (2 ^ 62) grain ∙ ap (λ (k : ℕ). 2 ^ 538 * k) (sym (pow2_split 62 1012))

pi_small : mag pi ≤ 4 * one
pi_small =
    le_trans (le_of_eq pi_units.size)
    (le_trans (omega arith) (le_of_eq (ap (λ (k : ℕ). 4 * k) (sym (pow2_split 62 1012)))))

length_sin79 : length sin79 ≡ 80
unfolding sin79 sin_from
length_sin79 = refl

length_cos79 : length cos79 ≡ 80
unfolding cos79 cos_from
length_cos79 = refl

-- ---- the sums at the float

-- t is a × 2^-62, to 2048 × 2^-62, and a points at (x, y)
module _ {x y a : ℤ} {t : Float} (m : Aimed x y a (1128 * unit80) (2 ^ 57 * unit80)) (a_small : nat_abs a ≤ half_turn)
    (finite : Finite t) (most : mag t ≤ mag pi) (close : dist (units t) (a *ℤ pos grain) ≤ 2048 * grain) where
  abbrev n : ℤ
  n = (exact t).num

  abbrev d : ℕ
  d = (exact t).den

  -- t in units of 2^-600, against the place: both are multiplied by the denominator
  apart : dist (pos (2 ^ 600) *ℤ n) (m.place *ℤ pos d) ≤ 2582 * tick * d
  apart =
      le_of_mul-le-mul_right
      (le_trans
      (le_of_eq
      (mul_comm (dist (pos (2 ^ 600) *ℤ n) (m.place *ℤ pos d)) one
      ∙ sym (dist_scale one (pos (2 ^ 600) *ℤ n) (m.place *ℤ pos d)) ∙ ap₂ dist left right
      ∙ dist_scale d (pos (2 ^ 600) *ℤ units t) (pos one *ℤ m.place)))
      (le_trans
      (mul-le-mul_left d
      (le_trans (dist_trans (pos (2 ^ 600) *ℤ units t) (pos one *ℤ (a *ℤ pos tick)) (pos one *ℤ m.place))
      (sum first second))) (le_of_eq (omega arith))))
      one_pos
    where
      left : pos one *ℤ (pos (2 ^ 600) *ℤ n) ≡ pos d *ℤ (pos (2 ^ 600) *ℤ units t)
      left =
          swap (pos one) (pos (2 ^ 600)) n ∙ ap (λ (z : ℤ). pos (2 ^ 600) *ℤ z) (sym (exact_units finite))
          ∙ back (pos (2 ^ 600)) (units t) (pos d)
        where
          swap : (o f n : ℤ) → o *ℤ (f *ℤ n) ≡ f *ℤ (n *ℤ o)
          swap o f n = simp (*ℤ_comm, *ℤ-left-comm)

          back : (f u d : ℤ) → f *ℤ (u *ℤ d) ≡ d *ℤ (f *ℤ u)
          back f u d = simp (*ℤ_comm, *ℤ-left-comm)

      right : pos one *ℤ (m.place *ℤ pos d) ≡ pos d *ℤ (pos one *ℤ m.place)
      right = swap (pos one) m.place (pos d)
        where
          swap : (o p d : ℤ) → o *ℤ (p *ℤ d) ≡ d *ℤ (o *ℤ p)
          swap o p d = simp (*ℤ_comm, *ℤ-left-comm)

      same : pos (2 ^ 600) *ℤ (a *ℤ pos grain) ≡ pos one *ℤ (a *ℤ pos tick)
      same = gather (pos (2 ^ 600)) a (pos grain) ∙ ap (λ (k : ℕ). a *ℤ pos k) ticks ∙ open_up (pos tick) a (pos one)
        where
          gather : (f a g : ℤ) → f *ℤ (a *ℤ g) ≡ a *ℤ (f *ℤ g)
          gather f a g = *ℤ-left-comm f a g

          open_up : (t a o : ℤ) → a *ℤ (t *ℤ o) ≡ o *ℤ (a *ℤ t)
          open_up t a o = simp (*ℤ_comm, *ℤ-left-comm)

      first : dist (pos (2 ^ 600) *ℤ units t) (pos one *ℤ (a *ℤ pos tick)) ≤ 2048 * (tick * one)
      first =
          subst (λ (z : ℤ). dist (pos (2 ^ 600) *ℤ units t) z ≤ 2048 * (tick * one)) same
          (le_trans (le_of_eq (dist_scale (2 ^ 600) (units t) (a *ℤ pos grain)))
          (le_trans (mul-le-mul_left (2 ^ 600) close) (le_of_eq ((omega arith) ∙ ap (λ (k : ℕ). 2048 * k) ticks))))

      second : dist (pos one *ℤ (a *ℤ pos tick)) (pos one *ℤ m.place) ≤ one * (534 * tick)
      second = le_trans (le_of_eq (dist_scale one (a *ℤ pos tick) m.place)) (mul-le-mul_left one m.near)

      sum : {p q : ℕ} → p ≤ 2048 * (tick * one) → q ≤ one * (534 * tick) → p + q ≤ 2582 * tick * one
      sum h k = omega arith

  num_small : nat_abs n ≤ 4 * d
  num_small =
      le_of_mul-le-mul_right
      (le_trans
      (le_of_eq
      (sym (abs_mul n (pos one)) ∙ ap nat_abs (sym (exact_units finite)) ∙ abs_mul (units t) (pos d)
      ∙ ap (λ (k : ℕ). k * d) (signed_size (negative t) (mag t))))
      (le_trans (mul-le-mul_right d (le_trans most pi_small)) (le_of_eq (swap d one)))) one_pos
    where
      swap : (d o : ℕ) → 4 * o * d ≡ 4 * d * o
      swap d o = omega arith

  t_small : nat_abs (pos (2 ^ 600) *ℤ n) ≤ 4 * 2 ^ 600 * d
  t_small =
      le_trans (le_of_eq (abs_mul (pos (2 ^ 600)) n))
      (le_trans (mul-le-mul_left (2 ^ 600) num_small) (le_of_eq (swap (2 ^ 600) d)))
    where
      swap : (f d : ℕ) → f * (4 * d) ≡ 4 * f * d
      swap f d = omega arith

  there : nat_abs (m.place *ℤ pos d) ≤ 4 * 2 ^ 600 * d
  there = le_trans (le_of_eq (abs_mul m.place (pos d))) (mul-le-mul_right d (place_small a_small m))

  sine_moved : dist (pos ((2 ^ 600) ^ 80) *ℤ hval sin79 n d) (pos (d ^ 80) *ℤ val sine80 m.place) ≤ d ^ 80 *
      (16 * 2582 * unit80)
  unfolding sine80
  sine_moved =
      subst₂ (λ (p q : ℤ). dist p q ≤ d ^ 80 * (16 * 2582 * unit80))
      (finer_value (2 ^ 600) sin79 n d ∙ ap (λ (k : ℕ). pos ((2 ^ 600) ^ k) *ℤ hval sin79 n d) length_sin79)
      (value_units sine80 m.place d ∙ ap (λ (k : ℕ). pos (d ^ k) *ℤ val sine80 m.place) length_sine)
      (sine_follows (pos (2 ^ 600) *ℤ n) (m.place *ℤ pos d) d 2582 t_small there apart)

  cosine_moved : dist (pos ((2 ^ 600) ^ 80) *ℤ hval cos79 n d) (pos (d ^ 80) *ℤ val cosine80 m.place) ≤ d ^ 80 *
      (16 * 2582 * unit80)
  unfolding cosine80
  cosine_moved =
      subst₂ (λ (p q : ℤ). dist p q ≤ d ^ 80 * (16 * 2582 * unit80))
      (finer_value (2 ^ 600) cos79 n d ∙ ap (λ (k : ℕ). pos ((2 ^ 600) ^ k) *ℤ hval cos79 n d) length_cos79)
      (value_units cosine80 m.place d ∙ ap (λ (k : ℕ). pos (d ^ k) *ℤ val cosine80 m.place) length_cosine)
      (cosine_follows (pos (2 ^ 600) *ℤ n) (m.place *ℤ pos d) d 2582 t_small there apart)

  pub sums_good : Good x y (pos ((2 ^ 600) ^ 80) *ℤ hval sin79 n d) (pos ((2 ^ 600) ^ 80) *ℤ hval cos79 n d)
      (d ^ 80 * (2 ^ 21 * unit80)) (d ^ 80 * (2 ^ 56 * unit80))
  sums_good =
      loosened (d ^ 80 * (2 ^ 21 * unit80)) (d ^ 80 * (2 ^ 56 * unit80)) (omega arith) (omega arith)
      (moved (pos ((2 ^ 600) ^ 80) *ℤ hval sin79 n d) (pos ((2 ^ 600) ^ 80) *ℤ hval cos79 n d)
      (d ^ 80 * (16 * 2582 * unit80)) (omega arith) sine_moved cosine_moved (scaled (d ^ 80) m.points))

-- ---- the answer

-- the sign of y on the angle
abbrev signed_angle : Bool → ℕ → Float
signed_angle s a = cond s (neg (angle_of a)) (angle_of a)

record Answer (s : Bool) (a : ℕ) (t : Float) : Type 0 where
  finite : Finite t
  sign : negative t ≡ s
  size : mag t ≡ mag (angle_of a)

answer : (s : Bool) (a : ℕ) → a ≤ half_turn → Answer s a (signed_angle s a)
answer true a l = let m = angle_made a l in record {
  finite = neg_finite m.most.finite;
  sign = neg_sign m.most.finite ∙ ap not m.sign;
  size = neg_mag (angle_of a);
}
answer false a l = let m = angle_made a l in record { finite = m.most.finite; sign = m.sign; size = refl }

-- inside the domain
pub atan2_inside : {y x : Float} → Domain y x
    → atan2 y x ≡ signed_angle (negative y) (upper_half x (absolute x) (absolute y))
unfolding atan2
atan2_inside {y} {x} g =
    ap (λ (b : Bool). cond b (signed_angle (negative y) (upper_half x (absolute x) (absolute y))) zero64) (inside g)

module _ {y x : Float} (g : Domain y x) where
  abbrev A : ℕ
  A = upper_half x (absolute x) (absolute y)

  upper : Aimed (signed (negative x) (mag (absolute x))) (pos (mag (absolute y))) (pos A) (1128 * unit80)
      (2 ^ 57 * unit80) × (A ≤ half_turn)
  upper = upper_aimed x (point g)

  -- the point (x, |y|)
  above : Aimed (units x) (pos (mag y)) (pos A) (1128 * unit80) (2 ^ 57 * unit80)
  above =
      subst₂ (λ (p q : ℤ). Aimed p q (pos A) (1128 * unit80) (2 ^ 57 * unit80))
      (ap (signed (negative x)) (absolute_mag x)) (ap pos (absolute_mag y)) upper.0

  aimed : Aimed (units x) (units y) (signed (negative y) A) (1128 * unit80) (2 ^ 57 * unit80)
  aimed = go (negative y)
    where
      go : (s : Bool) → Aimed (units x) (signed s (mag y)) (signed s A) (1128 * unit80) (2 ^ 57 * unit80)
      go true = below_axis above
      go false = above

  there_is : Answer (negative y) A (signed_angle (negative y) A)
  there_is = answer (negative y) A upper.1

  pub angle_promise : Angle y x (signed_angle (negative y) A)
  angle_promise = record {
    residual =
        residual_fractions g.x_size.finite g.y_size.finite g.some (exact t) (exact_proper t) unit80 ((2 ^ 600) ^ 80)
        unit_pos scales sums;
    ahead =
        ahead_fractions g.x_size.finite g.y_size.finite g.some (exact t) (exact_proper t) unit80 ((2 ^ 600) ^ 80)
        unit_pos scales sums;
    within = record { finite = there_is.finite; most = most };
  }
    where
      t : Float
      t = signed_angle (negative y) A

      most : mag t ≤ mag pi
      most = le_trans (le_of_eq there_is.size) (angle_most A upper.1)

      close : dist (units t) (signed (negative y) A *ℤ pos grain) ≤ 2048 * grain
      close =
          subst₂ (λ (p q : ℤ). dist p q ≤ 2048 * grain)
          (sym (ap₂ (λ (s : Bool) (k : ℕ). signed s k) there_is.sign there_is.size))
          (sym (signed_times (negative y) A grain))
          (dist_signed (negative y) (mag (angle_of A)) (A * grain) (2048 * grain) (angle_made A upper.1).above
          (angle_made A upper.1).below)

      sums : Good (units x) (units y) (pos ((2 ^ 600) ^ 80) *ℤ hval sin79 (exact t).num (exact t).den)
          (pos ((2 ^ 600) ^ 80) *ℤ hval cos79 (exact t).num (exact t).den) ((exact t).den ^ 80 * (2 ^ 21 * unit80))
          ((exact t).den ^ 80 * (2 ^ 56 * unit80))
      sums = sums_good aimed (le_trans (le_of_eq (signed_size (negative y) A)) upper.1) there_is.finite most close

-- ---- outside

pub atan2_outside : {y x : Float} → T (fits binary64 y) → T (fits binary64 x) → (Domain y x → ⊥) → atan2 y x ≡ zero64
unfolding atan2
atan2_outside {y} {x} g f none = go (in_domain (absolute x) (absolute y)) refl
  where
    go : (b : Bool) → in_domain (absolute x) (absolute y) ≡ b
        → cond b (signed_angle (negative y) (upper_half x (absolute x) (absolute y))) zero64 ≡ zero64
    go true t = absurd (none (domain g f t))
    go false t = refl

pub zero_within : UpToPi zero64
zero_within = record { finite = zero64_finite; most = le_trans (le_of_eq zero64_mag) zero-le }

pub atan2_within : (y x : Float) → T (fits binary64 y) → T (fits binary64 x) → UpToPi (atan2 y x)
unfolding atan2
atan2_within y x g f = go (in_domain (absolute x) (absolute y)) refl
  where
    go : (b : Bool) → in_domain (absolute x) (absolute y) ≡ b
        → UpToPi (cond b (signed_angle (negative y) (upper_half x (absolute x) (absolute y))) zero64)
    go true t = (angle_promise (domain {y = y} {x = x} g f t)).within
    go false t = zero_within

-- ---- zeros

neg_zero : neg (signed_zero false) ≡ signed_zero true
unfolding neg
neg_zero = refl

-- the angles that need no division
angle_zero : angle_of 0 ≡ signed_zero false
unfolding of_int round mul of_bits
angle_zero = refl

angle_half_turn : angle_of half_turn ≡ pi
unfolding of_int round mul of_bits
angle_half_turn = refl

angle_quarter_turn : angle_of quarter_turn ≡ half_pi
unfolding of_int round mul of_bits
angle_quarter_turn = refl

angle_other_quarter : angle_of (half_turn - quarter_turn) ≡ half_pi
unfolding of_int round mul of_bits
angle_other_quarter = refl

arc_zero : arc 0 ≡ 0
unfolding arc horner
arc_zero = refl

-- on the x axis
flat : {w h : Float} → InQuarter w h → mag h ≡ 0 → first_quarter w h ≡ 0
unfolding first_quarter
flat {w} {h} p z = go (lt w h) refl
  where
    go : (b : Bool) → lt w h ≡ b → cond b (quarter_turn - arc (tangent w h)) (arc (tangent h w)) ≡ 0
    go true t = absurd (omega (arith, p.some, (below_diagonal p t).order))
    go false t = ap arc (tangent_zero (above_diagonal p t) z) ∙ arc_zero

-- on the y axis
steep : {w h : Float} → InQuarter w h → mag w ≡ 0 → first_quarter w h ≡ quarter_turn
unfolding first_quarter
steep {w} {h} p z = go (lt w h) refl
  where
    go : (b : Bool) → lt w h ≡ b → cond b (quarter_turn - arc (tangent w h)) (arc (tangent h w)) ≡ quarter_turn
    go true t = ap (λ (n : ℕ). quarter_turn - n) (ap arc (tangent_zero (below_diagonal p t) z) ∙ arc_zero)
    go false t = absurd (omega (arith, p.some, (above_diagonal p t).order))

module _ {y x : Float} (g : Domain y x) where
  first : ℕ
  first = first_quarter (absolute x) (absolute y)

  turned_by : {s : Bool} → negative x ≡ s → upper_half x (absolute x) (absolute y) ≡ cond s (half_turn - first) first
  unfolding upper_half first
  turned_by e =
      ap (λ (s : Bool). cond s (half_turn - first_quarter (absolute x) (absolute y))
      (first_quarter (absolute x) (absolute y))) e

  on_x_axis : mag y ≡ 0 → first ≡ 0
  unfolding first
  on_x_axis z = flat (point g) (absolute_mag y ∙ z)

  on_y_axis : mag x ≡ 0 → first ≡ quarter_turn
  unfolding first
  on_y_axis z = steep (point g) (absolute_mag x ∙ z)

  pub atan2_right : mag y ≡ 0 → negative x ≡ false → atan2 y x ≡ signed_zero (negative y)
  atan2_right z s =
      atan2_inside g ∙ ap (signed_angle (negative y)) (turned_by s ∙ on_x_axis z)
      ∙ ap (λ (t : Float). cond (negative y) (neg t) t) angle_zero ∙ both (negative y)
    where
      both : (s : Bool) → cond s (neg (signed_zero false)) (signed_zero false) ≡ signed_zero s
      both true = neg_zero
      both false = refl

  pub atan2_left : mag y ≡ 0 → negative x ≡ true → atan2 y x ≡ with_sign y pi
  atan2_left z s =
      atan2_inside g ∙ ap (signed_angle (negative y)) (turned_by s ∙ ap (λ (n : ℕ). half_turn - n) (on_x_axis z))
      ∙ ap (λ (t : Float). cond (negative y) (neg t) t) angle_half_turn

  pub atan2_upright : mag x ≡ 0 → atan2 y x ≡ with_sign y half_pi
  atan2_upright z = atan2_inside g ∙ ap (λ (t : Float). cond (negative y) (neg t) t) (go (negative x) refl)
    where
      go : (s : Bool) → negative x ≡ s → angle_of (upper_half x (absolute x) (absolute y)) ≡ half_pi
      go true e = ap angle_of (turned_by e ∙ ap (λ (n : ℕ). half_turn - n) (on_y_axis z)) ∙ angle_other_quarter
      go false e = ap angle_of (turned_by e ∙ on_y_axis z) ∙ angle_quarter_turn

-- ---- the promise

pub atan2_promise : Atan2Promise
atan2_promise = record {
  angle = λ y x g. subst (Angle y x) (sym (atan2_inside g)) (angle_promise g);
  sign = λ y x g. ap negative (atan2_inside g) ∙ (there_is g).sign;
  outside = λ y x g f none. atan2_outside g f none;
  always = atan2_within;
  right = λ y x g z s. atan2_right g z s;
  left = λ y x g z s. atan2_left g z s;
  upright = λ y x g z. atan2_upright g z;
}
