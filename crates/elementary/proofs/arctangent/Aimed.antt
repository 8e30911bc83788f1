-- The recipe's angle in whole numbers points at (x, y): there is an angle within 534 × 2^-62 of it whose 40-term sums
-- are Good for x and y. First below the diagonal, then by the quarter turn, the half turn and the sign. Rests on the
-- cells.
use Rattle.std.proofs.Common.{◌≡◌, ℕ, ◌+◌, ◌-◌, ◌*◌, ◌/◌, ◌^◌, ◌<◌, ◌≤◌, Bool, true, false, cond, ℤ, pos, ◌-ℤ◌}
use Rattle.std.proofs.Common.{◌*ℤ◌, neg_ℤ, nat_abs, sym, refl, ap, ◌∙◌, subst}
use Rattle.std.proofs.Common.{subst₂, le_trans, le_of_eq, add-le-add}
use Rattle.std.proofs.Common.{mul-le-mul_right, div-mul-le_self, sub-le, arith, leb→le}
use lib.Ieee.{Float, lt}
use Rattle.series.specs.Fraction.{signed}
use Rattle.series.specs.Kernel.{mulhi, horner}
use Rattle.series.proofs.Integers.{◌⊖◌, parts, differences, dist, dist-⊖}
use Rattle.series.proofs.Integers.{dist_comm, dist_neg, size_near, abs_mul, neg-*ℤ}
use Rattle.cells.specs.Arc.{arc, first_arc, arcs, quarter_turn, half_turn}
use Rattle.cells.proofs.Plain.{val}
use Rattle.cells.proofs.Tests.{sine80, cosine80, unit80, tick}
use Rattle.cells.proofs.Cell.{Slanted, slanted}
use Rattle.cells.proofs.Turns.{sine_odd, cosine_even, sine_at_quarter}
use Rattle.cells.proofs.Turns.{cosine_at_quarter, sine_at_half, cosine_at_half, cosine_near_one}
use Rattle.binary64.specs.Units.{mag, negative}
use Rattle.elementary.specs.Arctangent.{tangent, first_quarter, upper_half}
use Rattle.elementary.specs.ArctangentSteps.{InQuarter, Ordered}
use Rattle.elementary.proofs.arctangent.Slope.{below_diagonal, above_diagonal}
use Rattle.elementary.proofs.arctangent.Slope.{tangent_small, tangent_above, tangent_below}
use Rattle.elementary.proofs.arctangent.Good.{Good, good, swapped, mirrored, turned, moved, loosened}

-- a is the angle in units of 2^-62
pub record Aimed (x y a : ℤ) (e D : ℕ) : Type 0 where
  pub place : ℤ
  pub near : dist (a *ℤ pos tick) place ≤ 534 * tick
  pub points : Good x y (val sine80 place) (val cosine80 place) e D

-- every angle in play is below 4
turn_small : (half_turn + 534) * tick ≤ 4 * 2 ^ 600
unfolding tick
turn_small = leb→le ((half_turn + 534) * 2 ^ 538) (4 * 2 ^ 600) tt

pub place_small : {x y a : ℤ} {e D : ℕ} → nat_abs a ≤ half_turn → (m : Aimed x y a e D) → nat_abs m.place ≤ 4 * 2 ^ 600
place_small {a = a} l m =
    le_trans (size_near m.place (a *ℤ pos tick))
    (le_trans
    (add-le-add (le_trans (le_of_eq (abs_mul a (pos tick))) (mul-le-mul_right tick l))
    (le_trans (le_of_eq (dist_comm m.place (a *ℤ pos tick))) m.near))
    (le_trans (le_of_eq (omega arith)) turn_small))

-- ---- the laws

-- (b - a) t against b t - z, where a t is near z
less_near : (a b t k : ℕ) (z : ℤ) → a ≤ b → dist (pos a *ℤ pos t) z ≤ k
    → dist (pos (b - a) *ℤ pos t) (pos (b * t) -ℤ z) ≤ k
less_near a b t k z l h =
    let z' = parts z in
    subst (λ (w : ℤ). dist (pos (b - a) *ℤ pos t) (pos (b * t) -ℤ w) ≤ k) (sym z'.2)
    (at z'.0 z'.1 (b - a) (omega arith) (subst (λ (w : ℤ). dist (pos a *ℤ pos t) w ≤ k) z'.2 h))
  where
    at : (p n c : ℕ) → b ≡ c + a → dist (pos a *ℤ pos t) (p ⊖ n) ≤ k
        → dist (pos c *ℤ pos t) (pos (b * t) -ℤ (p ⊖ n)) ≤ k
    at p n c e h =
        let g = simp (differences, dist-⊖) at h in simp (differences, dist-⊖) (omega (arith, ap (λ (m : ℕ). m * t) e))

module _ {x y : ℤ} {e D : ℕ} (a : ℕ) (m : Aimed x y (pos a) e D) (room : 64 * unit80 ≤ D) where
  -- a quarter turn less a points at (y, x)
  pub quarter_less : a ≤ quarter_turn → Aimed y x (pos (quarter_turn - a)) (e + 64 * unit80) (D - 64 * unit80)
  quarter_less l = record {
    place = pos (quarter_turn * tick) -ℤ m.place;
    near = less_near a quarter_turn tick (534 * tick) m.place l m.near;
    points =
        moved (val sine80 (pos (quarter_turn * tick) -ℤ m.place)) (val cosine80 (pos (quarter_turn * tick) -ℤ m.place))
        (64 * unit80) room (sine_at_quarter m.place small) (cosine_at_quarter m.place small) (swapped m.points);
  }
    where
      small : nat_abs m.place ≤ 4 * 2 ^ 600
      small = place_small (le_trans l (leb→le quarter_turn half_turn tt)) m

  -- half a turn less a points at (-x, y)
  pub half_less : a ≤ half_turn → Aimed (neg_ℤ x) y (pos (half_turn - a)) (e + 64 * unit80) (D - 64 * unit80)
  half_less l = record {
    place = pos (half_turn * tick) -ℤ m.place;
    near = less_near a half_turn tick (534 * tick) m.place l m.near;
    points =
        moved (val sine80 (pos (half_turn * tick) -ℤ m.place)) (val cosine80 (pos (half_turn * tick) -ℤ m.place))
        (64 * unit80) room (sine_at_half m.place small) (cosine_at_half m.place small) (mirrored m.points);
  }
    where
      small : nat_abs m.place ≤ 4 * 2 ^ 600
      small = place_small l m

-- -a points at (x, -y)
pub below_axis : {x y a : ℤ} {e D : ℕ} → Aimed x y a e D → Aimed x (neg_ℤ y) (neg_ℤ a) e D
below_axis {x} {y} {a} {e} {D} m = record {
  place = neg_ℤ m.place;
  near =
      le_trans
      (le_of_eq (ap (λ (z : ℤ). dist z (neg_ℤ m.place)) (neg-*ℤ a (pos tick)) ∙ dist_neg (a *ℤ pos tick) m.place))
      m.near;
  points =
      subst₂ (λ (s c : ℤ). Good x (neg_ℤ y) s c e D) (sym (sine_odd m.place)) (sym (cosine_even m.place))
      (turned m.points);
}

pub aimed_looser : {x y a : ℤ} {e D : ℕ} (e' D' : ℕ) → e ≤ e' → D' ≤ D → Aimed x y a e D → Aimed x y a e' D'
aimed_looser e' D' h k m = record { place = m.place; near = m.near; points = loosened e' D' h k m.points }

-- ---- the recipe

-- below the diagonal
pub arc_aimed : {low high : Float} → Ordered low high
    → Aimed (pos (mag high)) (pos (mag low)) (pos (arc (tangent low high))) (1000 * unit80) (2 ^ 58 * unit80)
arc_aimed {low} {high} o = record {
  place = s.place;
  near = s.near;
  points =
      good (tangent low high) (mag low) (mag high) unit80 (val sine80 s.place) (val cosine80 s.place) o.order
      (tangent_above o) (tangent_below o) s.short (cosine_near_one s.place s.small);
}
  where
    s : Slanted (tangent low high)
    s = slanted (tangent low high) (tangent_small o)

first_bound : (z : ℕ) → horner first_arc arcs z ≤ 9223372036854775800
unfolding horner
first_bound z = sub-le first_arc _

pub arc_small : (n : ℕ) → n < 2 ^ 64 → arc n ≤ quarter_turn
unfolding arc
arc_small n l =
    half (mulhi n h)
    (le_trans (omega (arith, div-mul-le_self (n * h) (2 ^ 64), mul-le-mul_right h (below n l)))
    (first_bound (mulhi n n)))
  where
    h : ℕ
    h = horner first_arc arcs (mulhi n n)

    below : (n : ℕ) → n < 2 ^ 64 → n ≤ 2 ^ 64
    below n l = omega arith

    half : (m : ℕ) → m ≤ 9223372036854775800 → m / 2 ≤ 7244019458077122842
    half m h = omega arith

room : 64 * unit80 ≤ 2 ^ 58 * unit80
room = mul-le-mul_right unit80 (leb→le 64 (2 ^ 58) tt)

-- in the first quarter
pub first_aimed : {w h : Float} → InQuarter w h
    → Aimed (pos (mag w)) (pos (mag h)) (pos (first_quarter w h)) (1064 * unit80) ((2 ^ 58 - 64) * unit80)
    × (first_quarter w h ≤ quarter_turn)
unfolding first_quarter
first_aimed {w} {h} p = go (lt w h) refl
  where
    up : (u : ℕ) → 1000 * u + 64 * u ≤ 1064 * u
    up u = omega arith

    down : (u : ℕ) → (2 ^ 58 - 64) * u ≤ 2 ^ 58 * u - 64 * u
    down u = omega arith

    go : (b : Bool) → lt w h ≡ b →
        Aimed (pos (mag w)) (pos (mag h)) (pos (cond b (quarter_turn - arc (tangent w h)) (arc (tangent h w))))
        (1064 * unit80) ((2 ^ 58 - 64) * unit80)
        × (cond b (quarter_turn - arc (tangent w h)) (arc (tangent h w)) ≤ quarter_turn)
    go true t =
        let o = below_diagonal p t in (
          aimed_looser (1064 * unit80) ((2 ^ 58 - 64) * unit80) (up unit80) (down unit80)
              (quarter_less (arc (tangent w h)) (arc_aimed o) room (arc_small (tangent w h) (tangent_small o))),
          sub-le quarter_turn (arc (tangent w h)),
        )
    go false t =
        let o = above_diagonal p t in (
          aimed_looser (1064 * unit80) ((2 ^ 58 - 64) * unit80) (mul-le-mul_right unit80 (leb→le 1000 1064 tt))
              (mul-le-mul_right unit80 (leb→le (2 ^ 58 - 64) (2 ^ 58) tt)) (arc_aimed o),
          arc_small (tangent h w) (tangent_small o),
        )

room_left : 64 * unit80 ≤ (2 ^ 58 - 64) * unit80
room_left = mul-le-mul_right unit80 (leb→le 64 (2 ^ 58 - 64) tt)

-- in the upper half
pub upper_aimed : (x : Float) {w h : Float} → InQuarter w h
    → Aimed (signed (negative x) (mag w)) (pos (mag h)) (pos (upper_half x w h)) (1128 * unit80) (2 ^ 57 * unit80)
    × (upper_half x w h ≤ half_turn)
unfolding upper_half
upper_aimed x {w} {h} p = go (negative x)
  where
    a : ℕ
    a = first_quarter w h

    first : Aimed (pos (mag w)) (pos (mag h)) (pos a) (1064 * unit80) ((2 ^ 58 - 64) * unit80) × (a ≤ quarter_turn)
    first = first_aimed p

    within : a ≤ half_turn
    within = le_trans first.1 (leb→le quarter_turn half_turn tt)

    up : (u : ℕ) → 1064 * u + 64 * u ≤ 1128 * u
    up u = omega arith

    down : (u : ℕ) → 2 ^ 57 * u ≤ (2 ^ 58 - 64) * u - 64 * u
    down u = omega arith

    go : (b : Bool)
        → Aimed (signed b (mag w)) (pos (mag h)) (pos (cond b (half_turn - a) a)) (1128 * unit80) (2 ^ 57 * unit80)
        × (cond b (half_turn - a) a ≤ half_turn)
    go true = (
      aimed_looser (1128 * unit80) (2 ^ 57 * unit80) (up unit80) (down unit80)
          (half_less a first.0 room_left within),
      sub-le half_turn a,
    )
    go false = (
      aimed_looser (1128 * unit80) (2 ^ 57 * unit80) (mul-le-mul_right unit80 (leb→le 1064 1128 tt))
          (mul-le-mul_right unit80 (leb→le (2 ^ 57) (2 ^ 58 - 64) tt)) first.0,
      within,
    )
