-- The distance of two centres is the root of D, rounded, and this is how it compares with a whole number n: as D does
-- with n². Where the two differ, the distance differs from n by at least 2 ^ -37. Rests on the root of a whole number
-- (elementary's Integers).
use native.Mathlib.Nat.{lt_of_not-le}
use mathlib.Core.Path.{◌≡◌, refl, sym, ◌∙◌}
use Prim.Native.Nat.{ℕ, ◌+◌, ◌-◌, ◌*◌, ◌^◌, ◌≤◌, ◌<◌}
use native.Mathlib.Nat.{le_trans, le_of_eq, mul-le-mul, mul-le-mul_right}
use native.Mathlib.Omega.{arith}
use lib.IntN.{pos, ◌-ℤ◌}
use lib.Ieee.{Float, binary64, of_int}
use Rattle.heads.specs.declared.Head.{Head}
use Rattle.heads.specs.Pair.{squared_distance}
use Rattle.heads.specs.Distance.{InLimits}
use Rattle.binary64.specs.Units.{pow2, one, Finite, mag, plus, minus}
use Rattle.binary64.specs.Magnitude.{Most}
use Rattle.binary64.proofs.Units.{pow2_split, plus_minus}
use Rattle.binary64.proofs.Magnitude.{bound_digits}
use Rattle.binary64.proofs.Whole.{of_int_finite, of_int_pos, sub_of_int}
use Rattle.elementary.specs.Root.{root}
use Rattle.elementary.proofs.root.Values.{root_finite, root_minus}
use Rattle.elementary.proofs.root.Squares.{at_most, at_least}
use Rattle.elementary.proofs.root.Integers.{whole_le, whole_ge, excess, shortfall, hypot_whole}
use Rattle.geometry.specs.Point.{distance}
use Rattle.exact.specs.Circle.{circle_of}

-- 2 ^ -37, in units
abbrev pub margin : ℕ
margin = pow2 1037

-- ---- a whole number as a float

-- x is the whole number n
pub record Is (x : Float) (n : ℕ) : Type 0 where
  pub finite : Finite x
  pub up : plus x ≡ n * one
  pub down : minus x ≡ 0

-- a whole number up to 2 ^ 53 is so, and its size
pub whole_is : (n : ℕ) → n ≤ 2 ^ 53 → Is (of_int binary64 (pos n)) n
whole_is n h =
    let p = of_int_pos n h in
    record { finite = of_int_finite (pos n) h; up = p.0; down = p.1 }

pub is_mag : {x : Float} {n : ℕ} → Is x n → mag x ≡ n * one
is_mag {x} w = sym (plus_minus x) ∙ omega (arith, w.up, w.down)

pub is_most : {x : Float} {n j : ℕ} → Is x n → n ≤ j → Most j 1074 x
is_most w h = record { finite = w.finite; bound = le_trans (le_of_eq (is_mag w)) (mul-le-mul_right one h) }

-- ---- the distance

-- The root of D, for a D below 2 ^ 32.
abbrev pub root_of : ℕ → Float
root_of D = root (of_int binary64 (pos D))

-- a difference of coordinates is below 2 ^ 16, since its square is below 2 ^ 32
pub part_below : (m D : ℕ) → m * m ≤ D → D < 2 ^ 32 → m < 2 ^ 16
part_below m D h L = lt_of_not-le (λ (l : 2 ^ 16 ≤ m). omega (arith, mul-le-mul l l))

-- The distance of two heads' centres is the root of D.
pub distance_is : {a b : Head} → InLimits a → InLimits b → squared_distance a b < 2 ^ 32
    → distance (circle_of a).center (circle_of b).center ≡ root_of (squared_distance a b)
distance_is {a} {b} la lb L =
    rw (
      sub_of_int a.x b.x (omega (arith, la.x)) (omega (arith, lb.x)),
      sub_of_int a.y b.y (omega (arith, la.y)) (omega (arith, lb.y)),
    )
    (hypot_whole (a.x -ℤ b.x) (a.y -ℤ b.y) (omega arith))

module _ (D : ℕ) (L : D < 2 ^ 32) where
  -- D is exact; its root is finite and not below zero
  radicand : Is (of_int binary64 (pos D)) D
  radicand = whole_is D (omega arith)

  pub root_is_finite : Finite (root_of D)
  root_is_finite = root_finite (of_int binary64 (pos D)) radicand.finite.fit

  pub root_down : minus (root_of D) ≡ 0
  root_down = root_minus (of_int binary64 (pos D)) radicand.finite.fit

  pub root_up : plus (root_of D) ≡ mag (root_of D)
  root_up = omega (arith, plus_minus (root_of D), root_down)

  -- it is below 2 ^ 16
  pub root_most : Most (2 ^ 16) 1074 (root_of D)
  root_most = record {
    finite = root_is_finite;
    bound = whole_le radicand.finite radicand.down D (is_mag radicand) (2 ^ 16) (omega arith) (omega arith);
  }

  -- against a whole number n: at most n, at least n, beyond n and short of n by the margin, as D and n² compare
  module _ (n : ℕ) (N : n ≤ 2 ^ 16 - 1) where
    pub root-at-most : D ≤ n * n → mag (root_of D) ≤ n * one
    root-at-most h = whole_le radicand.finite radicand.down D (is_mag radicand) n (omega arith) h

    pub root_at_least : n * n ≤ D → n * one ≤ mag (root_of D)
    root_at_least h = whole_ge radicand.finite radicand.down D (is_mag radicand) n (omega arith) h

    pub root_beyond : n * n < D → n * one + margin ≤ mag (root_of D)
    root_beyond h =
        le_trans (omega arith)
        (excess radicand.finite radicand.down D (is_mag radicand) n 1 37 1037 refl (omega arith) (omega arith)
        (omega arith))

    pub root_short : D < n * n → mag (root_of D) + margin ≤ n * one
    root_short h =
        le_trans (omega arith)
        (shortfall radicand.finite radicand.down D (is_mag radicand) n 1 37 1037 refl (omega arith) (omega arith)
        (omega arith))

  -- against v / 2 ^ 37, as D * 2 ^ 74 and v² compare
  module _ (v : ℕ) (few : v ≤ 2 ^ 53) where
    -- both squares, in units of 2 ^ -37 squared
    squares : (mag (of_int binary64 (pos D)) * one ≡ D * 2 ^ 74 * (margin * margin))
        × (v * margin * (v * margin) ≡ v * v * (margin * margin))
    squares = (rw (is_mag radicand, pow2_split 37 1037) (omega arith), omega arith)

    pub root_at_most_fine : D * 2 ^ 74 ≤ v * v → mag (root_of D) ≤ v * margin
    root_at_most_fine h =
        at_most radicand.finite radicand.down (v * margin) (bound_digits 1037 few)
        (le_trans (le_of_eq squares.0) (le_trans (mul-le-mul_right (margin * margin) h) (le_of_eq (sym squares.1))))

    pub root_at_least_fine : v * v ≤ D * 2 ^ 74 → v * margin ≤ mag (root_of D)
    root_at_least_fine h =
        at_least radicand.finite radicand.down (v * margin) (bound_digits 1037 few)
        (le_trans (le_of_eq squares.1) (le_trans (mul-le-mul_right (margin * margin) h) (le_of_eq (sym squares.0))))
