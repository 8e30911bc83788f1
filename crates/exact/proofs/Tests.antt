-- The tests of the float code on two heads of the domain, each as the test on whole numbers: the distance against the
-- sum and the difference of the radii, `contains`, `intersects`, and whether two circles are identical. Rests on
-- Distance.
use native.Mathlib.Nat.{lt_of_not-le, le_of_suc-le-suc}
use mathlib.Core.Path.{◌≡◌, refl, sym, ap, ap₂, ◌∙◌, subst}
use mathlib.Core.Logic.{◌⊎◌, inl, inr}
use mathlib.Core.Bool.{Bool, true, false, not, ◌&&◌, ◌||◌}
use Prim.Native.Nat.{ℕ, zero, suc, ◌+◌, ◌-◌, ◌*◌, ◌^◌, ◌≤◌, ◌<◌}
use native.Mathlib.Nat.{le_refl, add-mul, mul-le-mul_right}
use native.Mathlib.Omega.{arith}
use lib.Dec.{T, ltb, leb, eqb, eqb→eq, leb→le, le→leb}
use lib.IntN.{ℤ, pos, negsuc, nat_abs, ◌-ℤ◌}
use lib.Ieee.{Float, binary64, add, sub, lt, le, eq, round, of_int, of_bits}
use lib.Ieee.Bits.{is_true}
use lib.Ieee.Fits.{eq→eqb, and_i, and_l, and_r}
use borrow.Author.Tests.{lt-ltb, le-ltb, ne_eqb}
use Rattle.heads.specs.declared.Head.{Head}
use Rattle.heads.specs.Relation as relation
use Rattle.heads.specs.Pair.{is_closed, squared_distance, radius_of, contains_of}
use Rattle.heads.specs.Outlines.{gap_le, covers_facts}
use Rattle.heads.specs.Distance.{InLimits, nat_abs_diff}
use Rattle.binary64.specs.Units.{one, Finite, plus, minus}
use Rattle.binary64.specs.Rounding.{Rounded}
use Rattle.binary64.specs.Constants.{zero64}
use Rattle.binary64.specs.Functions.{absolute}
use Rattle.binary64.specs.Whole.{eq_z}
use Rattle.std.proofs.lemmas.Bool.{cases_lt}
use Rattle.binary64.proofs.Naturals.{same_test, not_ltb}
use Rattle.binary64.proofs.Units.{one_pos, pow2_pos, pow2_split, same_float}
use Rattle.binary64.proofs.Units.{le_units, le_not_lt, lt_of_units, not_lt_of_units}
use Rattle.binary64.proofs.Rounding.{plus_le, plus_ge, minus_none}
use Rattle.binary64.proofs.Operations.{add_result, result_rounded}
use Rattle.binary64.proofs.Magnitude.{bound_digits, add_most}
use Rattle.binary64.proofs.Functions.{absolute_sign, absolute_mag, absolute_most}
use Rattle.binary64.proofs.Whole.{add_of_int, sub_of_int, lt_of_int, eq_of_int}
use Rattle.binary64.proofs.Whole.{of_int_finite, of_int_sign, of_int_mag, of_int_most}
use Rattle.geometry.specs.Circle as circle
use Rattle.geometry.specs.Point.{distance}
use Rattle.exact.specs.Circle.{circle_of}
use Rattle.exact.proofs.Distance.{margin, Is, whole_is, root_of, distance_is, root_is_finite}
use Rattle.exact.proofs.Distance.{root_down, root_up, root_most, root-at-most, root_at_least, root_beyond, root_short}

-- ---- the root of D against a whole number n

-- The test x < y passes just where p < q.
lt_as : {x y : Float} → Finite x → Finite y → (p q : ℕ) → (p < q → plus x + minus y < plus y + minus x)
    → (q ≤ p → plus y + minus x ≤ plus x + minus y) → lt x y ≡ ltb p q
lt_as {x} {y} h k p q f g = go (cases_lt p q)
  where
    go : (p < q) ⊎ (q ≤ p) → lt x y ≡ ltb p q
    go (inl l) = lt_of_units h k (f l) ∙ sym (lt-ltb p q l)
    go (inr l) = not_lt_of_units h k (g l) ∙ sym (le-ltb p q l)

module _ (D n : ℕ) (L : D < 2 ^ 32) (N : n ≤ 2 ^ 16 - 1) where
  -- both as floats
  w : Is (of_int binary64 (pos n)) n
  w = whole_is n (omega arith)

  d : Finite (root_of D)
  d = root_is_finite D L

  -- n < √D, √D < n, n ≤ √D and √D ≤ n, as n² and D compare
  pub below_root : lt (of_int binary64 (pos n)) (root_of D) ≡ ltb (n * n) D
  below_root =
      lt_as w.finite d (n * n) D
      (λ h. omega (arith, root_beyond D L n N h, pow2_pos 1037, root_up D L, root_down D L, w.up, w.down))
      (λ h. omega (arith, root-at-most D L n N h, root_up D L, root_down D L, w.up, w.down))

  pub above_root : lt (root_of D) (of_int binary64 (pos n)) ≡ ltb D (n * n)
  above_root =
      lt_as d w.finite D (n * n)
      (λ h. omega (arith, root_short D L n N h, pow2_pos 1037, root_up D L, root_down D L, w.up, w.down))
      (λ h. omega (arith, root_at_least D L n N h, root_up D L, root_down D L, w.up, w.down))

  pub not_above_root : le (of_int binary64 (pos n)) (root_of D) ≡ leb (n * n) D
  not_above_root = le_not_lt w.finite d ∙ ap not above_root ∙ not_ltb D (n * n)

  pub not_below_root : le (root_of D) (of_int binary64 (pos n)) ≡ leb D (n * n)
  not_below_root = le_not_lt d w.finite ∙ ap not below_root ∙ not_ltb (n * n) D

-- ---- the sum and the difference of the radii

-- the size of an integer, as a float
absolute_of_int : (z : ℤ) → nat_abs z ≤ 2 ^ 53 → absolute (of_int binary64 z) ≡ of_int binary64 (pos (nat_abs z))
absolute_of_int z h =
    same_float (absolute_most (of_int_most z h (le_refl (nat_abs z)))).finite (of_int_finite (pos (nat_abs z)) h)
    (absolute_sign (of_int binary64 z) ∙ sym (of_int_sign (pos (nat_abs z)) h))
    (absolute_mag (of_int binary64 z) ∙ of_int_mag z h ∙ sym (of_int_mag (pos (nat_abs z)) h))

-- the floats' sum and the size of their difference are those of the whole numbers
module _ (r₁ r₂ : ℕ) (L₁ : r₁ ≤ 20000) (L₂ : r₂ ≤ 20000) where
  pub sum_is : add binary64 (of_int binary64 (pos r₁)) (of_int binary64 (pos r₂)) ≡ of_int binary64 (pos (r₁ + r₂))
  sum_is = add_of_int (pos r₁) (pos r₂) (omega arith) (omega arith)

  gap_is : nat_abs (pos r₁ -ℤ pos r₂) ≡ relation.gap r₁ r₂
  unfolding relation.gap
  gap_is = nat_abs_diff (pos r₁) (pos r₂)

  pub difference_is : absolute (sub binary64 (of_int binary64 (pos r₁)) (of_int binary64 (pos r₂)))
      ≡ of_int binary64 (pos (relation.gap r₁ r₂))
  difference_is =
      ap absolute (sub_of_int (pos r₁) (pos r₂) (omega arith) (omega arith))
      ∙ absolute_of_int (pos r₁ -ℤ pos r₂) (omega (arith, gap_is, gap_le r₁ r₂))
      ∙ ap (λ (n : ℕ). of_int binary64 (pos n)) gap_is

-- ---- contains

-- (a - b) * u and b * u are a * u
rest_units : (a b u : ℕ) → b ≤ a → (a - b) * u + b * u ≡ a * u
rest_units a b u h = sym (add-mul (a - b) b u) ∙ ap (λ (n : ℕ). n * u) (omega arith)

module _ (D r₁ r₂ : ℕ) (L : D < 2 ^ 32) (L₁ : r₁ ≤ 20000) (L₂ : r₂ ≤ 20000) where
  R₁ : Is (of_int binary64 (pos r₁)) r₁
  R₁ = whole_is r₁ (omega arith)

  R₂ : Is (of_int binary64 (pos r₂)) r₂
  R₂ = whole_is r₂ (omega arith)

  -- the distance and the second radius together
  abbrev both : Float
  both = add binary64 (root_of D) (of_int binary64 (pos r₂))

  both_finite : Finite both
  both_finite = (add_most (root_most D L) (of_int_most (pos r₂) (omega arith) L₂) (omega arith) (omega arith)).finite

  both_rounded : Rounded both (plus (root_of D) + plus (of_int binary64 (pos r₂)))
      (minus (root_of D) + minus (of_int binary64 (pos r₂))) 1
  both_rounded = result_rounded (le_refl 1) (add_result (root_is_finite D L) R₂.finite) both_finite

  both_down : minus both ≡ 0
  both_down = minus_none (le_refl 1) both_rounded (omega (arith, root_down D L, R₂.down))

  -- each bound is a float itself, so rounding does not pass it
  both_most : r₂ ≤ r₁ → D ≤ (r₁ - r₂) * (r₁ - r₂) → plus both ≤ r₁ * one
  both_most h k =
      let g = rest_units r₁ r₂ one h in
      plus_le (le_refl 1) both_rounded (bound_digits 1074 (omega arith))
      (omega (arith, root-at-most D L (r₁ - r₂) (omega arith) k, root_up D L, R₂.up))

  both_least : r₁ < r₂ → r₂ * one ≤ plus both
  both_least h =
      plus_ge (le_refl 1) both_rounded (bound_digits 1074 (omega arith)) (omega (arith, root_down D L, R₂.up, R₂.down))

  both_beyond : r₂ ≤ r₁ → (r₁ - r₂) * (r₁ - r₂) < D → (r₁ * 2 ^ 37 + 1) * margin ≤ plus both
  both_beyond h k =
      let g = rest_units r₁ r₂ one h in
      plus_ge (le_refl 1) both_rounded (bound_digits 1037 (omega arith))
      (omega (
        arith,
        root_beyond D L (r₁ - r₂) (omega arith) k,
        pow2_split 37 1037,
        ap (λ (n : ℕ). r₁ * n)
            (pow2_split 37 1037),
        root_up D L,
        root_down D L,
        R₂.up,
        R₂.down,
      ))

  -- so where the sum is at most the first radius, D is at most the square of the difference
  larger : plus both ≤ r₁ * one → r₂ ≤ r₁
  larger l =
      le_of_suc-le-suc (lt_of_not-le (λ (h : r₁ < r₂). omega (arith, both_least h, mul-le-mul_right one h, one_pos)))

  within : plus both ≤ r₁ * one → D ≤ (r₁ - r₂) * (r₁ - r₂)
  within l =
      le_of_suc-le-suc (lt_of_not-le (λ (h : (r₁ - r₂) * (r₁ - r₂) < D).
      omega (arith, both_beyond (larger l) h, ap (λ (n : ℕ). r₁ * n) (pow2_split 37 1037), pow2_pos 1037)))

  -- A contains B exactly if rA ≥ rB and D ≤ (rA - rB)².
  pub covers_is : le both (of_int binary64 (pos r₁)) ≡ relation.covers D r₁ r₂
  covers_is = le_units both_finite R₁.finite ∙ same_test (leb left right) (relation.covers D r₁ r₂) there back
    where
      left : ℕ
      left = plus both + minus (of_int binary64 (pos r₁))

      right : ℕ
      right = plus (of_int binary64 (pos r₁)) + minus both

      there : T (leb left right) → T (relation.covers D r₁ r₂)
      there t =
          let l : plus both ≤ r₁ * one = omega (arith, leb→le left right t, R₁.up, R₁.down, both_down) in
          subst T (sym ((covers_facts D r₁ r₂).1 (larger l, within l))) tt

      back : T (relation.covers D r₁ r₂) → T (leb left right)
      back t =
          let f = (covers_facts D r₁ r₂).0 (is_true (relation.covers D r₁ r₂) t) in
          le→leb left right (omega (arith, both_most f.0 f.1, R₁.up, R₁.down, both_down))

-- ---- identical

-- two integers are equal exactly if they lie 0 apart
same_of : (u v : ℤ) → T (eq_z u v) → nat_abs (u -ℤ v) ≡ 0
same_of (pos m) (pos n) t = nat_abs_diff (pos m) (pos n) ∙ omega (arith, eqb→eq m n t)
same_of (pos m) (negsuc n) t = absurd t
same_of (negsuc m) (pos n) t = absurd t
same_of (negsuc m) (negsuc n) t = nat_abs_diff (negsuc m) (negsuc n) ∙ omega (arith, eqb→eq m n t)

of_same : (u v : ℤ) → nat_abs (u -ℤ v) ≡ 0 → T (eq_z u v)
of_same (pos m) (pos n) e = eq→eqb {a = m} {b = n} (omega (arith, e, nat_abs_diff (pos m) (pos n)))
of_same (pos m) (negsuc n) e = absurd (omega (arith, e, nat_abs_diff (pos m) (negsuc n)))
of_same (negsuc m) (pos n) e = absurd (omega (arith, e, nat_abs_diff (negsuc m) (pos n)))
of_same (negsuc m) (negsuc n) e = eq→eqb {a = m} {b = n} (omega (arith, e, nat_abs_diff (negsuc m) (negsuc n)))

-- a sum of two squares is 0 exactly if both are
no_squares : (m n : ℕ) → m * m + n * n ≡ 0 → (m ≡ 0) × (n ≡ 0)
no_squares zero zero e = (refl, refl)
no_squares zero (suc n) e = absurd (omega arith)
no_squares (suc m) n e = absurd (omega arith)

-- so two centres are equal exactly if D is 0
centres : (u v s t : ℤ)
    → (eq_z u v && eq_z s t) ≡ eqb (nat_abs (u -ℤ v) * nat_abs (u -ℤ v) + nat_abs (s -ℤ t) * nat_abs (s -ℤ t)) 0
centres u v s t =
    let m = nat_abs (u -ℤ v) in
    let n = nat_abs (s -ℤ t) in
    same_test (eq_z u v && eq_z s t) (eqb (m * m + n * n) 0)
    (λ h. eq→eqb {a = m * m + n * n} {b = 0}
    (ap₂ (λ (i j : ℕ). i * i + j * j) (same_of u v (and_l (eq_z u v) (eq_z s t) h))
    (same_of s t (and_r (eq_z u v) (eq_z s t) h))))
    (λ h. let z = no_squares m n (eqb→eq (m * m + n * n) 0 h) in and_i (eq_z u v) (eq_z s t) (of_same u v z.0)
    (of_same s t z.1))

and_assoc : (p q r : Bool) → (p && (q && r)) ≡ ((p && q) && r)
and_assoc true q r = refl
and_assoc false q r = refl

-- ---- closed heads

-- zero as a float is the whole number 0
pub zero_is : zero64 ≡ of_int binary64 (pos 0)
unfolding of_bits of_int round
zero_is = refl

not_above : (r : ℕ) → not (ltb 0 r) ≡ relation.closed r
not_above zero = refl
not_above (suc r) = ap not (lt-ltb 0 (suc r) (omega arith)) ∙ sym (ne_eqb (suc r) 0 (λ e. omega arith))

-- a circle is closed if its head is
pub closed_is : {a : Head} → InLimits a → circle.is_closed (circle_of a) ≡ is_closed a
closed_is {a} la =
    ap not
    (ap₂ (λ (z : Float) (r : ℤ). lt z (of_int binary64 r)) zero_is la.whole
    ∙ lt_of_int (pos 0) (pos (radius_of a)) (omega arith) (omega (arith, la.most)))
    ∙ not_above (radius_of a)

pub either_closed_is : {a b : Head} → InLimits a → InLimits b
    → circle.either_closed (circle_of a) (circle_of b) ≡ relation.either_closed (radius_of a) (radius_of b)
either_closed_is la lb = ap₂ (λ (p q : Bool). p || q) (closed_is la) (closed_is lb)

-- ---- the tests on two heads

module _ {a b : Head} (la : InLimits a) (lb : InLimits b) (L : squared_distance a b < 2 ^ 32) where
  -- D, the sum and the difference of the radii
  abbrev D : ℕ
  D = squared_distance a b

  abbrev s : ℕ
  s = radius_of a + radius_of b

  abbrev t : ℕ
  t = relation.gap (radius_of a) (radius_of b)

  t_most : t ≤ 2 ^ 16 - 1
  t_most = omega (arith, gap_le (radius_of a) (radius_of b), la.most, lb.most)

  s_most : s ≤ 2 ^ 16 - 1
  s_most = omega (arith, la.most, lb.most)

  sum : add binary64 (of_int binary64 a.radius) (of_int binary64 b.radius) ≡ of_int binary64 (pos s)
  sum = rw (la.whole, lb.whole) (sum_is (radius_of a) (radius_of b) la.most lb.most)

  difference : absolute (sub binary64 (of_int binary64 a.radius) (of_int binary64 b.radius)) ≡ of_int binary64 (pos t)
  difference = rw (la.whole, lb.whole) (difference_is (radius_of a) (radius_of b) la.most lb.most)

  -- the heads are identical
  pub identical_is : circle.identical (circle_of a) (circle_of b) ≡ relation.identical D (radius_of a) (radius_of b)
  identical_is =
      ap₂ (λ (i j : Bool). i && j) (eq_of_int a.x b.x (omega (arith, la.x)) (omega (arith, lb.x)))
      (ap₂ (λ (i j : Bool). i && j) (eq_of_int a.y b.y (omega (arith, la.y)) (omega (arith, lb.y)))
      (ap₂ (λ (u v : ℤ). eq (of_int binary64 u) (of_int binary64 v)) la.whole lb.whole
      ∙ eq_of_int (pos (radius_of a)) (pos (radius_of b)) (omega (arith, la.most)) (omega (arith, lb.most))))
      ∙ and_assoc (eq_z a.x b.x) (eq_z a.y b.y) (eqb (radius_of a) (radius_of b))
      ∙ ap (λ (i : Bool). i && eqb (radius_of a) (radius_of b)) (centres a.x b.x a.y b.y)

  -- the outlines do not meet, since D > s² or D < t²
  pub apart_is : circle.apart (circle_of a) (circle_of b) (root_of D) ≡ (ltb (s * s) D || ltb D (t * t))
  apart_is =
      ap₂ (λ (i j : Bool). i || j) (ap (λ (z : Float). lt z (root_of D)) sum ∙ below_root D s L s_most)
      (ap (λ (z : Float). lt (root_of D) z) difference ∙ above_root D t L t_most)

  -- the outlines cross: t² < D < s²
  pub intersects_is : circle.intersects (circle_of a) (circle_of b) ≡ (ltb D (s * s) && ltb (t * t) D)
  intersects_is =
      ap₂ (λ (i j : Bool). i && j) (ap₂ lt (distance_is la lb L) sum ∙ above_root D s L s_most)
      (ap₂ lt difference (distance_is la lb L) ∙ below_root D t L t_most)

  -- a covers b: rA ≥ rB and D ≤ (rA - rB)²
  covers_heads : circle.covers (circle_of a) (circle_of b) ≡ relation.covers D (radius_of a) (radius_of b)
  covers_heads =
      ap₂ le (ap₂ (λ (x : Float) (z : ℤ). add binary64 x (of_int binary64 z)) (distance_is la lb L) lb.whole)
      (ap (λ (z : ℤ). of_int binary64 z) la.whole)
      ∙ covers_is D (radius_of a) (radius_of b) L la.most lb.most

  -- a contains b: and neither is closed
  pub contains_heads : circle.contains (circle_of a) (circle_of b) ≡ contains_of a b
  unfolding relation.contains
  contains_heads = ap₂ (λ (p q : Bool). not p && q) (either_closed_is la lb) covers_heads

  -- the distance is at least the sum of the radii: D ≥ s²
  pub beyond_is : le (add binary64 (of_int binary64 a.radius) (of_int binary64 b.radius))
      (distance (circle_of a).center (circle_of b).center) ≡ leb (s * s) D
  beyond_is = ap₂ le sum (distance_is la lb L) ∙ not_above_root D s L s_most

  -- the distance is at most their difference: D ≤ t²
  pub within_is : le (distance (circle_of a).center (circle_of b).center)
      (absolute (sub binary64 (of_int binary64 a.radius) (of_int binary64 b.radius))) ≡ leb D (t * t)
  within_is = ap₂ le (distance_is la lb L) difference ∙ not_below_root D t L t_most
