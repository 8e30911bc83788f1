-- Identical heads: the point straight to the right of the circle, where its owner is looked for, lies on the edge of both to the bit, so the lower
-- one has the circle. Every step there is exact, since all its numbers are whole.
use mathlib.Core.Path.{◌≡◌, refl, sym, ap, ap₂, ◌∙◌, subst}
use mathlib.Core.Bool.{Bool, true, false, cond, not, ◌&&◌, ◌||◌}
use mathlib.Core.List.{List, [], ◌∷◌, ◌++◌, append_assoc, map-append}
use Prim.Native.Nat.{ℕ, suc, ◌+◌, ◌*◌, ◌≤◌, ◌<◌, zero-le}
use native.Mathlib.Nat.{le_refl, le_trans, le_of_eq, lt_of_lt_of_le, mul-le-mul}
use native.Mathlib.Omega.{arith}
use lib.Dec.{ltb, eqb}
use lib.IntN.{ℤ, pos, negsuc, nat_abs, sub_ℕ, ◌+ℤ◌, ◌-ℤ◌, +ℤ_comm, +ℤ_invr, +ℤ-neg_ℤ_cancel}
use lib.Ieee.{Float, binary64, of_int, of_bits, mul, div, round, is_nan}
use lib.ListN.{length, length-append, length-map}
use borrow.Author.Tests.{lt-ltb, le-ltb, le-leb, eq-eqb, ne_eqb}
use Rattle.binary64.specs.Constants.{one64, two64}
use Rattle.binary64.specs.Floats.{◌+ᶠ◌, ◌-ᶠ◌, ◌*ᶠ◌, ◌/ᶠ◌, ◌<ᶠ◌, ◌≤ᶠ◌}
use Rattle.binary64.specs.Functions.{absolute}
use Rattle.binary64.specs.Magnitude.{Most, Least}
use Rattle.binary64.specs.Units.{one, Finite, Digits53, mag, negative, plus, minus, pow2, of_units, limit}
use Rattle.binary64.proofs.Constants.{one64_mag, one64_sign, one64_most}
use Rattle.binary64.proofs.Functions.{absolute_test, larger_most}
use Rattle.binary64.proofs.Magnitude.{literal_most, add_most, mul_most, div_most}
use Rattle.binary64.proofs.Operations.{add_result, div_sign, div_result, result_plus, result_rounded}
use Rattle.binary64.proofs.Rounding.{plus_ge, minus_none}
use Rattle.binary64.proofs.Units.{one_pos, is_of_units, lt_units, mag_digits, mag_limit, plus_is, zero_finite, zero_mag}
use Rattle.binary64.proofs.Whole.{of_int_finite, of_int_pos, of_int_mag, of_int_sign, of_int_least, add_of_int, sub_of_int, square_of_int}
use Rattle.geometry.specs.declared.circle.Circle.{Circle}
use Rattle.geometry.specs.Point.{squared_distance}
use Rattle.geometry.specs.Tolerances.{coincidence, coincidence_share}
use Rattle.intersections.specs.Members.{Member, circles_of}
use Rattle.boundary.specs.Identical.{whole_circle, unmet, LowerOwns}
use Rattle.boundary.specs.NoArc.{NoneOf}
use Rattle.boundary.specs.Outline.{implicit_value, tolerance, lets, owned_from, owned, probe, full_circle, arcs_at, angles_of, outline_from, outline}
use Rattle.boundary.specs.Sort.{sort_onto_by, sorted_by}
use Rattle.boundary.proofs.OnePoint.{less_itself, none_in}

-- ---- 1 as a float

pub one_finite : Finite one64
one_finite = one64_most.finite

one_units : one64 ≡ of_units false one
one_units = is_of_units one_finite ∙ ap₂ of_units one64_sign one64_mag

one_digits : Digits53 one
one_digits = subst Digits53 one64_mag (mag_digits one_finite)

one_limit : one < limit
one_limit = subst (λ (n : ℕ). n < limit) one64_mag (mag_limit one_finite)

pub one_plus : (plus one64 ≡ one) × (minus one64 ≡ 0)
one_plus = let parts = plus_is one64 one64_sign in (parts.0 ∙ one64_mag, parts.1)

-- x / x is 1
over_itself : (x : Float) → Finite x → 0 < plus x → minus x ≡ 0 → div binary64 x x ≡ one64
over_itself x f h m = result_plus h (div_result f f h) one_pos one_digits one_limit (whole (plus x) (minus x) one m) ∙ sym one_units
  where
    whole : (p n u : ℕ) → n ≡ 0 → p * u ≡ n * u + u * p
    whole p n u e = rw e (omega arith)

-- ---- the two tolerances of an edge

-- twice the distance at which edges coincide
abbrev pub share : Float
share = two64 *ᶠ coincidence

two_most : Most 2 1074 two64
unfolding of_bits mag pow2
two_most = literal_most 0x4000_0000_0000_0000 2 1074 tt tt

coincidence_most : Most 1 1074 coincidence
unfolding of_bits mag pow2
coincidence_most = literal_most 0x3E7A_D7F2_9ABC_AF48 1 1074 tt tt

pub share_most : Most 2 1074 share
share_most = mul_most two_most coincidence_most 1074 refl (omega arith) (omega arith)

share_sign : negative share ≡ false
unfolding mul round of_bits
share_sign = refl

pub least_share : Most 2 1074 coincidence_share
unfolding of_bits mag pow2
least_share = literal_most 0x3D71_9799_812D_EA11 2 1074 tt tt

either_sign : (b : Bool) (u v : Float) → negative u ≡ false → negative v ≡ false → negative (cond b u v) ≡ false
either_sign true u v e f = e
either_sign false u v e f = f

-- ---- the implicit form of the circle at its probe

nat_abs_more : (z : ℤ) (n : ℕ) → nat_abs (z +ℤ pos n) ≤ nat_abs z + n
nat_abs_more (pos m) n = omega arith
nat_abs_more (negsuc m) n = by (ltb n (suc m)) refl
  where
    by : (b : Bool) → ltb n (suc m) ≡ b → nat_abs (sub_ℕ n (suc m)) ≤ suc m + n
    by true e = rw e (omega arith)
    by false e = rw e (omega arith)

module _ (x y : ℤ) (r : ℕ) (hx : nat_abs x ≤ 20000) (hy : nat_abs y ≤ 20000) (least : 1 ≤ r) (most : r ≤ 20000) where
  abbrev c : Circle
  c = whole_circle x y r

  across : of_int binary64 x +ᶠ of_int binary64 (pos r) -ᶠ of_int binary64 x ≡ of_int binary64 (pos r)
  across =
      ap (λ (z : Float). z -ᶠ of_int binary64 x) (add_of_int x (pos r) (omega arith) (omega arith))
      ∙ sub_of_int (x +ℤ pos r) x (le_trans (nat_abs_more x r) (omega arith)) (omega arith)
      ∙ ap (λ (z : ℤ). of_int binary64 (z -ℤ x)) (+ℤ_comm x (pos r))
      ∙ ap (of_int binary64) (+ℤ-neg_ℤ_cancel (pos r) x)

  upward : of_int binary64 y -ᶠ of_int binary64 y ≡ of_int binary64 (pos 0)
  upward = sub_of_int y y (omega arith) (omega arith) ∙ ap (of_int binary64) (+ℤ_invr y)

  small : r * r ≤ 400000000
  small = mul-le-mul most most

  squares : of_int binary64 (pos r) *ᶠ of_int binary64 (pos r) +ᶠ of_int binary64 (pos 0) *ᶠ of_int binary64 (pos 0)
      ≡ of_int binary64 (pos r) *ᶠ of_int binary64 (pos r)
  squares =
      ap₂ (λ (a b : Float). a +ᶠ b) (square_of_int (pos r) (omega arith)) (square_of_int (pos 0) (omega arith))
      ∙ add_of_int (pos (r * r)) (pos 0) (omega (arith, small)) (omega arith)
      ∙ ap (λ (n : ℕ). of_int binary64 (pos n)) (nothing (r * r))
      ∙ sym (square_of_int (pos r) (omega arith))
    where
      nothing : (n : ℕ) → n + 0 ≡ n
      nothing n = omega arith

  radius_parts : (plus (of_int binary64 (pos (r * r))) ≡ r * r * one) × (minus (of_int binary64 (pos (r * r))) ≡ 0)
  radius_parts = of_int_pos (r * r) (omega (arith, small))

  square_over : of_int binary64 (pos r) *ᶠ of_int binary64 (pos r) /ᶠ (of_int binary64 (pos r) *ᶠ of_int binary64 (pos r)) ≡ one64
  square_over =
      ap (λ (z : Float). z /ᶠ z) (square_of_int (pos r) (omega arith))
      ∙ over_itself (of_int binary64 (pos (r * r))) (of_int_finite (pos (r * r)) (omega (arith, small)))
      (lt_of_lt_of_le one_pos (le_trans (some r one least) (le_of_eq (sym radius_parts.0)))) radius_parts.1
    where
      some : (n u : ℕ) → 1 ≤ n → u ≤ n * n * u
      some n u h = let g = mul-le-mul (mul-le-mul h h) (le_refl u) in omega (arith, g)

  value : implicit_value (probe c) c ≡ one64
  unfolding implicit_value squared_distance probe
  value =
      ap₂ (λ (dx dy : Float). (dx *ᶠ dx +ᶠ dy *ᶠ dy) /ᶠ (of_int binary64 (pos r) *ᶠ of_int binary64 (pos r))) across upward
      ∙ ap (λ (z : Float). z /ᶠ (of_int binary64 (pos r) *ᶠ of_int binary64 (pos r))) squares
      ∙ square_over

  -- ---- the tolerance is a number, and not below zero

  pub radius_least : Least 1 1074 (of_int binary64 (pos r))
  radius_least = of_int_least (pos r) (omega arith) least

  pub quotient_most : Most 2 1074 (share /ᶠ of_int binary64 (pos r))
  quotient_most = div_most share_most radius_least 2 1074 refl (omega arith) (omega arith) (omega arith) (omega arith)

  pub radius_mag : 0 < mag (of_int binary64 (pos r))
  radius_mag = lt_of_lt_of_le one_pos (le_trans (some r one least) (le_of_eq (sym (of_int_mag (pos r) (omega arith)))))
    where
      some : (n u : ℕ) → 1 ≤ n → u ≤ n * u
      some n u h = let g = mul-le-mul h (le_refl u) in omega (arith, g)

  pub quotient_sign : negative (share /ᶠ of_int binary64 (pos r)) ≡ false
  quotient_sign =
      div_sign share_most.finite radius_least.finite radius_mag quotient_most.finite
      ∙ rw (share_sign, of_int_sign (pos r) (omega arith)) refl

  pub tolerance_most : Most 2 1074 (tolerance c)
  unfolding tolerance
  tolerance_most = larger_most quotient_most least_share

  pub tolerance_sign : negative (tolerance c) ≡ false
  unfolding tolerance of_bits
  tolerance_sign =
      either_sign (is_nan (share /ᶠ of_int binary64 (pos r)) || (share /ᶠ of_int binary64 (pos r) <ᶠ coincidence_share)) coincidence_share
      (share /ᶠ of_int binary64 (pos r)) refl quotient_sign

  -- ---- so the probe is on the edge, and not beyond it

  on_edge : (absolute (one64 -ᶠ one64) ≤ᶠ tolerance c) ≡ true
  on_edge =
      let none = less_itself one64 one_finite in
      let finite : Finite (one64 -ᶠ one64) = subst Finite (sym none) (zero_finite false) in
      absolute_test finite tolerance_most.finite tolerance_sign ∙ le-leb _ _ (le_trans (le_of_eq (ap mag none ∙ zero_mag false)) zero-le)

  not_beyond : (one64 +ᶠ tolerance c <ᶠ one64) ≡ false
  not_beyond =
      let t = plus_is (tolerance c) tolerance_sign in
      let sum = add_most one64_most (tolerance_most) (omega arith) (omega arith) in
      let rounded = result_rounded (omega arith) (add_result one_finite tolerance_most.finite) sum.finite in
      let above : one ≤ plus (one64 +ᶠ tolerance c) = plus_ge (omega arith) rounded one_digits (omega (arith, one_plus.0, one_plus.1, t.1)) in
      let none : minus (one64 +ᶠ tolerance c) ≡ 0 = minus_none (omega arith) rounded (omega (arith, one_plus.1, t.1)) in
      let z = one64 +ᶠ tolerance c in
      lt_units sum.finite one_finite ∙ le-ltb (plus z + minus one64) (plus one64 + minus z) (omega (arith, above, none, one_plus.0, one_plus.1))

  -- ---- who has the probe

  lets_is : (k l : ℕ) → lets k (probe c) l c ≡ (eqb l k || (not (one64 +ᶠ tolerance c <ᶠ one64) && not ((absolute (one64 -ᶠ one64) ≤ᶠ tolerance c) && ltb l k)))
  unfolding lets
  lets_is k l =
      ap (λ (v : Float). eqb l k || (not (one64 +ᶠ tolerance c <ᶠ v) && not ((absolute (v -ᶠ one64) ≤ᶠ tolerance c) && ltb l k))) value

  -- the lower of two lets the higher not have it, and the higher lets the lower
  lower_keeps : (k l : ℕ) → l < k → lets k (probe c) l c ≡ false
  lower_keeps k l h = lets_is k l ∙ rw (ne_eqb l k (λ e. omega arith), not_beyond, on_edge, lt-ltb l k h) refl

  higher_lets : (k l : ℕ) → k < l → lets k (probe c) l c ≡ true
  higher_lets k l h = lets_is k l ∙ rw (ne_eqb l k (λ e. omega arith), not_beyond, on_edge, le-ltb l k (omega arith)) refl

  own_lets : (k : ℕ) → lets k (probe c) k c ≡ true
  own_lets k = lets_is k k ∙ rw (eq-eqb k k refl) refl

  -- the circle c at a lower position: the probe is not k's own
  not_owned : (k j : ℕ) (before after : List Circle) → j + length before < k → owned_from k (probe c) j (before ++ (c ∷ after)) ≡ false
  unfolding owned_from
  not_owned k j [] after h = rw (lower_keeps k j (omega arith)) refl
  not_owned k j (d ∷ before) after h =
      ap (λ (b : Bool). lets k (probe c) j d && b) (not_owned k (suc j) before after (omega arith)) ∙ no_more (lets k (probe c) j d)
    where
      no_more : (b : Bool) → (b && false) ≡ false
      no_more true = refl
      no_more false = refl

  -- ---- the outlines

  first_owned : owned 0 (probe c) (c ∷ c ∷ []) ≡ true
  unfolding owned_from
  first_owned = rw (own_lets 0, higher_lets 0 1 (omega arith)) refl

  alone : (cs : List Circle) (k : ℕ) (b : Bool) → owned k (probe c) cs ≡ b → arcs_at cs k c (angles_of (unmet c)) ≡ cond b (full_circle k c ∷ []) []
  unfolding arcs_at angles_of sorted_by sort_onto_by
  alone cs k b e = rw e refl

  pair_outline : outline (unmet c ∷ unmet c ∷ []) ≡ full_circle 0 c ∷ []
  unfolding outline outline_from
  pair_outline =
      ap₂ (λ u v. u ++ (v ++ [])) (alone (c ∷ c ∷ []) 0 true first_owned)
      (alone (c ∷ c ∷ []) 1 false (not_owned 1 0 [] (c ∷ []) (omega arith)))

  -- the higher of two gets no arc
  higher_none : (before between after : List Member) (l : Member) → l.circle ≡ c
      → NoneOf (length before + suc (length between)) (outline (before ++ (l ∷ (between ++ (unmet c ∷ after)))))
  higher_none before between after l e =
      let front = before ++ (l ∷ between) in
      let whole : front ++ (unmet c ∷ after) ≡ before ++ (l ∷ (between ++ (unmet c ∷ after))) = append_assoc before (l ∷ between) (unmet c ∷ after) in
      let place : length front ≡ length before + suc (length between) = length-append before (l ∷ between) in
      subst (λ (k : ℕ). NoneOf k (outline (before ++ (l ∷ (between ++ (unmet c ∷ after)))))) place
      (subst (λ ms. NoneOf (length front) (outline ms)) whole
      (none_in front after (unmet c) (omega (arith, place)) (alone (circles_of (front ++ (unmet c ∷ after))) (length front) false (taken place whole))))
    where
      taken : length (before ++ (l ∷ between)) ≡ length before + suc (length between)
          → (before ++ (l ∷ between)) ++ (unmet c ∷ after) ≡ before ++ (l ∷ (between ++ (unmet c ∷ after)))
          → owned (length (before ++ (l ∷ between))) (probe c) (circles_of ((before ++ (l ∷ between)) ++ (unmet c ∷ after))) ≡ false
      taken place whole =
          ap (λ ms. owned (length (before ++ (l ∷ between))) (probe c) (circles_of ms)) whole
          ∙ ap (owned (length (before ++ (l ∷ between))) (probe c)) (map-append (λ (m : Member). m.circle) before (l ∷ (between ++ (unmet c ∷ after))))
          ∙ ap (λ (d : Circle). owned (length (before ++ (l ∷ between))) (probe c) (circles_of before ++ (d ∷ circles_of (between ++ (unmet c ∷ after))))) e
          ∙ not_owned (length (before ++ (l ∷ between))) 0 (circles_of before) (circles_of (between ++ (unmet c ∷ after)))
          (omega (arith, place, length-map before (λ (m : Member). m.circle)))

pub lower_owns : LowerOwns
lower_owns x y r hx hy least most = record { pair = pair_outline x y r hx hy least most; higher = higher_none x y r hx hy least most }
