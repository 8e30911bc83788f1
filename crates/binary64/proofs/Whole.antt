-- Whole numbers up to 2 ^ 53 as floats: sums, differences and products of `of_int` are the `of_int` of the whole
-- result, as data; comparisons are those of whole numbers; magnitudes. With `whole` in place of `of_int` the sign of a
-- zero is followed too. Rests on Values and lib.Ieee.Back.
use Rattle.std.proofs.Common.{◌≡◌, ℕ, zero, suc, ◌+◌, ◌-◌, ◌*◌, ◌^◌, ◌<◌, ◌≤◌}
use Rattle.std.proofs.Common.{Bool, true, false, cond, not, T, eqb, ltb, ℤ, pos, negsuc}
use Rattle.std.proofs.Common.{◌+ℤ◌, ◌-ℤ◌, neg_ℤ, nat_abs, sym, refl, ap, ◌∙◌, subst}
use Rattle.std.proofs.Common.{le_trans, le_of_eq, le_refl, lt_irrefl, mul-le-mul_right}
use Rattle.std.proofs.Common.{arith, eqb→eq, ltb→lt, lt→ltb, nltb→le}
use lib.Signed.{lt_z}
use lib.Dec.{not_T, leb-suc-suc, leb-suc-zero, leb-zero, eqb-suc-suc}
use lib.Ieee.{Float, nan, inf, fin, binary64, up, down, unlike, below, level}
use lib.Ieee.{round, sum, add, sub, mul, neg, lt, eq, of_int}
use lib.Ieee.Back.{round_whole}
use lib.Ieee.Bits.{is_true, is_false}
use lib.Ieee.Exact.{HasValue}
use lib.Ieee.Fits.{round-fits}
use Rattle.binary64.specs.Units.{one, Finite, mag, negative, plus, minus}
use Rattle.binary64.specs.Magnitude.{Most, Least}
use Rattle.binary64.specs.Whole.{whole, below0, eq_z}
use Rattle.binary64.proofs.Naturals.{both_zero}
use Rattle.std.proofs.Math.Bool.{and-true}
use Rattle.binary64.proofs.Values.{add_values, mul_values, lt_values, eq_values}
use Rattle.binary64.proofs.Units.{plus_is, value_mag, value_sign, value_finite}
use Rattle.binary64.proofs.Operations.{sub_is}

-- ---- an integer as a float

-- `of_int` is `whole`, by sign and size
pub of_int_whole : (z : ℤ) → of_int binary64 z ≡ whole (below0 z) (nat_abs z)
unfolding of_int
of_int_whole (pos n) = refl
of_int_whole (negsuc n) = refl

-- Up to 2 ^ 53 it is the integer.
pub whole_value : (s : Bool) (n : ℕ) → n ≤ 2 ^ 53 → HasValue (whole s n) s n 1
whole_value s n h = round_whole binary64 s n h

pub of_int_value : (z : ℤ) → nat_abs z ≤ 2 ^ 53 → HasValue (of_int binary64 z) (below0 z) (nat_abs z) 1
of_int_value z h =
    subst (λ (x : Float). HasValue x (below0 z) (nat_abs z) 1) (sym (of_int_whole z))
    (whole_value (below0 z) (nat_abs z) h)

-- over the denominator `one` too
in_units : (x : Float) (s : Bool) (n : ℕ) → HasValue x s n 1 → HasValue x s (n * one) one
in_units nan s n h = h
in_units (inf t) s n h = h
in_units (fin t m e) s n h = (h.0, regroup (m * up e) n (down e) one h.1)
  where
    regroup : (m n d u : ℕ) → m * 1 ≡ n * d → m * u ≡ n * u * d
    regroup m n d u p = omega (arith, ap (λ (x : ℕ). x * u) p)

module _ (s : Bool) (n : ℕ) (h : n ≤ 2 ^ 53) where
  -- finite, with n times `one` units and the sign s, and so bounded by whole numbers on either side of n
  pub whole_finite : Finite (whole s n)
  whole_finite = value_finite (whole s n) s n 1 (round-fits binary64 s n 1) (whole_value s n h)

  pub whole_mag : mag (whole s n) ≡ n * one
  whole_mag = value_mag (whole s n) s (n * one) (in_units (whole s n) s n (whole_value s n h))

  pub whole_sign : negative (whole s n) ≡ s
  whole_sign = value_sign (whole s n) s n 1 (whole_value s n h)

  pub whole_most : {j : ℕ} → n ≤ j → Most j 1074 (whole s n)
  whole_most l = record { finite = whole_finite; bound = le_trans (le_of_eq whole_mag) (mul-le-mul_right one l) }

  pub whole_least : {j : ℕ} → j ≤ n → Least j 1074 (whole s n)
  whole_least l = record { finite = whole_finite; bound = le_trans (mul-le-mul_right one l) (le_of_eq (sym whole_mag)) }

module _ (z : ℤ) (h : nat_abs z ≤ 2 ^ 53) where
  -- the same of an integer z
  pub of_int_finite : Finite (of_int binary64 z)
  of_int_finite = rw (of_int_whole z) (whole_finite (below0 z) (nat_abs z) h)

  pub of_int_mag : mag (of_int binary64 z) ≡ nat_abs z * one
  of_int_mag = rw (of_int_whole z) (whole_mag (below0 z) (nat_abs z) h)

  pub of_int_sign : negative (of_int binary64 z) ≡ below0 z
  of_int_sign = rw (of_int_whole z) (whole_sign (below0 z) (nat_abs z) h)

  pub of_int_most : {j : ℕ} → nat_abs z ≤ j → Most j 1074 (of_int binary64 z)
  of_int_most l = rw (of_int_whole z) (whole_most (below0 z) (nat_abs z) h l)

  pub of_int_least : {j : ℕ} → j ≤ nat_abs z → Least j 1074 (of_int binary64 z)
  of_int_least l = rw (of_int_whole z) (whole_least (below0 z) (nat_abs z) h l)

-- the parts above and below zero
pub of_int_pos : (n : ℕ) → n ≤ 2 ^ 53
    → (plus (of_int binary64 (pos n)) ≡ n * one) × (minus (of_int binary64 (pos n)) ≡ 0)
of_int_pos n h = let w = plus_is (of_int binary64 (pos n)) (of_int_sign (pos n) h) in (w.0 ∙ of_int_mag (pos n) h, w.1)

-- ---- operations: exact as long as the result is at most 2 ^ 53, and otherwise rounded once, as `of_int` rounds

-- the product, with the sign of a zero
pub mul_whole : (s t : Bool) (a b : ℕ) → a ≤ 2 ^ 53 → b ≤ 2 ^ 53
    → mul binary64 (whole s a) (whole t b) ≡ whole (unlike s t) (a * b)
mul_whole s t a b h k =
    mul_values (whole s a) (whole t b) s t a b 1 1 (le_refl 1) (le_refl 1) (whole_value s a h) (whole_value t b k)

-- the sum and the difference, by lib.Ieee's `sum`: a zero is -0 only as the sum of two
pub add_whole : (s t : Bool) (a b : ℕ) → a ≤ 2 ^ 53 → b ≤ 2 ^ 53
    → add binary64 (whole s a) (whole t b) ≡ sum binary64 s a t b 1
add_whole s t a b h k = add_values (whole s a) (whole t b) s t a b 1 (le_refl 1) (whole_value s a h) (whole_value t b k)

neg_value : (x : Float) (s : Bool) (a c : ℕ) → HasValue x s a c → HasValue (neg x) (not s) a c
unfolding neg
neg_value nan s a c h = h
neg_value (inf t) s a c h = h
neg_value (fin t m e) s a c h = (ap not h.0, h.1)

pub sub_whole : (s t : Bool) (a b : ℕ) → a ≤ 2 ^ 53 → b ≤ 2 ^ 53
    → sub binary64 (whole s a) (whole t b) ≡ sum binary64 s a (not t) b 1
sub_whole s t a b h k =
    sub_is (whole s a) (whole t b)
    ∙ add_values (whole s a) (neg (whole t b)) s (not t) a b 1 (le_refl 1) (whole_value s a h)
    (neg_value (whole t b) t b 1 (whole_value t b k))

-- a sum of signed whole numbers, as an integer
sum_of_int : (a b : ℤ) → sum binary64 (below0 a) (nat_abs a) (below0 b) (nat_abs b) 1 ≡ of_int binary64 (a +ℤ b)
unfolding sum of_int
sum_of_int (pos a) (pos b) = refl
sum_of_int (pos a) (negsuc b) = go (ltb a (suc b)) (ltb→lt a (suc b))
  where
    go : (l : Bool) → (T l → a < suc b)
        → cond l (round binary64 true (suc b - a) 1) (round binary64 false (a - suc b) 1)
        ≡ of_int binary64 (cond l (negsuc (suc b - suc a)) (pos (a - suc b)))
    go true f =
        let h = f tt in let e : suc b - a ≡ suc (suc b - suc a) = omega arith in
        ap (λ (n : ℕ). round binary64 true n 1) e
    go false f = refl
sum_of_int (negsuc a) (pos b) =
    go (ltb (suc a) b) (ltb b (suc a)) (ltb→lt (suc a) b) (nltb→le (suc a) b) (ltb→lt b (suc a)) (nltb→le b (suc a))
  where
    go : (l m : Bool) → (T l → suc a < b) → (T (not l) → b ≤ suc a) → (T m → b < suc a) → (T (not m) → suc a ≤ b)
        → cond l (round binary64 false (b - suc a) 1) (round binary64 m (suc a - b) 1)
        ≡ of_int binary64 (cond m (negsuc (suc a - suc b)) (pos (b - suc a)))
    go true true f f' g g' = let h = f tt in let k = g tt in absurd (omega arith)
    go true false f f' g g' = refl
    go false true f f' g g' =
        let h = g tt in let e : suc a - b ≡ suc (suc a - suc b) = omega arith in
        ap (λ (n : ℕ). round binary64 true n 1) e
    go false false f f' g g' =
        let h = f' tt in let k = g' tt in let e : suc a - b ≡ b - suc a = omega arith in
        ap (λ (n : ℕ). round binary64 false n 1) e
sum_of_int (negsuc a) (negsuc b) =
    let e : suc a + suc b ≡ suc (suc (a + b)) = omega arith in ap (λ (n : ℕ). round binary64 true n 1) e

less_zero : (a : ℕ) → sum binary64 false a true 0 1 ≡ of_int binary64 (pos a +ℤ pos 0)
unfolding sum of_int
less_zero a =
    let e : a - 0 ≡ a + 0 = omega arith in
    ap (λ (l : Bool). cond l (round binary64 true (0 - a) 1) (round binary64 false (a - 0) 1)) (leb-suc-zero a)
    ∙ ap (λ (n : ℕ). round binary64 false n 1) e

more_zero : (a : ℕ) → sum binary64 true (suc a) true 0 1 ≡ of_int binary64 (negsuc a +ℤ pos 0)
unfolding sum of_int
more_zero a =
    let e : suc a + 0 ≡ suc (suc a - 1) = omega arith in
    ap (λ (n : ℕ). round binary64 true n 1) e
    ∙ sym (ap (λ (l : Bool). of_int binary64 (cond l (negsuc (suc a - 1)) (pos (0 - suc a))))
    (leb-suc-suc 0 a ∙ leb-zero a))

-- a difference, in which a zero taken away is a -0 added
difference_of_int : (a b : ℤ)
    → sum binary64 (below0 a) (nat_abs a) (not (below0 b)) (nat_abs b) 1 ≡ of_int binary64 (a -ℤ b)
difference_of_int a (negsuc b) = sum_of_int a (pos (suc b))
difference_of_int a (pos (suc b)) = sum_of_int a (negsuc b)
difference_of_int (pos a) (pos zero) = less_zero a
difference_of_int (negsuc a) (pos zero) = more_zero a

-- The sum of two integers as floats is their sum as a float; so is the difference.
pub add_of_int : (a b : ℤ) → nat_abs a ≤ 2 ^ 53 → nat_abs b ≤ 2 ^ 53
    → add binary64 (of_int binary64 a) (of_int binary64 b) ≡ of_int binary64 (a +ℤ b)
add_of_int a b h k =
    rw (of_int_whole a, of_int_whole b) (add_whole (below0 a) (below0 b) (nat_abs a) (nat_abs b) h k ∙ sum_of_int a b)

pub sub_of_int : (a b : ℤ) → nat_abs a ≤ 2 ^ 53 → nat_abs b ≤ 2 ^ 53
    → sub binary64 (of_int binary64 a) (of_int binary64 b) ≡ of_int binary64 (a -ℤ b)
sub_of_int a b h k =
    rw (of_int_whole a, of_int_whole b)
    (sub_whole (below0 a) (below0 b) (nat_abs a) (nat_abs b) h k ∙ difference_of_int a b)

-- A product is the `of_int` of the whole product, but that a zero has the sign of a product.
pub mul_of_int : (a b : ℤ) → nat_abs a ≤ 2 ^ 53 → nat_abs b ≤ 2 ^ 53
    → mul binary64 (of_int binary64 a) (of_int binary64 b)
    ≡ whole (unlike (below0 a) (below0 b)) (nat_abs a * nat_abs b)
mul_of_int a b h k = rw (of_int_whole a, of_int_whole b) (mul_whole (below0 a) (below0 b) (nat_abs a) (nat_abs b) h k)

-- the square of an integer
pub square_of_int : (a : ℤ) → nat_abs a ≤ 2 ^ 53
    → mul binary64 (of_int binary64 a) (of_int binary64 a) ≡ of_int binary64 (pos (nat_abs a * nat_abs a))
unfolding of_int
square_of_int (pos a) h = mul_whole false false a a h h
square_of_int (negsuc a) h = mul_whole true true (suc a) (suc a) h h

-- factors that are not below zero
pub mul_of_int_pos : (a b : ℕ) → a ≤ 2 ^ 53 → b ≤ 2 ^ 53
    → mul binary64 (of_int binary64 (pos a)) (of_int binary64 (pos b)) ≡ of_int binary64 (pos (a * b))
unfolding of_int
mul_of_int_pos a b h k = mul_whole false false a b h k

below_zero : (n : ℕ) → 0 < n → whole true n ≡ of_int binary64 (neg_ℤ (pos n))
unfolding of_int
below_zero zero h = absurd (lt_irrefl 0 h)
below_zero (suc n) h = refl

-- ---- comparisons

below_lt_z : (a b : ℤ) → below (below0 a) (nat_abs a) (below0 b) (nat_abs b) ≡ lt_z a b
below_lt_z (pos a) (pos b) = refl
below_lt_z (pos a) (negsuc b) = refl
below_lt_z (negsuc a) (pos b) = is_true (ltb 0 (suc a + b)) (lt→ltb 0 (suc a + b) (omega arith))
below_lt_z (negsuc a) (negsuc b) = leb-suc-suc (suc b) a

level_eq_z : (a b : ℤ) → level (below0 a) (nat_abs a) (below0 b) (nat_abs b) ≡ eq_z a b
level_eq_z (pos a) (pos b) = and-true (eqb a b)
level_eq_z (pos a) (negsuc b) =
    both_zero a (suc b) ∙ is_false (eqb (a + suc b) 0) (not_T (eqb (a + suc b) 0) (λ t. let e =
    eqb→eq (a + suc b) 0 t in omega arith))
level_eq_z (negsuc a) (pos b) =
    both_zero (suc a) b ∙ is_false (eqb (suc a + b) 0) (not_T (eqb (suc a + b) 0) (λ t. let e =
    eqb→eq (suc a + b) 0 t in omega arith))
level_eq_z (negsuc a) (negsuc b) = and-true (eqb (suc a) (suc b)) ∙ eqb-suc-suc a b

module _ (a b : ℤ) (h : nat_abs a ≤ 2 ^ 53) (k : nat_abs b ≤ 2 ^ 53) where
  -- Integers as floats compare as integers.
  pub lt_of_int : lt (of_int binary64 a) (of_int binary64 b) ≡ lt_z a b
  lt_of_int =
      lt_values (of_int binary64 a) (of_int binary64 b) (below0 a) (below0 b) (nat_abs a) (nat_abs b) 1 (le_refl 1)
      (of_int_value a h) (of_int_value b k) ∙ below_lt_z a b

  pub eq_of_int : eq (of_int binary64 a) (of_int binary64 b) ≡ eq_z a b
  eq_of_int =
      eq_values (of_int binary64 a) (of_int binary64 b) (below0 a) (below0 b) (nat_abs a) (nat_abs b) 1 (le_refl 1)
      (of_int_value a h) (of_int_value b k) ∙ level_eq_z a b
