-- A finite f64 in units of 2^-1074: that the division in `mag` is exact, which numbers of units are magnitudes, that
-- sign and magnitude determine a float, and comparisons as comparisons of natural numbers. Rests on lib.Ieee.{Exact,
-- Fits, Bits}.
use Rattle.std.proofs.Common.{◌≡◌, ℕ, zero, suc, ◌+◌, ◌-◌, ◌*◌, ◌/◌, ◌%◌, ◌^◌, ◌<◌, ◌≤◌, Bool, true, false, cond, not}
use Rattle.std.proofs.Common.{◌&&◌, T, eqb, ltb, leb, ◌⊎◌, ℤ, pos, negsuc, sym, refl, ap, ◌∙◌, subst, ap₂, inl, inr}
use Rattle.std.proofs.Common.{⊎_elim, zero-le, le_trans, le_of_eq, lt_of_lt_of_le, lt_of_le_of_lt, add-zero, lt_irrefl}
use Rattle.std.proofs.Common.{mul-le-mul_right, mul_assoc, add_comm, lt_of_mul-lt-mul_right}
use Rattle.std.proofs.Common.{eq-or-lt_of_le, mul-lt-mul_of_pos_right, mul-pos, one-mul, zero-add}
use Rattle.std.proofs.Common.{zero-mul, mul-one, mul_right_comm, div-one, mul-div_cancel, arith, lit<, le→leb}
use Rattle.std.proofs.Common.{eqb→eq, ltb→lt, lt→ltb, leb→le, nltb→le, pow_pos, pow_mono, pow-add, shl_lt}
use native.Mathlib.Nat.{pow-succ'}
use lib.Dec.{not_T}
use lib.Arith.{le→nltb}
use lib.Ieee.{Float, nan, inf, fin, binary64, up, down, size, below}
use lib.Ieee.{level, fits, is_nan, of_bits, to_bits, lt, le, eq, neg}
use lib.Ieee.Digits.{back}
use lib.Ieee.Exact.{HasValue, round_exact}
use lib.Ieee.Fits.{up_pos, down_pos, and_l, and_r, eq→eqb, round-fits, neg-fits}
use lib.Ieee.Bits.{of_bits-to_bits, is_true, is_false}
use Rattle.binary64.proofs.Naturals.{same_test, lt_or_eq, both_zero, not_ltb, pow_le_back}
use Rattle.std.proofs.Math.Bool.{and-true}
use Rattle.binary64.proofs.Values.{lt_values, eq_values}
use Rattle.binary64.specs.Constants.{zero64, zero64_is}
use Rattle.binary64.specs.Units.{pow2, one, limit, Finite, mag, negative, plus, minus, of_units, signed_zero, Digits53}

-- ---- powers of two

-- what `pow2` is; it is above 0, turns sums into products, and grows
pub pow2_is : (k : ℕ) → pow2 k ≡ 2 ^ k
unfolding pow2
pow2_is k = refl

pub pow2_pos : (k : ℕ) → 0 < pow2 k
unfolding pow2
pow2_pos k = pow_pos k

pub pow2_add : (i k : ℕ) → pow2 (i + k) ≡ pow2 i * pow2 k
unfolding pow2
pow2_add i k = pow-add 2 i k

-- i, written out, comes off as a numeral: pow2 1074 ≡ 2 ^ 37 * pow2 1037
pub pow2_split : (i k : ℕ) → pow2 (i + k) ≡ 2 ^ i * pow2 k
unfolding pow2
pow2_split i k = pow-add 2 i k

pub pow2_mono : {i k : ℕ} → i ≤ k → pow2 i ≤ pow2 k
unfolding pow2
pow2_mono h = pow_mono h

-- The number 1 is 2 ^ 1074 units, and all finite floats lie below 2 ^ 2098 units, which is the number 2 ^ 1024.
pub one_is : one ≡ 2 ^ 1074
one_is = pow2_is 1074

pub one_pos : 0 < one
one_pos = pow2_pos 1074

pub limit_pow : limit ≡ 2 ^ 2098
limit_pow = pow2_is 2098

pub limit_is : limit ≡ 2 ^ 1024 * one
limit_is = pow2_split 1024 1074

-- ---- what fits: few digits, and an exponent that is neither too low nor too high

record Held (m : ℕ) (e : ℤ) : Type 0 where
  small : m < 2 ^ 53
  low : down e ≤ 2 ^ 1074
  high : m * up e < 2 ^ 1024 * down e

held : (s : Bool) (m : ℕ) (e : ℤ) → T (fits binary64 (fin s m e)) → Held m e
unfolding fits
held s zero e t = record {
  small = pow_pos 53;
  low =
      le_trans (le_of_eq (sym (one-mul (down e))))
      (le_trans (mul-le-mul_right (down e) (up_pos e))
      (le_trans (le_of_eq (eqb→eq (up e * down e) 1 t)) (pow_pos 1074)));
  high = subst (λ (x : ℕ). x < 2 ^ 1024 * down e) (sym (zero-mul (up e))) (mul-pos (pow_pos 1024) (down_pos e));
}
held s (suc m) e t =
    let A = eqb (suc m % 2) 1 in
    let B = ltb (suc m) (2 ^ 53) in
    let C = leb (down e) (2 ^ 1074) in
    let D = ltb (suc m * up e) (2 ^ 1024 * down e) in
    record {
      small = ltb→lt (suc m) (2 ^ 53) (and_r A B (and_l (A && B) C (and_l (A && B && C) D t)));
      low = leb→le (down e) (2 ^ 1074) (and_r (A && B) C (and_l (A && B && C) D t));
      high = ltb→lt (suc m * up e) (2 ^ 1024 * down e) (and_r (A && B && C) D t);
    }

-- ---- the division in `mag` is exact

-- m * 2 ^ e is m * 2 ^ j units of 2 ^ -l
place : (m l : ℕ) (e : ℤ) → down e ≤ 2 ^ l → (j : ℕ) × (m * up e * 2 ^ l ≡ m * 2 ^ j * down e)
place m l (pos k) h = (k + l, simp (mul_assoc, mul-one, pow-add))
place m l (negsuc k) h =
    let j = l - suc k in (
      j,
      ap (λ (x : ℕ). m * 1 * x)
          (ap (λ (x : ℕ). 2 ^ x) (sym (back l (suc k) (pow_le_back (suc k) l h))) ∙ pow-add 2 j (suc k))
          ∙ simp (mul_assoc, mul-one),
    )

mag_fin : (s : Bool) (m : ℕ) (e : ℤ) → mag (fin s m e) ≡ m * up e * one / down e
unfolding mag
mag_fin s m e = refl

-- x's magnitude is m * 2 ^ j units
place_mag : (s : Bool) (m : ℕ) (e : ℤ) → T (fits binary64 (fin s m e))
    → (j : ℕ) × (mag (fin s m e) ≡ m * 2 ^ j) × (m * up e * one ≡ m * 2 ^ j * down e)
place_mag s m e t =
    let p = place m 1074 e (held s m e t).low in
    let q : m * up e * one ≡ m * 2 ^ p.0 * down e = ap (λ (x : ℕ). m * up e * x) one_is ∙ p.1 in
    (p.0, mag_fin s m e ∙ ap (λ (x : ℕ). x / down e) q ∙ mul-div_cancel (m * 2 ^ p.0) (down_pos e), q)

-- mag x / one is x's size, as a fraction
pub mag_exact : (s : Bool) (m : ℕ) (e : ℤ) → T (fits binary64 (fin s m e)) → mag (fin s m e) * down e ≡ m * up e * one
mag_exact s m e t = let p = place_mag s m e t in ap (λ (x : ℕ). x * down e) p.1 ∙ sym p.2

-- A finite float is ±mag x / one.
pub mag_value : {x : Float} → Finite x → HasValue x (negative x) (mag x) one
mag_value {x = nan} h = absurd h.number
mag_value {x = inf s} h = absurd h.number
mag_value {x = fin s m e} h = (refl, sym (mag_exact s m e h.fit))

-- What has the value ±a units has that magnitude and that sign, and is finite.
pub value_mag : (x : Float) (s : Bool) (a : ℕ) → HasValue x s a one → mag x ≡ a
value_mag nan s a h = absurd h
value_mag (inf t) s a h = absurd h
value_mag (fin t m e) s a h = mag_fin t m e ∙ ap (λ (x : ℕ). x / down e) h.1 ∙ mul-div_cancel a (down_pos e)

pub value_sign : (x : Float) (s : Bool) (a c : ℕ) → HasValue x s a c → negative x ≡ s
value_sign nan s a c h = absurd h
value_sign (inf t) s a c h = absurd h
value_sign (fin t m e) s a c h = h.0

pub value_finite : (x : Float) (s : Bool) (a c : ℕ) → T (fits binary64 x) → HasValue x s a c → Finite x
value_finite nan s a c t h = absurd h
value_finite (inf u) s a c t h = absurd h
value_finite (fin u m e) s a c t h = record { fit = t; number = tt }

-- ---- which numbers of units are magnitudes: those of at most 53 digits before their closing zeros, below `limit`

-- A magnitude has 53 digits, and is below the limit.
pub mag_digits : {x : Float} → Finite x → Digits53 (mag x)
mag_digits {x = nan} h = absurd h.number
mag_digits {x = inf s} h = absurd h.number
mag_digits {x =
    fin s m e} h = let p = place_mag s m e h.fit in record {
      digits = m;
      zeros = p.0;
      few = (held s m e h.fit).small;
      is = p.1;
    }

pub mag_limit : {x : Float} → Finite x → mag x < limit
mag_limit {x = nan} h = absurd h.number
mag_limit {x = inf s} h = absurd h.number
mag_limit {x = fin s m e} h =
    lt_of_mul-lt-mul_right (down e)
    (subst (λ (y : ℕ). y < limit * down e) (sym (mag_exact s m e h.fit))
    (subst (λ (y : ℕ). m * up e * one < y)
    (mul_right_comm (2 ^ 1024) (down e) one ∙ ap (λ (y : ℕ). y * down e) (sym limit_is))
    (mul-lt-mul_of_pos_right (held s m e h.fit).high one_pos)))

-- conversely, `of_units s n` is a float of just n units
pub of_units_value : (s : Bool) (n : ℕ) → Digits53 n → n < limit → HasValue (of_units s n) s n one
of_units_value s n d h =
    round_exact binary64 s n one d.digits d.zeros one_pos d.few
    (subst (λ (y : ℕ). d.digits * 2 ^ d.zeros < y) limit_pow (subst (λ (y : ℕ). y < limit) d.is h))
    (ap₂ (λ (y z : ℕ). y * z) d.is (sym one_is))

pub of_units_mag : (s : Bool) (n : ℕ) → Digits53 n → n < limit → mag (of_units s n) ≡ n
of_units_mag s n d h = value_mag (of_units s n) s n (of_units_value s n d h)

pub of_units_sign : (s : Bool) (n : ℕ) → Digits53 n → n < limit → negative (of_units s n) ≡ s
of_units_sign s n d h = value_sign (of_units s n) s n one (of_units_value s n d h)

pub of_units_finite : (s : Bool) (n : ℕ) → Digits53 n → n < limit → Finite (of_units s n)
of_units_finite s n d h = value_finite (of_units s n) s n one (round-fits binary64 s n one) (of_units_value s n d h)

-- j * 2 ^ a has at most 53 digits for j up to 2 ^ 53 itself
pub digits53 : (j a : ℕ) → j ≤ 2 ^ 53 → Digits53 (j * 2 ^ a)
digits53 j a h = go (eq-or-lt_of_le h)
  where
    go : (j ≡ 2 ^ 53) ⊎ (j < 2 ^ 53) → Digits53 (j * 2 ^ a)
    go (inl p) = record {
      digits = 2 ^ 52;
      zeros = suc a;
      few = lit< tt;
      is = ap (λ (x : ℕ). x * 2 ^ a) p ∙ (omega arith) ∙ sym (ap (λ (x : ℕ). 2 ^ 52 * x) (pow-succ' 2 a));
    }
    go (inr l) = record { digits = j; zeros = a; few = l; is = refl }

-- j * 2 ^ a is below the limit for such a j and an a up to 2044
pub below_limit : (j a : ℕ) → j ≤ 2 ^ 53 → a ≤ 2044 → j * 2 ^ a < limit
below_limit j a h k =
    lt_of_lt_of_le (shl_lt 54 a (lt_of_le_of_lt h (lit< tt)))
    (le_trans (pow_mono (room a k)) (le_of_eq (sym limit_pow)))
  where
    room : (a : ℕ) → a ≤ 2044 → 54 + a ≤ 2098
    room a k = omega arith

-- ---- sign and magnitude determine a float

-- the bits of a finite float, by its sign and magnitude
pub bits_mag : {x : Float} → Finite x
    → to_bits binary64 x ≡ cond (negative x) (2 ^ 63) 0 + (size (mag x) - 53) * 2 ^ 52 + mag x / 2 ^ (size (mag x) - 53)
bits_mag {x = nan} h = absurd h.number
bits_mag {x = inf s} h = absurd h.number
bits_mag {x = fin s m e} h = unfold to_bits mag pow2 in refl

-- Two finite floats with the same sign and the same magnitude are the same float.
pub same_float : {x y : Float} → Finite x → Finite y → negative x ≡ negative y → mag x ≡ mag y → x ≡ y
same_float {x} {y} h k s n =
    sym (of_bits-to_bits binary64 x h.fit)
    ∙ ap (λ (b : ℕ). of_bits binary64 b)
    (bits_mag h ∙ ap₂ (λ (t : Bool) (a : ℕ). cond t (2 ^ 63) 0 + (size a - 53) * 2 ^ 52 + a / 2 ^ (size a - 53)) s n
    ∙ sym (bits_mag k))
    ∙ of_bits-to_bits binary64 y k.fit

-- every finite float is made from its sign and its magnitude
pub is_of_units : {x : Float} → Finite x → x ≡ of_units (negative x) (mag x)
is_of_units {x} h =
    let d = mag_digits h in
    let l = mag_limit h in
    same_float h (of_units_finite (negative x) (mag x) d l) (sym (of_units_sign (negative x) (mag x) d l))
    (sym (of_units_mag (negative x) (mag x) d l))

-- a finite float is no NaN, which is what `to_bits` asks
pub not_nan : {x : Float} → Finite x → T (not (is_nan x))
unfolding is_nan
not_nan {x = nan} h = absurd h.number
not_nan {x = inf s} h = tt
not_nan {x = fin s m e} h = tt

-- ---- plus and minus

-- The two parts make up the magnitude.
pub plus_minus : (x : Float) → plus x + minus x ≡ mag x
unfolding plus minus
plus_minus x = go (negative x) (mag x)
  where
    go : (s : Bool) (n : ℕ) → cond s 0 n + cond s n 0 ≡ n
    go true n = zero-add n
    go false n = add-zero n

-- of a float without the sign bit
pub plus_is : (x : Float) → negative x ≡ false → (plus x ≡ mag x) × (minus x ≡ 0)
unfolding plus minus
plus_is x h = (ap (λ (s : Bool). cond s 0 (mag x)) h, ap (λ (s : Bool). cond s (mag x) 0) h)

-- of a float with it
pub minus_is : (x : Float) → negative x ≡ true → (plus x ≡ 0) × (minus x ≡ mag x)
unfolding plus minus
minus_is x h = (ap (λ (s : Bool). cond s 0 (mag x)) h, ap (λ (s : Bool). cond s (mag x) 0) h)

-- x is all above zero, or all below
pub one_sided : (x : Float) → ((plus x ≡ mag x) × (minus x ≡ 0)) ⊎ ((plus x ≡ 0) × (minus x ≡ mag x))
one_sided x = go (negative x) refl
  where
    go : (s : Bool) → negative x ≡ s → ((plus x ≡ mag x) × (minus x ≡ 0)) ⊎ ((plus x ≡ 0) × (minus x ≡ mag x))
    go false e = inl (plus_is x e)
    go true e = inr (minus_is x e)

-- what has a part above zero has not the sign bit, and what has one below has it
pub plus_sign : (x : Float) → 0 < plus x → negative x ≡ false
unfolding plus
plus_sign x = go (negative x)
  where
    go : (s : Bool) → 0 < cond s 0 (mag x) → s ≡ false
    go true h = absurd (lt_irrefl 0 h)
    go false h = refl

pub minus_sign : (x : Float) → 0 < minus x → negative x ≡ true
unfolding minus
minus_sign x = go (negative x)
  where
    go : (s : Bool) → 0 < cond s (mag x) 0 → s ≡ true
    go true h = refl
    go false h = absurd (lt_irrefl 0 h)

-- ---- zero

-- A zero of either sign is finite and has no units.
pub zero_finite : (s : Bool) → Finite (signed_zero s)
unfolding fits
zero_finite s = record { fit = tt; number = tt }

pub zero_mag : (s : Bool) → mag (signed_zero s) ≡ 0
zero_mag s = mag_fin s 0 (pos 0) ∙ div-one (0 * 1 * one) ∙ zero-mul one

pub zero_plus : (s : Bool) → plus (signed_zero s) ≡ 0
unfolding plus
zero_plus true = refl
zero_plus false = zero_mag false

pub zero_minus : (s : Bool) → minus (signed_zero s) ≡ 0
unfolding minus
zero_minus true = zero_mag true
zero_minus false = refl

-- What has no units is a zero.
pub is_zero : {x : Float} → Finite x → mag x ≡ 0 → x ≡ signed_zero (negative x)
is_zero {x} h e = same_float h (zero_finite (negative x)) refl (e ∙ sym (zero_mag (negative x)))

-- No units, with a sign, are the zero with that sign.
pub of_units_zero : (s : Bool) → of_units s 0 ≡ signed_zero s
of_units_zero s =
    let d = digits53 0 0 zero-le in
    let l = below_limit 0 0 zero-le zero-le in
    is_zero (of_units_finite s 0 d l) (of_units_mag s 0 d l) ∙ ap signed_zero (of_units_sign s 0 d l)

-- ---- the float -x

-- It has the magnitude of x and the other sign, so its parts are those of x the other way round.
pub neg_mag : (x : Float) → mag (neg x) ≡ mag x
unfolding neg mag
neg_mag nan = refl
neg_mag (inf s) = refl
neg_mag (fin s m e) = refl

pub neg_sign : {x : Float} → Finite x → negative (neg x) ≡ not (negative x)
unfolding neg
neg_sign {x = nan} h = absurd h.number
neg_sign {x = inf s} h = refl
neg_sign {x = fin s m e} h = refl

pub neg_finite : {x : Float} → Finite x → Finite (neg x)
unfolding neg
neg_finite {x = nan} h = absurd h.number
neg_finite {x = inf s} h = absurd h.number
neg_finite {x = fin s m e} h = record { fit = neg-fits binary64 (fin s m e) h.fit; number = tt }

cond_not : (s : Bool) (m n : ℕ) → cond (not s) m n ≡ cond s n m
cond_not true m n = refl
cond_not false m n = refl

pub neg_plus : {x : Float} → Finite x → plus (neg x) ≡ minus x
unfolding plus minus
neg_plus {x} h = ap₂ (λ (s : Bool) (n : ℕ). cond s 0 n) (neg_sign h) (neg_mag x) ∙ cond_not (negative x) 0 (mag x)

pub neg_minus : {x : Float} → Finite x → minus (neg x) ≡ plus x
unfolding plus minus
neg_minus {x} h = ap₂ (λ (s : Bool) (n : ℕ). cond s n 0) (neg_sign h) (neg_mag x) ∙ cond_not (negative x) (mag x) 0

-- ---- comparisons

eqb_sym : (a b : ℕ) → eqb a b ≡ eqb b a
eqb_sym a b = same_test (eqb a b) (eqb b a) (λ t. eq→eqb (sym (eqb→eq a b t))) (λ t. eq→eqb (sym (eqb→eq b a t)))

-- ±a < ±b and ±a = ±b, by the parts above and below zero
below_parts : (s t : Bool) (a b : ℕ) → below s a t b ≡ ltb (cond s 0 a + cond t b 0) (cond t 0 b + cond s a 0)
below_parts false false a b = rw (add-zero a, add-zero b)
below_parts false true a b =
    sym (is_false (ltb (a + b) 0) (not_T (ltb (a + b) 0) (λ t. omega (arith, ltb→lt (a + b) 0 t))))
below_parts true false a b = ap (λ (n : ℕ). ltb 0 n) (add_comm a b)
below_parts true true a b = rw (zero-add a, zero-add b)

level_parts : (s t : Bool) (a b : ℕ) → level s a t b ≡ eqb (cond s 0 a + cond t b 0) (cond t 0 b + cond s a 0)
level_parts false false a b = rw (add-zero a, add-zero b) (and-true (eqb a b))
level_parts false true a b = both_zero a b
level_parts true false a b = both_zero a b ∙ eqb_sym (a + b) 0 ∙ ap (λ (n : ℕ). eqb 0 n) (add_comm a b)
level_parts true true a b = rw (zero-add a, zero-add b) (and-true (eqb a b) ∙ eqb_sym a b)

-- x < y, x = y, x ≤ y: as comparisons of whole numbers of units
pub lt_units : {x y : Float} → Finite x → Finite y → lt x y ≡ ltb (plus x + minus y) (plus y + minus x)
unfolding plus minus
lt_units {x} {y} h k =
    lt_values x y (negative x) (negative y) (mag x) (mag y) one one_pos (mag_value h) (mag_value k)
    ∙ below_parts (negative x) (negative y) (mag x) (mag y)

-- x = y: -0 equals +0
pub eq_units : {x y : Float} → Finite x → Finite y → eq x y ≡ eqb (plus x + minus y) (plus y + minus x)
unfolding plus minus
eq_units {x} {y} h k =
    eq_values x y (negative x) (negative y) (mag x) (mag y) one one_pos (mag_value h) (mag_value k)
    ∙ level_parts (negative x) (negative y) (mag x) (mag y)

pub le_units : {x y : Float} → Finite x → Finite y → le x y ≡ leb (plus x + minus y) (plus y + minus x)
unfolding le
le_units {x} {y} h k = rw (lt_units h k, eq_units h k) (lt_or_eq (plus x + minus y) (plus y + minus x))

-- what a test of the code says, and what it takes to pass or fail it
pub units_of_lt : {x y : Float} → Finite x → Finite y → lt x y ≡ true → plus x + minus y < plus y + minus x
units_of_lt {x} {y} h k e =
    ltb→lt (plus x + minus y) (plus y + minus x) (subst (λ (b : Bool). T b) (sym e ∙ lt_units h k) tt)

pub units_of_not_lt : {x y : Float} → Finite x → Finite y → lt x y ≡ false → plus y + minus x ≤ plus x + minus y
units_of_not_lt {x} {y} h k e =
    nltb→le (plus x + minus y) (plus y + minus x) (subst (λ (b : Bool). T (not b)) (sym e ∙ lt_units h k) tt)

pub lt_of_units : {x y : Float} → Finite x → Finite y → plus x + minus y < plus y + minus x → lt x y ≡ true
lt_of_units {x} {y} h k l =
    lt_units h k ∙ is_true (ltb (plus x + minus y) (plus y + minus x)) (lt→ltb (plus x + minus y) (plus y + minus x) l)

pub not_lt_of_units : {x y : Float} → Finite x → Finite y → plus y + minus x ≤ plus x + minus y → lt x y ≡ false
not_lt_of_units {x} {y} h k l =
    lt_units h k
    ∙ is_false (ltb (plus x + minus y) (plus y + minus x)) (le→nltb (plus x + minus y) (plus y + minus x) l)

pub units_of_le : {x y : Float} → Finite x → Finite y → le x y ≡ true → plus x + minus y ≤ plus y + minus x
units_of_le {x} {y} h k e =
    leb→le (plus x + minus y) (plus y + minus x) (subst (λ (b : Bool). T b) (sym e ∙ le_units h k) tt)

pub le_of_units : {x y : Float} → Finite x → Finite y → plus x + minus y ≤ plus y + minus x → le x y ≡ true
le_of_units {x} {y} h k l =
    le_units h k ∙ is_true (leb (plus x + minus y) (plus y + minus x)) (le→leb (plus x + minus y) (plus y + minus x) l)

pub eq_of_units : {x y : Float} → Finite x → Finite y → plus x + minus y ≡ plus y + minus x → eq x y ≡ true
eq_of_units {x} {y} h k e = eq_units h k ∙ is_true (eqb (plus x + minus y) (plus y + minus x)) (eq→eqb e)

-- among finite floats x ≤ y just where y < x fails
pub le_not_lt : {x y : Float} → Finite x → Finite y → le x y ≡ not (lt y x)
le_not_lt {x} {y} h k = le_units h k ∙ sym (not_ltb (plus y + minus x) (plus x + minus y)) ∙ ap not (sym (lt_units k h))

-- ---- tests against zero

-- the literal 0.0
pub zero64_finite : Finite zero64
zero64_finite = subst (λ (x : Float). Finite x) (sym zero64_is) (zero_finite false)

pub zero64_sign : negative zero64 ≡ false
zero64_sign = ap negative zero64_is

pub zero64_mag : mag zero64 ≡ 0
zero64_mag = ap mag zero64_is ∙ zero_mag false

pub zero64_plus : plus zero64 ≡ 0
zero64_plus = ap plus zero64_is ∙ zero_plus false

pub zero64_minus : minus zero64 ≡ 0
zero64_minus = ap minus zero64_is ∙ zero_minus false

-- one part of a float is 0: the smaller one
no_plus : (x : Float) → plus x ≤ minus x → plus x ≡ 0
no_plus x l = ⊎_elim (λ s. omega (arith, s)) (λ s. s.0) (one_sided x)

no_minus : (x : Float) → minus x ≤ plus x → minus x ≡ 0
no_minus x l = ⊎_elim (λ s. s.1) (λ s. omega (arith, s)) (one_sided x)

module _ {x : Float} (h : Finite x) where
  -- x < 0.0
  pub below_zero : lt x zero64 ≡ true → (plus x ≡ 0) × (0 < minus x)
  below_zero e =
      let l : plus x < minus x = omega (arith, units_of_lt h zero64_finite e, zero64_plus, zero64_minus) in
      (no_plus x (omega arith), omega arith)

  -- x < 0.0 fails: x is a zero or above
  pub not_below_zero : lt x zero64 ≡ false → minus x ≡ 0
  not_below_zero e = no_minus x (omega (arith, units_of_not_lt h zero64_finite e, zero64_plus, zero64_minus))

  -- 0.0 < x
  pub above_zero : lt zero64 x ≡ true → (0 < plus x) × (minus x ≡ 0)
  above_zero e =
      let l : minus x < plus x = omega (arith, units_of_lt zero64_finite h e, zero64_plus, zero64_minus) in
      (omega arith, no_minus x (omega arith))

  -- 0.0 < x fails: x is a zero or below
  pub not_above_zero : lt zero64 x ≡ false → plus x ≡ 0
  not_above_zero e = no_plus x (omega (arith, units_of_not_lt zero64_finite h e, zero64_plus, zero64_minus))
