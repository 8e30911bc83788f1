-- What +, -, * and / give in units: each is the `Result` of a signed fraction, and three laws say of every `Result`
-- that it is `Rounded`, when it is finite, and how large it is. Then the magnitude and the sign of a product and a
-- quotient. Rests on Units, Rounding and lib.Ieee.{Exact, Scale}.
use Rattle.std.proofs.Common.{◌≡◌, ℕ, ◌+◌, ◌-◌, ◌*◌, ◌^◌, ◌<◌, ◌≤◌, Bool}
use Rattle.std.proofs.Common.{true, false, cond, not, ◌&&◌, T, ltb, sym, refl}
use Rattle.std.proofs.Common.{ap, ◌∙◌, subst, ap₂, true≢false, le_trans, le_of_eq, lt_of_lt_of_le, lt_of_le_of_lt}
use Rattle.std.proofs.Common.{add-zero, mul_assoc, mul-pos, zero-add}
use Rattle.std.proofs.Common.{mul-one, sub-eq-zero_of_le, arith, ltb→lt, nltb→le}
use mathlib.Core.Bool.{false≢true}
use lib.Arith.{le→nltb}
use lib.Ieee.Bits.{is_false}
use lib.Ieee.{Float, inf, binary64, unlike, fits, odd, units, round, sum, add, sub, mul, div, neg}
use lib.Ieee.Exact.{HasValue, units_val}
use lib.Ieee.Fits.{round_is, round-fits}
use lib.Ieee.Order.{drop, kept}
use lib.Ieee.Scale.{finite, round_same}
use Rattle.binary64.specs.Units.{one, limit, Finite, mag, negative, plus, minus, of_units, signed_zero, Digits53}
use Rattle.binary64.specs.Rounding.{rnd, Rounded, Result}
use Rattle.binary64.proofs.Values.{add_values, mul_values, div_values}
use Rattle.binary64.proofs.Units.{is_of_units, of_units_zero, mag_value, one_is}
use Rattle.binary64.proofs.Units.{one_pos, limit_pow, value_mag, value_sign}
use Rattle.binary64.proofs.Units.{value_finite, plus_is, minus_is, plus_sign}
use Rattle.binary64.proofs.Units.{minus_sign, neg_finite, neg_plus, neg_minus}
use Rattle.binary64.proofs.Rounding.{plus_exact, minus_exact, rnd_is, rnd_same, rnd_le, rnd_zero}

-- ---- `round` in units

-- `units` gives a finite value just below the limit
units_finite : (s : Bool) (q k : ℕ) → T (finite (units binary64 s q k)) → q * 2 ^ k < 2 ^ 2098
unfolding units
units_finite s q k = go (ltb (q * 2 ^ k) (2 ^ 2098)) (ltb→lt (q * 2 ^ k) (2 ^ 2098))
  where
    go : (b : Bool) → (T b → q * 2 ^ k < 2 ^ 2098) → T (finite (cond b (odd 54 s q k 1074) (inf s)))
        → q * 2 ^ k < 2 ^ 2098
    go true h t = h tt
    go false h t = absurd t

module _ (s : Bool) (a c : ℕ) where
  abbrev zeros : ℕ
  zeros = drop 53 (a * 2 ^ 1074) c

  abbrev digits : ℕ
  digits = kept 53 (a * 2 ^ 1074) c

  is_rnd : digits * 2 ^ zeros ≡ rnd (a * one) c
  is_rnd = sym (ap (λ (u : ℕ). rnd (a * u) c) one_is ∙ rnd_is (a * 2 ^ 1074) c)

  -- a / c, rounded, is rnd (a * one) c units, if that is below the limit
  pub round_value : rnd (a * one) c < limit → HasValue (round binary64 s a c) s (rnd (a * one) c) one
  round_value h =
      subst (λ (z : Float). HasValue z s (rnd (a * one) c) one) (sym (round_is binary64 s a c))
      (subst (λ (u : ℕ). HasValue (units binary64 s digits zeros) s (rnd (a * one) c) u) (sym one_is)
      (subst (λ (n : ℕ). HasValue (units binary64 s digits zeros) s n (2 ^ 1074)) is_rnd
      (units_val binary64 s digits zeros
      (subst (λ (n : ℕ). n < 2 ^ 2098) (sym is_rnd) (subst (λ (l : ℕ). rnd (a * one) c < l) limit_pow h)))))

  -- which it is, if what comes out is finite
  pub round_below : T (finite (round binary64 s a c)) → rnd (a * one) c < limit
  round_below t =
      subst (λ (l : ℕ). rnd (a * one) c < l) (sym limit_pow)
      (subst (λ (n : ℕ). n < 2 ^ 2098) is_rnd
      (units_finite s digits zeros (subst (λ (z : Float). T (finite z)) (round_is binary64 s a c) t)))

  -- It is finite, and at most w units, where w has 53 digits, is below the limit, and bounds the fraction.
  pub round_finite : {w : ℕ} → 0 < c → Digits53 w → w < limit → a * one ≤ w * c → Finite (round binary64 s a c)
  round_finite C d l h =
      value_finite (round binary64 s a c) s (rnd (a * one) c) one (round-fits binary64 s a c)
      (round_value (lt_of_le_of_lt (rnd_le (a * one) c C d h) l))

  -- Finite, it has that magnitude and the sign s.
  pub round_mag : Finite (round binary64 s a c) → mag (round binary64 s a c) ≡ rnd (a * one) c
  round_mag f = value_mag (round binary64 s a c) s (rnd (a * one) c) (round_value (round_below f.number))

  pub round_sign : Finite (round binary64 s a c) → negative (round binary64 s a c) ≡ s
  round_sign f = value_sign (round binary64 s a c) s (rnd (a * one) c) one (round_value (round_below f.number))

-- ---- every Result

module _ {z : Float} {p n c : ℕ} (C : 0 < c) (r : Result z p n c) where
  same_rnd : rnd (r.top * one) r.bottom ≡ rnd r.size c
  same_rnd = rnd_same (r.top * one) r.bottom r.size c r.proper C r.scaled

  value : rnd r.size c < limit → HasValue z r.minus? (rnd r.size c) one
  value h =
      subst (λ (x : Float). HasValue x r.minus? (rnd r.size c) one) (sym r.rounds)
      (subst (λ (m : ℕ). HasValue (round binary64 r.minus? r.top r.bottom) r.minus? m one) same_rnd
      (round_value r.minus? r.top r.bottom (subst (λ (m : ℕ). m < limit) (sym same_rnd) h)))

  below : Finite z → rnd r.size c < limit
  below f =
      subst (λ (m : ℕ). m < limit) same_rnd
      (round_below r.minus? r.top r.bottom (subst (λ (x : Float). T (finite x)) r.rounds f.number))

  -- A Result's sign, its magnitude, and both in one, where it is finite.
  pub result_sign : Finite z → negative z ≡ r.minus?
  result_sign f = value_sign z r.minus? (rnd r.size c) one (value (below f))

  pub result_mag : Finite z → mag z ≡ rnd r.size c
  result_mag f = value_mag z r.minus? (rnd r.size c) (value (below f))

  -- z is (p - n) / c, rounded, by its parts above and below zero.
  pub result_rounded : Finite z → Rounded z p n c
  result_rounded f = go r.minus? (result_sign f) r.above r.below
    where
      none : (a b d : ℕ) → a ≡ b + d → b - a ≡ 0
      none a b d e = omega arith

      all : (a b d : ℕ) → a ≡ b + d → d ≡ a - b
      all a b d e = omega arith

      go : (s : Bool) → negative z ≡ s → (s ≡ false → p ≡ n + r.size) → (s ≡ true → n ≡ p + r.size) → Rounded z p n c
      go false e g h =
          let w = plus_is z e in
          record {
            up = w.0 ∙ result_mag f ∙ ap (λ (x : ℕ). rnd x c) (all p n r.size (g refl));
            down = w.1 ∙ sym (ap (λ (x : ℕ). rnd x c) (none p n r.size (g refl)) ∙ rnd_zero c C);
          }
      go true e g h =
          let w = minus_is z e in
          record {
            up = w.0 ∙ sym (ap (λ (x : ℕ). rnd x c) (none n p r.size (h refl)) ∙ rnd_zero c C);
            down = w.1 ∙ result_mag f ∙ ap (λ (x : ℕ). rnd x c) (all n p r.size (h refl));
          }

  -- It is finite, and at most w in size, where w has 53 digits, is below the limit, and bounds the fraction.
  module _ {w : ℕ} (d : Digits53 w) (a : p ≤ n + w * c) (b : n ≤ p + w * c) where
    within : (s : Bool) → (s ≡ false → p ≡ n + r.size) → (s ≡ true → n ≡ p + r.size) → r.size ≤ w * c
    within false g h = let e = g refl in omega arith
    within true g h = let e = h refl in omega arith

    rnd_within : rnd r.size c ≤ w
    rnd_within = rnd_le r.size c C d (within r.minus? r.above r.below)

    pub result_finite : w < limit → Finite z
    result_finite l =
        value_finite z r.minus? (rnd r.size c) one
        (subst (λ (x : Float). T (fits binary64 x)) (sym r.rounds) (round-fits binary64 r.minus? r.top r.bottom))
        (value (lt_of_le_of_lt rnd_within l))

    pub result_le : Finite z → mag z ≤ w
    result_le f = le_trans (le_of_eq (result_mag f)) rnd_within

-- a Result from its sign
module _ (top bottom size c : ℕ) {p n : ℕ} (B : 0 < bottom) (e : top * one * c ≡ size * bottom) where
  plus_result : p ≡ n + size → Result (round binary64 false top bottom) p n c
  plus_result h = record {
    minus? = false;
    size = size;
    top = top;
    bottom = bottom;
    rounds = refl;
    proper = B;
    scaled = e;
    above = λ _. h;
    below = λ k. absurd (false≢true k);
  }

  minus_result : n ≡ p + size → Result (round binary64 true top bottom) p n c
  minus_result h = record {
    minus? = true;
    size = size;
    top = top;
    bottom = bottom;
    rounds = refl;
    proper = B;
    scaled = e;
    above = λ k. absurd (true≢false k);
    below = λ _. h;
  }

-- ---- the sum

-- the sum of ±A and ±B units
sum_result : (s t : Bool) (A B : ℕ)
    → Result (sum binary64 s A t B one) (cond s 0 A + cond t 0 B) (cond s A 0 + cond t B 0) 1
unfolding sum
sum_result false false A B = plus_result (A + B) one (A + B) 1 one_pos (mul-one ((A + B) * one)) (omega arith)
sum_result true true A B = minus_result (A + B) one (A + B) 1 one_pos (mul-one ((A + B) * one)) (omega arith)
sum_result false true A B = go (ltb A B) (ltb→lt A B) (nltb→le A B)
  where
    go : (l : Bool) → (T l → A < B) → (T (not l) → B ≤ A)
        → Result (cond l (round binary64 true (B - A) one) (round binary64 false (A - B) one)) (A + 0) (0 + B) 1
    go true f g = let h = f tt in minus_result (B - A) one (B - A) 1 one_pos (mul-one ((B - A) * one)) (omega arith)
    go false f g = let h = g tt in plus_result (A - B) one (A - B) 1 one_pos (mul-one ((A - B) * one)) (omega arith)
sum_result true false A B = go (ltb A B) (ltb→lt A B) (nltb→le A B)
  where
    -- a difference of equal numbers is +0
    least : (l : Bool) → (T (not l) → A ≤ B) → B ≤ A → Result (round binary64 l (A - B) one) (0 + B) (A + 0) 1
    least true f h = minus_result (A - B) one (A - B) 1 one_pos (mul-one ((A - B) * one)) (omega arith)
    least false f h = let k = f tt in plus_result (A - B) one (A - B) 1 one_pos (mul-one ((A - B) * one)) (omega arith)

    go : (l : Bool) → (T l → A < B) → (T (not l) → B ≤ A)
        → Result (cond l (round binary64 false (B - A) one) (round binary64 (ltb B A) (A - B) one)) (0 + B) (A + 0) 1
    go true f g = let h = f tt in plus_result (B - A) one (B - A) 1 one_pos (mul-one ((B - A) * one)) (omega arith)
    go false f g = least (ltb B A) (nltb→le B A) (g tt)

-- x + y is (plus x + plus y) - (minus x + minus y), rounded.
pub add_result : {x y : Float} → Finite x → Finite y → Result (add binary64 x y) (plus x + plus y) (minus x + minus y) 1
unfolding plus minus
add_result {x} {y} h k =
    rw (add_values x y (negative x) (negative y) (mag x) (mag y) one one_pos (mag_value h) (mag_value k))
    (sum_result (negative x) (negative y) (mag x) (mag y))

-- x - y is x + (-y), and so plus and minus of y change places.
pub sub_is : (x y : Float) → sub binary64 x y ≡ add binary64 x (neg y)
unfolding sub
sub_is x y = refl

-- x - y is (plus x + minus y) - (minus x + plus y), rounded.
pub sub_result : {x y : Float} → Finite x → Finite y → Result (sub binary64 x y) (plus x + minus y) (minus x + plus y) 1
sub_result {x} {y} h k = rw (sub_is x y) (rw (neg_plus k, neg_minus k) at (add_result h (neg_finite k)))

-- ---- results as floats

-- A Result that has 53 digits, and is not zero, is the float of so many units.
module _ {z : Float} {p n c w : ℕ} (C : 0 < c) (r : Result z p n c) (W : 0 < w) (d : Digits53 w) (l : w < limit) where
  pub result_plus : p ≡ n + w * c → z ≡ of_units false w
  result_plus e =
      let f = result_finite C r d (omega arith) (omega arith) l in
      let u = plus_exact C (result_rounded C r f) d e in
      let v = plus_is z (plus_sign z (lt_of_lt_of_le W (le_of_eq (sym u)))) in
      is_of_units f ∙ ap₂ of_units (plus_sign z (lt_of_lt_of_le W (le_of_eq (sym u)))) (sym v.0 ∙ u)

  pub result_minus : n ≡ p + w * c → z ≡ of_units true w
  result_minus e =
      let f = result_finite C r d (omega arith) (omega arith) l in
      let u = minus_exact C (result_rounded C r f) d e in
      let v = minus_is z (minus_sign z (lt_of_lt_of_le W (le_of_eq (sym u)))) in
      is_of_units f ∙ ap₂ of_units (minus_sign z (lt_of_lt_of_le W (le_of_eq (sym u)))) (sym v.1 ∙ u)

not_less : (a b : ℕ) → b ≤ a → ltb a b ≡ false
not_less a b h = is_false (ltb a b) (le→nltb a b h)

-- A sum that is exactly zero is -0 where both are negative, and +0 otherwise.
sum_zero : (s t : Bool) (A B : ℕ) → cond s 0 A + cond t 0 B ≡ cond s A 0 + cond t B 0
    → sum binary64 s A t B one ≡ of_units (s && t) 0
unfolding sum
sum_zero false false A B e = let h : A + B ≡ 0 = omega arith in ap (λ (n : ℕ). of_units false n) h
sum_zero true true A B e = let h : A + B ≡ 0 = omega arith in ap (λ (n : ℕ). of_units true n) h
sum_zero false true A B e =
    rw (not_less A B (omega arith))
    (ap (λ (n : ℕ). of_units false n) (sub-eq-zero_of_le (le_of_eq (sym (add-zero A) ∙ e ∙ zero-add B))))
sum_zero true false A B e =
    rw (not_less A B (omega arith), not_less B A (omega arith))
    (ap (λ (n : ℕ). of_units false n) (sub-eq-zero_of_le (le_of_eq (sym (add-zero A) ∙ sym e ∙ zero-add B))))

-- So x + y, where it is exactly zero, is the zero with that sign.
pub add_zero_sum : {x y : Float} → Finite x → Finite y → plus x + plus y ≡ minus x + minus y
    → add binary64 x y ≡ signed_zero (negative x && negative y)
unfolding plus minus
add_zero_sum {x} {y} h k e =
    add_values x y (negative x) (negative y) (mag x) (mag y) one one_pos (mag_value h) (mag_value k)
    ∙ sum_zero (negative x) (negative y) (mag x) (mag y) e
    ∙ of_units_zero (negative x && negative y)

-- ---- the product and the quotient

product_result : (a c A B : ℕ) → 0 < c → a * one * one ≡ A * B * c → (s t : Bool)
    → Result (round binary64 (unlike s t) a c) (cond s 0 A * cond t 0 B + cond s A 0 * cond t B 0)
    (cond s 0 A * cond t B 0 + cond s A 0 * cond t 0 B) one
product_result a c A B C e false false = plus_result a c (A * B) one C e (omega arith)
product_result a c A B C e true true = plus_result a c (A * B) one C e (omega arith)
product_result a c A B C e false true = minus_result a c (A * B) one C e (omega arith)
product_result a c A B C e true false = minus_result a c (A * B) one C e (omega arith)

-- x * y as one rounding of the magnitudes' product
pub mul_round : {x y : Float} → Finite x → Finite y
    → mul binary64 x y ≡ round binary64 (unlike (negative x) (negative y)) (mag x * mag y) (one * one)
mul_round {x} {y} h k =
    mul_values x y (negative x) (negative y) (mag x) (mag y) one one one_pos one_pos (mag_value h) (mag_value k)

-- x * y is the product of the two, in units of one times one, rounded.
pub mul_result : {x y : Float} → Finite x → Finite y
    → Result (mul binary64 x y) (plus x * plus y + minus x * minus y) (plus x * minus y + minus x * plus y) one
unfolding plus minus
mul_result {x} {y} h k =
    rw (mul_round h k)
    (product_result (mag x * mag y) (one * one) (mag x) (mag y) (mul-pos one_pos one_pos)
    (mul_assoc (mag x * mag y) one one) (negative x) (negative y))

-- x / y for a y with the sign t
quotient_result : (a c A B : ℕ) → 0 < c → a * one * B ≡ A * one * c → (s t : Bool)
    → Result (round binary64 (unlike s t) a c) (cond t (cond s A 0) (cond s 0 A) * one)
    (cond t (cond s 0 A) (cond s A 0) * one) B
quotient_result a c A B C e false false = plus_result a c (A * one) B C e (omega arith)
quotient_result a c A B C e true true = plus_result a c (A * one) B C e (omega arith)
quotient_result a c A B C e false true = minus_result a c (A * one) B C e (omega arith)
quotient_result a c A B C e true false = minus_result a c (A * one) B C e (omega arith)

-- x / y as one rounding of the magnitudes' quotient
pub div_round : {x y : Float} → Finite x → Finite y → 0 < mag y
    → div binary64 x y ≡ round binary64 (unlike (negative x) (negative y)) (mag x) (mag y)
div_round {x} {y} h k Y =
    div_values x y (negative x) (negative y) (mag x) (mag y) one one Y one_pos one_pos (mag_value h) (mag_value k)
    ∙ round_same binary64 (unlike (negative x) (negative y)) (mag x * one) (one * mag y) (mag x) (mag y)
    (mul-pos one_pos Y) Y (mul_assoc (mag x) one (mag y))

signed_quotient : {x y : Float} → Finite x → Finite y → 0 < mag y
    → Result (div binary64 x y) (cond (negative y) (minus x) (plus x) * one)
    (cond (negative y) (plus x) (minus x) * one) (mag y)
unfolding plus minus
signed_quotient {x} {y} h k Y =
    rw (div_round h k Y) (quotient_result (mag x) (mag y) (mag x) (mag y) Y refl (negative x) (negative y))

-- x / y is plus x - minus x over plus y, for a y above zero.
pub div_result : {x y : Float} → Finite x → Finite y → 0 < plus y
    → Result (div binary64 x y) (plus x * one) (minus x * one) (plus y)
div_result {x} {y} h k Y =
    let w = plus_is y (plus_sign y Y) in
    subst (λ (c : ℕ). Result (div binary64 x y) (plus x * one) (minus x * one) c) (sym w.0)
    (subst (λ (s : Bool). Result (div binary64 x y) (cond s (minus x) (plus x) * one) (cond s (plus x) (minus x) * one)
    (mag y)) (plus_sign y Y) (signed_quotient h k (rw (← w.0) Y)))

-- ---- magnitude and sign of a product and a quotient, that of a zero included

module _ {x y : Float} (h : Finite x) (k : Finite y) where
  -- A product has the sign of unlike factors, and the rounded product of the magnitudes.
  pub mul_sign : Finite (mul binary64 x y) → negative (mul binary64 x y) ≡ unlike (negative x) (negative y)
  mul_sign =
      subst (λ (z : Float). Finite z → negative z ≡ unlike (negative x) (negative y)) (sym (mul_round h k))
      (round_sign (unlike (negative x) (negative y)) (mag x * mag y) (one * one))

  pub mul_mag : Finite (mul binary64 x y) → mag (mul binary64 x y) ≡ rnd (mag x * mag y) one
  mul_mag =
      subst (λ (z : Float). Finite z → mag z ≡ rnd (mag x * mag y) one) (sym (mul_round h k))
      (λ (f : Finite (round binary64 (unlike (negative x) (negative y)) (mag x * mag y) (one * one))).
      round_mag (unlike (negative x) (negative y)) (mag x * mag y) (one * one) f
      ∙ rnd_same (mag x * mag y * one) (one * one) (mag x * mag y) one (mul-pos one_pos one_pos) one_pos
      (mul_assoc (mag x * mag y) one one))

  -- A quotient has the sign of unlike operands, and the rounded quotient of the magnitudes.
  pub div_sign : 0 < mag y → Finite (div binary64 x y) → negative (div binary64 x y) ≡ unlike (negative x) (negative y)
  div_sign Y =
      subst (λ (z : Float). Finite z → negative z ≡ unlike (negative x) (negative y)) (sym (div_round h k Y))
      (round_sign (unlike (negative x) (negative y)) (mag x) (mag y))

  pub div_mag : 0 < mag y → Finite (div binary64 x y) → mag (div binary64 x y) ≡ rnd (mag x * one) (mag y)
  div_mag Y =
      subst (λ (z : Float). Finite z → mag z ≡ rnd (mag x * one) (mag y)) (sym (div_round h k Y))
      (round_mag (unlike (negative x) (negative y)) (mag x) (mag y))
