-- What a bit pattern of binary64 is in units: sign bit, exponent's field and digits' field as a magnitude, and back.
-- Rests on lib.Ieee.Bits. A pattern is written cond s (2 ^ 63) 0 + (k * 2 ^ 52 + q): q units times 2 ^ k. The leading
-- digit of q, if it has 53, adds one to the exponent's field k.
use Rattle.std.proofs.Common.{◌≡◌, ℕ, zero, suc, ◌+◌, ◌-◌, ◌*◌, ◌/◌, ◌%◌, ◌^◌}
use Rattle.std.proofs.Common.{◌<◌, ◌≤◌, Bool, true, false, cond, not, T, eqb, leb, ◌⊎◌}
use Rattle.std.proofs.Common.{sym, refl, ap, ◌∙◌, subst, ap₂, inl, inr, le_trans, le_of_eq}
use Rattle.std.proofs.Common.{lt_of_lt_of_le, le_of_lt, add-sub_of_le, mul-one, not-le_of_lt}
use Rattle.std.proofs.Common.{arith, lit<, le→leb, eqb→eq, pow_mono, shl_lt}
use lib.Dec.{not_T}
use lib.Arith.{lt→nleb}
use lib.Ieee.{Float, nan, inf, binary64, odd, is_nan, of_fields, of_bits, to_bits}
use lib.Ieee.Exact.{HasValue, odd_sign}
use lib.Ieee.Bits.{of_bits-fits, to_bits-of_bits, is_true, is_false, cond_no}
use lib.Ieee.Scale.{finite}
use Rattle.binary64.specs.Units.{one, limit, Finite, mag, negative, of_units, Digits53}
use Rattle.std.proofs.lemmas.Bool.{cases_lt}
use Rattle.binary64.proofs.Units.{not_nan, one_is, limit_pow, value_mag}
use Rattle.binary64.proofs.Units.{value_sign, value_finite, digits53, of_units_mag, is_of_units}

-- the three fields of a pattern b, as `of_bits` reads them
fields : (s : Bool) (x t b : ℕ) → leb (2 ^ 63) b ≡ s → b % 2 ^ 63 / 2 ^ 52 ≡ x → b % 2 ^ 52 ≡ t
    → of_bits binary64 b ≡ of_fields binary64 s x t
unfolding of_bits
fields s x t b p q r = rw (p, q, r)

pattern_fields : (s : Bool) (x t : ℕ) → x < 2048 → t < 2 ^ 52
    → of_bits binary64 (cond s (2 ^ 63) 0 + (x * 2 ^ 52 + t)) ≡ of_fields binary64 s x t
pattern_fields true x t h k =
    let b = 2 ^ 63 + (x * 2 ^ 52 + t) in
    fields true x t b (is_true (leb (2 ^ 63) b) (le→leb (2 ^ 63) b (omega arith))) (omega arith) (omega arith)
pattern_fields false x t h k =
    let b = 0 + (x * 2 ^ 52 + t) in
    fields false x t b (is_false (leb (2 ^ 63) b) (lt→nleb (2 ^ 63) b (omega arith))) (omega arith) (omega arith)

-- ---- a finite pattern

fields_low : (s : Bool) (t : ℕ) → of_fields binary64 s 0 t ≡ odd 53 s t 0 1074
unfolding of_fields
fields_low s t = refl

fields_mid : (s : Bool) (x t : ℕ) → x ≤ 2045 → of_fields binary64 s (suc x) t ≡ odd 53 s (2 ^ 52 + t) x 1074
unfolding of_fields
fields_mid s x t h =
    cond_no (eqb (suc x) 2047) (cond (eqb t 0) (inf s) nan) (odd 53 s (2 ^ 52 + t) x 1074)
    (not_T (eqb (suc x) 2047) (λ e. other x h (eqb→eq (suc x) 2047 e)))
  where
    other : (x : ℕ) → x ≤ 2045 → suc x ≡ 2047 → ⊥
    other x h e = omega arith

pattern_odd : (s : Bool) (k q : ℕ) → q < 2 ^ 53 → k ≤ 2045 → (k ≡ 0) ⊎ (2 ^ 52 ≤ q)
    → of_bits binary64 (cond s (2 ^ 63) 0 + (k * 2 ^ 52 + q)) ≡ odd 53 s q k 1074
pattern_odd s k q h l c = go (cases_lt q (2 ^ 52)) c
  where
    no_lead : (q < 2 ^ 52) → k ≡ 0 → of_bits binary64 (cond s (2 ^ 63) 0 + (k * 2 ^ 52 + q)) ≡ odd 53 s q k 1074
    no_lead a z = rw z (pattern_fields s 0 q (lit< tt) a ∙ fields_low s q)

    go : (q < 2 ^ 52) ⊎ (2 ^ 52 ≤ q) → (k ≡ 0) ⊎ (2 ^ 52 ≤ q)
        → of_bits binary64 (cond s (2 ^ 63) 0 + (k * 2 ^ 52 + q)) ≡ odd 53 s q k 1074
    go (inl a) (inl z) = no_lead a z
    go (inl a) (inr b) = absurd (not-le_of_lt a b)
    go (inr b) d =
        ap (λ (n : ℕ). of_bits binary64 (cond s (2 ^ 63) 0 + n)) (omega arith)
        ∙ pattern_fields s (suc k) (q - 2 ^ 52) (omega arith) (omega arith)
        ∙ fields_mid s k (q - 2 ^ 52) l
        ∙ ap (λ (n : ℕ). odd 53 s n k 1074) (add-sub_of_le b)

-- A pattern with k in the place of the exponent's field and q added is q * 2 ^ k units: for k = 0 and any q (subnormal
-- and the first normal numbers), and for k up to 2045 and a q with all of its 53 digits.
pub pattern_units : (s : Bool) (k q : ℕ) → q < 2 ^ 53 → k ≤ 2045 → (k ≡ 0) ⊎ (2 ^ 52 ≤ q)
    → of_bits binary64 (cond s (2 ^ 63) 0 + (k * 2 ^ 52 + q)) ≡ of_units s (q * 2 ^ k)
pattern_units s k q h l c =
    let b = cond s (2 ^ 63) 0 + (k * 2 ^ 52 + q) in
    let v : HasValue (of_bits binary64 b) s (q * 2 ^ k) one =
    subst (λ (x : Float). HasValue x s (q * 2 ^ k) one) (sym (pattern_odd s k q h l c))
    (subst (λ (u : ℕ). HasValue (odd 53 s q k 1074) s (q * 2 ^ k) u) (sym one_is) (odd_sign 53 s q k 1074)) in
    is_of_units (value_finite (of_bits binary64 b) s (q * 2 ^ k) one (of_bits-fits binary64 b) v)
    ∙ ap₂ of_units (value_sign (of_bits binary64 b) s (q * 2 ^ k) one v)
    (value_mag (of_bits binary64 b) s (q * 2 ^ k) v)

-- such a number of units has few enough digits, and is below the limit
pub pattern_fits : (k q : ℕ) → q < 2 ^ 53 → k ≤ 2045 → Digits53 (q * 2 ^ k) × (q * 2 ^ k < limit)
pattern_fits k q h l = (
  digits53 q k (le_of_lt h),
  lt_of_lt_of_le (shl_lt 53 k h)
      (le_trans (pow_mono {j = 2098} (omega arith)) (le_of_eq (sym limit_pow))),
)

-- the normal numbers, by exponent's field and digits
pub normal_mag : (x t : ℕ) → suc x < 2047 → t < 2 ^ 52
    → mag (of_bits binary64 (suc x * 2 ^ 52 + t)) ≡ (2 ^ 52 + t) * 2 ^ x
normal_mag x t h k =
    let q = 2 ^ 52 + t in
    let a : q < 2 ^ 53 = omega arith in
    let l : x ≤ 2045 = omega arith in
    let f = pattern_fits x q a l in
    ap (λ (n : ℕ). mag (of_bits binary64 n)) (regroup x t) ∙ ap mag (pattern_units false x q a l (inr (omega arith)))
    ∙ of_units_mag false (q * 2 ^ x) f.0 f.1
  where
    regroup : (x t : ℕ) → suc x * 2 ^ 52 + t ≡ 0 + (x * 2 ^ 52 + (2 ^ 52 + t))
    regroup x t = omega arith

-- the subnormal numbers
pub subnormal_mag : (t : ℕ) → t < 2 ^ 52 → mag (of_bits binary64 t) ≡ t
subnormal_mag t h =
    let a : t < 2 ^ 53 = omega arith in
    let f = pattern_fits 0 t a (omega arith) in
    ap (λ (n : ℕ). mag (of_bits binary64 n)) (regroup t) ∙ ap mag (pattern_units false 0 t a (omega arith) (inl refl))
    ∙ of_units_mag false (t * 2 ^ 0) f.0 f.1 ∙ mul-one t
  where
    regroup : (t : ℕ) → t ≡ 0 + (0 * 2 ^ 52 + t)
    regroup t = omega arith

-- `odd` gives a number with the sign that it was handed
odd_number : (d : ℕ) (s : Bool) (q k l : ℕ) → (negative (odd d s q k l) ≡ s) × (finite (odd d s q k l) ≡ true)
unfolding odd
odd_number d s zero k l = (refl, refl)
odd_number d s (suc q) k l = (refl, refl)

fields_sign : (s : Bool) (x t : ℕ) → T (not (is_nan (of_fields binary64 s x t)))
    → negative (of_fields binary64 s x t) ≡ s
unfolding of_fields
fields_sign s zero t = λ h. (odd_number 53 s t 0 1074).0
fields_sign s (suc x) t = go (eqb (suc x) 2047) (eqb t 0)
  where
    go : (a b : Bool) → T (not (is_nan (cond a (cond b (inf s) nan) (odd 53 s (2 ^ 52 + t) x 1074))))
        → negative (cond a (cond b (inf s) nan) (odd 53 s (2 ^ 52 + t) x 1074)) ≡ s
    go true true h = refl
    go true false h = absurd (unfold is_nan in h)
    go false b h = (odd_number 53 s (2 ^ 52 + t) x 1074).0

fields_finite : (s : Bool) (x t : ℕ) → finite (of_fields binary64 s x t) ≡ not (eqb x 2047)
unfolding of_fields
fields_finite s zero t = (odd_number 53 s t 0 1074).1
fields_finite s (suc x) t = go (eqb (suc x) 2047) (eqb t 0)
  where
    go : (a b : Bool) → finite (cond a (cond b (inf s) nan) (odd 53 s (2 ^ 52 + t) x 1074)) ≡ not a
    go true true = refl
    go true false = refl
    go false b = (odd_number 53 s (2 ^ 52 + t) x 1074).1

-- the sign bit of a pattern that is no NaN's is the sign
pub pattern_sign : (b : ℕ) → T (not (is_nan (of_bits binary64 b))) → negative (of_bits binary64 b) ≡ leb (2 ^ 63) b
unfolding of_bits
pattern_sign b h = fields_sign (leb (2 ^ 63) b) (b % 2 ^ 63 / 2 ^ 52) (b % 2 ^ 52) h

-- a pattern is finite just where its exponent's field is not the highest
pub pattern_finite : (b : ℕ) → finite (of_bits binary64 b) ≡ not (eqb (b % 2 ^ 63 / 2 ^ 52) 2047)
unfolding of_bits
pattern_finite b = fields_finite (leb (2 ^ 63) b) (b % 2 ^ 63 / 2 ^ 52) (b % 2 ^ 52)

-- So a pattern below the infinities', its sign apart, is a finite float.
pub finite_pattern : (b : ℕ) → b % 2 ^ 63 < 2047 * 2 ^ 52 → Finite (of_bits binary64 b)
finite_pattern b h = record {
  fit = of_bits-fits binary64 b;
  number =
      subst (λ (t : Bool). T t) (sym (pattern_finite b))
      (not_T (eqb (b % 2 ^ 63 / 2 ^ 52) 2047) (λ e. other (b % 2 ^ 63) h (eqb→eq (b % 2 ^ 63 / 2 ^ 52) 2047 e)));
}
  where
    other : (n : ℕ) → n < 2047 * 2 ^ 52 → n / 2 ^ 52 ≡ 2047 → ⊥
    other n h e = omega arith

-- the bits of a finite float: of ±q * 2 ^ k units, the pattern with q and k
pub bits_units : {x : Float} → Finite x → (k q : ℕ) → mag x ≡ q * 2 ^ k → q < 2 ^ 53 → k ≤ 2045 → (k ≡ 0) ⊎ (2 ^ 52 ≤ q)
    → to_bits binary64 x ≡ cond (negative x) (2 ^ 63) 0 + (k * 2 ^ 52 + q)
bits_units {x} f k q e h l c =
    let b = cond (negative x) (2 ^ 63) 0 + (k * 2 ^ 52 + q) in
    let is : x ≡ of_bits binary64 b =
    is_of_units f ∙ ap (of_units (negative x)) e ∙ sym (pattern_units (negative x) k q h l c) in
    ap (to_bits binary64) is
    ∙ to_bits-of_bits binary64 b (width (negative x)) (subst (λ (y : Float). T (not (is_nan y))) is (not_nan f))
  where
    width : (s : Bool) → cond s (2 ^ 63) 0 + (k * 2 ^ 52 + q) < 2 ^ 64
    width true = omega arith
    width false = omega arith
