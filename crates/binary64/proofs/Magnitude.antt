-- Laws of magnitudes: what +, -, *, / and negation make of bounds `Most` and `Least`. A bound j * 2 ^ a with j up to 2
-- ^ 53 is a float itself, so rounding never passes it; with a up to 2044 the result is finite. Rests on Operations.
use Rattle.std.proofs.Common.{◌≡◌, ℕ, zero, suc, ◌+◌, ◌*◌, ◌^◌, ◌<◌, ◌≤◌}
use Rattle.std.proofs.Common.{Bool, true, false, cond, T, leb, ◌⊎◌, sym, refl}
use Rattle.std.proofs.Common.{ap, ◌∙◌, subst, ap₂, inl, inr, zero-le, le_trans, le_of_eq}
use Rattle.std.proofs.Common.{le_refl, lt_of_lt_of_le, mul-le-mul_right, mul_assoc}
use Rattle.std.proofs.Common.{mul-le-mul, mul-le-mul_left, mul-pos, arith, leb→le}
use native.Mathlib.Nat.{mul-mul-mul_comm}
use mathlib.Core.Bool.{false≢true}
use lib.Ieee.Bits.{of_bits-fits}
use lib.Ieee.Scale.{finite}
use lib.Ieee.{nan, inf, fin, fits, le, Float, binary64, of_bits, add, sub, mul, div, neg, round, unlike}
use Rattle.binary64.specs.Units.{pow2, one, limit, Finite, mag, negative, plus, minus, Digits53}
use Rattle.binary64.specs.Constants.{zero64}
use Rattle.binary64.specs.Rounding.{Result}
use Rattle.binary64.specs.Magnitude.{Most, Least}
use Rattle.binary64.proofs.Units.{units_of_le, neg_plus, neg_minus, zero64_finite}
use Rattle.binary64.proofs.Units.{zero64_plus, zero64_minus, one_sided, pow2_is, pow2_pos}
use Rattle.binary64.proofs.Units.{pow2_add, pow2_split, one_pos, digits53, below_limit}
use Rattle.binary64.proofs.Units.{plus_minus, plus_is, minus_is, neg_finite, neg_mag}
use Rattle.binary64.proofs.Rounding.{rnd_le, rnd_ge, plus_ge, minus_ge}
use Rattle.binary64.proofs.Operations.{round_finite, round_mag, mul_round, result_finite, result_le}
use Rattle.binary64.proofs.Operations.{result_rounded, add_result, sub_result, mul_mag, div_mag, div_round}

-- ---- a bound is a float itself

-- j * 2 ^ a has 53 digits for j up to 2 ^ 53, and is below the limit for a up to 2044.
pub bound_digits : {j : ℕ} (a : ℕ) → j ≤ 2 ^ 53 → Digits53 (j * pow2 a)
unfolding pow2
bound_digits {j} a h = digits53 j a h

pub bound_limit : {j a : ℕ} → j ≤ 2 ^ 53 → a ≤ 2044 → j * pow2 a < limit
bound_limit {j} {a} h k = subst (λ (n : ℕ). j * n < limit) (sym (pow2_is a)) (below_limit j a h k)

-- ---- looser bounds, and other exponents

-- A larger bound holds too.
pub most_weaken : {j k a : ℕ} {x : Float} → Most j a x → j ≤ k → Most k a x
most_weaken {a = a} m h = record { finite = m.finite; bound = le_trans m.bound (mul-le-mul_right (pow2 a) h) }

-- a coarser exponent: j * 2 ^ a ≤ k * 2 ^ (i + a)
pub most_coarser : {j a : ℕ} {x : Float} → Most j a x → (i k : ℕ) → j ≤ k * 2 ^ i → Most k (i + a) x
most_coarser {j} {a} m i k h = record {
  finite = m.finite;
  bound =
      le_trans m.bound
      (le_trans (mul-le-mul_right (pow2 a) h)
      (le_of_eq (mul_assoc k (2 ^ i) (pow2 a) ∙ ap (λ (n : ℕ). k * n) (sym (pow2_split i a)))));
}

-- a finer one
pub most_finer : {j a : ℕ} {x : Float} (i : ℕ) → Most j (i + a) x → Most (j * 2 ^ i) a x
most_finer {j} {a} i m = record {
  finite =
      m.finite;
  bound =
      le_trans m.bound (le_of_eq (ap (λ (n : ℕ). j * n) (pow2_split i a) ∙ sym (mul_assoc j (2 ^ i) (pow2 a))));
}

-- A literal of the code, by computing: with `unfolding of_bits mag pow2` both tests are closed by `tt`.
pub literal_most : (b j a : ℕ) → T (finite (of_bits binary64 b)) → T (leb (mag (of_bits binary64 b)) (j * pow2 a))
    → Most j a (of_bits binary64 b)
literal_most b j a f h = record {
  finite = record { fit = of_bits-fits binary64 b; number = f };
  bound = leb→le (mag (of_bits binary64 b)) (j * pow2 a) h;
}

pub literal_least : (b j a : ℕ) → T (finite (of_bits binary64 b)) → T (leb (j * pow2 a) (mag (of_bits binary64 b)))
    → Least j a (of_bits binary64 b)
literal_least b j a f h = record {
  finite = record { fit = of_bits-fits binary64 b; number = f };
  bound = leb→le (j * pow2 a) (mag (of_bits binary64 b)) h;
}

-- Zero is within any bound.
pub most_zero : {j a : ℕ} → Most j a zero64
most_zero {j} {a} = record {
  finite =
      zero64_finite;
  bound =
      le_trans (le_of_eq (sym (plus_minus zero64) ∙ ap₂ (λ (m n : ℕ). m + n) zero64_plus zero64_minus)) zero-le;
}

-- neither a NaN nor an infinity lies between two finite floats
between_finite : (x y : Float) → T (fits binary64 x) → Finite y → le (neg y) x ≡ true → le x y ≡ true → Finite x
unfolding le neg
between_finite nan y t k d e = absurd (false≢true e)
between_finite (inf s) nan t k d e = absurd k.number
between_finite (inf s) (inf u) t k d e = absurd k.number
between_finite (inf true) (fin u n q) t k d e = absurd (false≢true d)
between_finite (inf false) (fin u n q) t k d e = absurd (false≢true e)
between_finite (fin s m p) y t k d e = record { fit = t; number = tt }

-- One of two values, whichever a test picks.
pub most_either : {j a : ℕ} {x y : Float} (b : Bool) → Most j a x → Most j a y → Most j a (cond b x y)
most_either true m n = m
most_either false m n = n

-- x lies from -y to y, by the code's tests: then x is finite, and at most as large.
pub most_between : {j a : ℕ} {x y : Float} → T (fits binary64 x) → Most j a y → le (neg y) x ≡ true → le x y ≡ true
    → Most j a x
most_between {j} {a} {x} {y} t m d e =
    let k = m.finite in
    let h = between_finite x y t k d e in
    let u = units_of_le h k e in
    let v = units_of_le (neg_finite k) h d in
    record { finite = h; bound = go (one_sided x) (omega (arith, u)) (omega (arith, v, neg_plus k, neg_minus k)) }
  where
    go : ((plus x ≡ mag x) × (minus x ≡ 0)) ⊎ ((plus x ≡ 0) × (minus x ≡ mag x)) → plus x + minus y ≤ plus y + minus x
        → minus y + minus x ≤ plus x + plus y → mag x ≤ j * pow2 a
    go (inl s) u v = omega (arith, s, plus_minus y, m.bound)
    go (inr s) u v = omega (arith, s, plus_minus y, m.bound)

-- ---- along a loop: n steps, each of which adds at most j, lead from k to k + n * j
pub loop_most : (s : ℕ → Float) (j n : ℕ) {k a : ℕ} → Most k a (s 0)
    → ((i m : ℕ) → i < n → m + j ≤ 2 ^ 53 → Most m a (s i) → Most (m + j) a (s (suc i))) → k + n * j ≤ 2 ^ 53
    → Most (k + n * j) a (s n)
loop_most s j zero z f h = most_weaken z (omega arith)
loop_most s j (suc n) {k} z f h =
    most_weaken
    (f n (k + n * j) (omega arith) (omega arith) (loop_most s j n z (λ i m l. f i m (omega arith)) (omega arith)))
    (omega arith)

-- ---- negation, sums and differences

-- -x is as large as x.
pub neg_most : {j a : ℕ} {x : Float} → Most j a x → Most j a (neg x)
neg_most {x = x} m = record { finite = neg_finite m.finite; bound = le_trans (le_of_eq (neg_mag x)) m.bound }

-- what is at most w in size, from its Result
result_most : {j a p n c : ℕ} {z : Float} → 0 < c → Result z p n c → j ≤ 2 ^ 53 → a ≤ 2044 → p ≤ n + j * pow2 a * c
    → n ≤ p + j * pow2 a * c → Most j a z
result_most {a = a} C r h k p n =
    let f = result_finite C r (bound_digits a h) p n (bound_limit h k) in
    record { finite = f; bound = result_le C r (bound_digits a h) p n f }

-- The bounds of a sum and of a difference add up, and rounding adds nothing.
pub add_most : {j k a : ℕ} {x y : Float} → Most j a x → Most k a y → j + k ≤ 2 ^ 53 → a ≤ 2044
    → Most (j + k) a (add binary64 x y)
add_most {x = x} {y = y} m n h l =
    let p = plus_minus x in
    let q = plus_minus y in
    result_most (le_refl 1) (add_result m.finite n.finite) h l (omega (arith, m.bound, n.bound))
    (omega (arith, m.bound, n.bound))

pub sub_most : {j k a : ℕ} {x y : Float} → Most j a x → Most k a y → j + k ≤ 2 ^ 53 → a ≤ 2044
    → Most (j + k) a (sub binary64 x y)
sub_most {x = x} {y = y} m n h l =
    let p = plus_minus x in
    let q = plus_minus y in
    result_most (le_refl 1) (sub_result m.finite n.finite) h l (omega (arith, m.bound, n.bound))
    (omega (arith, m.bound, n.bound))

-- ---- products and quotients

-- what is at most w in size, as one rounding of a / c
round_most : (s : Bool) (t c : ℕ) {j a : ℕ} → 0 < c → j ≤ 2 ^ 53 → a ≤ 2044 → t * one ≤ j * pow2 a * c
    → Most j a (round binary64 s t c)
round_most s t c {j} {a} C h k l =
    let f = round_finite s t c C (bound_digits a h) (bound_limit h k) l in
    record { finite = f; bound = le_trans (le_of_eq (round_mag s t c f)) (rnd_le (t * one) c C (bound_digits a h) l) }

-- 2 ^ a * 2 ^ b is 2 ^ c * one
pub exponents : (j k a b c d : ℕ) → a + b ≡ c + d → j * pow2 a * (k * pow2 b) ≡ j * k * pow2 c * pow2 d
exponents j k a b c d e =
    mul-mul-mul_comm j (pow2 a) k (pow2 b) ∙ ap (λ (n : ℕ). j * k * n) (sym (pow2_add a b) ∙ ap pow2 e ∙ pow2_add c d)
    ∙ sym (mul_assoc (j * k) (pow2 c) (pow2 d))

pub crosswise : (i k p q : ℕ) → i * k * p * q ≡ i * p * (k * q)
crosswise i k p q = omega arith

-- The exponents add up, less the 1074 of the unit.
pub mul_most : {j k a b : ℕ} {x y : Float} → Most j a x → Most k b y → (c : ℕ) → a + b ≡ c + 1074 → j * k ≤ 2 ^ 53
    → c ≤ 2044 → Most (j * k) c (mul binary64 x y)
mul_most {j} {k} {a} {b} {x} {y} m n c e h l =
    subst (λ (z : Float). Most (j * k) c z) (sym (mul_round m.finite n.finite))
    (round_most (unlike (negative x) (negative y)) (mag x * mag y) (one * one) (mul-pos one_pos one_pos) h l
    (le_trans (mul-le-mul_right one (le_trans (mul-le-mul m.bound n.bound) (le_of_eq (exponents j k a b c 1074 e))))
    (le_of_eq (mul_assoc (j * k * pow2 c) one one))))

-- A quotient by a divisor of at least k * 2 ^ b units.
pub div_most : {j k a b : ℕ} {x y : Float} → Most j a x → Least k b y → (i c : ℕ) → a + 1074 ≡ c + b → 0 < k → j ≤ i * k
    → i ≤ 2 ^ 53 → c ≤ 2044 → Most i c (div binary64 x y)
div_most {j} {k} {a} {b} {x} {y} m n i c e K g h l =
    let Y : 0 < mag y = lt_of_lt_of_le (mul-pos K (pow2_pos b)) n.bound in
    subst (λ (z : Float). Most i c z) (sym (div_round m.finite n.finite Y))
    (round_most (unlike (negative x) (negative y)) (mag x) (mag y) Y h l
    (le_trans (mul-le-mul_right one (le_trans m.bound (mul-le-mul_right (pow2 a) g)))
    (le_trans (le_of_eq (crosswise i k (pow2 a) one ∙ exponents i k a 1074 c b e ∙ crosswise i k (pow2 c) (pow2 b)))
    (mul-le-mul_left (i * pow2 c) n.bound))))

-- ---- lower bounds; that the result is finite comes from its upper bound

-- what is at least w in size, from its Result
result_least : {j a p n c : ℕ} {z : Float} → 0 < c → Result z p n c → Finite z → j ≤ 2 ^ 53
    → (n + j * pow2 a * c ≤ p) ⊎ (p + j * pow2 a * c ≤ n) → Least j a z
result_least {j} {a} {z =
    z} C r f h (inl l) = record {
      finite = f;
      bound = le_trans (plus_ge C (result_rounded C r f) (bound_digits a h) l) (omega (arith, plus_minus z));
    }
result_least {j} {a} {z =
    z} C r f h (inr l) = record {
      finite = f;
      bound = le_trans (minus_ge C (result_rounded C r f) (bound_digits a h) l) (omega (arith, plus_minus z));
    }

-- a sum of two numbers of one sign
pub add_least : {j k a : ℕ} {x y : Float} → Least j a x → Least k a y → negative x ≡ negative y → j + k ≤ 2 ^ 53
    → Finite (add binary64 x y) → Least (j + k) a (add binary64 x y)
add_least {j} {k} {a} {x} {y} m n e h f =
    result_least {a = a} (le_refl 1) (add_result m.finite n.finite) f h (go (negative x) refl)
  where
    go : (s : Bool) → negative x ≡ s
        → (minus x + minus y + (j + k) * pow2 a * 1 ≤ plus x + plus y)
        ⊎ (plus x + plus y + (j + k) * pow2 a * 1 ≤ minus x + minus y)
    go false q = let u = plus_is x q in let v = plus_is y (sym e ∙ q) in inl (omega (arith, u, v, m.bound, n.bound))
    go true q = let u = minus_is x q in let v = minus_is y (sym e ∙ q) in inr (omega (arith, u, v, m.bound, n.bound))

-- a sum of a large number and a small one, of whatever signs
pub add_least_most : {j k a : ℕ} {x y : Float} → Least j a x → Most k a y → (i : ℕ) → i + k ≤ j → i ≤ 2 ^ 53
    → Finite (add binary64 x y) → Least i a (add binary64 x y)
add_least_most {j} {k} {a} {x} {y} m n i g h f =
    result_least {a = a} (le_refl 1) (add_result m.finite n.finite) f h (go (one_sided x))
  where
    room : (i + k) * pow2 a ≤ j * pow2 a
    room = mul-le-mul_right (pow2 a) g

    go : ((plus x ≡ mag x) × (minus x ≡ 0)) ⊎ ((plus x ≡ 0) × (minus x ≡ mag x))
        → (minus x + minus y + i * pow2 a * 1 ≤ plus x + plus y)
        ⊎ (plus x + plus y + i * pow2 a * 1 ≤ minus x + minus y)
    go (inl u) = inl (omega (arith, u, room, plus_minus y, m.bound, n.bound))
    go (inr u) = inr (omega (arith, u, room, plus_minus y, m.bound, n.bound))

-- The lower bound of a product, and of a quotient by a divisor of at most k * 2 ^ b units.
pub mul_least : {j k a b : ℕ} {x y : Float} → Least j a x → Least k b y → (c : ℕ) → a + b ≡ c + 1074 → j * k ≤ 2 ^ 53
    → Finite (mul binary64 x y) → Least (j * k) c (mul binary64 x y)
mul_least {j} {k} {a} {b} {x} {y} m n c e h f = record {
  finite = f;
  bound =
      le_trans
      (rnd_ge (mag x * mag y) one one_pos (bound_digits c h)
      (le_trans (le_of_eq (sym (exponents j k a b c 1074 e))) (mul-le-mul m.bound n.bound)))
      (le_of_eq (sym (mul_mag m.finite n.finite f)));
}

pub div_least : {j k a b : ℕ} {x y : Float} → Least j a x → Most k b y → (i c : ℕ) → a + 1074 ≡ c + b → i * k ≤ j
    → i ≤ 2 ^ 53 → 0 < mag y → Finite (div binary64 x y) → Least i c (div binary64 x y)
div_least {j} {k} {a} {b} {x} {y} m n i c e g h Y f = record {
  finite = f;
  bound =
      le_trans
      (rnd_ge (mag x * one) (mag y) Y (bound_digits c h)
      (le_trans (mul-le-mul_left (i * pow2 c) n.bound)
      (le_trans
      (le_of_eq (sym (crosswise i k (pow2 a) one ∙ exponents i k a 1074 c b e ∙ crosswise i k (pow2 c) (pow2 b))))
      (mul-le-mul_right one (le_trans (mul-le-mul_right (pow2 a) g) m.bound)))))
      (le_of_eq (sym (div_mag m.finite n.finite Y f)));
}
