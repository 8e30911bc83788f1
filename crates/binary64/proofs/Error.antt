-- Errors: how near a result is to the exact value, as two linear orders that `omega` closes. Half an ulp of a bound for
-- each operation, then laws that carry errors on: through a negation, a sum, a product, a quotient and a Horner step.
-- Rests on Operations and Magnitude.
use Rattle.std.proofs.Common.{◌≡◌, ℕ, ◌+◌, ◌-◌, ◌*◌, ◌^◌, ◌<◌, ◌≤◌, true, ◌⊎◌, sym, refl, ap, ◌∙◌, subst, ap₂, inl}
use Rattle.std.proofs.Common.{inr, le_trans, le_of_eq, le_refl, le-add_right, le_of_lt, add-le-add, mul-le-mul_right}
use Rattle.std.proofs.Common.{add-mul, add-sub_of_le, mul-le-mul, add_comm}
use Rattle.std.proofs.Common.{lt_of_mul-lt-mul_right, mul-le-mul_left, zero-add, le-add_left, arith}
use lib.Ieee.{lt, Float, binary64, add, sub, mul, div}
use Rattle.binary64.specs.Units.{pow2, one, Finite, mag, plus, minus}
use Rattle.binary64.specs.Rounding.{Near, Result}
use Rattle.binary64.specs.Magnitude.{Most, Least}
use Rattle.binary64.proofs.Units.{lt_of_units, pow2_split, one_pos, plus_is}
use Rattle.binary64.proofs.Units.{plus_sign, plus_minus}
use Rattle.std.proofs.lemmas.Bool.{cases_lt}
use Rattle.binary64.proofs.Rounding.{rounded_near}
use Rattle.binary64.proofs.Operations.{result_rounded, add_result, sub_result, mul_result, div_result}
use Rattle.binary64.proofs.Magnitude.{exponents, crosswise}

-- ---- one rounding

-- A finite Result whose exact value is at most 2 ^ 54 times pow2 e is within pow2 e of it.
pub result_near : {z : Float} {p n c : ℕ} → 0 < c → Result z p n c → Finite z → (e : ℕ) → p ≤ n + 2 ^ 54 * pow2 e * c
    → n ≤ p + 2 ^ 54 * pow2 e * c → Near z p n c (pow2 e)
result_near C r f e h k = rounded_near C (result_rounded C r f) e h k

-- j * 2 ^ a is at most 2 ^ 54 times pow2 e, for j up to 2 ^ i and i + a = 54 + e
within : (j a i e : ℕ) → j ≤ 2 ^ i → i + a ≡ 54 + e → j * pow2 a ≤ 2 ^ 54 * pow2 e
within j a i e h k =
    le_trans (mul-le-mul_right (pow2 a) h) (le_of_eq (sym (pow2_split i a) ∙ ap pow2 k ∙ pow2_split 54 e))

-- The exact sum is at most 2 ^ i * 2 ^ a units: then x + y is within pow2 e of it, where i + a = 54 + e.
pub add_near : {j k a : ℕ} {x y : Float} → Most j a x → Most k a y → Finite (add binary64 x y) → (i e : ℕ)
    → j + k ≤ 2 ^ i → i + a ≡ 54 + e → Near (add binary64 x y) (plus x + plus y) (minus x + minus y) 1 (pow2 e)
add_near {j} {k} {a} {x} {y} m n f i e h l =
    let w = within (j + k) a i e h l in
    let p = plus_minus x in
    let q = plus_minus y in
    result_near (le_refl 1) (add_result m.finite n.finite) f e (omega (arith, m.bound, n.bound))
    (omega (arith, m.bound, n.bound))

-- The same of a difference.
pub sub_near : {j k a : ℕ} {x y : Float} → Most j a x → Most k a y → Finite (sub binary64 x y) → (i e : ℕ)
    → j + k ≤ 2 ^ i → i + a ≡ 54 + e → Near (sub binary64 x y) (plus x + minus y) (minus x + plus y) 1 (pow2 e)
sub_near {j} {k} {a} {x} {y} m n f i e h l =
    let w = within (j + k) a i e h l in
    let p = plus_minus x in
    let q = plus_minus y in
    result_near (le_refl 1) (sub_result m.finite n.finite) f e (omega (arith, m.bound, n.bound))
    (omega (arith, m.bound, n.bound))

-- The exact product is at most 2 ^ i * 2 ^ c units.
pub mul_near : {j k a b : ℕ} {x y : Float} → Most j a x → Most k b y → Finite (mul binary64 x y) → (c i e : ℕ)
    → a + b ≡ c + 1074 → j * k ≤ 2 ^ i → i + c ≡ 54 + e
    → Near (mul binary64 x y) (plus x * plus y + minus x * minus y) (plus x * minus y + minus x * plus y) one (pow2 e)
mul_near {j} {k} {a} {b} {x} {y} m n f c i e d h l =
    result_near one_pos (mul_result m.finite n.finite) f e (omega (arith, whole, w)) (omega (arith, whole, w))
  where
    w : mag x * mag y ≤ 2 ^ 54 * pow2 e * one
    w =
        le_trans (mul-le-mul m.bound n.bound)
        (le_trans (le_of_eq (exponents j k a b c 1074 d)) (mul-le-mul_right one (within (j * k) c i e h l)))

    whole : (plus x + minus x) * (plus y + minus y) ≡ mag x * mag y
    whole = ap₂ (λ (u v : ℕ). u * v) (plus_minus x) (plus_minus y)

-- The exact quotient is at most 2 ^ i * 2 ^ c units, by a divisor of at least k * 2 ^ b units.
module _ {j k a b : ℕ} {x y : Float} (m : Most j a x) (n : Least k b y) (c i e : ℕ) (d : a + 1074 ≡ c + b)
    (h : j ≤ 2 ^ i * k) (l : i + c ≡ 54 + e) (f : Finite (div binary64 x y)) where
  quotient_within : mag x * one ≤ 2 ^ 54 * pow2 e * mag y
  quotient_within =
      le_trans (mul-le-mul_right one (le_trans m.bound (mul-le-mul_right (pow2 a) h)))
      (le_trans
      (le_of_eq
      (crosswise (2 ^ i) k (pow2 a) one ∙ exponents (2 ^ i) k a 1074 c b d ∙ crosswise (2 ^ i) k (pow2 c) (pow2 b)))
      (mul-le-mul (within (2 ^ i) c i e (le_refl (2 ^ i)) l) n.bound))

  one_part : (p q r B : ℕ) → p + q ≡ mag x → mag y ≡ r → B ≡ 2 ^ 54 * pow2 e → p * one ≤ q * one + B * r
  one_part p q r B g w v =
      le_trans (mul-le-mul_right one (le_trans (le-add_right p q) (le_of_eq g)))
      (le_trans (subst (λ (t : ℕ). mag x * one ≤ 2 ^ 54 * pow2 e * t) w quotient_within)
      (le_trans (le_of_eq (ap (λ (t : ℕ). t * r) (sym v))) (le-add_left (B * r) (q * one))))

  -- above zero
  pub div_near : 0 < plus y → Near (div binary64 x y) (plus x * one) (minus x * one) (plus y) (pow2 e)
  div_near Y =
      let w = sym (plus_is y (plus_sign y Y)).0 in
      result_near Y (div_result m.finite n.finite Y) f e
      (one_part (plus x) (minus x) (plus y) (2 ^ 54 * pow2 e) (plus_minus x) w refl)
      (one_part (minus x) (plus x) (plus y) (2 ^ 54 * pow2 e) (add_comm (minus x) (plus x) ∙ plus_minus x) w refl)

-- ---- errors carried on

-- A float is near itself, over any denominator.
pub near_itself : (x : Float) (c : ℕ) → Near x (plus x * c) (minus x * c) c 0
near_itself x c = record { over = omega arith; under = omega arith }

-- The errors of a sum add up, with that of its own rounding.
pub near_add : {x y z : Float} {p n q m c g h k : ℕ} → Near x p n c g → Near y q m c h
    → Near z (plus x + plus y) (minus x + minus y) 1 k → Near z (p + q) (n + m) c (g + h + k)
near_add {c = c} r s t = record {
  over = omega (arith, r.over, s.over, mul-le-mul_right c t.over);
  under = omega (arith, r.under, s.under, mul-le-mul_right c t.under);
}

-- So do those of a difference.
pub near_sub : {x y z : Float} {p n q m c g h k : ℕ} → Near x p n c g → Near y q m c h
    → Near z (plus x + minus y) (minus x + plus y) 1 k → Near z (p + m) (n + q) c (g + h + k)
near_sub {c = c} r s t = record {
  over = omega (arith, r.over, s.under, mul-le-mul_right c t.over);
  under = omega (arith, r.under, s.over, mul-le-mul_right c t.under);
}

-- Two results whose exact values are further apart than their errors compare as these do.
pub near_lt : {w z : Float} {p n q m c h k : ℕ} → Finite w → Finite z → Near w q m c k → Near z p n c h
    → q + n + (k + h) * c < p + m → lt w z ≡ true
near_lt {w} {z} {c = c} f g r s l = lt_of_units f g (lt_of_mul-lt-mul_right c (omega (arith, r.over, s.under)))

-- one side of `near_mul`, with plain numbers for the parts of x, y and z: x * y against (p - n) / c * y, then the
-- rounding, then both together
module _ (px mx py my p n c h : ℕ) (a : px * c + n ≤ mx * c + p + h * c) (b : mx * c + p ≤ px * c + n + h * c) where
  before_rounding : (px * py + mx * my) * c + (p * my + n * py) ≤ (px * my + mx * py) * c + (p * py + n * my) + h * c *
      (py + my)
  before_rounding = let a' = mul-le-mul_right py a in let b' = mul-le-mul_right my b in omega arith

  scaled_error : (pz mz k Y u : ℕ) → py + my ≤ Y * u
      → pz * u + (px * my + mx * py) ≤ mz * u + (px * py + mx * my) + k * u
      → pz * (c * u) + (p * my + n * py) ≤ mz * (c * u) + (p * py + n * my) + (h * Y + k) * (c * u)
  scaled_error pz mz k Y u l t =
      together (pz * (c * u)) (mz * (c * u)) ((px * py + mx * my) * c) ((px * my + mx * py) * c) (p * my + n * py)
      (p * py + n * my) (h * c * (py + my)) (k * (c * u)) ((h * Y + k) * (c * u)) before_rounding
      (spread pz mz k u (px * my + mx * py) (px * py + mx * my) t)
      (le_trans (add-le-add (mul-le-mul_left (h * c) l) (le_refl (k * (c * u)))) (le_of_eq (omega arith)))
    where
      together : (A B C D q r e f g : ℕ) → C + q ≤ D + r + e → A + D ≤ B + C + f → e + f ≤ g → A + q ≤ B + r + g
      together A B C D q r e f g x y z = omega arith

      spread : (pz mz k u C D : ℕ) → pz * u + C ≤ mz * u + D + k * u
          → pz * (c * u) + C * c ≤ mz * (c * u) + D * c + k * (c * u)
      spread pz mz k u C D t = omega (arith, mul-le-mul_right c t)

-- An error h of x is at most h * Y in x * y, for |y| ≤ Y.
pub near_mul : {x y z : Float} {p n c h k Y : ℕ} → Near x p n c h → Most Y 1074 y
    → Near z (plus x * plus y + minus x * minus y) (plus x * minus y + minus x * plus y) one k
    → Near z (p * plus y + n * minus y) (p * minus y + n * plus y) (c * one) (h * Y + k)
near_mul {x} {y} {z} {p} {n} {c} {h} {k} {Y} r m t =
    let l : plus y + minus y ≤ Y * one = le_trans (le_of_eq (plus_minus y)) m.bound in
    record {
      over =
          scaled_error (plus x) (minus x) (plus y) (minus y) p n c h r.over r.under (plus z) (minus z) k Y one l t.over;
      under =
          rw (add_comm (p * plus y) (n * minus y), add_comm (p * minus y) (n * plus y))
          (scaled_error (minus x) (plus x) (plus y) (minus y) n p c h r.under r.over (minus z) (plus z) k Y one l
          (rw (add_comm (minus x * minus y) (plus x * plus y), add_comm (minus x * plus y) (plus x * minus y))
          t.under));
    }

-- two numbers A and B that differ by at most e, times two that differ by at most X
cross_error : (p n A B X e : ℕ) → p ≤ n + X → n ≤ p + X → A ≤ B + e → B ≤ A + e → p * A + n * B ≤ p * B + n * A + X * e
cross_error p n A B X e h k f g = go (cases_lt p n)
  where
    -- the larger is the smaller and a more
    more : (n a A B : ℕ) → a ≤ X → A ≤ B + e → (n + a) * A + n * B ≤ (n + a) * B + n * A + X * e
    more n a A B l f = let u = mul-le-mul_left a f in let v = mul-le-mul_right e l in omega arith

    go : (p < n) ⊎ (n ≤ p) → p * A + n * B ≤ p * B + n * A + X * e
    go (inl l) =
        let w : p + (n - p) ≡ n = add-sub_of_le (le_of_lt l) in
        subst (λ (m : ℕ). p * A + m * B ≤ p * B + m * A + X * e) w (omega (arith, more p (n - p) B A (omega arith) g))
    go (inr l) =
        let w : n + (p - n) ≡ p = add-sub_of_le l in
        subst (λ (m : ℕ). m * A + n * B ≤ m * B + n * A + X * e) w (more n (p - n) A B (omega arith) f)

-- one side of `near_product`, from that of `near_mul`
module _ (pz mz py my p n q m c d h X u : ℕ) (l : p ≤ n + X * u * c) (l' : n ≤ p + X * u * c)
    (a : py * d + m ≤ my * d + q + h * d) (b : my * d + q ≤ py * d + m + h * d) where
  product_error : (e : ℕ) → pz * (c * u) + (p * my + n * py) ≤ mz * (c * u) + (p * py + n * my) + e * (c * u)
      → pz * (c * u * d) + (p * m + n * q) ≤ mz * (c * u * d) + (p * q + n * m) + (e + X * h) * (c * u * d)
  product_error e t =
      together (pz * (c * u * d)) (mz * (c * u * d)) (p * my * d + n * py * d) (p * py * d + n * my * d) (p * m + n * q)
      (p * q + n * m) (e * (c * u * d)) (X * h * (c * u * d)) ((e + X * h) * (c * u * d))
      (spread (c * u) (p * my) (n * py) (p * py) (n * my) t)
      (opened (cross_error p n (py * d + m) (my * d + q) (X * u * c) (h * d) l l' a b))
      (add-mul e (X * h) (c * u * d))
    where
      together : (A B C D r s e f g : ℕ) → A + C ≤ B + D + e → D + r ≤ C + s + f → g ≡ e + f → A + r ≤ B + s + g
      together A B C D r s e f g x y z = omega arith

      spread : (v i j k l : ℕ) → pz * v + (i + j) ≤ mz * v + (k + l) + e * v
          → pz * (v * d) + (i * d + j * d) ≤ mz * (v * d) + (k * d + l * d) + e * (v * d)
      spread v i j k l t = omega (arith, mul-le-mul_right d t)

      opened : p * (py * d + m) + n * (my * d + q) ≤ p * (my * d + q) + n * (py * d + m) + X * u * c * (h * d)
          → p * py * d + n * my * d + (p * m + n * q) ≤ p * my * d + n * py * d + (p * q + n * m) + X * h * (c * u * d)
      opened t = omega arith

-- Both factors carry an error: g of x counts |y| ≤ Y times, and h of y counts as often as the exact x, at most X.
pub near_product : {x y z : Float} {p n q m c d g h k Y : ℕ} (X : ℕ) → Near x p n c g → Near y q m d h → Most Y 1074 y
    → p ≤ n + X * one * c → n ≤ p + X * one * c
    → Near z (plus x * plus y + minus x * minus y) (plus x * minus y + minus x * plus y) one k
    → Near z (p * q + n * m) (p * m + n * q) (c * one * d) (g * Y + k + X * h)
near_product {x} {y} {z} {p} {n} {q} {m} {c} {d} {g} {h} {k} {Y} X r s b l l' t =
    let w = near_mul r b t in
    record {
      over =
          product_error (plus z) (minus z) (plus y) (minus y) p n q m c d h X one l l' s.over s.under (g * Y + k)
          w.over;
      under =
          product_error (minus z) (plus z) (minus y) (plus y) p n m q c d h X one l l' s.under s.over (g * Y + k)
          w.under;
    }

-- one side of `near_div`
quotient_error : (pz mz px mx y p n c g k L u : ℕ) → px * c + n ≤ mx * c + p + g * c → u ≤ L * y
    → pz * y + mx * u ≤ mz * y + px * u + k * y → pz * (c * y) + n * u ≤ mz * (c * y) + p * u + (g * L + k) * (c * y)
quotient_error pz mz px mx y p n c g k L u a l t =
    together (pz * (c * y)) (mz * (c * y)) (px * c * u) (mx * c * u) (n * u) (p * u) (g * c * u) (g * c * (L * y))
    (k * (c * y)) ((g * L + k) * (c * y)) (spread t) (opened a) (mul-le-mul_left (g * c) l) (omega arith)
  where
    together : (A B C D r s e e' f h : ℕ) → A + D ≤ B + C + f → C + r ≤ D + s + e → e ≤ e' → e' + f ≡ h
        → A + r ≤ B + s + h
    together A B C D r s e e' f h x y z w = omega arith

    spread : pz * y + mx * u ≤ mz * y + px * u + k * y
        → pz * (c * y) + mx * c * u ≤ mz * (c * y) + px * c * u + k * (c * y)
    spread t = omega (arith, mul-le-mul_right c t)

    opened : px * c + n ≤ mx * c + p + g * c → px * c * u + n * u ≤ mx * c * u + p * u + g * c * u
    opened a = omega (arith, mul-le-mul_right u a)

-- A quotient by y, of which L times is at least 1: the error of x is multiplied by L at most.
pub near_div : {x z : Float} {p n c g k : ℕ} (y : Float) (L : ℕ) → Near x p n c g → one ≤ L * plus y
    → Near z (plus x * one) (minus x * one) (plus y) k → Near z (p * one) (n * one) (c * plus y) (g * L + k)
near_div {x} {z} {p} {n} {c} {g} {k} y L r l t = record {
  over = quotient_error (plus z) (minus z) (plus x) (minus x) (plus y) p n c g k L one r.over l t.over;
  under = quotient_error (minus z) (plus z) (minus x) (plus x) (plus y) n p c g k L one r.under l t.under;
}

-- A Horner step a + h * x: the error of h is multiplied by |x| ≤ X, and the two roundings are added.
pub horner_near : (a : Float) {h x w z : Float} {p n c e f g X : ℕ} → Near h p n c e → Most X 1074 x
    → Near w (plus h * plus x + minus h * minus x) (plus h * minus x + minus h * plus x) one f
    → Near z (plus a + plus w) (minus a + minus w) 1 g
    → Near z (plus a * (c * one) + (p * plus x + n * minus x)) (minus a * (c * one) + (p * minus x + n * plus x))
    (c * one) (e * X + f + g)
horner_near a {c = c} r m s t = rw zero-add at (near_add (near_itself a (c * one)) (near_mul r m s) t)
