-- Operations on floats that are known as fractions, by lib.Ieee's `HasValue x s a c`: x is finite, has the sign s, and
-- is a / c in size. An operation sees only these values: it gives what lib.Ieee's `sum`, `round`, `below` and `level`
-- give on a and b. Rests on lib.Ieee.Scale.
use Rattle.std.proofs.Common.{◌≡◌, ℕ, ◌+◌, ◌-◌, ◌*◌, ◌<◌, Bool, true, false, cond, ◌&&◌, eqb, ltb}
use Rattle.std.proofs.Common.{sym, refl, ap, ◌∙◌, subst, ap₂, mul_assoc}
use Rattle.std.proofs.Common.{mul_comm, add-mul, mul-pos, zero-mul, mul_left_comm, arith, eqb→eq}
use native.Mathlib.Nat.{mul-sub, mul-mul-mul_comm}
use lib.Dec.{not_T}
use lib.Ieee.{Float, nan, inf, fin, binary64, up, down, unlike, below, level, round, sum, add, mul, div, lt, eq}
use lib.Ieee.Bits.{cond_no}
use lib.Ieee.Exact.{HasValue}
use lib.Ieee.Fits.{up_pos, down_pos}
use lib.Ieee.Positive.{first_pos}
use lib.Ieee.Scale.{round_same}
use Rattle.binary64.proofs.Naturals.{scaled_lt, scaled_eq}

-- ---- two fractions over one denominator: a / c is A / d, and b / c is B / d

module _ (a b c A B d : ℕ) (C : 0 < c) (D : 0 < d) (p : a * d ≡ A * c) (q : b * d ≡ B * c) where
  total : (a + b) * d ≡ (A + B) * c
  total = add-mul a b d ∙ ap₂ (λ (x y : ℕ). x + y) p q ∙ sym (add-mul A B c)

  diff : (a - b) * d ≡ (A - B) * c
  diff = sub_mul a b d ∙ ap₂ (λ (x y : ℕ). x - y) p q ∙ sym (sub_mul A B c)
    where
      sub_mul : (x y k : ℕ) → (x - y) * k ≡ x * k - y * k
      sub_mul x y k = mul_comm (x - y) k ∙ mul-sub k x y ∙ ap₂ (λ (u v : ℕ). u - v) (mul_comm k x) (mul_comm k y)

  less : ltb a b ≡ ltb A B
  less = scaled_lt a b A B c d C D (sym p) (sym q)

  same : eqb a b ≡ eqb A B
  same = scaled_eq a b A B c d C D (sym p) (sym q)

zeros : (c d : ℕ) → 0 * d ≡ 0 * c
zeros c d = zero-mul d ∙ sym (zero-mul c)

module _ (s t : Bool) (a b c A B d : ℕ) (C : 0 < c) (D : 0 < d) (p : a * d ≡ A * c) (q : b * d ≡ B * c) where
  sum_same : sum binary64 s a t b c ≡ sum binary64 s A t B d
  unfolding sum
  sum_same =
      rw (
        round_same binary64 s (a + b) c (A + B) d C D (total a b c A B d C D p q),
        round_same binary64 t (b - a) c (B - A) d C D (diff b a c B A d C D q p),
        less a b c A B d C D p q,
        less b a c B A d C D q p,
        round_same binary64 (s && ltb B A) (a - b) c (A - B) d C D (diff a b c A B d C D p q),
      )
      refl

below_same : (s t : Bool) (a b c A B d : ℕ) → 0 < c → 0 < d → a * d ≡ A * c → b * d ≡ B * c
    → below s a t b ≡ below s A t B
below_same false false a b c A B d C D p q = less a b c A B d C D p q
below_same false true a b c A B d C D p q = refl
below_same true false a b c A B d C D p q = less 0 (a + b) c 0 (A + B) d C D (zeros c d) (total a b c A B d C D p q)
below_same true true a b c A B d C D p q = less b a c B A d C D q p

level_same : (s t : Bool) (a b c A B d : ℕ) → 0 < c → 0 < d → a * d ≡ A * c → b * d ≡ B * c
    → level s a t b ≡ level s A t B
level_same s t a b c A B d C D p q = rw (same a b c A B d C D p q, same a 0 c A 0 d C D p (zeros c d))

-- ---- the operations

-- m / e is a / c: then m * d over e * d is too, either way round
pub crossed : (m e d a c : ℕ) → m * c ≡ a * e → (m * d * c ≡ a * (e * d)) × (m * d * c ≡ a * (d * e))
crossed m e d a c p =
    let h : m * d * c ≡ a * (e * d) =
    simp (mul_assoc, mul_comm, mul_left_comm) (simp (mul_assoc, mul_comm) at (ap (λ (z : ℕ). z * d) p)) in
    (h, h ∙ ap (λ (z : ℕ). a * z) (mul_comm e d))

-- x is ±a / c and y is ±b / c
pub add_values : (x y : Float) (s t : Bool) (a b c : ℕ) → 0 < c → HasValue x s a c → HasValue y t b c
    → add binary64 x y ≡ sum binary64 s a t b c
unfolding add
add_values nan y s t a b c C h k = absurd h
add_values (inf u) y s t a b c C h k = absurd h
add_values (fin u m e) nan s t a b c C h k = absurd k
add_values (fin u m e) (inf v) s t a b c C h k = absurd k
add_values (fin u m e) (fin v n d) s t a b c C h k =
    ap₂ (λ (i j : Bool). sum binary64 i (m * up e * down d) j (n * up d * down e) (down e * down d)) h.0 k.0
    ∙ sum_same s t (m * up e * down d) (n * up d * down e) (down e * down d) a b c (mul-pos (down_pos e) (down_pos d)) C
    (crossed (m * up e) (down e) (down d) a c h.1).0 (crossed (n * up d) (down d) (down e) b c k.1).1

pub lt_values : (x y : Float) (s t : Bool) (a b c : ℕ) → 0 < c → HasValue x s a c → HasValue y t b c
    → lt x y ≡ below s a t b
unfolding lt
lt_values nan y s t a b c C h k = absurd h
lt_values (inf u) y s t a b c C h k = absurd h
lt_values (fin u m e) nan s t a b c C h k = absurd k
lt_values (fin u m e) (inf v) s t a b c C h k = absurd k
lt_values (fin u m e) (fin v n d) s t a b c C h k =
    ap₂ (λ (i j : Bool). below i (m * up e * down d) j (n * up d * down e)) h.0 k.0
    ∙ below_same s t (m * up e * down d) (n * up d * down e) (down e * down d) a b c (mul-pos (down_pos e) (down_pos d))
    C (crossed (m * up e) (down e) (down d) a c h.1).0 (crossed (n * up d) (down d) (down e) b c k.1).1

pub eq_values : (x y : Float) (s t : Bool) (a b c : ℕ) → 0 < c → HasValue x s a c → HasValue y t b c
    → eq x y ≡ level s a t b
unfolding eq
eq_values nan y s t a b c C h k = absurd h
eq_values (inf u) y s t a b c C h k = absurd h
eq_values (fin u m e) nan s t a b c C h k = absurd k
eq_values (fin u m e) (inf v) s t a b c C h k = absurd k
eq_values (fin u m e) (fin v n d) s t a b c C h k =
    ap₂ (λ (i j : Bool). level i (m * up e * down d) j (n * up d * down e)) h.0 k.0
    ∙ level_same s t (m * up e * down d) (n * up d * down e) (down e * down d) a b c (mul-pos (down_pos e) (down_pos d))
    C (crossed (m * up e) (down e) (down d) a c h.1).0 (crossed (n * up d) (down d) (down e) b c k.1).1

-- x is ±a / c and y is ±b / d
pub mul_values : (x y : Float) (s t : Bool) (a b c d : ℕ) → 0 < c → 0 < d → HasValue x s a c → HasValue y t b d
    → mul binary64 x y ≡ round binary64 (unlike s t) (a * b) (c * d)
unfolding mul
mul_values nan y s t a b c d C D h k = absurd h
mul_values (inf u) y s t a b c d C D h k = absurd h
mul_values (fin u m e) nan s t a b c d C D h k = absurd k
mul_values (fin u m e) (inf v) s t a b c d C D h k = absurd k
mul_values (fin u m e) (fin v n g) s t a b c d C D h k =
    ap₂ (λ (i j : Bool). round binary64 (unlike i j) (m * up e * (n * up g)) (down e * down g)) h.0 k.0
    ∙ round_same binary64 (unlike s t) (m * up e * (n * up g)) (down e * down g) (a * b) (c * d)
    (mul-pos (down_pos e) (down_pos g)) (mul-pos C D)
    (mul-mul-mul_comm (m * up e) (n * up g) c d ∙ ap₂ (λ (i j : ℕ). i * j) h.1 k.1
    ∙ mul-mul-mul_comm a (down e) b (down g))

pub div_values : (x y : Float) (s t : Bool) (a b c d : ℕ) → 0 < b → 0 < c → 0 < d → HasValue x s a c → HasValue y t b d
    → div binary64 x y ≡ round binary64 (unlike s t) (a * d) (c * b)
unfolding div
div_values nan y s t a b c d B C D h k = absurd h
div_values (inf u) y s t a b c d B C D h k = absurd h
div_values (fin u m e) nan s t a b c d B C D h k = absurd k
div_values (fin u m e) (inf v) s t a b c d B C D h k = absurd k
div_values (fin u m e) (fin v n g) s t a b c d B C D h k =
    cond_no (eqb n 0) (cond (eqb m 0) nan (inf (unlike u v)))
    (round binary64 (unlike u v) (m * up e * down g) (n * up g * down e))
    (not_T (eqb n 0) (λ z. none n N (eqb→eq n 0 z)))
    ∙ ap₂ (λ (i j : Bool). round binary64 (unlike i j) (m * up e * down g) (n * up g * down e)) h.0 k.0
    ∙ round_same binary64 (unlike s t) (m * up e * down g) (n * up g * down e) (a * d) (c * b)
    (mul-pos (mul-pos N (up_pos g)) (down_pos e)) (mul-pos C B)
    (quotients (m * up e) (n * up g) (down e) (down g) h.1 k.1)
  where
    -- y is not zero
    N : 0 < n
    N = first_pos n (up g) (first_pos (n * up g) d (subst (λ (z : ℕ). 0 < z) (sym k.1) (mul-pos B (down_pos g))))

    none : (n : ℕ) → 0 < n → n ≡ 0 → ⊥
    none n h z = omega arith

    quotients : (m n e g : ℕ) → m * c ≡ a * e → n * d ≡ b * g → m * g * (c * b) ≡ a * d * (n * e)
    quotients m n e g p q =
        simp (mul_assoc, mul_comm, mul_left_comm)
        (simp (mul_assoc, mul_comm, mul_left_comm) at (ap₂ (λ (x y : ℕ). x * y) p (sym q)))
