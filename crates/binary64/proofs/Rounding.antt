-- Laws of `rnd`, which rounds a / c units to 53 binary digits, and of what is `Rounded` or `Near`. Over natural numbers
-- alone, but for the last part. Rests on lib.Ieee.{Digits, Nearest}.
use Rattle.std.proofs.Common.{◌≡◌, ℕ, zero, suc, ◌+◌, ◌-◌, ◌*◌, ◌/◌, ◌%◌, ◌^◌, ◌<◌, ◌≤◌, not}
use Rattle.std.proofs.Common.{T, eqb, ◌⊎◌, sym, refl, ap, ◌∙◌, subst, inl, inr, zero-le, le_trans, le_of_eq}
use Rattle.std.proofs.Common.{le_refl, lt_of_le_of_lt, le_of_lt, mul-le-mul_right, mod-lt, mul_assoc}
use Rattle.std.proofs.Common.{mul_comm, div-lt_iff_lt-mul, eq-zero-or-pos}
use Rattle.std.proofs.Common.{le_antisymm, eq-or-lt_of_le, mul-le-mul_left, mul-lt-mul_of_pos_right}
use Rattle.std.proofs.Common.{mul-pos, one-mul, div-add-mod', le-div_iff_mul-le, zero-mul, mul-one, sub-eq-zero_of_le}
use Rattle.std.proofs.Common.{arith, eqb→eq, leb→le, pow_pos, pow_mono, pow-add, shl_lt}
use Prim.Native.Nat.{compare, Ordering}
use native.Mathlib.Nat.{pow-succ', div-div-eq-div-mul}
use lib.Dec.{is_le, compare_is_eq, nleb→lt, eqb_refl}
use lib.Arith.{lt_of_le-ne}
use lib.Ieee.{Float, size, nearest}
use lib.Ieee.Digits.{size-lt, size-le, size_reaches, back}
use lib.Ieee.Fits.{kept-lt, nearest-le}
use lib.Ieee.Nearest.{closest, closest_mono, closest_same, nearest-ge, div_mono}
use lib.Ieee.Order.{drop, kept}
use Rattle.binary64.specs.Units.{pow2, Digits53, plus, minus}
use Rattle.binary64.specs.Rounding.{rnd, Rounded, Near}
use Rattle.binary64.proofs.Naturals.{pow_lt_back}
use Rattle.std.proofs.lemmas.Bool.{cases_lt}
use Rattle.binary64.proofs.Units.{digits53}

-- ---- the nearest whole number to a / u is at most a half away

abbrev Cmp : Ordering → ℕ → ℕ → Type 0
Cmp Ordering.lt a b = a < b
Cmp Ordering.eq a b = a ≡ b
Cmp Ordering.gt a b = b < a

cmp : (a b : ℕ) → Cmp (compare a b) a b
cmp a b =
    go (compare a b) (leb→le a b) (nleb→lt a b) (eqb→eq a b)
    (λ (e : a ≡ b). subst (λ (x : ℕ). T (eqb a x)) e (eqb_refl a))
  where
    go : (o : Ordering) → (T (is_le o) → a ≤ b) → (T (not (is_le o)) → b < a) → (T (compare_is_eq o) → a ≡ b)
        → (a ≡ b → T (compare_is_eq o)) → Cmp o a b
    go Ordering.lt h k e n = lt_of_le-ne (h tt) n
    go Ordering.eq h k e n = e tt
    go Ordering.gt h k e n = k tt

-- x * u is within u / 2 of a
abbrev Half : ℕ → ℕ → ℕ → Type 0
Half a u x = (2 * (x * u) ≤ 2 * a + u) × (2 * a ≤ 2 * (x * u) + u)

nearest_half : (q r u : ℕ) (o : Ordering) → Cmp o (r * 2) u → r < u → Half (q * u + r) u (nearest q o)
nearest_half q r u Ordering.lt c h = omega arith
nearest_half q r u Ordering.eq c h = even (q % 2) (mod-lt q (pow_pos 1))
  where
    even : (b : ℕ) → b < 2 → Half (q * u + r) u (q + b)
    even zero l = omega arith
    even (suc zero) l = omega arith
    even (suc (suc b)) l = omega arith
nearest_half q r u Ordering.gt c h = omega arith

closest_half : (a u : ℕ) → 0 < u → Half a u (closest a u)
closest_half a u U =
    subst (λ (x : ℕ). Half x u (closest a u)) (div-add-mod' a u)
    (nearest_half (a / u) (a % u) u (compare (a % u * 2) u) (cmp (a % u * 2) u) (mod-lt a U))

-- ---- the digits that are kept

-- at most 53, or 2 ^ 53 itself after rounding up
kept_le : (a c : ℕ) → kept 53 a c ≤ 2 ^ 53
kept_le a c =
    let k = drop 53 a c in
    let u = c * 2 ^ k in
    le_trans (nearest-le (a / u) (compare (a % u * 2) u))
    (subst (λ (x : ℕ). x < 2 ^ 53) (div-div-eq-div-mul a c (2 ^ k)) (kept-lt 53 (a / c)))

in_use : (z : ℕ) → 0 < z - 53 → 52 + (z - 53) < z
in_use z h = omega arith

-- where some are dropped, 53 are kept
kept_ge : (a c : ℕ) → 0 < drop 53 a c → 2 ^ 52 ≤ kept 53 a c
kept_ge a c K =
    let k = drop 53 a c in
    let u = c * 2 ^ k in
    let w = a / c in
    let lead : 2 ^ 52 * 2 ^ k ≤ w =
    le_trans (le_of_eq (sym (pow-add 2 52 k))) (size_reaches w (52 + k) (in_use (size w) K)) in
    le_trans (subst (λ (x : ℕ). 2 ^ 52 ≤ x) (div-div-eq-div-mul a c (2 ^ k)) ((le-div_iff_mul-le (pow_pos k)).1 lead))
    (nearest-ge (a / u) (compare (a % u * 2) u))

-- k digits are dropped at most, of a fraction below 2 ^ (53 + k)
drop_le : (a c k : ℕ) → 0 < c → a < 2 ^ (53 + k) * c → drop 53 a c ≤ k
drop_le a c k C h = omega (arith, size-le (a / c) (53 + k) ((div-lt_iff_lt-mul C).1 h))

pub rnd_is : (a c : ℕ) → rnd a c ≡ kept 53 a c * 2 ^ drop 53 a c
unfolding rnd
rnd_is a c = refl

-- ---- laws of `rnd`

-- It grows with the fraction.
pub rnd_mono : (a c b d : ℕ) → 0 < c → 0 < d → a * d ≤ b * c → rnd a c ≤ rnd b d
unfolding rnd
rnd_mono a c b d C D h =
    go (eq-or-lt_of_le
    (omega (arith, size-le (a / c) (size (b / d)) (lt_of_le_of_lt (div_mono a c b d C D h) (size-lt (b / d))))))
  where
    j : ℕ
    j = drop 53 a c

    k : ℕ
    k = drop 53 b d

    -- either both drop as many digits, and the kept numbers are in order
    alike : closest a (c * 2 ^ k) * 2 ^ k ≤ closest b (d * 2 ^ k) * 2 ^ k
    alike =
        mul-le-mul_right (2 ^ k)
        (closest_mono a (c * 2 ^ k) b (d * 2 ^ k) (mul-pos C (pow_pos k)) (mul-pos D (pow_pos k))
        (rw (← (mul_assoc a d (2 ^ k)), ← (mul_assoc b c (2 ^ k))) (mul-le-mul_right (2 ^ k) h)))

    -- or a power of two lies between the two results
    between : j < k → kept 53 a c * 2 ^ j ≤ kept 53 b d * 2 ^ k
    between l =
        le_trans (mul-le-mul_right (2 ^ j) (kept_le a c))
        (le_trans (le_of_eq (sym (pow-add 2 53 j)))
        (le_trans (pow_mono (omega arith))
        (le_trans (le_of_eq (pow-add 2 52 k)) (mul-le-mul_right (2 ^ k) (kept_ge b d (lt_of_le_of_lt zero-le l))))))

    go : (j ≡ k) ⊎ (j < k) → kept 53 a c * 2 ^ j ≤ kept 53 b d * 2 ^ k
    go (inl e) = subst (λ (x : ℕ). closest a (c * 2 ^ x) * 2 ^ x ≤ kept 53 b d * 2 ^ k) (sym e) alike
    go (inr l) = between l

-- It depends on the fraction's value alone.
pub rnd_same : (a c b d : ℕ) → 0 < c → 0 < d → a * d ≡ b * c → rnd a c ≡ rnd b d
rnd_same a c b d C D e = le_antisymm (rnd_mono a c b d C D (le_of_eq e)) (rnd_mono b d a c D C (le_of_eq (sym e)))

-- It changes nothing at a number of 53 digits.
pub rnd_exact : (n c : ℕ) → 0 < c → Digits53 n → rnd (n * c) c ≡ n
unfolding rnd
rnd_exact n c C d =
    ap (λ (x : ℕ). x * 2 ^ k)
    (closest_same (n * c) (c * 2 ^ k) r 1 (mul-pos C (pow_pos k)) (pow_pos 0) whole
    ∙ (omega (arith, closest_half r 1 (pow_pos 0)))) ∙ r_is
  where
    k : ℕ
    k = drop 53 (n * c) c

    k_le : k ≤ d.zeros
    k_le =
        drop_le (n * c) c d.zeros C
        (mul-lt-mul_of_pos_right (subst (λ (x : ℕ). x < 2 ^ (53 + d.zeros)) (sym d.is) (shl_lt 53 d.zeros d.few)) C)

    -- n is r times the unit that is kept
    r : ℕ
    r = d.digits * 2 ^ (d.zeros - k)

    r_is : r * 2 ^ k ≡ n
    r_is =
        mul_assoc d.digits (2 ^ (d.zeros - k)) (2 ^ k)
        ∙ ap (λ (x : ℕ). d.digits * x) (sym (pow-add 2 (d.zeros - k) k) ∙ ap (λ (x : ℕ). 2 ^ x) (back d.zeros k k_le))
        ∙ sym d.is

    whole : n * c * 1 ≡ r * (c * 2 ^ k)
    whole =
        mul-one (n * c) ∙ ap (λ (x : ℕ). x * c) (sym r_is) ∙ mul_assoc r (2 ^ k) c
        ∙ ap (λ (x : ℕ). r * x) (mul_comm (2 ^ k) c)

-- So a number of 53 digits above the fraction is above the result, and one below it is below.
pub rnd_le : {n : ℕ} (a c : ℕ) → 0 < c → Digits53 n → a ≤ n * c → rnd a c ≤ n
rnd_le {n} a c C d h = le_trans (rnd_mono a c (n * c) c C C (mul-le-mul_right c h)) (le_of_eq (rnd_exact n c C d))

pub rnd_ge : {n : ℕ} (a c : ℕ) → 0 < c → Digits53 n → n * c ≤ a → n ≤ rnd a c
rnd_ge {n} a c C d h = le_trans (le_of_eq (sym (rnd_exact n c C d))) (rnd_mono (n * c) c a c C C (mul-le-mul_right c h))

-- Zero stays zero.
pub rnd_zero : (c : ℕ) → 0 < c → rnd 0 c ≡ 0
rnd_zero c C = ap (λ (x : ℕ). rnd x c) (sym (zero-mul c)) ∙ rnd_exact 0 c C (digits53 0 0 zero-le)

near_half : (a c k : ℕ) → 0 < c → a ≤ 2 ^ (53 + k) * c
    → (2 * (rnd a c * c) ≤ 2 * a + 2 ^ k * c) × (2 * a ≤ 2 * (rnd a c * c) + 2 ^ k * c)
near_half a c k C h = go (eq-or-lt_of_le h)
  where
    j : ℕ
    j = drop 53 a c

    at : (n : ℕ) → n * c ≡ a → (2 * (n * c) ≤ 2 * a + 2 ^ k * c) × (2 * a ≤ 2 * (n * c) + 2 ^ k * c)
    at n e = omega arith

    go : (a ≡ 2 ^ (53 + k) * c) ⊎ (a < 2 ^ (53 + k) * c)
        → (2 * (rnd a c * c) ≤ 2 * a + 2 ^ k * c) × (2 * a ≤ 2 * (rnd a c * c) + 2 ^ k * c)
    go (inl e) =
        at (rnd a c)
        (ap (λ (x : ℕ). rnd x c * c) e
        ∙ ap (λ (x : ℕ). x * c)
        (rnd_exact (2 ^ (53 + k)) c C
        (subst (λ (n : ℕ). Digits53 n) (sym (pow-add 2 53 k)) (digits53 (2 ^ 53) k (le_refl (2 ^ 53))))) ∙ sym e)
    go (inr l) =
        rw (rnd_is a c)
        (omega (
          arith,
          closest_half a (c * 2 ^ j) (mul-pos C (pow_pos j)),
          le_trans
              (mul-le-mul_left c (pow_mono (drop_le a c k C l))) (le_of_eq (mul_comm c (2 ^ k))),
        ))

-- The error is at most half an ulp: of a fraction up to 2 ^ 54 times pow2 e, it is pow2 e units.
pub rnd_near : (a c e : ℕ) → 0 < c → a ≤ 2 ^ 54 * pow2 e * c
    → (rnd a c * c ≤ a + pow2 e * c) × (a ≤ rnd a c * c + pow2 e * c)
unfolding pow2
rnd_near a c e C h =
    halved (2 ^ e) (pow-succ' 2 e)
    (near_half a c (suc e) C
    (le_trans h (le_of_eq (ap (λ (x : ℕ). x * c) (sym (pow-add 2 54 e) ∙ ap (λ (x : ℕ). 2 ^ x) (omega arith))))))
  where
    halved : (u : ℕ) → 2 ^ suc e ≡ 2 * u
        → (2 * (rnd a c * c) ≤ 2 * a + 2 ^ suc e * c) × (2 * a ≤ 2 * (rnd a c * c) + 2 ^ suc e * c)
        → (rnd a c * c ≤ a + u * c) × (a ≤ rnd a c * c + u * c)
    halved u d g = let k : 2 ^ suc e * c ≡ 2 * u * c = ap (λ (x : ℕ). x * c) d in omega arith

-- the unit that is kept is at most the fraction, where that is one unit at least
unit_le : (a c : ℕ) → 0 < c → c ≤ a → c * 2 ^ drop 53 a c ≤ a
unit_le a c C h =
    let w = a / c in
    let some : 1 ≤ w = (le-div_iff_mul-le C).1 (le_trans (le_of_eq (one-mul c)) h) in
    le_trans (le_of_eq (mul_comm c (2 ^ drop 53 a c)))
    ((le-div_iff_mul-le C).0 (size_reaches w (drop 53 a c) (less (size w) (size_pos w some))))
  where
    less : (z : ℕ) → 0 < z → z - 53 < z
    less z h = omega arith

    size_pos : (w : ℕ) → 1 ≤ w → 0 < size w
    size_pos w h = pow_lt_back 0 (size w) (lt_of_le_of_lt h (size-lt w))

-- A fraction of at least one unit is off by less than the factor 2, either way.
pub rnd_twice : (a c : ℕ) → 0 < c → c ≤ a → (rnd a c * c ≤ 2 * a) × (a ≤ 2 * (rnd a c * c))
rnd_twice a c C h =
    rw (rnd_is a c)
    (go (kept 53 a c) (drop 53 a c) (closest_half a (c * 2 ^ drop 53 a c) U) l
    (mul-le-mul_right (c * 2 ^ drop 53 a c) some))
  where
    U : 0 < c * 2 ^ drop 53 a c
    U = mul-pos C (pow_pos (drop 53 a c))

    l : c * 2 ^ drop 53 a c ≤ a
    l = unit_le a c C h

    some : 1 ≤ kept 53 a c
    some =
        le_trans ((le-div_iff_mul-le U).1 (le_trans (le_of_eq (one-mul (c * 2 ^ drop 53 a c))) l))
        (nearest-ge (a / (c * 2 ^ drop 53 a c)) (compare (a % (c * 2 ^ drop 53 a c) * 2) (c * 2 ^ drop 53 a c)))

    go : (x j : ℕ) → Half a (c * 2 ^ j) x → c * 2 ^ j ≤ a → 1 * (c * 2 ^ j) ≤ x * (c * 2 ^ j)
        → (x * 2 ^ j * c ≤ 2 * a) × (a ≤ 2 * (x * 2 ^ j * c))
    go x j e l s = omega arith

-- In the normal range the error is at most 2 ^ -53 of the fraction.
pub rnd_relative : (a c : ℕ) → 0 < c → 2 ^ 52 * c ≤ a
    → (2 ^ 53 * (rnd a c * c) ≤ 2 ^ 53 * a + a) × (2 ^ 53 * a ≤ 2 ^ 53 * (rnd a c * c) + a)
rnd_relative a c C h =
    rw (rnd_is a c)
    (go (kept 53 a c) (drop 53 a c) (closest_half a (c * 2 ^ drop 53 a c) (mul-pos C (pow_pos (drop 53 a c)))) lead)
  where
    go : (x j : ℕ) → Half a (c * 2 ^ j) x → 2 ^ 52 * (c * 2 ^ j) ≤ a
        → (2 ^ 53 * (x * 2 ^ j * c) ≤ 2 ^ 53 * a + a) × (2 ^ 53 * a ≤ 2 ^ 53 * (x * 2 ^ j * c) + a)
    go x j e l = omega arith

    w : ℕ
    w = a / c

    at : (j : ℕ) → (j ≡ 0) ⊎ (0 < j) → (0 < j → 52 + j < size w) → 2 ^ 52 * 2 ^ j ≤ w
    at j (inl z) f = subst (λ (i : ℕ). 2 ^ 52 * 2 ^ i ≤ w) (sym z) ((le-div_iff_mul-le C).1 h)
    at j (inr p) f = le_trans (le_of_eq (sym (pow-add 2 52 j))) (size_reaches w (52 + j) (f p))

    lead : 2 ^ 52 * (c * 2 ^ drop 53 a c) ≤ a
    lead =
        le_trans (le_of_eq (omega arith))
        ((le-div_iff_mul-le C).0 (at (drop 53 a c) (eq-zero-or-pos (drop 53 a c)) (in_use (size w))))

-- ---- what is Rounded

module _ {z : Float} {p n c : ℕ} (C : 0 < c) (r : Rounded z p n c) where
  -- w, of 53 digits, bounds z from above, from below, or is z
  pub plus_le : {w : ℕ} → Digits53 w → p ≤ n + w * c → plus z ≤ w
  plus_le {w} d h = le_trans (le_of_eq r.up) (rnd_le (p - n) c C d (omega arith))

  pub minus_le : {w : ℕ} → Digits53 w → n ≤ p + w * c → minus z ≤ w
  minus_le {w} d h = le_trans (le_of_eq r.down) (rnd_le (n - p) c C d (omega arith))

  pub plus_ge : {w : ℕ} → Digits53 w → n + w * c ≤ p → w ≤ plus z
  plus_ge {w} d h = le_trans (rnd_ge (p - n) c C d (omega arith)) (le_of_eq (sym r.up))

  pub minus_ge : {w : ℕ} → Digits53 w → p + w * c ≤ n → w ≤ minus z
  minus_ge {w} d h = le_trans (rnd_ge (n - p) c C d (omega arith)) (le_of_eq (sym r.down))

  -- z has no part of the other sign
  pub plus_none : p ≤ n → plus z ≡ 0
  plus_none h = r.up ∙ ap (λ (a : ℕ). rnd a c) (sub-eq-zero_of_le h) ∙ rnd_zero c C

  pub minus_none : n ≤ p → minus z ≡ 0
  minus_none h = r.down ∙ ap (λ (a : ℕ). rnd a c) (sub-eq-zero_of_le h) ∙ rnd_zero c C

  -- A number of 53 digits comes out as it is.
  pub plus_exact : {w : ℕ} → Digits53 w → p ≡ n + w * c → plus z ≡ w
  plus_exact {w} d h = r.up ∙ ap (λ (a : ℕ). rnd a c) (omega arith) ∙ rnd_exact w c C d

  pub minus_exact : {w : ℕ} → Digits53 w → n ≡ p + w * c → minus z ≡ w
  minus_exact {w} d h = r.down ∙ ap (λ (a : ℕ). rnd a c) (omega arith) ∙ rnd_exact w c C d

  -- The error is half an ulp: pow2 e units, for |p - n| / c up to 2 ^ 54 times as much.
  pub rounded_near : (e : ℕ) → p ≤ n + 2 ^ 54 * pow2 e * c → n ≤ p + 2 ^ 54 * pow2 e * c → Near z p n c (pow2 e)
  rounded_near e h g = go (cases_lt p n)
    where
      a : (plus z * c ≤ (p - n) + pow2 e * c) × ((p - n) ≤ plus z * c + pow2 e * c)
      a = rw r.up (rnd_near (p - n) c e C (omega arith))

      b : (minus z * c ≤ (n - p) + pow2 e * c) × ((n - p) ≤ minus z * c + pow2 e * c)
      b = rw r.down (rnd_near (n - p) c e C (omega arith))

      go : (p < n) ⊎ (n ≤ p) → Near z p n c (pow2 e)
      go (inl l) =
          let k : plus z * c ≡ 0 = ap (λ (x : ℕ). x * c) (plus_none (le_of_lt l)) ∙ zero-mul c in
          record { over = omega (arith, b); under = omega (arith, b) }
      go (inr l) =
          let k : minus z * c ≡ 0 = ap (λ (x : ℕ). x * c) (minus_none l) ∙ zero-mul c in
          record { over = omega (arith, a); under = omega (arith, a) }
