-- The bits of what code writes: `1 << i`, `>>`, `&`, `|`, `!`, for every width w and every index; and a mask is its bits.
use Rattle.std.specs.Prelude.{ℕ, zero, suc, ◌-◌, ◌*◌, ◌/◌, ◌%◌, ◌^◌, ◌≤◌, ◌<◌, min, max, ◌≡◌, refl, Bool, true, false, not, ◌&&◌, ◌||◌, ◌⊎◌, eqb, ltb}
use Rattle.std.proofs.Common.{mod-lt, mod-eq_of_lt, one-mul, zero-mul, one-add, arith, sym, ap, ◌∙◌, subst, inl, inr, pow_pos, shr-shr, ltb-true, ltb-false, eqb-true, eq-eqb, ne_eqb}
use Rattle.std.proofs.Math.Nat.{sub-zero}
use Rattle.std.proofs.Math.Arith.{bin_ind}
use Rattle.std.specs.Int.Bits.{bit_and, bit_or, and_step, or_step}
use Rattle.std.proofs.lemmas.Nat.{and_shr, or_shr, and_mask, or_lt, and_le_l}
use Rattle.std.proofs.Math.Pow.{pow-lt}
use Rattle.std.proofs.lemmas.Bool.{eqb-false}
use Rattle.masks.specs.Mask.{bit, in_set, shifted, complement}

-- ---- bits

-- the lowest bit, and the others by halving
pub bit_zero : (S : ℕ) → bit S 0 ≡ S % 2
unfolding bit
bit_zero S = omega arith

pub bit_suc : (S i : ℕ) → bit S (suc i) ≡ bit (S / 2) i
unfolding bit
bit_suc S i = ap (λ (n : ℕ). n % 2) (sym (shr-shr S 1 i ∙ ap (λ (k : ℕ). S / 2 ^ k) (one-add i)))

pub bit_le : (S i : ℕ) → bit S i ≤ 1
unfolding bit
bit_le S i = omega arith

pub bit_of_zero : (i : ℕ) → bit 0 i ≡ 0
bit_of_zero zero = bit_zero 0
bit_of_zero (suc i) = bit_suc 0 i ∙ bit_of_zero i

-- a bit is 0 or 1
pub bit_cases : (S i : ℕ) → (bit S i ≡ 0) ⊎ (bit S i ≡ 1)
bit_cases S i = go (bit S i) (bit_le S i)
  where
    go : (b : ℕ) → b ≤ 1 → (b ≡ 0) ⊎ (b ≡ 1)
    go zero h = inl refl
    go (suc b) h = inr (omega arith)

-- a head is in S where its bit is 1, and not where it is 0
pub in_of_one : (S i : ℕ) → bit S i ≡ 1 → in_set S i ≡ true
unfolding in_set
in_of_one S i e = eq-eqb (bit S i) 1 e

pub in_of_zero : (S i : ℕ) → bit S i ≡ 0 → in_set S i ≡ false
unfolding in_set
in_of_zero S i e = ne_eqb (bit S i) 1 (λ f. omega arith)

pub one_of_in : (S i : ℕ) → in_set S i ≡ true → bit S i ≡ 1
unfolding in_set
one_of_in S i e = eqb-true (bit S i) 1 e

pub zero_of_in : (S i : ℕ) → in_set S i ≡ false → bit S i ≡ 0
unfolding in_set
zero_of_in S i e = let n = eqb-false (bit S i) 1 e in omega (arith, bit_le S i)

-- `&`: the lesser of the two bits
pub bit-and : (S T i : ℕ) → bit (bit_and S T) i ≡ min (bit S i) (bit T i)
unfolding bit
bit-and S T i =
    ap (λ (n : ℕ). n % 2) (and_shr S T i ∙ and_step (S / 2 ^ i) (T / 2 ^ i))
    ∙ omega arith

-- `|`: the greater of the two bits
pub bit-or : (S T i : ℕ) → bit (bit_or S T) i ≡ max (bit S i) (bit T i)
unfolding bit
bit-or S T i =
    ap (λ (n : ℕ). n % 2) (or_shr S T i ∙ or_step (S / 2 ^ i) (T / 2 ^ i))
    ∙ omega arith

-- ---- a mask is its bits

none_of : (T : ℕ) → ((i : ℕ) → bit T i ≡ 0) → T ≡ 0
none_of =
    bin_ind (λ (n : ℕ). ((i : ℕ) → bit n i ≡ 0) → n ≡ 0) (λ h. refl)
    (λ n ih h. omega (arith, ih (λ i. sym (bit_suc n i) ∙ h (suc i)), bit_zero n, h 0))

-- two sets with the same heads are the same mask
pub bit_ext : (S T : ℕ) → ((i : ℕ) → bit S i ≡ bit T i) → S ≡ T
bit_ext =
    bin_ind (λ (n : ℕ). (T : ℕ) → ((i : ℕ) → bit n i ≡ bit T i) → n ≡ T)
    (λ T h. sym (none_of T (λ i. sym (h i) ∙ bit_of_zero i)))
    (λ n ih T h. omega (arith, ih (T / 2) (λ i. sym (bit_suc n i) ∙ h (suc i) ∙ bit_suc T i), bit_zero n, bit_zero T, h 0))

-- a mask below 2^w has heads below w only
pub bit_beyond : (w S i : ℕ) → S < 2 ^ w → w ≤ i → bit S i ≡ 0
bit_beyond zero S i h k = ap (λ (n : ℕ). bit n i) (omega arith) ∙ bit_of_zero i
bit_beyond (suc w) S zero h k = omega arith
bit_beyond (suc w) S (suc i) h k = bit_suc S i ∙ bit_beyond w (S / 2) i (omega arith) (omega arith)

-- and a mask with heads below w only is below 2^w
pub below_pow : (w S : ℕ) → ((i : ℕ) → w ≤ i → bit S i ≡ 0) → S < 2 ^ w
below_pow zero S h = omega (arith, none_of S (λ i. h i (omega arith)))
below_pow (suc w) S h =
    omega (arith, below_pow w (S / 2) (λ i k. sym (bit_suc S i) ∙ h (suc i) (omega arith)))

-- so a mask of width w is its w bits
pub bit_ext_below : (w S T : ℕ) → S < 2 ^ w → T < 2 ^ w → ((i : ℕ) → i < w → bit S i ≡ bit T i) → S ≡ T
bit_ext_below w S T hs ht h = bit_ext S T (λ i. go i (ltb i w) refl)
  where
    go : (i : ℕ) (p : Bool) → ltb i w ≡ p → bit S i ≡ bit T i
    go i true e = h i (ltb-true i w e)
    go i false e = bit_beyond w S i hs (ltb-false i w e) ∙ sym (bit_beyond w T i ht (ltb-false i w e))

-- ---- a single head

-- 2^i has head i and no other
pub bit_power : (i : ℕ) → bit (2 ^ i) i ≡ 1
bit_power zero = bit_zero 1
bit_power (suc i) = bit_suc (2 ^ suc i) i ∙ ap (λ (n : ℕ). bit n i) (omega arith) ∙ bit_power i

pub bit_power_other : (i j : ℕ) → (i ≡ j → ⊥) → bit (2 ^ i) j ≡ 0
bit_power_other zero zero h = absurd (h refl)
bit_power_other zero (suc j) h = bit_suc 1 j ∙ bit_of_zero j
bit_power_other (suc i) zero h = bit_zero (2 ^ suc i) ∙ omega arith
bit_power_other (suc i) (suc j) h =
    bit_suc (2 ^ suc i) j ∙ ap (λ (n : ℕ). bit n j) (omega arith) ∙ bit_power_other i j (λ e. h (ap suc e))

-- `1 << i` is 2^i
pub shifted_is : (w i : ℕ) → i < w → shifted w i ≡ 2 ^ i
shifted_is w i h = ap (λ (n : ℕ). n % 2 ^ w) (one-mul (2 ^ i)) ∙ mod-eq_of_lt (pow-lt h)

-- `1 << i` has head i and no other
pub bit_shifted : (w i : ℕ) → i < w → bit (shifted w i) i ≡ 1
bit_shifted w i h = ap (λ (n : ℕ). bit n i) (shifted_is w i h) ∙ bit_power i

pub bit_shifted_other : (w i j : ℕ) → i < w → (i ≡ j → ⊥) → bit (shifted w i) j ≡ 0
bit_shifted_other w i j h k = ap (λ (n : ℕ). bit n j) (shifted_is w i h) ∙ bit_power_other i j k

-- ---- `!`

-- `!S` has the heads below w that S lacks
pub bit_complement : (w S i : ℕ) → S < 2 ^ w → i < w → bit (complement w S) i ≡ 1 - bit S i
bit_complement zero S i h k = omega arith
bit_complement (suc w) S zero h k = omega (arith, bit_zero (complement (suc w) S), bit_zero S)
bit_complement (suc w) S (suc i) h k =
    bit_suc (complement (suc w) S) i ∙ ap (λ (n : ℕ). bit n i) (omega arith)
    ∙ bit_complement w (S / 2) i (omega arith) (omega arith)
    ∙ ap (λ (b : ℕ). 1 - b) (sym (bit_suc S i))

-- `!S` is a mask of width w
pub complement_lt : (w S : ℕ) → complement w S < 2 ^ w
complement_lt w S = omega (arith, pow_pos w)

-- `S & !T`: the heads of S that T lacks
pub bit_minus : (w S T i : ℕ) → S < 2 ^ w → T < 2 ^ w → bit (bit_and S (complement w T)) i ≡ bit S i - bit T i
bit_minus w S T i hs ht = bit-and S (complement w T) i ∙ go (ltb i w) refl
  where
    go : (p : Bool) → ltb i w ≡ p → min (bit S i) (bit (complement w T) i) ≡ bit S i - bit T i
    go true e = omega (arith, bit_complement w T i ht (ltb-true i w e), bit_le S i, bit_le T i)
    go false e = omega (arith, bit_beyond w S i hs (ltb-false i w e))

-- ---- is head i in S, as code asks

-- `S >> i & 1`
pub test_shift : (S i : ℕ) → bit_and (S / 2 ^ i) 1 ≡ bit S i
unfolding bit
test_shift S i = and_mask (S / 2 ^ i) 1

scaled_zero : (b i j : ℕ) → b ≡ 0 → bit (b * 2 ^ i) j ≡ 0
scaled_zero b i j e = ap (λ (n : ℕ). bit n j) (ap (λ (n : ℕ). n * 2 ^ i) e ∙ zero-mul (2 ^ i)) ∙ bit_of_zero j

scaled_one : (b i j : ℕ) → b ≡ 1 → bit (b * 2 ^ i) j ≡ bit (2 ^ i) j
scaled_one b i j e = ap (λ (n : ℕ). bit n j) (ap (λ (n : ℕ). n * 2 ^ i) e ∙ one-mul (2 ^ i))

-- `S & (1 << i)`: all or nothing of 2^i
pub test_mask : (w S i : ℕ) → i < w → bit_and S (shifted w i) ≡ bit S i * 2 ^ i
test_mask w S i h =
    bit_ext (bit_and S (shifted w i)) (bit S i * 2 ^ i) (λ j. bit-and S (shifted w i) j ∙ go j (eqb i j) refl (bit_cases S i))
  where
    go : (j : ℕ) (p : Bool) → eqb i j ≡ p → (bit S i ≡ 0) ⊎ (bit S i ≡ 1) → min (bit S j) (bit (shifted w i) j) ≡ bit (bit S i * 2 ^ i) j
    go j true e (inl z) = omega (arith, ap (bit S) (eqb-true i j e), scaled_zero (bit S i) i j z)
    go j true e (inr z) =
        let same = eqb-true i j e in
        omega (arith, ap (bit S) same, ap (bit (shifted w i)) same, bit_shifted w i h, scaled_one (bit S i) i j z, ap (bit (2 ^ i)) same, bit_power i)
    go j false e (inl z) = omega (arith, bit_shifted_other w i j h (eqb-false i j e), scaled_zero (bit S i) i j z)
    go j false e (inr z) =
        let other = eqb-false i j e in
        omega (arith, bit_shifted_other w i j h other, scaled_one (bit S i) i j z, bit_power_other i j other)

-- `S >> i & 1 == 1`
pub in_by_shift : (S i : ℕ) → eqb (bit_and (S / 2 ^ i) 1) 1 ≡ in_set S i
unfolding in_set
in_by_shift S i = ap (λ (n : ℕ). eqb n 1) (test_shift S i)

-- `S & (1 << i) != 0`
pub in_by_mask : (w S i : ℕ) → i < w → not (eqb (bit_and S (shifted w i)) 0) ≡ in_set S i
unfolding in_set
in_by_mask w S i h = ap (λ (n : ℕ). not (eqb n 0)) (test_mask w S i h) ∙ go (bit_cases S i)
  where
    go : (bit S i ≡ 0) ⊎ (bit S i ≡ 1) → not (eqb (bit S i * 2 ^ i) 0) ≡ eqb (bit S i) 1
    go (inl z) = simp (z, eq-eqb (0 * 2 ^ i) 0 (omega arith))
    go (inr z) = simp (z, ne_eqb (1 * 2 ^ i) 0 (λ e. omega (arith, pow_pos i)))

-- the same where a branch says whether it is zero
pub zero_by_mask : (w S i : ℕ) → i < w → bit_and S (shifted w i) ≡ 0 → bit S i ≡ 0
zero_by_mask w S i h e = zero_of_in S i (sym (in_by_mask w S i h) ∙ ap not (eq-eqb (bit_and S (shifted w i)) 0 e))

pub one_by_mask : (w S i : ℕ) → i < w → (bit_and S (shifted w i) ≡ 0 → ⊥) → bit S i ≡ 1
one_by_mask w S i h n = one_of_in S i (sym (in_by_mask w S i h) ∙ ap not (ne_eqb (bit_and S (shifted w i)) 0 n))

-- ---- S with head i, `S | 1 << i`; S without it, `S & !(1 << i)`

-- head i is in `S | 1 << i`, and the others are as in S
pub bit_with : (w S i : ℕ) → i < w → bit (bit_or S (shifted w i)) i ≡ 1
bit_with w S i h = omega (arith, bit-or S (shifted w i) i, bit_shifted w i h, bit_le S i)

pub bit_with_other : (w S i j : ℕ) → i < w → (i ≡ j → ⊥) → bit (bit_or S (shifted w i)) j ≡ bit S j
bit_with_other w S i j h k = omega (arith, bit-or S (shifted w i) j, bit_shifted_other w i j h k)

-- `1 << i` is a mask of width w
pub shifted_lt : (w i : ℕ) → shifted w i < 2 ^ w
shifted_lt w i = mod-lt (1 * 2 ^ i) (pow_pos w)

-- head i is not in `S & !(1 << i)`, and the others are as in S
pub bit_without : (w S i : ℕ) → S < 2 ^ w → i < w → bit (bit_and S (complement w (shifted w i))) i ≡ 0
bit_without w S i hs h = omega (arith, bit_minus w S (shifted w i) i hs (shifted_lt w i), bit_shifted w i h, bit_le S i)

pub bit_without_other : (w S i j : ℕ) → S < 2 ^ w → i < w → (i ≡ j → ⊥) → bit (bit_and S (complement w (shifted w i))) j ≡ bit S j
bit_without_other w S i j hs h k =
    omega (arith, bit_minus w S (shifted w i) j hs (shifted_lt w i), bit_shifted_other w i j h k)

-- of a mask of n heads: still one
pub with_below : (w n S i : ℕ) → n ≤ w → S < 2 ^ n → i < n → bit_or S (shifted w i) < 2 ^ n
with_below w n S i h hs k =
    or_lt n S (shifted w i) hs (subst (λ (m : ℕ). m < 2 ^ n) (sym (shifted_is w i (omega arith))) (pow-lt k))

pub without_below : (n S U : ℕ) → S < 2 ^ n → bit_and S U < 2 ^ n
without_below n S U hs = omega (arith, and_le_l S U)

-- ---- the same as sets: a head is in the result exactly if ..

-- an operation f on bits, and g on whether a head is in, agree
abbrev Agree : (ℕ → ℕ → ℕ) → (Bool → Bool → Bool) → Type 0
Agree f g =
    (eqb (f 0 0) 1 ≡ g false false) × (eqb (f 0 1) 1 ≡ g false true) × (eqb (f 1 0) 1 ≡ g true false) × (eqb (f 1 1) 1 ≡ g true true)

in_by_bits : (f : ℕ → ℕ → ℕ) (g : Bool → Bool → Bool) → Agree f g → (R S T i : ℕ) → bit R i ≡ f (bit S i) (bit T i)
    → in_set R i ≡ g (in_set S i) (in_set T i)
unfolding in_set
in_by_bits f g same R S T i e = ap (λ (n : ℕ). eqb n 1) e ∙ go (bit_cases S i) (bit_cases T i)
  where
    go : (bit S i ≡ 0) ⊎ (bit S i ≡ 1) → (bit T i ≡ 0) ⊎ (bit T i ≡ 1) → eqb (f (bit S i) (bit T i)) 1 ≡ g (eqb (bit S i) 1) (eqb (bit T i) 1)
    go (inl s) (inl t) = rw (s, t) same.0
    go (inl s) (inr t) = rw (s, t) same.1
    go (inr s) (inl t) = rw (s, t) same.2
    go (inr s) (inr t) = rw (s, t) same.3

-- .. it is in S or in T
pub in_or : (S T i : ℕ) → in_set (bit_or S T) i ≡ (in_set S i || in_set T i)
in_or S T i = in_by_bits max ◌||◌ (refl, refl, refl, refl) (bit_or S T) S T i (bit-or S T i)

-- .. it is in S and in T
pub in_and : (S T i : ℕ) → in_set (bit_and S T) i ≡ (in_set S i && in_set T i)
in_and S T i = in_by_bits min ◌&&◌ (refl, refl, refl, refl) (bit_and S T) S T i (bit-and S T i)

-- .. it is in S and not in T
pub in_minus : (w S T i : ℕ) → S < 2 ^ w → T < 2 ^ w → in_set (bit_and S (complement w T)) i ≡ (in_set S i && not (in_set T i))
in_minus w S T i hs ht =
    in_by_bits ◌-◌ (λ a b. a && not b) (refl, refl, refl, refl) (bit_and S (complement w T)) S T i (bit_minus w S T i hs ht)

-- .. it is head i itself
pub in_power : (i j : ℕ) → in_set (2 ^ i) j ≡ eqb j i
in_power i j = go (eqb j i) refl
  where
    go : (p : Bool) → eqb j i ≡ p → in_set (2 ^ i) j ≡ p
    go true e = in_of_one (2 ^ i) j (ap (bit (2 ^ i)) (eqb-true j i e) ∙ bit_power i)
    go false e = in_of_zero (2 ^ i) j (bit_power_other i j (λ f. eqb-false j i e (sym f)))

pub in_shifted : (w i j : ℕ) → i < w → in_set (shifted w i) j ≡ eqb j i
in_shifted w i j h = ap (λ (n : ℕ). in_set n j) (shifted_is w i h) ∙ in_power i j

-- two sets with the same heads are the same mask
pub in_ext : (S T : ℕ) → ((i : ℕ) → in_set S i ≡ in_set T i) → S ≡ T
in_ext S T h = bit_ext S T (λ i. go i (bit_cases T i))
  where
    go : (i : ℕ) → (bit T i ≡ 0) ⊎ (bit T i ≡ 1) → bit S i ≡ bit T i
    go i (inl z) = zero_of_in S i (h i ∙ in_of_zero T i z) ∙ sym z
    go i (inr z) = one_of_in S i (h i ∙ in_of_one T i z) ∙ sym z

-- a head of w or more is in no mask of width w
pub in_beyond : (w S i : ℕ) → S < 2 ^ w → w ≤ i → in_set S i ≡ false
in_beyond w S i h k = in_of_zero S i (bit_beyond w S i h k)

-- the heads below n: `(1 << n) - 1`
pub in_ones : (n j : ℕ) → in_set (2 ^ n - 1) j ≡ ltb j n
in_ones n j = go (ltb j n) refl
  where
    go : (b : Bool) → ltb j n ≡ b → in_set (2 ^ n - 1) j ≡ b
    go true e =
        in_of_one (2 ^ n - 1) j (omega (
          arith,
          bit_complement n 0 j (pow_pos n) (ltb-true j n e),
          bit_of_zero j,
          ap (λ (m : ℕ). bit m j) (sub-zero (2 ^ n - 1)),
        ))
    go false e = in_beyond n (2 ^ n - 1) j (omega (arith, pow_pos n)) (ltb-false j n e)
