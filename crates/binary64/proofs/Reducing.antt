-- The remainder as the code works it out: that by twice m first, and then less m where that leaves something. Twice m
-- is exact, or an infinity that is no smaller than any number; the difference is exact. Rests on Remainder, Operations
-- and Units.
use Rattle.std.proofs.Common.{lit<, ◌≡◌, ℕ, zero, suc, ◌+◌, ◌-◌, ◌*◌, ◌%◌, ◌^◌, ◌<◌, ◌≤◌, Bool, true, false, cond, not}
use Rattle.std.proofs.Common.{◌&&◌, T, ltb, ◌⊎◌, sym, refl, ap, ◌∙◌, subst}
use Rattle.std.proofs.Common.{ap₂, inl, inr, true≢false, le_of_eq, lt_of_lt_of_le, lt_of_le_of_lt, mod-lt, arith}
use mathlib.Core.Bool.{false≢true}
use native.Mathlib.Nat.{mod-le, mod-eq_of_lt, mod-eq-sub-mod, mod-mod_of_dvd, dvd-add, dvd_refl}
use lib.Ieee.{Float, nan, inf, fin, binary64, fits, odd, units, sum, rem, add, sub, neg, lt, le, eq}
use lib.Ieee.Exact.{HasValue}
use lib.Ieee.Fits.{round_is}
use lib.Ieee.Order.{drop, kept}
use lib.Ieee.Scale.{finite}
use Rattle.binary64.specs.Units.{one, limit, Finite, mag, negative, plus, minus, of_units, signed_zero, Digits53}
use Rattle.std.specs.Float.{float_is_finite}
use Rattle.binary64.specs.Constants.{zero64, zero64_is}
use Rattle.binary64.specs.Functions.{absolute, Reducible}
use Rattle.std.proofs.lemmas.Bool.{cases_lt}
use Rattle.binary64.proofs.Values.{add_values}
use Rattle.binary64.proofs.Units.{one_pos, mag_value, mag_digits, mag_limit, of_units_mag}
use Rattle.binary64.proofs.Units.{of_units_sign, of_units_finite, of_units_zero, is_of_units, is_zero, above_zero}
use Rattle.binary64.proofs.Units.{not_above_zero, same_float, neg_mag, neg_sign, plus_is}
use Rattle.binary64.proofs.Units.{neg_finite, neg_plus, neg_minus, units_of_le, units_of_lt, le_not_lt}
use Rattle.binary64.proofs.Rounding.{rnd_exact}
use Rattle.binary64.proofs.Operations.{round_below, sub_is, sub_result, result_plus, add_zero_sum}
use Rattle.binary64.proofs.Functions.{absolute_sign, absolute_mag, absolute_finite, absolute_parts}
use Rattle.binary64.proofs.Remainder.{rem_is, mod_digits}

-- ---- over natural numbers

-- the remainder by b of the remainder by twice b
by_half : (a b : ℕ) → a % b ≡ a % (b + b) % b
by_half a b = sym (mod-mod_of_dvd b a (dvd-add b (dvd_refl b) (dvd_refl b)))

more_left : (a b : ℕ) → 0 < b → b ≤ a % (b + b) → a % b ≡ a % (b + b) - b
more_left a b B h =
    let small : a % (b + b) < b + b = mod-lt a (omega arith) in
    by_half a b ∙ mod-eq-sub-mod h ∙ mod-eq_of_lt (omega arith)

none_left : (a b : ℕ) → a % (b + b) < b → a % b ≡ a % (b + b)
none_left a b h = by_half a b ∙ mod-eq_of_lt h

-- twice a number of 53 digits
twice_digits : {n : ℕ} → Digits53 n → Digits53 (n + n)
twice_digits d = record {
  digits = d.digits;
  zeros = suc d.zeros;
  few = d.few;
  is = ap₂ (λ (x y : ℕ). x + y) d.is d.is ∙ twice d.digits d.zeros;
}
  where
    twice : (q k : ℕ) → q * 2 ^ k + q * 2 ^ k ≡ q * 2 ^ suc k
    twice q k = grind arith

-- ---- a number of units, rounded, is finite or an infinity

odd_finite : (q k : ℕ) → T (finite (odd 54 false q k 1074))
unfolding odd
odd_finite zero k = tt
odd_finite (suc q) k = tt

units_or_infinity : (q k : ℕ) → (T (finite (units binary64 false q k))) ⊎ (units binary64 false q k ≡ inf false)
unfolding units
units_or_infinity q k = go (ltb (q * 2 ^ k) (2 ^ 2098))
  where
    go : (b : Bool)
        → (T (finite (cond b (odd 54 false q k 1074) (inf false))))
        ⊎ (cond b (odd 54 false q k 1074) (inf false) ≡ inf false)
    go true = inl (odd_finite q k)
    go false = inr refl

number_or_infinity : (w : ℕ) → (T (finite (of_units false w))) ⊎ (of_units false w ≡ inf false)
number_or_infinity w =
    let q = kept 53 (w * 2 ^ 1074) one in
    let k = drop 53 (w * 2 ^ 1074) one in
    subst (λ (z : Float). (T (finite z)) ⊎ (z ≡ inf false)) (sym (round_is binary64 false w one))
    (units_or_infinity q k)

above_numbers : (x : Float) → Finite x → le (inf false) x ≡ false
unfolding le lt eq
above_numbers nan h = absurd h.number
above_numbers (inf s) h = absurd h.number
above_numbers (fin s m e) h = refl

from_not : (b : Bool) → not b ≡ false → b ≡ true
from_not true e = refl
from_not false e = absurd (true≢false e)

-- ---- the code's steps

module _ {x m : Float} (h : Reducible x m) where
  abbrev X : ℕ
  X = mag x

  abbrev M : ℕ
  M = mag m

  abbrev twice : Float
  twice = add binary64 m m

  x_parts : (plus x ≡ X) × (minus x ≡ 0)
  x_parts = plus_is x h.unsigned

  m_parts : (plus m ≡ M) × (minus m ≡ 0)
  m_parts = plus_is m h.by_unsigned

  digits : Digits53 (M + M)
  digits = twice_digits (mag_digits h.by)

  twice_is : twice ≡ of_units false (M + M)
  unfolding sum
  twice_is =
      let v : HasValue m false M one = subst (λ (s : Bool). HasValue m s M one) h.by_unsigned (mag_value h.by) in
      add_values m m false false M M one one_pos v v

  -- m + m ≤ x: then it is exact
  module _ (e : le twice x ≡ true) where
    few : M + M < limit
    few = go (number_or_infinity (M + M))
      where
        go : (T (finite (of_units false (M + M)))) ⊎ (of_units false (M + M) ≡ inf false) → M + M < limit
        go (inl t) =
            subst (λ (n : ℕ). n < limit) (rnd_exact (M + M) one one_pos digits) (round_below false (M + M) one t)
        go (inr i) = absurd (true≢false (sym e ∙ ap (λ (z : Float). le z x) (twice_is ∙ i) ∙ above_numbers x h.number))

    pub twice_mag : mag twice ≡ M + M
    twice_mag = ap mag twice_is ∙ of_units_mag false (M + M) digits few

    twice_finite : Finite twice
    twice_finite = subst Finite (sym twice_is) (of_units_finite false (M + M) digits few)

    twice_sign : negative twice ≡ false
    twice_sign = ap negative twice_is ∙ of_units_sign false (M + M) digits few

    pub twice_within : M + M ≤ X
    twice_within =
        let t = plus_is twice twice_sign in
        let l = units_of_le twice_finite h.number e in
        omega (arith, l, t.0, t.1, twice_mag, x_parts.0, x_parts.1)

    pub reducible_twice : Reducible x twice
    reducible_twice = record {
      number = h.number;
      unsigned = h.unsigned;
      by = twice_finite;
      by_unsigned = twice_sign;
      by_nonzero = omega (arith, twice_mag, h.by_nonzero);
    }

  -- otherwise it is above x
  twice_above : le twice x ≡ false → X < M + M
  twice_above e = go (cases_lt (M + M) limit)
    where
      go : (M + M < limit) ⊎ (limit ≤ M + M) → X < M + M
      go (inr l) = lt_of_lt_of_le (mag_limit h.number) l
      go (inl l) =
          let f : Finite twice = subst Finite (sym twice_is) (of_units_finite false (M + M) digits l) in
          let t = plus_is twice (ap negative twice_is ∙ of_units_sign false (M + M) digits l) in
          let g : lt x twice ≡ true = from_not (lt x twice) (sym (le_not_lt f h.number) ∙ e) in
          let u = units_of_lt h.number f g in
          omega (arith, u, t.0, t.1, ap mag twice_is, of_units_mag false (M + M) digits l, x_parts.0, x_parts.1)

  -- ---- the remainder by twice m

  abbrev Q : ℕ
  Q = X % (M + M)

  pub rest_by_twice : (r : Float) → le twice x ≡ true → r ≡ rem binary64 x twice → r ≡ of_units false Q
  rest_by_twice r e i =
      let d = reducible_twice e in
      i ∙ rem_is h.number d.by d.by_nonzero ∙ ap₂ (λ (s : Bool) (n : ℕ). of_units s (X % n)) h.unsigned (twice_mag e)

  pub rest_is_x : le twice x ≡ false → x ≡ of_units false Q
  rest_is_x e = is_of_units h.number ∙ ap₂ of_units h.unsigned (sym (mod-eq_of_lt (twice_above e)))

  -- ---- and by m

  rem_units : rem binary64 x m ≡ of_units false (X % M)
  rem_units = rem_is h.number h.by h.by_nonzero ∙ ap (λ (s : Bool). of_units s (X % M)) h.unsigned

  module _ {r : Float} (i : r ≡ of_units false Q) where
    q_digits : Digits53 Q
    q_digits = mod_digits X (M + M) (omega (arith, h.by_nonzero)) (mag_digits h.number) digits

    q_limit : Q < limit
    q_limit = lt_of_le_of_lt (mod-le X (M + M)) (mag_limit h.number)

    r_finite : Finite r
    r_finite = subst Finite (sym i) (of_units_finite false Q q_digits q_limit)

    r_sign : negative r ≡ false
    r_sign = ap negative i ∙ of_units_sign false Q q_digits q_limit

    r_parts : (plus r ≡ Q) × (minus r ≡ 0)
    r_parts = let p = plus_is r r_sign in (p.0 ∙ ap mag i ∙ of_units_mag false Q q_digits q_limit, p.1)

    -- m ≤ r: one m more is taken away
    pub rest_less : le m r ≡ true → sub binary64 r m ≡ rem binary64 x m
    rest_less e =
        let l = units_of_le h.by r_finite e in
        let more : X % M ≡ Q - M =
        more_left X M h.by_nonzero (omega (arith, l, m_parts.0, m_parts.1, r_parts.0, r_parts.1)) in
        let at_least : M ≤ Q = omega (arith, l, m_parts.0, m_parts.1, r_parts.0, r_parts.1) in
        go (cases_lt 0 (X % M)) more at_least ∙ sym rem_units
      where
        go : (0 < X % M) ⊎ (X % M ≤ 0) → X % M ≡ Q - M → M ≤ Q → sub binary64 r m ≡ of_units false (X % M)
        go (inl W) more a =
            result_plus (lit< tt) (sub_result r_finite h.by) W
            (mod_digits X M h.by_nonzero (mag_digits h.number) (mag_digits h.by))
            (lt_of_le_of_lt (mod-le X M) (mag_limit h.number))
            (omega (arith, more, a, m_parts.0, m_parts.1, r_parts.0, r_parts.1))
        go (inr W) more a =
            let n : X % M ≡ 0 = omega (arith, W) in
            sub_is r m
            ∙ add_zero_sum r_finite (neg_finite h.by)
            (omega (arith, n, more, a, neg_plus h.by, neg_minus h.by, m_parts.0, m_parts.1, r_parts.0, r_parts.1))
            ∙ ap (λ (s : Bool). signed_zero (s && negative (neg m))) r_sign
            ∙ sym (of_units_zero false)
            ∙ ap (of_units false) (sym n)

    -- r < m: nothing more
    pub rest_same : le m r ≡ false → r ≡ rem binary64 x m
    rest_same e =
        let g : lt r m ≡ true = from_not (lt r m) (sym (le_not_lt h.by r_finite) ∙ e) in
        let l = units_of_lt r_finite h.by g in
        i ∙ ap (of_units false) (sym (none_left X M (omega (arith, l, m_parts.0, m_parts.1, r_parts.0, r_parts.1))))
        ∙ sym rem_units

-- ---- any floats

-- x is no number
pub by_no_number : (x m : Float) → float_is_finite x ≡ false → nan ≡ rem binary64 x m
unfolding rem float_is_finite
by_no_number nan m e = refl
by_no_number (inf s) m e = refl
by_no_number (fin s k d) m e = absurd (true≢false e)

finite_float : (x : Float) → T (fits binary64 x) → float_is_finite x ≡ true → Finite x
unfolding float_is_finite
finite_float nan f e = absurd (false≢true e)
finite_float (inf s) f e = absurd (false≢true e)
finite_float (fin s k d) f e = record { fit = f; number = tt }

-- m is a NaN or a zero
pub by_nothing : (x m : Float) → T (fits binary64 m) → lt zero64 (absolute m) ≡ false → nan ≡ rem binary64 x m
unfolding rem lt
by_nothing nan m f e = refl
by_nothing (inf s) m f e = refl
by_nothing (fin s k d) nan f e = refl
by_nothing (fin s k d) (inf t) f e = absurd (true≢false (sym (ap (λ (z : Float). lt z (inf false)) zero64_is) ∙ e))
by_nothing (fin s k d) (fin t j l) f e =
    let h : Finite (fin t j l) = record { fit = f; number = tt } in
    let none = sym (absolute_parts (fin t j l)).0 ∙ not_above_zero (absolute_finite h) e in
    sym (ap (rem binary64 (fin s k d)) (is_zero h none))

-- m is an infinity
pub by_infinity : (x m : Float) → float_is_finite x ≡ true → lt zero64 (absolute m) ≡ true → float_is_finite m ≡ false
    → x ≡ rem binary64 x m
unfolding rem lt float_is_finite
by_infinity nan m e a i = absurd (false≢true e)
by_infinity (inf s) m e a i = absurd (false≢true e)
by_infinity (fin s k d) nan e a i = absurd (false≢true (sym (ap (λ (z : Float). lt z nan) zero64_is) ∙ a))
by_infinity (fin s k d) (inf t) e a i = refl
by_infinity (fin s k d) (fin t j l) e a i = absurd (true≢false i)

-- Both are numbers, and m is no zero: then by their sizes, and with the sign of x.
module _ (x m : Float) (f : T (fits binary64 x)) (g : T (fits binary64 m)) (e : float_is_finite x ≡ true)
    (i : float_is_finite m ≡ true) (a : lt zero64 (absolute m) ≡ true) where
  x_number : Finite x
  x_number = finite_float x f e

  m_number : Finite m
  m_number = finite_float m g i

  nonzero : 0 < mag m
  nonzero = lt_of_lt_of_le (above_zero (absolute_finite m_number) a).0 (le_of_eq (absolute_parts m).0)

  pub sizes_reducible : Reducible (absolute x) (absolute m)
  sizes_reducible = record {
    number = absolute_finite x_number;
    unsigned = absolute_sign x;
    by = absolute_finite m_number;
    by_unsigned = absolute_sign m;
    by_nonzero = lt_of_lt_of_le nonzero (le_of_eq (sym (absolute_mag m)));
  }

  w_digits : Digits53 (mag x % mag m)
  w_digits = mod_digits (mag x) (mag m) nonzero (mag_digits x_number) (mag_digits m_number)

  w_limit : mag x % mag m < limit
  w_limit = lt_of_le_of_lt (mod-le (mag x) (mag m)) (mag_limit x_number)

  sizes_rest : rem binary64 (absolute x) (absolute m) ≡ of_units false (mag x % mag m)
  sizes_rest = rem_units sizes_reducible ∙ ap₂ (λ (p q : ℕ). of_units false (p % q)) (absolute_mag x) (absolute_mag m)

  pub signed_rest : (r : Float) → negative x ≡ true → r ≡ rem binary64 (absolute x) (absolute m)
      → neg r ≡ rem binary64 x m
  signed_rest r s is =
      let w = mag x % mag m in
      let j = is ∙ sizes_rest in
      let z = of_units_finite false w w_digits w_limit in
      ap neg j
      ∙ same_float (neg_finite z) (of_units_finite true w w_digits w_limit)
      (neg_sign z ∙ ap not (of_units_sign false w w_digits w_limit) ∙ sym (of_units_sign true w w_digits w_limit))
      (neg_mag (of_units false w) ∙ of_units_mag false w w_digits w_limit ∙ sym (of_units_mag true w w_digits w_limit))
      ∙ sym (rem_is x_number m_number nonzero ∙ ap (λ (b : Bool). of_units b w) s)

  pub unsigned_rest : (r : Float) → negative x ≡ false → r ≡ rem binary64 (absolute x) (absolute m)
      → r ≡ rem binary64 x m
  unsigned_rest r s is =
      is ∙ sizes_rest ∙ sym (rem_is x_number m_number nonzero ∙ ap (λ (b : Bool). of_units b (mag x % mag m)) s)
