-- A product as it is rounded against another number, and from that the root of a number against another.
use Prim.{tt}
use mathlib.Core.Path.{◌≡◌, refl, ap, ◌∙◌}
use mathlib.Core.Bool.{Bool, true, false, not, ◌&&◌, false≢true}
use mathlib.Core.Logic.{⊎_elim}
use Prim.Native.Nat.{◌+◌, ◌*◌, ◌≤◌}
use native.Mathlib.Nat.{le_of_lt, le_refl, mul-le-mul}
use native.Mathlib.Omega.{arith}
use lib.Dec.{T, leb→le}
use lib.Ieee.{Float, nan, inf, fin, binary64, fits, lt, le, add, mul, of_bits}
use Rattle.binary64.specs.Constants.{zero64}
use Rattle.binary64.specs.Units.{pow2, one, mag, plus, minus, Finite}
use Rattle.binary64.specs.Magnitude.{Most}
use Rattle.binary64.specs.Rounding.{Rounded}
use Rattle.std.proofs.lemmas.Bool.{cases_lt}
use Rattle.binary64.proofs.Units.{one_pos, plus_minus, mag_digits, zero64_finite, zero64_plus, zero64_minus, units_of_lt, units_of_le, lt_of_units, le_not_lt, one_sided}
use Rattle.binary64.proofs.Rounding.{plus_le, plus_ge, minus_none}
use Rattle.binary64.proofs.Operations.{result_rounded, add_result, mul_result}
use Rattle.binary64.proofs.Magnitude.{literal_most, add_most, mul_most}
use Rattle.elementary.specs.Root.{root}
use Rattle.elementary.proofs.root.Values.{root_finite}
use Rattle.elementary.proofs.root.Squares.{root_most, root_le_float, root_ge_float}
use Rattle.geometry.specs.Moderate.{two_to_the64, Above}

-- what lies between two finite numbers is finite
pub finite_between : (x y z : Float) → T (fits binary64 x) → Finite y → Finite z → le y x ≡ true → lt x z ≡ true → Finite x
unfolding le lt
finite_between nan y z t h k d e = absurd (false≢true e)
finite_between (inf s) y nan t h k d e = absurd k.number
finite_between (inf s) y (inf u) t h k d e = absurd k.number
finite_between (inf false) y (fin u n q) t h k d e = absurd (false≢true e)
finite_between (inf true) nan (fin u n q) t h k d e = absurd h.number
finite_between (inf true) (inf v) (fin u n q) t h k d e = absurd h.number
finite_between (inf true) (fin v m p) (fin u n q) t h k d e = absurd (false≢true d)
finite_between (fin s m p) y z t h k d e = record { fit = t; number = tt }

both : (a b : Bool) → (a && b) ≡ true → (a ≡ true) × (b ≡ true)
both true true e = (refl, refl)
both true false e = absurd (false≢true e)
both false b e = absurd (false≢true e)

-- 1 + 2^-10
abbrev pub just_above_one : Float
just_above_one = of_bits binary64 0x3FF0_0400_0000_0000

pub just_most : Most 2 1074 just_above_one
unfolding mag pow2 of_bits
just_most = literal_most 0x3FF0_0400_0000_0000 2 1074 tt tt

pub top_most : Most 1 1138 two_to_the64
unfolding mag pow2 of_bits
top_most = literal_most 0x43F0_0000_0000_0000 1 1138 tt tt

one_within : one ≤ 1 * pow2 1138
unfolding pow2
one_within = leb→le (pow2 1074) (1 * pow2 1138) tt

-- a number from 0.0 on has no sign
pub not_below : {x : Float} → Finite x → le zero64 x ≡ true → minus x ≡ 0
not_below {x} f e = ⊎_elim (λ w. w.1) (λ w. omega (arith, w.0, units_of_le zero64_finite f e, zero64_plus, zero64_minus)) (one_sided x)

-- A moderate number has no sign, and is at most 2^64.
module _ (x : Float) (t : T (fits binary64 x)) (e : (le zero64 x && lt x two_to_the64) ≡ true) where
  tests : (le zero64 x ≡ true) × (lt x two_to_the64 ≡ true)
  tests = both (le zero64 x) (lt x two_to_the64) e

  moderate_finite : Finite x
  moderate_finite = finite_between x zero64 two_to_the64 t zero64_finite top_most.finite tests.0 tests.1

  moderate_minus : minus x ≡ 0
  moderate_minus = not_below moderate_finite tests.0

  moderate_most : Most 1 1138 x
  moderate_most = record {
    finite = moderate_finite;
    bound =
        omega (arith, units_of_lt moderate_finite top_most.finite tests.1, moderate_minus, plus_minus x, plus_minus two_to_the64, top_most.bound);
  }

-- The product of two numbers without a sign, rounded, against another: on which side of it that lies, it lies of the product itself.
module _ {s x y : Float} (fs : Finite s) (fx : Finite x) (fy : Finite y) (fq : Finite (mul binary64 x y)) (ms : minus s ≡ 0) (mx : minus x ≡ 0)
    (my : minus y ≡ 0) where
  product : Rounded (mul binary64 x y) (plus x * plus y + minus x * minus y) (plus x * minus y + minus x * plus y) one
  product = result_rounded one_pos (mul_result fx fy) fq

  whole_x : plus x ≡ mag x
  whole_x = omega (arith, plus_minus x, mx)

  whole_y : plus y ≡ mag y
  whole_y = omega (arith, plus_minus y, my)

  pub product_below : lt s (mul binary64 x y) ≡ true → mag s * one ≤ mag x * mag y
  product_below e = ⊎_elim (λ h. le_of_lt h) (λ h. absurd (clash h)) (cases_lt (mag s * one) (mag x * mag y))
    where
      clash : mag x * mag y ≤ mag s * one → ⊥
      clash h =
          let l = plus_le one_pos product (mag_digits fs) (rw (mx, my, whole_x, whole_y) (omega (arith, h))) in
          omega (arith, l, units_of_lt fs fq e, ms, plus_minus s)

  pub product_above : lt (mul binary64 x y) s ≡ true → mag x * mag y ≤ mag s * one
  product_above e = ⊎_elim (λ h. le_of_lt h) (λ h. absurd (clash h)) (cases_lt (mag x * mag y) (mag s * one))
    where
      clash : mag s * one ≤ mag x * mag y → ⊥
      clash h =
          let l = plus_ge one_pos product (mag_digits fs) (rw (mx, my, whole_x, whole_y) (omega (arith, h))) in
          let none : minus (mul binary64 x y) ≡ 0 = minus_none one_pos product (rw (mx, my) (omega arith)) in
          omega (arith, l, units_of_lt fq fs e, ms, plus_minus s)

-- The root of a moderate s against a moderate r.
module _ (s r : Float) (ts : T (fits binary64 s)) (tr : T (fits binary64 r)) (es : (le zero64 s && lt s two_to_the64) ≡ true)
    (er : (le zero64 r && lt r two_to_the64) ≡ true) where
  fs : Finite s
  fs = moderate_finite s ts es

  fr : Finite r
  fr = moderate_finite r tr er

  pub at_most : lt s (mul binary64 r r) ≡ true → le (root s) r ≡ true
  at_most e =
      let q = mul_most (moderate_most r tr er) (moderate_most r tr er) 1202 refl (omega arith) (omega arith) in
      root_le_float fs fr (moderate_minus s ts es) (moderate_minus r tr er)
      (product_below fs fr fr q.finite (moderate_minus s ts es) (moderate_minus r tr er) (moderate_minus r tr er) e)

  abbrev more : Float
  more = mul binary64 r just_above_one

  -- the root is at most 2^64 too
  wide : mag s * one ≤ 1 * pow2 1138 * (1 * pow2 1138)
  wide = mul-le-mul (moderate_most s ts es).bound one_within

  pub past : lt r more ≡ true → lt (mul binary64 more more) s ≡ true → Above r (root s)
  past k e =
      let m = mul_most (moderate_most r tr er) just_most 1138 refl (omega arith) (omega arith) in
      let q = mul_most m m 1202 refl (omega arith) (omega arith) in
      let u = units_of_lt fr m.finite k in
      let none : minus more ≡ 0 = ⊎_elim (λ w. w.1) (λ w. omega (arith, w.0, u, moderate_minus r tr er)) (one_sided more) in
      let g = root_ge_float fs m.finite (moderate_minus s ts es) none (product_above fs m.finite m.finite q.finite (moderate_minus s ts es) none none e) in
      let w = root_finite s fs.fit in
      let l = lt_of_units fr w (omega (arith, u, units_of_le m.finite w g)) in
      record { over = l; not_within = le_not_lt w fr ∙ ap not l; bound = fr; most = root_most fs (moderate_minus s ts es) 1 1138 (omega arith) wide }

-- What is added to a number without a sign does not bring it down, as rounded too.
pub sum_past : (t w r : Float) → Above t w → minus w ≡ 0 → T (fits binary64 r) → (le zero64 r && lt r two_to_the64) ≡ true
    → le (add binary64 w r) t ≡ false
sum_past t w r a none fit e =
    let m = moderate_most r fit e in
    let z = add_most a.most m (omega arith) (omega arith) in
    let sum = result_rounded (le_refl 1) (add_result a.most.finite m.finite) z.finite in
    let nr = moderate_minus r fit e in
    let u = plus_ge (le_refl 1) sum (mag_digits a.most.finite) (omega (arith, plus_minus w, none, nr)) in
    let n = minus_none (le_refl 1) sum (omega (arith, none, nr)) in
    let l = lt_of_units a.bound z.finite (omega (arith, u, n, units_of_lt a.bound a.most.finite a.over, plus_minus w, none)) in
    le_not_lt z.finite a.bound ∙ ap not l
