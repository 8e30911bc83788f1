-- Worked examples of the laws, one of each kind: a bound, an error, a decision from an error, and a finiteness argument
-- over a loop. They use nothing but the laws.
use Rattle.std.proofs.Common.{◌≡◌, ℕ, zero, suc, ◌+◌, ◌*◌, ◌^◌, ◌<◌}
use Rattle.std.proofs.Common.{◌≤◌, true, ℤ, nat_abs, refl, le_trans, le_refl, arith, lit≤}
use lib.Ieee.{Float, binary64, add, sub, mul, lt, of_int}
use Rattle.binary64.specs.Units.{pow2, one, plus, minus}
use Rattle.binary64.specs.Constants.{zero64, half64, pi}
use Rattle.binary64.specs.Rounding.{Near}
use Rattle.binary64.specs.Magnitude.{Most}
use Rattle.binary64.proofs.Units.{plus_minus, pow2_pos, pow2_split, lt_of_units}
use Rattle.binary64.proofs.Constants.{half64_mag, half64_most, pi_most}
use Rattle.binary64.proofs.Magnitude.{most_zero, loop_most, add_most, sub_most, mul_most}
use Rattle.binary64.proofs.Error.{add_near, sub_near, mul_near, horner_near}
use Rattle.binary64.proofs.Whole.{of_int_most}

-- ---- a bound: the area PI * r * r of a circle of whole radius up to 20000 is finite, and at most 1.6e9

area : ℤ → Float
area r = mul binary64 (mul binary64 pi (of_int binary64 r)) (of_int binary64 r)

area_most : (r : ℤ) → nat_abs r ≤ 20000 → Most 1600000000 1074 (area r)
unfolding area
area_most r h =
    let m = of_int_most r (le_trans h (lit≤ tt)) h in
    mul_most (mul_most pi_most m 1074 refl (lit≤ tt) (lit≤ tt)) m 1074 refl (lit≤ tt) (lit≤ tt)

-- ---- an error: one Horner step a + h * x, with |a| ≤ 2, |h| ≤ 2 and |x| ≤ 1, where h is already e units off

-- The product is rounded by at most 2 ^ -53 (2 ^ 1021 units), since it is at most 2; the sum by 2 ^ -52, since it is at
-- most 4.
step : Float → Float → Float → Float
step a h x = add binary64 a (mul binary64 h x)

step_near : (a h x : Float) (p n c e : ℕ) → Most 2 1074 a → Most 2 1074 h → Most 1 1074 x → Near h p n c e
    → Near (step a h x) (plus a * (c * one) + (p * plus x + n * minus x))
    (minus a * (c * one) + (p * minus x + n * plus x)) (c * one) (e * 1 + pow2 1021 + pow2 1022)
unfolding step
step_near a h x p n c e A H X r =
    let w = mul_most H X 1074 refl (lit≤ tt) (lit≤ tt) in
    let z = add_most A w (lit≤ tt) (lit≤ tt) in
    horner_near a r X (mul_near H X w.finite 1074 1 1021 refl (le_refl 2) refl)
    (add_near A w z.finite 2 1022 (le_refl 4) refl)

-- ---- a decision: x - y is above 0.5 for 5 ≤ x and y ≤ 4, since both are at most 1000 and so the difference is off by
-- 2 ^ -43 (2 ^ 1031 units) at most

-- To `omega` each `pow2` at a number is one unknown; `pow2_split` says how two of them compare.
apart : (x y : Float) → Most 1000 1074 x → Most 1000 1074 y → minus x ≡ 0 → minus y ≡ 0 → 5 * one ≤ plus x
    → plus y ≤ 4 * one → lt half64 (sub binary64 x y) ≡ true
apart x y X Y a b h k =
    let z = sub_most X Y (lit≤ tt) (lit≤ tt) in
    let near = sub_near X Y z.finite 11 1031 (lit≤ tt) refl in
    let half = half64_most in
    let parts = plus_minus half64 in
    lt_of_units half.finite z.finite
    (omega (arith, near, half64_mag, pow2_split 1 1073, pow2_split 42 1031, pow2_pos 1031))

-- ---- finiteness over a loop: a sum of n terms, each at most j, is finite and at most n * j; no bound doubles along
-- the way

sum_to : (ℕ → Float) → ℕ → Float
sum_to f zero = zero64
sum_to f (suc i) = add binary64 (sum_to f i) (f i)

sum_most : (f : ℕ → Float) (j a n : ℕ) → ((i : ℕ) → i < n → Most j a (f i)) → n * j ≤ 2 ^ 53 → a ≤ 2044
    → Most (0 + n * j) a (sum_to f n)
unfolding sum_to
sum_most f j a n m h l = loop_most (sum_to f) j n most_zero (λ i k u v w. add_most w (m i u) v l) (omega arith)

-- 180 arcs of at most 8e9 each
arcs_most : (f : ℕ → Float) → ((i : ℕ) → i < 180 → Most 8000000000 1074 (f i)) → Most 1440000000000 1074 (sum_to f 180)
arcs_most f m = sum_most f 8000000000 1074 180 m (lit≤ tt) (lit≤ tt)
