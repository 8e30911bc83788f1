-- Exclusives with gradients are finite: each entry of a gradient goes the way of an area, so that the bound by levels serves both. The
-- plan's gradients by position are bounded in proofs/Rows.antt and proofs/ClippedRows.antt.
use mathlib.Core.Path.{◌≡◌, refl}
use mathlib.Core.Bool.{Bool, true, false, cond}
use mathlib.Core.List.{List, []}
use Prim.Native.Nat.{ℕ, zero, suc, ◌+◌, ◌*◌, ◌/◌, ◌%◌, ◌^◌, ◌≤◌, ◌<◌}
use native.Mathlib.Nat.{div-lt_iff_lt-mul, mod-lt}
use native.Mathlib.Omega.{arith}
use lib.Dec.{lit≤}
use lib.Ieee.{Float, nan, lt, sub, of_bits}
use lib.ListN.{get_or, replicate}
use Rattle.lists.specs.Every.{Every, every_at}
use Rattle.binary64.specs.Constants.{zero64}
use Rattle.binary64.specs.Magnitude.{Most}
use Rattle.binary64.proofs.Magnitude.{most_zero, most_weaken, most_coarser, most_either}
use Rattle.geometry.specs.Rectangle.{area}
use Rattle.plan.proofs.Exactly.{plan_taken}
use Rattle.drawn.specs.Drawn.{box_of}
use Rattle.intersections.specs.Members.{heads_of}
use Rattle.exclusive.specs.Exclusive.{unclamped}
use Rattle.exclusive_gradients.specs.Gradient.{replaced, unless_replaced}
use Rattle.areas.specs.Scatter.{scatter, scatter_clipped}
use Rattle.areas.specs.Clipped.{clipped_gradient_row}
use Rattle.areas.specs.Open.{open_gradient_row}
use Rattle.areas.specs.Gradients.{box_slopes, clipped_gradients_by, clipped_gradients, open_gradients_by}
use Rattle.areas.specs.Gradients.{open_gradients}
use Rattle.areas.proofs.Gradients.{clipped-gradients, open-gradients}
use Rattle.finite.specs.Exclusives.{MostTwoTo}
use Rattle.finite.specs.Gradients.{ClippedGradientRowsFinite, OpenGradientRowsFinite}
use Rattle.finite.specs.Gradients.{clipped_sums, GradientsFinite, ClippedGradientsFinite, OpenGradientsFinite, OnlyBelowReplaced}
use Rattle.finite.proofs.Scattering.{zeros, scatter_most, clipped_most}
use Rattle.finite.proofs.Rows.{plan_finite, afresh_most, table_finite}
use Rattle.finite.proofs.ClippedRows.{plan_clipped_finite, plan_box_finite}
use Rattle.finite.proofs.Exclusives.{unclamped_finite, zero_not_below}

-- ---- before the subtraction

either_every : (P : Float → Type 0) (b : Bool) (l k : List Float) → Every P l → Every P k → Every P (cond b l k)
either_every P true l k h g = h
either_every P false l k h g = g

-- The gradient rows of a taken plan in its box,
pub clipped_gradient_rows_finite : ClippedGradientRowsFinite
unfolding clipped_gradients_by
clipped_gradient_rows_finite sets p ten taken zero =
    clipped_most 31490604288 [] p.n (box_slopes (area (box_of p.ground)))
    (most_zero, (most_zero, (most_weaken (plan_box_finite p ten taken) (lit≤ tt), (most_zero, tt))))
clipped_gradient_rows_finite sets p ten taken (suc S) =
    let g = (clipped_gradient_row p (suc S)).grad in
    let js = heads_of p.n (suc S) in
    either_every (Most 31490604288 1074) (sets p (suc S)) (scatter_clipped js p.n g) (replicate (p.n * 3 + 4) zero64)
    (clipped_most 31490604288 js p.n g (plan_clipped_finite p ten taken (suc S)).gradient.entries) (zeros 31490604288 (p.n * 3 + 4))

-- and without it.
pub open_gradient_rows_finite : OpenGradientRowsFinite
unfolding open_gradients_by
open_gradient_rows_finite sets p ten taken zero = zeros 72000000 (3 * p.n)
open_gradient_rows_finite sets p ten taken (suc S) =
    let g = open_gradient_row p (suc S) in
    let js = heads_of p.n (suc S) in
    either_every (Most 72000000 1074) (sets p (suc S)) (scatter js p.n g) (replicate (3 * p.n) zero64)
    (scatter_most 72000000 js p.n g (plan_finite p ten taken (suc S)).gradient) (zeros 72000000 (3 * p.n))

-- ---- exclusives

-- of any areas: what is below zero is replaced
none_below : (n : ℕ) (present : ℕ → Bool) (areas : ℕ → Float) (S : ℕ)
    → lt (cond (present S) (cond (replaced n present areas S) zero64 (unclamped n present areas S)) zero64) zero64 ≡ false
none_below n present areas S = by (present S) (lt (unclamped n present areas S) zero64) refl
  where
    by : (b t : Bool) → lt (unclamped n present areas S) zero64 ≡ t
        → lt (cond b (cond (lt (unclamped n present areas S) zero64) zero64 (unclamped n present areas S)) zero64) zero64 ≡ false
    by false t e = zero_not_below.not_below
    by true true e = rw e zero_not_below.not_below
    by true false e = rw e e

pub only_below_replaced : OnlyBelowReplaced
unfolding unclamped lt sub of_bits
only_below_replaced = record { not_below = none_below; nan_stays = refl; minus_zero_stays = refl }

gradients_finite : (k j n width : ℕ) (present : ℕ → Bool) (areas : ℕ → Float) (rows : ℕ → List Float) → n ≤ 10 → k ≤ 862 → j ≤ 862
    → ((S : ℕ) → S < 2 ^ n → MostTwoTo k (areas S)) → ((S i : ℕ) → i < width → MostTwoTo j (get_or (rows S) i nan))
    → GradientsFinite k j n width present areas rows
gradients_finite k j n width present areas rows few hk hj bounded small = record {
  exclusive = λ S h.
      most_either (present S)
      (most_either (replaced n present areas S) most_zero (unclamped_finite n k present areas few hk bounded S h))
      most_zero;
  not_below = none_below n present areas;
  entries = entries;
  numbers = λ x h.
      let some : 0 < width = at_least_one width x h in
      entries (x / width) (x % width) ((div-lt_iff_lt-mul some).1 h) (mod-lt x some);
}
  where
    entries : (S i : ℕ) → S < 2 ^ n → i < width → MostTwoTo (j + 11 * (n + 1)) (unless_replaced n present areas (λ T. get_or (rows T) i nan) S)
    entries S i h l =
        most_either (present S)
        (most_either (replaced n present areas S) most_zero (unclamped_finite n j present (λ T. get_or (rows T) i nan) few hj (λ T g. small T i l) S h))
        most_zero

    at_least_one : (w x : ℕ) → x < 2 ^ n * w → 0 < w
    at_least_one zero x h = absurd (omega arith)
    at_least_one (suc w) x h = omega arith

-- The exclusives of a taken plan in its box, with their gradients,
pub clipped_gradients_finite : ClippedGradientsFinite
clipped_gradients_finite sets present p ten taken =
    gradients_finite 46 35 p.n (3 * p.n + 4) present _ (clipped_gradients sets p) ((plan_taken p ten).0 taken).count (lit≤ tt) (lit≤ tt)
    (λ S h. most_coarser (sums S) 33 8192 (lit≤ tt))
    (λ S i l. most_coarser (every_at (Most 31490604288 1074) (clipped_gradients sets p S) i nan
    (omega (arith, (clipped-gradients sets p).many S, l)) (clipped_gradient_rows_finite sets p ten taken S)) 22 8192 (lit≤ tt))
  where
    sums : (S : ℕ) → Most 41197685760000 1074 (clipped_sums sets p S)
    sums S =
        afresh_most true (area (box_of p.ground)) (λ T. (clipped_gradient_row p T).sum) (sets p) S (most_weaken (plan_box_finite p ten taken) (lit≤ tt))
        (plan_clipped_finite p ten taken S).gradient.sum

-- and without it.
pub open_gradients_finite : OpenGradientsFinite
open_gradients_finite sets exclusives present p ten taken =
    gradients_finite 41 27 p.n (3 * p.n) present _ (open_gradients sets p) ((plan_taken p ten).0 taken).count (lit≤ tt) (lit≤ tt)
    (λ S h. most_coarser (table_finite sets exclusives p ten taken S h) 28 8192 (lit≤ tt))
    (λ S i l. most_coarser (every_at (Most 72000000 1074) (open_gradients sets p S) i nan
    (omega (arith, (open-gradients sets p).many S, l)) (open_gradient_rows_finite sets p ten taken S)) 14 8192 (lit≤ tt))
