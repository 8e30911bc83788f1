-- The exclusives with gradients of a taken plan are finite, areas and every entry of every gradient row, with a bound, open and in the box: what is
-- claimed, and proved in proofs/Gradients.antt. Over any list of sets. `Most j 1074 x` says that x is finite and |x| ≤ j; `MostTwoTo k x`, |x| ≤ 2^k.
use Rattle.std.specs.Prelude.{◌≡◌, Bool, true, false, ℕ, ◌+◌, ◌*◌, ◌/◌, ◌%◌, ◌^◌, ◌<◌, Float, length, get_or, List}
use Rattle.std.specs.Float.{nan}
use Rattle.std.specs.Float.Ieee.{lt}
use Rattle.lists.specs.Every.{Every}
use Rattle.binary64.specs.Constants.{zero64}
use Rattle.binary64.specs.Magnitude.{Most}
use Rattle.binary64.specs.Units.{signed_zero}
use Rattle.plan.specs.declared.Plan.{Plan}
use Rattle.plan.specs.Checks.{plan_answer}
use Rattle.plan.specs.Table.{taken, gradient_width, open_gradient_width}
use Rattle.geometry.specs.Rectangle.{area}
use Rattle.drawn.specs.Drawn.{box_of}
use Rattle.exclusive_gradients.specs.Gradient.{unless_replaced, exclusive_with_gradient}
use Rattle.regions.specs.Edit.{afresh_row}
use Rattle.regions.specs.Table.{Exclusives, afresh}
use Rattle.areas.specs.Open.{open_method}
use Rattle.areas.specs.Clipped.{clipped_gradient_row}
use Rattle.areas.specs.Gradients.{clipped_gradients, open_gradients}
use Rattle.finite.specs.Exclusives.{MostTwoTo}

-- ---- before the subtraction

-- The gradient rows of a taken plan, row 0 and absent rows included: in the box each entry is at most 31,490,604,288, and without it at most 72,000,000.
abbrev pub ClippedGradientRowsFinite : Type 0
ClippedGradientRowsFinite =
    (sets : Plan → ℕ → Bool) (p : Plan) → length p.heads ≡ 10 → plan_answer p ≡ taken → (S : ℕ) → Every (Most 31490604288 1074) (clipped_gradients sets p S)

abbrev pub OpenGradientRowsFinite : Type 0
OpenGradientRowsFinite =
    (sets : Plan → ℕ → Bool) (p : Plan) → length p.heads ≡ 10 → plan_answer p ≡ taken → (S : ℕ) → Every (Most 72000000 1074) (open_gradients sets p S)

-- the areas that go with the gradients in the box, which are summed in another way than those of the rows; without a box they are the rows'
abbrev pub clipped_sums : (Plan → ℕ → Bool) → Plan → ℕ → Float
clipped_sums sets p S = (afresh_row true (area (box_of p.ground)) (λ T. (clipped_gradient_row p T).sum) (sets p) S).number

-- ---- after it

-- What the form with gradients makes of areas of at most 2^k and gradient rows of entries of at most 2^j: an area not below zero, and every entry, of
-- absent rows and of rows whose area was replaced too. All are finite, so no NaN is among them; an area may be -0.
pub record GradientsFinite (k j n width : ℕ) (present : ℕ → Bool) (areas : ℕ → Float) (rows : ℕ → List Float) : Type 0 where
  pub exclusive : (S : ℕ) → S < 2 ^ n → MostTwoTo (k + 11 * (n + 1)) (exclusive_with_gradient n present areas S)
  pub not_below : (S : ℕ) → lt (exclusive_with_gradient n present areas S) zero64 ≡ false
  pub entries : (S i : ℕ) → S < 2 ^ n → i < width → MostTwoTo (j + 11 * (n + 1)) (unless_replaced n present areas (λ T. get_or (rows T) i nan) S)
  -- the rows one after another in a lent table: number x is entry x % width of row x / width
  pub numbers : (x : ℕ) → x < 2 ^ n * width
      → MostTwoTo (j + 11 * (n + 1)) (unless_replaced n present areas (λ T. get_or (rows T) (x % width) nan) (x / width))

-- In the box: areas of at most 2^(46 + 11(n+1)), entries of at most 2^(35 + 11(n+1)), which for ten heads are 2^167 and 2^156.
abbrev pub ClippedGradientsFinite : Type 0
ClippedGradientsFinite =
    (sets : Plan → ℕ → Bool) (present : ℕ → Bool) (p : Plan) → length p.heads ≡ 10 → plan_answer p ≡ taken
    → GradientsFinite 46 35 p.n (gradient_width p.n) present (clipped_sums sets p) (clipped_gradients sets p)

-- Without the box: 2^(41 + 11(n+1)) and 2^(27 + 11(n+1)), which for ten heads are 2^162 and 2^148.
abbrev pub OpenGradientsFinite : Type 0
OpenGradientsFinite =
    (sets : Plan → ℕ → Bool) (exclusives : Exclusives) (present : ℕ → Bool) (p : Plan) → length p.heads ≡ 10 → plan_answer p ≡ taken
    → GradientsFinite 41 27 p.n (open_gradient_width p.n) present (λ S. (afresh (open_method sets exclusives) p S).number) (open_gradients sets p)

-- ---- of any numbers at all

-- "The gradient form only replaces values below 0.0": of whatever areas none is left below zero, but a NaN and a -0 stay. (One row, no head.)
pub record OnlyBelowReplaced : Type 0 where
  pub not_below : (n : ℕ) (present : ℕ → Bool) (areas : ℕ → Float) (S : ℕ) → lt (exclusive_with_gradient n present areas S) zero64 ≡ false
  pub nan_stays : exclusive_with_gradient 0 (λ S. true) (λ S. nan) 0 ≡ nan
  pub minus_zero_stays : exclusive_with_gradient 0 (λ S. true) (λ S. signed_zero true) 0 ≡ signed_zero true
