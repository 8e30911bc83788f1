-- Exclusive areas are finite, with a bound, and none is below zero: what is claimed, and proved in proofs/Exclusives.antt. Over any list of sets:
-- which rows are present is a parameter throughout.
use Rattle.std.specs.Prelude.{◌≡◌, Bool, false, ℕ, ◌+◌, ◌*◌, ◌^◌, ◌≤◌, ◌<◌, Float, length}
use Rattle.std.specs.Float.Ieee.{is_nan, lt}
use Rattle.binary64.specs.Constants.{zero64}
use Rattle.binary64.specs.Magnitude.{Most}
use Rattle.binary64.specs.Units.{negative}
use Rattle.plan.specs.Table.{taken}
use Rattle.plan.specs.declared.Plan.{Plan}
use Rattle.plan.specs.Checks.{plan_answer}
use Rattle.exclusive.specs.Exclusive.{unclamped, exclusive_row}
use Rattle.regions.specs.Table.{Exclusives, afresh}
use Rattle.areas.specs.Open.{open_method}
use Rattle.areas.specs.Clipped.{clipped_method}

-- x is finite and |x| ≤ 2^k: 2^13 times 2^(k + 1061) units, of which 2^1074 are 1. (So written, 1024 such numbers are added up with no loss.)
abbrev pub MostTwoTo : ℕ → Float → Type 0
MostTwoTo k = Most 8192 (k + 1061)

-- ---- of any numbers within a bound

-- Numbers of at most 2^k, one a row, of at most ten heads: each less its supersets is at most 2^(k + 11(n+1)). A row of so many levels of supersets
-- subtracts at most 1024 numbers of one level less, so that each of the n + 1 levels has 2^11 times the bound of the one before.
abbrev pub UnclampedFinite : Type 0
UnclampedFinite =
    (n k : ℕ) (present : ℕ → Bool) (number : ℕ → Float) → n ≤ 10 → k ≤ 862 → ((S : ℕ) → S < 2 ^ n → MostTwoTo k (number S))
    → (S : ℕ) → S < 2 ^ n → MostTwoTo (k + 11 * (n + 1)) (unclamped n present number S)

-- ---- of any numbers at all

-- +0 or above: not below zero, no -0 and no NaN
pub record NotBelowZero (x : Float) : Type 0 where
  pub not_below : lt x zero64 ≡ false
  pub plus_signed : negative x ≡ false
  pub number : is_nan x ≡ false

-- "no exclusive area is below zero": of whatever rows, NaN and infinities included, any number of heads and any row.
abbrev pub NoExclusiveBelowZero : Type 0
NoExclusiveBelowZero = (n : ℕ) (present : ℕ → Bool) (area : ℕ → Float) (S : ℕ) → NotBelowZero (exclusive_row n present area S)

-- ---- of a taken plan

-- the exclusives of areas of at most 2^k, before clamping and after
pub record ExclusivesFinite (k n : ℕ) (present : ℕ → Bool) (area : ℕ → Float) : Type 0 where
  pub unclamped : (S : ℕ) → S < 2 ^ n → MostTwoTo (k + 11 * (n + 1)) (unclamped n present area S)
  pub exclusive : (S : ℕ) → S < 2 ^ n → MostTwoTo (k + 11 * (n + 1)) (exclusive_row n present area S)
  pub not_below : (S : ℕ) → NotBelowZero (exclusive_row n present area S)

-- The afresh rows of a taken plan in its box are at most 2^46, so its exclusives at most 2^(46 + 11(n+1)): 2^167 for ten heads. For any list of sets, and
-- whichever rows the exclusives are told are present.
abbrev pub ClippedExclusivesFinite : Type 0
ClippedExclusivesFinite =
    (sets : Plan → ℕ → Bool) (exclusives : Exclusives) (present : ℕ → Bool) (p : Plan) → length p.heads ≡ 10 → plan_answer p ≡ taken
    → ExclusivesFinite 46 p.n present (λ S. (afresh (clipped_method sets exclusives) p S).number)

-- Without the box at most 2^41, and 2^162.
abbrev pub OpenExclusivesFinite : Type 0
OpenExclusivesFinite =
    (sets : Plan → ℕ → Bool) (exclusives : Exclusives) (present : ℕ → Bool) (p : Plan) → length p.heads ≡ 10 → plan_answer p ≡ taken
    → ExclusivesFinite 41 p.n present (λ S. (afresh (open_method sets exclusives) p S).number)
