-- Demand 1, of numbers, of the five calls of a plan, over the steps that stand in their contracts: every number that a taken call writes is finite, with a
-- bound, and no exclusive is below zero. The bounds are those of `demand_one` (crate finite). proofs/Finite.antt proves it: `demand_one_of_calls`, for any
-- list of sets; over the sets that the calls find, each by its name: `afresh_finite`, `open_afresh_finite`, `gradients_finite`, `open_gradients_finite`,
-- `overlap_finite`; and `exports_finite`, as a C program sees them.
use Rattle.std.specs.Prelude.{◌≡◌, Bool, true, false, List, ℕ, ◌+◌, ◌*◌, ◌^◌, ◌<◌, Float, ℤ, length, get_or}
use Rattle.std.specs.Float.{nan}
use Rattle.std.specs.Float.Ieee.{lt}
use Rattle.lists.specs.Run.{Step}
use Rattle.binary64.specs.Constants.{zero64}
use Rattle.binary64.specs.Magnitude.{Most}
use Rattle.plan.specs.declared.Plan.{Plan}
use Rattle.plan.specs.Checks.{plan_answer}
use Rattle.plan.specs.Table.{Answered, taken, gradient_width, open_gradient_width, answer_number}
use Rattle.regions.specs.Slices.{LentTables, PlanSlices, afresh_slices}
use Rattle.regions.specs.Table.{Method}
use Rattle.areas.specs.Sets.{plan_sets}
use Rattle.table.specs.Method.{method_over, clipped_table, open_table}
use Rattle.gradients.specs.Step.{GradientSlices, clipped_step, open_step}
use Rattle.finite.specs.Exclusives.{MostTwoTo, NotBelowZero}
use Rattle.watered.specs.Handed.{plan_of}
use Rattle.watered.specs.Overlap.{overlap_left}

-- ---- numbers in lent slices. (A place past a slice's end reads as a NaN, which is not finite: so there is room for all that is named here.)

-- rows 0 to 2^n - 1 of the two tables: rows of at most j, exclusives of at most 2^(k + 11(n+1)), which are +0 or above
pub record TablesFinite (j k n : ℕ) (t : LentTables) : Type 0 where
  pub rows : (S : ℕ) → S < 2 ^ n → Most j 1074 (get_or t.rows.numbers S nan)
  pub exclusives : (S : ℕ) → S < 2 ^ n → MostTwoTo (k + 11 * (n + 1)) (get_or t.exclusives.numbers S nan)
  pub not_below : (S : ℕ) → S < 2 ^ n → NotBelowZero (get_or t.exclusives.numbers S nan)

-- the same rows with their gradients of `width` numbers each: exclusives that are not below zero (-0 may be among them), and every gradient number
pub record SlopesFinite (k j n width : ℕ) (t : GradientSlices) : Type 0 where
  pub exclusives : (S : ℕ) → S < 2 ^ n → MostTwoTo (k + 11 * (n + 1)) (get_or t.exclusives S nan)
  pub not_below : (S : ℕ) → S < 2 ^ n → lt (get_or t.exclusives S nan) zero64 ≡ false
  pub gradients : (x : ℕ) → x < 2 ^ n * width → MostTwoTo (j + 11 * (n + 1)) (get_or t.gradients x nan)

-- ---- what a taken call leaves, whatever the slices held

abbrev pub AfreshCall : ℕ → ℕ → Method → Type 0
AfreshCall j k m =
    (d : PlanSlices) → length d.plan.heads ≡ 10 → (afresh_slices m d).answer ≡ taken
    → TablesFinite j k d.plan.n (afresh_slices m d).left.tables

abbrev pub GradientsCall : ℕ → ℕ → (ℕ → ℕ) → (Plan → GradientSlices → Step GradientSlices Answered) → Type 0
GradientsCall k j width step =
    (p : Plan) (t : GradientSlices) → length p.heads ≡ 10 → (step p t).answer ≡ taken
    → SlopesFinite k j p.n (width p.n) (step p t).left

-- what stands in the one number lent
abbrev pub OverlapCall : Type 0
OverlapCall = (p : Plan) (v : Float) → length p.heads ≡ 10 → plan_answer p ≡ taken → Most 1440000000000 1074 (overlap_left p v)

-- The five calls, over a list of sets. (The overlap has none.)
pub record CallsFinite (sets : Plan → ℕ → Bool) : Type 0 where
  pub afresh : AfreshCall 41197685760000 46 (method_over true sets)
  pub open_afresh : AfreshCall 1440000000000 41 (method_over false sets)
  pub gradients : GradientsCall 46 35 gradient_width (clipped_step sets)
  pub open-gradients : GradientsCall 41 27 open_gradient_width (open_step sets)
  pub overlap : OverlapCall

abbrev pub DemandOneOfCalls : Type 0
DemandOneOfCalls = (sets : Plan → ℕ → Bool) → CallsFinite sets

-- ---- as a C program sees them: a plan handed over as numbers, and an answer of 0

abbrev pub AfreshExport : ℕ → ℕ → Method → Type 0
AfreshExport j k m =
    (n : ℕ) (sides heads : List ℤ) (t : LentTables)
    → let d : PlanSlices = record { plan = plan_of n sides heads; tables = t } in
    answer_number (afresh_slices m d).answer ≡ 0 → TablesFinite j k n (afresh_slices m d).left.tables

abbrev pub GradientsExport : ℕ → ℕ → (ℕ → ℕ) → (Plan → GradientSlices → Step GradientSlices Answered) → Type 0
GradientsExport k j width step =
    (n : ℕ) (sides heads : List ℤ) (t : GradientSlices) → answer_number (step (plan_of n sides heads) t).answer ≡ 0
    → SlopesFinite k j n (width n) (step (plan_of n sides heads) t).left

-- watered_afresh, watered_open_afresh, watered_gradients, watered_open_gradients, watered_overlap
pub record ExportsFinite : Type 0 where
  pub afresh : AfreshExport 41197685760000 46 clipped_table
  pub open_afresh : AfreshExport 1440000000000 41 open_table
  pub gradients : GradientsExport 46 35 gradient_width (clipped_step plan_sets)
  pub open-gradients : GradientsExport 41 27 open_gradient_width (open_step plan_sets)
  pub overlap : (n : ℕ) (sides heads : List ℤ) (v : Float) → answer_number (plan_answer (plan_of n sides heads)) ≡ 0
      → Most 1440000000000 1074 (overlap_left (plan_of n sides heads) v)
