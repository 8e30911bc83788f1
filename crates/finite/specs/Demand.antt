-- Demand 1, of numbers: what is worked out afresh from a taken plan is finite, and no exclusive area is below zero. Of the calls as steps, for any list of
-- sets, with and without the box. proofs/Demand.antt proves it: `demand_one`. The call of the checks themselves is `plan`, specs/Exactly.antt.
use Rattle.std.specs.Prelude.{◌≡◌, Bool, List, ℕ, ◌+◌, ◌*◌, ◌^◌, ◌<◌, length}
use Rattle.lists.specs.Run as Run
use Rattle.binary64.specs.Magnitude.{Most}
use Rattle.plan.specs.declared.Gradients.TheVariants.{Clipped, Open}
use Rattle.plan.specs.declared.Lent.{Lent}
use Rattle.plan.specs.declared.Plan.{Plan}
use Rattle.plan.specs.Book.{Entry, AnyTaken, answers}
use Rattle.plan.specs.Checks.{plan_answer, call_answer}
use Rattle.plan.specs.Table.{taken, gradient_width, open_gradient_width}
use Rattle.regions.specs.Demand.{Fresh}
use Rattle.regions.specs.Slices.{PlanSlices, plan_table, afresh_slices}
use Rattle.regions.specs.Table.{Method, PlanTable, afresh, afresh_step, table_step}
use Rattle.areas.specs.Clipped.{clipped_method}
use Rattle.areas.specs.Exclusives.{to_exclusives}
use Rattle.areas.specs.Gradients.{clipped_gradients, open_gradients}
use Rattle.areas.specs.Open.{open_method}
use Rattle.finite.specs.Exclusives.{MostTwoTo, NotBelowZero}
use Rattle.finite.specs.Gradients.{clipped_sums, GradientsFinite}
use Rattle.finite.specs.Overlap.{PlanOverlapFinite}

-- how rows and exclusives are worked out in the box, and without it
abbrev pub in_box : (Plan → ℕ → Bool) → Method
in_box sets = clipped_method sets to_exclusives

abbrev pub unboxed : (Plan → ℕ → Bool) → Method
unboxed sets = open_method sets to_exclusives

-- ---- rows and exclusives

-- rows 0 to 2^n - 1 of a table are at most j,
pub record RowsFinite (j n : ℕ) (t : PlanTable) : Type 0 where
  pub rows : (S : ℕ) → S < 2 ^ n → Most j 1074 (t.rows S).number

-- and its exclusives at most 2^(k + 11(n+1)), and not below zero
pub record AreasFinite (k n : ℕ) (t : PlanTable) : Type 0 where
  pub exclusives : (S : ℕ) → S < 2 ^ n → MostTwoTo (k + 11 * (n + 1)) (t.exclusives S).number
  pub not_below : (S : ℕ) → S < 2 ^ n → NotBelowZero (t.exclusives S).number

-- what a taken afresh call leaves, whatever its tables held
abbrev pub AfreshFinite : ℕ → ℕ → Method → Type 0
AfreshFinite j k m =
    (s : PlanTable) (lent : Lent) → length s.plan.heads ≡ 10 → (afresh_step m s lent).answer ≡ taken
    → RowsFinite j s.plan.n (afresh_step m s lent).left × AreasFinite k s.plan.n (afresh_step m s lent).left

-- the same of the four slices
abbrev pub SlicesFinite : ℕ → ℕ → Method → Type 0
SlicesFinite j k m =
    (d : PlanSlices) → length d.plan.heads ≡ 10 → (afresh_slices m d).answer ≡ taken
    → RowsFinite j d.plan.n (plan_table (afresh_slices m d).left) × AreasFinite k d.plan.n (plan_table (afresh_slices m d).left)

-- a list of edits that starts with a taken plan's afresh rows: the rows, and the exclusives if an edit was taken
abbrev pub ListFinite : ℕ → ℕ → Method → Type 0
ListFinite j k m =
    (s : PlanTable) → Fresh m s → (es : List Entry)
    → RowsFinite j s.plan.n (Run.after (table_step m) s es) × (AnyTaken (answers s.plan es) → AreasFinite k s.plan.n (Run.after (table_step m) s es))

-- A taken edit leaves no exclusive below zero, whatever rows it is handed.
abbrev pub EditNotBelow : Method → Type 0
EditNotBelow m =
    (s : PlanTable) (e : Entry) → (table_step m s e).answer ≡ taken → (S : ℕ) → S < 2 ^ s.plan.n → NotBelowZero ((table_step m s e).left.exclusives S).number

-- ---- gradients and overlap

-- A call with gradients that is taken: the exclusives of the gradient form and every entry of its gradient rows, whichever rows are present.
abbrev pub ClippedCallFinite : (Plan → ℕ → Bool) → Type 0
ClippedCallFinite sets =
    (p : Plan) (lent : Lent) (present : ℕ → Bool) → length p.heads ≡ 10 → call_answer p Clipped lent ≡ taken
    → GradientsFinite 46 35 p.n (gradient_width p.n) present (clipped_sums sets p) (clipped_gradients sets p)

abbrev pub OpenCallFinite : (Plan → ℕ → Bool) → Type 0
OpenCallFinite sets =
    (p : Plan) (lent : Lent) (present : ℕ → Bool) → length p.heads ≡ 10 → call_answer p Open lent ≡ taken
    → GradientsFinite 41 27 p.n (open_gradient_width p.n) present (λ S. (afresh (unboxed sets) p S).number) (open_gradients sets p)

-- ---- the five calls

-- What the five calls of a plan leave or give where it is taken, for a list of sets. (The overlap has no list of sets and lends no table.)
pub record EverythingFinite (sets : Plan → ℕ → Bool) : Type 0 where
  pub afresh : AfreshFinite 41197685760000 46 (in_box sets)
  pub open_afresh : AfreshFinite 1440000000000 41 (unboxed sets)
  pub afresh-slices : SlicesFinite 41197685760000 46 (in_box sets)
  pub open_afresh_slices : SlicesFinite 1440000000000 41 (unboxed sets)
  pub gradients : ClippedCallFinite sets
  pub open-gradients : OpenCallFinite sets
  pub overlap : (p : Plan) → length p.heads ≡ 10 → plan_answer p ≡ taken → PlanOverlapFinite p
  -- and edits of a fresh table stay so
  pub edits : ListFinite 41197685760000 46 (in_box sets)
  pub edit_not_below : EditNotBelow (in_box sets)

abbrev pub DemandOne : Type 0
DemandOne = (sets : Plan → ℕ → Bool) → EverythingFinite sets
