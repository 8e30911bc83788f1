-- Demand 1 of the calls: the rows that their steps write are those that `demand_one` bounds.
use mathlib.Core.Path.{◌≡◌, refl, sym, ap, ◌∙◌, subst, fun_ext}
use mathlib.Core.Bool.{Bool, true, false, cond}
use mathlib.Core.List.{List}
use Prim.Native.Nat.{ℕ, zero, suc, ◌*◌, ◌^◌}
use native.Mathlib.Omega.{arith}
use lib.Ieee.{Float, nan}
use lib.IntN.{ℤ}
use lib.ListN.{length}
use Rattle.std.specs.Prelude.{Ok, Err}
use Rattle.lists.specs.Run.{Step}
use Rattle.lists.proofs.Writing.{written_before}
use Rattle.binary64.specs.Constants.{zero64}
use Rattle.plan.specs.declared.Gradients.{Gradients}
use Rattle.plan.specs.declared.Gradients.TheVariants.{Clipped, Open}
use Rattle.plan.specs.declared.Plan.{Plan}
use Rattle.plan.specs.declared.Refusal.{Refusal}
use Rattle.plan.specs.declared.Refusal.TheVariants.{Ended, TooManyHeads, BitWithoutField, CoordinateOutside}
use Rattle.plan.specs.declared.Refusal.TheVariants.{SideOutside, RadiusOutside, NoSuchHead, TablesTooShort}
use Rattle.plan.specs.Book.{leaves}
use Rattle.plan.specs.Checks.{call_answer}
use Rattle.plan.specs.Table.{Answered, taken, gradient_width, open_gradient_width, answer_number, number_of}
use Rattle.diagram.specs.Rows.{Slopes, is_there, area_at, slopes_at, exclusive_with, exclusive_slope}
use Rattle.regions.specs.Edit.{absent, present, afresh_row}
use Rattle.regions.specs.Table.{Method, afresh}
use Rattle.areas.specs.Gradients.{clipped_gradients, open_gradients}
use Rattle.areas.specs.Sets.{plan_sets}
use Rattle.areas.proofs.Gradients.{clipped-gradients, open-gradients}
use Rattle.table.specs.Method.{method_over, clipped_table, open_table}
use Rattle.gradients.specs.Step.{GradientSlices, lent_gradients, gradients_written, gradients_step, clipped_plan, open_plan, clipped_step, open_step}
use Rattle.finite.specs.Demand.{unboxed, SlicesFinite}
use Rattle.finite.specs.Gradients.{clipped_sums, GradientsFinite}
use Rattle.finite.proofs.Demand.{demand_one}
use Rattle.watered.specs.Handed.{plan_of}
use Rattle.demands.specs.Finite.{SlopesFinite, AfreshCall, GradientsCall, OverlapCall, DemandOneOfCalls}
use Rattle.demands.specs.Finite.{AfreshExport, GradientsExport, ExportsFinite}

-- ---- tables

-- the slices' rows, place by place
afresh_call : (j k : ℕ) (m : Method) → SlicesFinite j k m → AfreshCall j k m
afresh_call j k m finite d ten taken =
    let f = finite d ten taken in
    record { rows = f.0.rows; exclusives = f.1.exclusives; not_below = f.1.not_below }

-- ---- rows with gradients

-- a row that is there or absent, and its number
number-of : (b : Bool) (x : Float) → cond b x zero64 ≡ (cond b (present x) absent).number
number-of true x = refl
number-of false x = refl

-- a row that is +0 throughout where it is absent
row_of : (b there : Bool) (row zeros : List Float) → there ≡ b → (there ≡ false → row ≡ zeros) → cond there row zeros ≡ row
row_of true there row zeros e none = ap (λ (c : Bool). cond c row zeros) e
row_of false there row zeros e none = ap (λ (c : Bool). cond c row zeros) e ∙ sym (none e)

module _ (sets : Plan → ℕ → Bool) (p : Plan) where
  -- in the box: the areas and rows that the step writes are those of the bounds
  clipped_areas : (S : ℕ) → clipped_sums sets p S ≡ area_at (clipped_plan sets p).rows S
  unfolding afresh_row
  clipped_areas zero = refl
  clipped_areas (suc S) = sym (number-of (sets p (suc S)) _)

  clipped-rows : (S : ℕ) → clipped_gradients sets p S ≡ slopes_at (clipped_plan sets p) S
  clipped-rows zero = refl
  clipped-rows (suc S) = sym (row_of (sets p (suc S)) (sets p (suc S)) _ _ refl ((clipped-gradients sets p).absent (suc S) (omega arith)))

  -- and without it
  open_areas : (S : ℕ) → (afresh (unboxed sets) p S).number ≡ area_at (open_plan sets p).rows S
  unfolding afresh_row
  open_areas zero = refl
  open_areas (suc S) = sym (number-of (sets p (suc S)) _)

  open-rows : (S : ℕ) → open_gradients sets p S ≡ slopes_at (open_plan sets p) S
  open-rows zero = (open-gradients sets p).none
  open-rows (suc S) = sym (row_of (sets p (suc S)) (sets p (suc S)) _ _ refl ((open-gradients sets p).absent (suc S) (omega arith)))

-- rows with bounds, written into slices
written_finite : (k j n : ℕ) (g : Slopes) (t : GradientSlices) → GradientsFinite k j n g.width (is_there g.rows) (area_at g.rows) (slopes_at g)
    → SlopesFinite k j n g.width (gradients_written n g t)
written_finite k j n g t f = record {
  exclusives = λ S h. rw (written_before (exclusive_with n g) (2 ^ n) S t.exclusives nan h) (f.exclusive S h);
  not_below = λ S h. rw (written_before (exclusive_with n g) (2 ^ n) S t.exclusives nan h) (f.not_below S);
  gradients = λ x h. rw (written_before (exclusive_slope n g) (2 ^ n * g.width) x t.gradients nan h) (f.numbers x h);
}

-- the step of a taken call writes them
module _ (k j : ℕ) (which : Gradients) (slopes : Plan → Slopes) (p : Plan) (t : GradientSlices) where
  step_finite : (width : ℕ) (areas : ℕ → Float) (rows : ℕ → List Float) → width ≡ (slopes p).width → ((S : ℕ) → areas S ≡ area_at (slopes p).rows S)
      → ((S : ℕ) → rows S ≡ slopes_at (slopes p) S) → call_answer p which (lent_gradients t) ≡ taken
      → GradientsFinite k j p.n width (is_there (slopes p).rows) areas rows → SlopesFinite k j p.n width (gradients_step which slopes p t).left
  step_finite width areas rows w a r taken f =
      let g = slopes p in
      let f₁ = subst (λ (z : ℕ → Float). GradientsFinite k j p.n width (is_there g.rows) z rows) (fun_ext a) f in
      let f₂ = subst (λ (z : ℕ → List Float). GradientsFinite k j p.n width (is_there g.rows) (area_at g.rows) z) (fun_ext r) f₁ in
      let f₃ = subst (λ (z : ℕ). GradientsFinite k j p.n z (is_there g.rows) (area_at g.rows) (slopes_at g)) w f₂ in
      subst (λ (z : Answered). SlopesFinite k j p.n width (leaves z t (gradients_written p.n g t))) (sym taken)
      (subst (λ (z : ℕ). SlopesFinite k j p.n z (gradients_written p.n g t)) (sym w) (written_finite k j p.n g t f₃))

clipped_call : (sets : Plan → ℕ → Bool) → GradientsCall 46 35 gradient_width (clipped_step sets)
unfolding clipped_step
clipped_call sets p t ten taken =
    step_finite 46 35 Clipped (clipped_plan sets) p t (gradient_width p.n) (clipped_sums sets p) (clipped_gradients sets p) (omega arith)
    (clipped_areas sets p) (clipped-rows sets p) taken
    ((demand_one sets).gradients p (lent_gradients t) (is_there (clipped_plan sets p).rows) ten taken)

open_call : (sets : Plan → ℕ → Bool) → GradientsCall 41 27 open_gradient_width (open_step sets)
unfolding open_step
open_call sets p t ten taken =
    step_finite 41 27 Open (open_plan sets) p t (open_gradient_width p.n) (λ S. (afresh (unboxed sets) p S).number) (open_gradients sets p) refl
    (open_areas sets p) (open-rows sets p) taken
    ((demand_one sets).open-gradients p (lent_gradients t) (is_there (open_plan sets p).rows) ten taken)

-- ---- overlap

overlap_call : OverlapCall
overlap_call p v ten taken = rw taken ((demand_one plan_sets).overlap p ten taken).all

-- ---- the five calls

-- Demand 1 of the calls, over any list of sets,
pub demand_one_of_calls : DemandOneOfCalls
demand_one_of_calls sets = record {
  afresh = afresh_call 41197685760000 46 (method_over true sets) (demand_one sets).afresh-slices;
  open_afresh = afresh_call 1440000000000 41 (method_over false sets) (demand_one sets).open_afresh_slices;
  gradients = clipped_call sets;
  open-gradients = open_call sets;
  overlap = overlap_call;
}

-- and over the sets that they find: the step in the contract of `table::afresh::afresh`,
pub afresh_finite : AfreshCall 41197685760000 46 clipped_table
afresh_finite = (demand_one_of_calls plan_sets).afresh

-- of `table::afresh::open_afresh`,
pub open_afresh_finite : AfreshCall 1440000000000 41 open_table
open_afresh_finite = (demand_one_of_calls plan_sets).open_afresh

-- of `gradients::gradients`,
pub gradients_finite : GradientsCall 46 35 gradient_width (clipped_step plan_sets)
gradients_finite = (demand_one_of_calls plan_sets).gradients

-- of `gradients::open_gradients`,
pub open_gradients_finite : GradientsCall 41 27 open_gradient_width (open_step plan_sets)
open_gradients_finite = (demand_one_of_calls plan_sets).open-gradients

-- of `watered::slopes::watered_overlap`.
pub overlap_finite : OverlapCall
overlap_finite = (demand_one_of_calls plan_sets).overlap

-- ---- from C

-- an answer of 0 is that of a taken call
zero_taken : (a : Answered) → answer_number a ≡ 0 → a ≡ taken
zero_taken (Ok done) e = refl
zero_taken (Err r) e = absurd (refused r.refusal e)
  where
    refused : (r : Refusal) → number_of r ≡ 0 → ⊥
    refused Ended e = omega arith
    refused TooManyHeads e = omega arith
    refused BitWithoutField e = omega arith
    refused CoordinateOutside e = omega arith
    refused SideOutside e = omega arith
    refused RadiusOutside e = omega arith
    refused NoSuchHead e = omega arith
    refused TablesTooShort e = omega arith

ten : (n : ℕ) (sides heads : List ℤ) → length (plan_of n sides heads).heads ≡ 10
unfolding plan_of
ten n sides heads = refl

afresh_export : (j k : ℕ) (m : Method) → AfreshCall j k m → AfreshExport j k m
unfolding plan_of
afresh_export j k m finite n sides heads t e =
    finite (record { plan = plan_of n sides heads; tables = t }) (ten n sides heads) (zero_taken _ e)

gradients_export : (k j : ℕ) (width : ℕ → ℕ) (step : Plan → GradientSlices → Step GradientSlices Answered) → GradientsCall k j width step
    → GradientsExport k j width step
unfolding plan_of
gradients_export k j width step finite n sides heads t e = finite (plan_of n sides heads) t (ten n sides heads) (zero_taken _ e)

-- the five exports
pub exports_finite : ExportsFinite
exports_finite = record {
  afresh = afresh_export 41197685760000 46 clipped_table afresh_finite;
  open_afresh = afresh_export 1440000000000 41 open_table open_afresh_finite;
  gradients = gradients_export 46 35 gradient_width (clipped_step plan_sets) gradients_finite;
  open-gradients = gradients_export 41 27 open_gradient_width (open_step plan_sets) open_gradients_finite;
  overlap = λ n sides heads v e. overlap_finite (plan_of n sides heads) v (ten n sides heads) (zero_taken _ e);
}
