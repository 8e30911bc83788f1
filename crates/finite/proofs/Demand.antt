-- Demand 1, of numbers, over the steps: a taken call has a plan within the limits, and leaves what `regions` says it leaves; its numbers are bounded in
-- proofs/Rows.antt, proofs/ClippedRows.antt, proofs/Exclusives.antt, proofs/Gradients.antt and proofs/Overlap.antt.
use mathlib.Core.Path.{◌≡◌, refl, sym, ap, ◌∙◌, subst}
use Prim.Native.Nat.{ℕ, ◌^◌, ◌<◌}
use lib.ListN.{length}
use Rattle.lists.specs.Run as Run
use Rattle.binary64.specs.Magnitude.{Most}
use Rattle.plan.specs.Table.{taken}
use Rattle.plan.specs.declared.Gradients.{Gradients}
use Rattle.plan.specs.declared.Lent.{Lent}
use Rattle.plan.specs.declared.Plan.{Plan}
use Rattle.plan.specs.Book.{book}
use Rattle.plan.specs.Checks.{plan_answer, call_answer}
use Rattle.plan.proofs.Exactly.{plan_taken, call_taken}
use Rattle.plan.proofs.Keeps.{book_keeps, book_acceptable}
use Rattle.regions.specs.Demand.{AfreshRows, ExclusivesOf}
use Rattle.regions.specs.Slices.{plan_table, lent_of}
use Rattle.regions.specs.Table.{Method, PlanTable, afresh, afresh_step, table_step}
use Rattle.regions.proofs.Demand.{afresh_works, list_ends_afresh, edit_reworks_exactly}
use Rattle.regions.proofs.Slices.{slices_are_tables}
use Rattle.areas.specs.Exclusives.{is_there, exclusive_rows, to_exclusives}
use Rattle.finite.specs.Exclusives.{ExclusivesFinite}
use Rattle.finite.specs.Demand.{in_box, unboxed, RowsFinite, AreasFinite, AfreshFinite, SlicesFinite, ListFinite, EditNotBelow, DemandOne}
use Rattle.finite.proofs.Rows.{table_finite}
use Rattle.finite.proofs.ClippedRows.{table_clipped_finite}
use Rattle.finite.proofs.Exclusives.{no_exclusive_below_zero, clipped_exclusives_finite, open_exclusives_finite}
use Rattle.finite.proofs.Gradients.{clipped_gradients_finite, open_gradients_finite}
use Rattle.finite.proofs.Overlap.{overlap_finite}

-- a taken call is of a taken plan
call_plan : (p : Plan) (gradients : Gradients) (lent : Lent) → length p.heads ≡ 10 → call_answer p gradients lent ≡ taken → plan_answer p ≡ taken
call_plan p gradients lent ten taken = (plan_taken p ten).1 ((call_taken p gradients lent ten).0 taken).0

-- ---- any way to work out rows whose afresh rows are bounded, with the exclusives of to_exclusive_areas

module _ (j k : ℕ) (m : Method) (own : m.exclusives ≡ to_exclusives)
    (bounded : (p : Plan) → length p.heads ≡ 10 → plan_answer p ≡ taken → (S : ℕ) → S < 2 ^ p.n → Most j 1074 (afresh m p S).number)
    (exclusive : (p : Plan) → length p.heads ≡ 10 → plan_answer p ≡ taken
    → ExclusivesFinite k p.n (is_there (afresh m p)) (λ S. (afresh m p S).number)) where
  -- the afresh rows of a taken plan
  rows_finite : (p : Plan) → length p.heads ≡ 10 → plan_answer p ≡ taken → (t : PlanTable) → AfreshRows m p t.rows → RowsFinite j p.n t
  rows_finite p ten taken t fresh = record { rows = λ S h. rw (fresh S h) (bounded p ten taken S h) }

  -- and their exclusives
  areas_finite : (p : Plan) → length p.heads ≡ 10 → plan_answer p ≡ taken → (t : PlanTable) → ExclusivesOf m p.n (afresh m p) t.exclusives
      → AreasFinite k p.n t
  areas_finite p ten taken t of = record {
    exclusives = λ S h. rw (is S h) ((exclusive p ten taken).exclusive S h);
    not_below = λ S h. rw (is S h) (no_exclusive_below_zero p.n (is_there (afresh m p)) (λ T. (afresh m p T).number) S);
  }
    where
      is : (S : ℕ) → S < 2 ^ p.n → t.exclusives S ≡ exclusive_rows p.n (afresh m p) S
      is S h = of S h ∙ ap (λ x. x.of p.n (afresh m p) S) own

  afresh_finite : AfreshFinite j k m
  unfolding afresh_step
  afresh_finite s lent ten taken =
      let left = (afresh_works m s lent).taken taken in
      let ok = call_plan s.plan _ lent ten taken in
      (rows_finite s.plan ten ok (afresh_step m s lent).left left.1, areas_finite s.plan ten ok (afresh_step m s lent).left left.2)

  slices_finite : SlicesFinite j k m
  slices_finite d ten taken =
      let same = (slices_are_tables m).afresh-left d in
      subst (λ t. RowsFinite j d.plan.n t × AreasFinite k d.plan.n t) (sym same)
      (afresh_finite (plan_table d) (lent_of d.tables) ten (sym ((slices_are_tables m).afresh-answer d) ∙ taken))

  list_finite : ListFinite j k m
  list_finite s fresh es =
      let ends = list_ends_afresh m s fresh es in
      let b = book s.plan es in
      let kept = book_keeps s.plan es in
      let ten : length b.heads ≡ 10 = kept.room ∙ fresh.room in
      let ok : plan_answer b ≡ taken = (plan_taken b ten).1 (book_acceptable s.plan es fresh.room ((plan_taken s.plan fresh.room).0 fresh.taken)) in
      let left = Run.after (table_step m) s es in (
        subst (λ n. RowsFinite j n left) kept.n (rows_finite b ten ok left ends.fresh),
        λ any. subst (λ n. AreasFinite k n left) kept.n (areas_finite b ten ok left (ends.exclusive any)),
      )

  edit_not_below : EditNotBelow m
  edit_not_below s e taken S h =
      let left = (table_step m s e).left in
      let of = (edit_reworks_exactly m s e taken).2 S h ∙ ap (λ x. x.of s.plan.n left.rows S) own in
      rw of (no_exclusive_below_zero s.plan.n (is_there left.rows) (λ T. (left.rows T).number) S)

-- ---- in the box, and without it

-- Demand 1, of numbers.
pub demand_one : DemandOne
demand_one sets = record {
  afresh = afresh_finite 41197685760000 46 (in_box sets) refl in-box in_box_exclusive;
  open_afresh = afresh_finite 1440000000000 41 (unboxed sets) refl without without_exclusive;
  afresh-slices = slices_finite 41197685760000 46 (in_box sets) refl in-box in_box_exclusive;
  open_afresh_slices = slices_finite 1440000000000 41 (unboxed sets) refl without without_exclusive;
  gradients = λ p lent present ten taken. clipped_gradients_finite sets present p ten (call_plan p _ lent ten taken);
  open-gradients = λ p lent present ten taken. open_gradients_finite sets to_exclusives present p ten (call_plan p _ lent ten taken);
  overlap = overlap_finite;
  edits = list_finite 41197685760000 46 (in_box sets) refl in-box in_box_exclusive;
  edit_not_below = edit_not_below 41197685760000 46 (in_box sets) refl in-box in_box_exclusive;
}
  where
    in-box : (p : Plan) → length p.heads ≡ 10 → plan_answer p ≡ taken → (S : ℕ) → S < 2 ^ p.n → Most 41197685760000 1074 (afresh (in_box sets) p S).number
    in-box = table_clipped_finite sets to_exclusives

    in_box_exclusive : (p : Plan) → length p.heads ≡ 10 → plan_answer p ≡ taken
        → ExclusivesFinite 46 p.n (is_there (afresh (in_box sets) p)) (λ S. (afresh (in_box sets) p S).number)
    in_box_exclusive p = clipped_exclusives_finite sets to_exclusives (is_there (afresh (in_box sets) p)) p

    without : (p : Plan) → length p.heads ≡ 10 → plan_answer p ≡ taken → (S : ℕ) → S < 2 ^ p.n → Most 1440000000000 1074 (afresh (unboxed sets) p S).number
    without = table_finite sets to_exclusives

    without_exclusive : (p : Plan) → length p.heads ≡ 10 → plan_answer p ≡ taken
        → ExclusivesFinite 41 p.n (is_there (afresh (unboxed sets) p)) (λ S. (afresh (unboxed sets) p S).number)
    without_exclusive p = open_exclusives_finite sets to_exclusives (is_there (afresh (unboxed sets) p)) p
