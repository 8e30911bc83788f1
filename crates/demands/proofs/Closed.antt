-- What the calls leave of a closed head (specs/Closed.antt).
use mathlib.Core.Path.{◌≡◌, refl, sym, ◌∙◌, subst}
use mathlib.Core.Bool.{true}
use mathlib.Core.List.{List}
use Prim.Native.Nat.{ℕ, ◌^◌, ◌<◌}
use borrow.Author.Tests.{lt-ltb}
use lib.ListN.{length, length-set}
use Rattle.heads.specs.Pair.{is_closed}
use Rattle.plan.specs.declared.Edit.{Edit}
use Rattle.plan.specs.declared.Plan.{Plan}
use Rattle.plan.specs.Limits.{Acceptable}
use Rattle.plan.specs.Book.{head_of, applied, leaves, book}
use Rattle.plan.specs.Table.{Answered}
use Rattle.plan.proofs.Exactly.{plan_taken, call_taken, edit_taken}
use Rattle.plan.proofs.Keeps.{applied_acceptable, book_keeps, book_acceptable}
use Rattle.regions.specs.Demand.{ExclusivesOf, Fresh}
use Rattle.regions.specs.Edit.{Row, absent}
use Rattle.regions.specs.Run.{entries_of, slices_after}
use Rattle.regions.specs.Slices.{row_at, with_rows, lent_of, LentTables, PlanSlices, settled_tables, plan_table}
use Rattle.regions.specs.Slices.{afresh_left, edited_left, afresh_slices, edit_slices}
use Rattle.regions.specs.Table.{Method, head_at, afresh, edited}
use Rattle.regions.proofs.Run.{run_ends}
use Rattle.regions.proofs.Slices.{row_written, edited-left}
use Rattle.areas.specs.Closed.{InNoSet}
use Rattle.areas.specs.Sets.{plan_sets}
use Rattle.areas.proofs.Closed.{closed_in_no_set, no_row, no_row_after, no_exclusive}
use Rattle.table.specs.Method.{clipped_table, open_table}
use Rattle.gradients.proofs.Closed.{closed_entries}
use Rattle.demands.specs.Closed.{ClosedHaveNoRow, LeavesNoRow, ClosedHeadOfCalls}

-- a row that is absent, written, in both tables: the exclusives are worked out from the rows as they are written
module _ (m : Method)
    (of : (n : ℕ) (rows : ℕ → Row) (S : ℕ) → rows S ≡ absent → m.exclusives.of n rows S ≡ absent) where
  settled_absent : (n : ℕ) (F : ℕ → Row) (t : LentTables) (S : ℕ) → S < 2 ^ n → F S ≡ absent
      → (row_at (settled_tables m (2 ^ n) n F t).rows S ≡ absent)
      × (row_at (settled_tables m (2 ^ n) n F t).exclusives S ≡ absent)
  settled_absent n F t S h e =
      let rows = row_at (with_rows F (2 ^ n) t.rows) in
      let row : rows S ≡ absent = row_written F (2 ^ n) t.rows S ∙ rw (lt-ltb S (2 ^ n) h) e in
      (row, row_written (m.exclusives.of n rows) (2 ^ n) t.exclusives S ∙ rw (lt-ltb S (2 ^ n) h) (of n rows S row))

  module _ (found : (p : Plan) (S : ℕ) → m.sets p S ≡ plan_sets p S) where
    no_set : (p : Plan) → length p.heads ≡ 10 → Acceptable p → (j : ℕ) → j < p.n → is_closed (head_at p j) ≡ true
        → InNoSet (m.sets p) j
    no_set p ten ok j h closed S i = found p S ∙ closed_in_no_set p ten ok j h closed S i

    afresh_no_row : LeavesNoRow (afresh_slices m)
    unfolding afresh_slices
    afresh_no_row d ten is =
        let p = d.plan in
        let ok = ((call_taken p _ (lent_of d.tables) ten).0 is).0 in
        subst (λ (a : Answered). ClosedHaveNoRow (leaves a d (afresh_left m d))) (sym is)
        (λ j h closed S below i.
        settled_absent p.n (afresh m p) d.tables S below (no_row m p j (no_set p ten ok j h closed) S i))

    edit_no_row : (e : Edit) → LeavesNoRow (λ d. edit_slices m d e)
    unfolding edit_slices
    edit_no_row e d ten is =
        let p = d.plan in
        let q = applied p e in
        let F = edited m p e (row_at d.tables.rows) in
        let both = (edit_taken p e (lent_of d.tables) ten).0 is in
        let ok = applied_acceptable p e ten both.0 both.1 in
        let room = length-set p.heads e.head (head_of e) ∙ ten in
        subst (λ (a : Answered). ClosedHaveNoRow (leaves a d (edited_left m d e))) (sym is)
        (subst ClosedHaveNoRow (sym (edited-left m d e))
        (λ j h closed S below i.
        settled_absent p.n F d.tables S below
        (no_row_after m p e (row_at d.tables.rows) j (no_set q room ok j h closed) S i)))

    run_no_row : (d : PlanSlices) (es : List Edit) → Fresh m (plan_table d)
        → ExclusivesOf m d.plan.n (afresh m d.plan) (row_at d.tables.exclusives) → ClosedHaveNoRow (slices_after m d es)
    run_no_row d es begin exclusives j h closed S below i =
        let end = (run_ends m d es begin).ends in
        let q = book d.plan (entries_of d es) in
        let ok = book_acceptable d.plan (entries_of d es) begin.room ((plan_taken d.plan begin.room).0 begin.taken) in
        let room = (book_keeps d.plan (entries_of d es)).room ∙ begin.room in
        let below = subst (λ (r : Plan). S < 2 ^ r.n) end.planned below in
        let none = no_set q room ok j (subst (λ (r : Plan). j < r.n) end.planned h)
        (subst (λ (r : Plan). is_closed (head_at r j) ≡ true) end.planned closed) in
        let row : afresh m q S ≡ absent = no_row m q j none S i in
        (end.fresh S below ∙ row, end.both exclusives S below ∙ of q.n (afresh m q) S row)

pub closed_head_of_calls : ClosedHeadOfCalls
closed_head_of_calls = record {
  afresh = afresh_no_row clipped_table no_exclusive (λ p S. refl);
  open_afresh = afresh_no_row open_table no_exclusive (λ p S. refl);
  edit = edit_no_row clipped_table no_exclusive (λ p S. refl);
  run = run_no_row clipped_table no_exclusive (λ p S. refl);
  gradients = closed_entries;
}
