-- Demand 3's two halves and the afresh call, as specs/Demand.antt states them.
use Prim.Native.Nat.{ℕ, zero, suc, ◌≤◌, ◌<◌, ◌^◌}
use mathlib.Core.Path.{◌≡◌, refl, sym, ap, ◌∙◌, subst}
use mathlib.Core.Bool.{true, false, not, ◌&&◌, ◌||◌, true≢false, or-true, and-false}
use mathlib.Core.Logic.{◌⊎◌, inl, inr}
use native.Mathlib.Nat.{le_refl, le_of_eq}
use native.Mathlib.Omega.{arith}
use lib.Pow.{pow_pos}
use lib.ListN.{length, length-set}
use borrow.Author.Tests.{eq-eqb, ne_eqb}
use Rattle.std.specs.Prelude.{Ok, Err}
use Rattle.heads.specs.Pair.{meets_of}
use Rattle.masks.specs.Mask.{in_set}
use Rattle.plan.specs.Table.{Answered, taken}
use Rattle.plan.specs.declared.Edit.{Edit}
use Rattle.plan.specs.declared.Gradients.TheVariants.{None}
use Rattle.plan.specs.declared.Plan.{Plan}
use Rattle.plan.specs.Book.{Entry, AnyTaken, head_of, applied, leaves, book_step, book}
use Rattle.plan.specs.Checks.{call_answer, edit_answer}
use Rattle.plan.specs.Limits.{Acceptable, AcceptableEdit}
use Rattle.plan.proofs.Exactly.{plan_taken, edit_taken}
use Rattle.plan.proofs.Keeps.{applied_acceptable}
use Rattle.intersections.specs.Members.{is_single}
use Rattle.regions.specs.Edit.{Row, absent, present, box_row, afresh_row, overlaps, meets_any, met, reworked, edited_row}
use Rattle.regions.specs.Table.{Method, PlanTable, head_at, afresh, met_by, edited, overlaid, settled, rows_over, afresh_step, table_step}
use Rattle.regions.specs.Demand.{AfreshRows, ExclusivesOf, BeyondStays, AfreshWorks, ListEndsAfresh, Reworks, EditReworksExactly}
use Rattle.regions.specs.Demand.{RefusedLeavesAll, DemandThree}
use Rattle.masks.specs.Operations.{in_power}
use Rattle.masks.specs.Gather.{in_gather}
use Rattle.intersections.proofs.Masks.{head_below}
use Rattle.regions.proofs.Masks.{overlap_at, overlap_none}
use Rattle.regions.proofs.Rows.{edited_afresh}
use Rattle.regions.proofs.Steps.{rows-over, overlaid_below, settled_exclusives, settled_beyond, after_keeps, any_taken, none_taken}
use Rattle.lists.specs.Run as Run
use Rattle.lists.proofs.Simulation.{simulates}

-- ---- the afresh call

left_afresh : (m : Method) (s : PlanTable) → AfreshRows m s.plan (overlaid (2 ^ s.plan.n) (afresh m s.plan) s.rows)
left_afresh m s S h = overlaid_below (2 ^ s.plan.n) (afresh m s.plan) s.rows S h

pub afresh_works : (m : Method) → AfreshWorks m
unfolding afresh_step
afresh_works m s lent = record { taken = works; refused = go (call_answer s.plan None lent) }
  where
    left : PlanTable
    left = settled m (2 ^ s.plan.n) s.plan (afresh m s.plan) s

    works : call_answer s.plan None lent ≡ taken
        → ((leaves (call_answer s.plan None lent) s left).plan ≡ s.plan)
        × AfreshRows m s.plan (leaves (call_answer s.plan None lent) s left).rows
        × ExclusivesOf m s.plan.n (afresh m s.plan) (leaves (call_answer s.plan None lent) s left).exclusives
        × BeyondStays (2 ^ s.plan.n) s (leaves (call_answer s.plan None lent) s left)
    works q =
        rw q (
          refl,
          left_afresh m s,
          λ S h. settled_exclusives m (2 ^ s.plan.n) s.plan (afresh m s.plan) s (le_refl (2 ^ s.plan.n)) S h
              ∙ m.exclusives.below s.plan.n left.rows (afresh m s.plan) (left_afresh m s) S h,
          settled_beyond m (2 ^ s.plan.n) s.plan (afresh m s.plan) s,
        )

    go : (a : Answered) → (a ≡ taken → ⊥) → leaves a s left ≡ s
    go (Ok done) n = absurd (n refl)
    go (Err r) n = refl

-- ---- a taken edit of afresh rows

-- what a taken edit leaves
abbrev left : Method → PlanTable → Edit → PlanTable
left m s e = settled m (rows_over s.plan e) (applied s.plan e) (edited m s.plan e s.rows) s

-- rows 0 to 2^n - 1 are the edited ones
left_below : (m : Method) (s : PlanTable) (e : Edit) (S : ℕ) → S < 2 ^ s.plan.n → (left m s e).rows S ≡ edited m s.plan e s.rows S
left_below m s e S h = overlaid_below (rows_over s.plan e) (edited m s.plan e s.rows) s.rows S (subst (λ n. S < n) (sym (rows-over s.plan e)) h)

-- the exclusives are those of the rows left, and what stands beyond stays
left_exclusives : (m : Method) (s : PlanTable) (e : Edit) → ExclusivesOf m s.plan.n (left m s e).rows (left m s e).exclusives
left_exclusives m s e =
    settled_exclusives m (rows_over s.plan e) (applied s.plan e) (edited m s.plan e s.rows) s (le_of_eq (sym (rows-over s.plan e)))

left_beyond : (m : Method) (s : PlanTable) (e : Edit) → BeyondStays (2 ^ s.plan.n) s (left m s e)
left_beyond m s e S h =
    settled_beyond m (rows_over s.plan e) (applied s.plan e) (edited m s.plan e s.rows) s S (subst (λ n. n ≤ S) (sym (rows-over s.plan e)) h)

-- the edited rows of a plan's afresh rows are the edited plan's afresh rows
edit_afresh : (m : Method) (s : PlanTable) (e : Edit) → length s.plan.heads ≡ 10 → Acceptable s.plan → AcceptableEdit s.plan.n e
    → AfreshRows m s.plan s.rows → AfreshRows m (applied s.plan e) (left m s e).rows
unfolding edited
edit_afresh m s e ten ok oke fresh S h_s = left_below m s e S h_s ∙ edited_afresh m s.plan e ten ok oke s.rows S h_s (fresh S h_s)

-- a step's answer and what it leaves, by the answer
module _ (m : Method) where
  step_left : (s : PlanTable) (e : Entry) (a : Answered) → (table_step m s e).answer ≡ a → (table_step m s e).left ≡ leaves a s (left m s e.edit)
  unfolding table_step
  step_left s e a q = ap (λ b. leaves b s (left m s e.edit)) q

-- a refused edit leaves all
pub refused_leaves_all : (m : Method) → RefusedLeavesAll m
refused_leaves_all m s e n = go (table_step m s e).answer refl
  where
    go : (a : Answered) → (table_step m s e).answer ≡ a → (table_step m s e).left ≡ s
    go (Ok done) q = absurd (n q)
    go (Err r) q = step_left m s e (Err r) q

-- ---- the list

-- a table keeps to a book: the same plan, which is accepted, with its afresh rows; and what stands beyond is as at the start
record KeepsTo (m : Method) (start s : PlanTable) (p : Plan) : Type 0 where
  plan : s.plan ≡ p
  ten : length p.heads ≡ 10
  ok : Acceptable p
  fresh : AfreshRows m p s.rows
  count : p.n ≡ start.plan.n
  beyond : BeyondStays (2 ^ start.plan.n) start s

module _ (m : Method) (start : PlanTable) where
  -- one edit of a table that keeps to its own plan
  left_keeps : (s : PlanTable) (e : Entry) → KeepsTo m start s s.plan → (a : Answered) → edit_answer s.plan e.edit e.lent ≡ a
      → KeepsTo m start (leaves a s (left m s e.edit)) (leaves a s.plan (applied s.plan e.edit))
  left_keeps s e k (Ok done) q =
      let parts = (edit_taken s.plan e.edit e.lent k.ten).0 q in
      record {
        plan = refl;
        ten = length-set s.plan.heads e.edit.head (head_of e.edit) ∙ k.ten;
        ok = applied_acceptable s.plan e.edit k.ten k.ok parts.1;
        fresh = edit_afresh m s e.edit k.ten k.ok parts.1 k.fresh;
        count = k.count;
        beyond = λ S h.
            let now = left_beyond m s e.edit S (subst (λ n. 2 ^ n ≤ S) (sym k.count) h) in
            let so_far = k.beyond S h in
            (now.0 ∙ so_far.0, now.1 ∙ so_far.1);
      }
  left_keeps s e k (Err r) q = k

  -- one edit: the table answers as the book and keeps to it
  step_keeps : (s : PlanTable) (p : Plan) (e : Entry) → KeepsTo m start s p
      → ((table_step m s e).answer ≡ (book_step p e).answer) × KeepsTo m start (table_step m s e).left (book_step p e).left
  unfolding table_step
  step_keeps s p e k = (
    ap (λ q. edit_answer q e.edit e.lent) k.plan,
    subst (λ q. KeepsTo m start (table_step m s e).left (book_step q e).left) k.plan
        (left_keeps s e (subst (KeepsTo m start s) (sym k.plan) k) (edit_answer s.plan e.edit e.lent) refl),
  )

  -- the exclusives are those of the rows after a taken edit, and stay so
  abbrev Settled : PlanTable → Type 0
  Settled s = ExclusivesOf m s.plan.n s.rows s.exclusives

  taken_settled : (s : PlanTable) (e : Entry) → (table_step m s e).answer ≡ taken → Settled (table_step m s e).left
  taken_settled s e q = subst Settled (sym (step_left m s e taken q)) (left_exclusives m s e.edit)

  stays_settled : (s : PlanTable) (e : Entry) → Settled s → Settled (table_step m s e).left
  stays_settled s e k = go (table_step m s e).answer refl
    where
      go : (a : Answered) → (table_step m s e).answer ≡ a → Settled (table_step m s e).left
      go (Ok done) q = taken_settled s e q
      go (Err r) q = subst Settled (sym (step_left m s e (Err r) q)) k

-- demand 3, first half
pub list_ends_afresh : (m : Method) → ListEndsAfresh m
list_ends_afresh m s begin es =
    let start : KeepsTo m s s s.plan =
    record {
      plan = refl;
      ten = begin.room;
      ok = (plan_taken s.plan begin.room).0 begin.taken;
      fresh = begin.fresh;
      count = refl;
      beyond = λ S h. (refl, refl);
    } in
    let end = simulates (table_step m) book_step (KeepsTo m s) (step_keeps m s) es s s.plan start in
    let left = Run.after (table_step m) s es in
    let p = book s.plan es in
    let of_book : Settled m s left → ExclusivesOf m p.n (afresh m p) left.exclusives =
    λ k S h.
    subst (λ q. ExclusivesOf m q.n left.rows left.exclusives) end.1.plan k S h
    ∙ m.exclusives.below p.n left.rows (afresh m p) end.1.fresh S h in
    record {
      answered = end.0;
      planned = end.1.plan;
      fresh = end.1.fresh;
      exclusive = λ t.
          of_book (any_taken (table_step m) (Settled m s) (taken_settled m s) (stays_settled m s) es s (subst AnyTaken (sym end.0) t));
      untouched = λ t. none_taken (table_step m) (refused_leaves_all m) es s (λ u. t (subst AnyTaken end.0 u));
      both = λ k.
          of_book
          (after_keeps (table_step m) (Settled m s) (taken_settled m s) (stays_settled m s) es s
          (λ S h. k S h ∙ sym (m.exclusives.below s.plan.n s.rows (afresh m s.plan) begin.fresh S h)));
      beyond = end.1.beyond;
    }

-- ---- one edit

module _ (m : Method) (p : Plan) (e : Edit) (rows : ℕ → Row) where
  -- whether head j, not the edited one, was met before or after
  met_at : (j : ℕ) → j < p.n → (j ≡ e.head → ⊥)
      → in_set (met_by p e) j ≡ (meets_of (head_at p e.head) (head_at p j) || (meets_of (head_of e) (head_at p j) || false))
  unfolding met meets_any
  met_at j hj n =
      in_gather p.n _ j hj ∙ ap (λ b. not b && (meets_of (head_at p e.head) (head_at p j) || (meets_of (head_of e) (head_at p j) || false)))
      (ne_eqb j e.head n)

  -- a set after the edit whose row is worked out
  row_reworked : (S : ℕ) → 0 < S → m.sets (applied p e) S ≡ true → reworked (2 ^ e.head) (met_by p e) (m.sets p) S ≡ true
      → edited m p e rows S ≡ afresh m (applied p e) S
  unfolding edited edited_row afresh_row
  row_reworked zero z a r = absurd (omega arith)
  row_reworked (suc S) z a r = rw (a, r)

  -- a set after the edit whose row is kept
  row_kept : (S : ℕ) → 0 < S → m.sets (applied p e) S ≡ true → reworked (2 ^ e.head) (met_by p e) (m.sets p) S ≡ false
      → edited m p e rows S ≡ present (rows S).number
  unfolding edited edited_row
  row_kept zero z a r = absurd (omega arith)
  row_kept (suc S) z a r = rw (a, r)

  row_gone : (S : ℕ) → 0 < S → m.sets (applied p e) S ≡ false → edited m p e rows S ≡ absent
  unfolding edited edited_row
  row_gone zero z a = absurd (omega arith)
  row_gone (suc S) z a = rw a

  row_ground : edited m p e rows 0 ≡ box_row m.has_box (rows 0).number
  unfolding edited edited_row
  row_ground = refl

  by_own : (S : ℕ) → in_set S e.head ≡ true → reworked (2 ^ e.head) (met_by p e) (m.sets p) S ≡ true
  unfolding reworked
  by_own S i = rw (overlap_at S (2 ^ e.head) e.head i (in_power e.head e.head ∙ eq-eqb e.head e.head refl))

  by_newly : (S : ℕ) → m.sets p S ≡ false → reworked (2 ^ e.head) (met_by p e) (m.sets p) S ≡ true
  unfolding reworked
  by_newly S b = rw (b, or-true)

  by_met : (S j : ℕ) → S < 2 ^ p.n → is_single S ≡ false → in_set S j ≡ true → (j ≡ e.head → ⊥)
      → (meets_of (head_at p e.head) (head_at p j) ≡ true) ⊎ (meets_of (head_of e) (head_at p j) ≡ true)
      → reworked (2 ^ e.head) (met_by p e) (m.sets p) S ≡ true
  unfolding reworked
  by_met S j h s i n w =
      rw (s, overlap_at S (met_by p e) j i (met_at j (head_below S p.n j h i) n ∙ either w), or-true, or-true)
    where
      either : (meets_of (head_at p e.head) (head_at p j) ≡ true) ⊎ (meets_of (head_of e) (head_at p j) ≡ true)
          → (meets_of (head_at p e.head) (head_at p j) || (meets_of (head_of e) (head_at p j) || false)) ≡ true
      either (inl t) = rw t
      either (inr t) = rw (t, or-true)

  by_none : (S : ℕ) → S < 2 ^ p.n → m.sets p S ≡ true → in_set S e.head ≡ false
      → (is_single S ≡ true) ⊎ ((j : ℕ) → in_set S j ≡ true
      → (meets_of (head_at p e.head) (head_at p j) ≡ false) × (meets_of (head_of e) (head_at p j) ≡ false))
      → reworked (2 ^ e.head) (met_by p e) (m.sets p) S ≡ false
  unfolding reworked
  by_none S h b out w = rw (overlap_none S (2 ^ e.head) not_own, b) (single w)
    where
      other : (j : ℕ) → in_set S j ≡ true → j ≡ e.head → ⊥
      other j i q = true≢false (sym i ∙ ap (in_set S) q ∙ out)

      not_own : (j : ℕ) → in_set S j ≡ true → in_set (2 ^ e.head) j ≡ false
      not_own j i = in_power e.head j ∙ ne_eqb j e.head (other j i)

      single : (is_single S ≡ true) ⊎ ((j : ℕ) → in_set S j ≡ true
          → (meets_of (head_at p e.head) (head_at p j) ≡ false) × (meets_of (head_of e) (head_at p j) ≡ false))
          → (not (is_single S) && overlaps S (met_by p e)) ≡ false
      single (inl s) = rw s
      single (inr c) =
          ap (λ b. not (is_single S) && b)
          (overlap_none S (met_by p e) (λ j i. met_at j (head_below S p.n j h i) (other j i) ∙ rw ((c j i).0, (c j i).1)))
          ∙ and-false (not (is_single S))

edited_reworks : (m : Method) (s : PlanTable) (e : Edit) → Reworks m s.plan e s.rows (left m s e).rows
edited_reworks m s e =
    let p = s.plan in
    let rows = s.rows in
    let below = left_below m s e in
    record {
      ground = below 0 (pow_pos p.n) ∙ row_ground m p e rows;
      gone = λ S z h a. below S h ∙ row_gone m p e rows S z a;
      own = λ S z h a i. below S h ∙ row_reworked m p e rows S z a (by_own m p e rows S i);
      newly = λ S z h a b. below S h ∙ row_reworked m p e rows S z a (by_newly m p e rows S b);
      met = λ S j z h a o i n w. below S h ∙ row_reworked m p e rows S z a (by_met m p e rows S j h o i n w);
      kept = λ S z h a b i w. below S h ∙ row_kept m p e rows S z a (by_none m p e rows S h b i w);
      beyond = λ S h. (left_beyond m s e S h).0;
    }

-- demand 3, second half
pub edit_reworks_exactly : (m : Method) → EditReworksExactly m
edit_reworks_exactly m s e q =
    subst (λ t. (t.plan ≡ applied s.plan e.edit) × Reworks m s.plan e.edit s.rows t.rows
    × ExclusivesOf m s.plan.n t.rows t.exclusives × BeyondStays (2 ^ s.plan.n) s t)
    (sym (step_left m s e taken q))
    (refl, edited_reworks m s e.edit, left_exclusives m s e.edit, left_beyond m s e.edit)

pub demand_three : (m : Method) → DemandThree m
demand_three m = record {
  works = afresh_works m;
  ends = list_ends_afresh m;
  reworks = edit_reworks_exactly m;
  refused = refused_leaves_all m;
}
