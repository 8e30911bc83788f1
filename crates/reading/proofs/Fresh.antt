-- The edits of a file on the tables of its plan: after each of them the tables are those of the plan that the edits so
-- far leave, worked out afresh over the tables that were lent.
use Prim.Native.Nat.{ℕ, ◌^◌, ◌≤◌, ◌<◌}
use mathlib.Core.Path.{◌≡◌, refl, sym, ap, ap₂, ◌∙◌, subst}
use mathlib.Core.List.{List, [], ◌∷◌}
use native.Mathlib.Omega.{arith}
use borrow.Author.Tests.{lt-ltb}
use lib.Ieee.{Float}
use lib.ListN.{length, drop, length-set}
use Rattle.lists.specs.Run as Run
use lib.Seq.{drop_at}
use Rattle.lists.specs.Written.{tab, written}
use Rattle.lists.proofs.Writing.{written_cong, length_tab}
use Rattle.std.proofs.Common.{Ok, Err}
use Rattle.plan.specs.declared.Edit.{Edit}
use Rattle.plan.specs.declared.Gradients.TheVariants.{None}
use Rattle.plan.specs.declared.Lent.{Lent}
use Rattle.plan.specs.declared.Plan.{Plan}
use Rattle.plan.specs.Book.{book, head_of, applied, leaves}
use Rattle.plan.specs.Checks.{edit_answer}
use Rattle.plan.specs.Table as Table
use Rattle.plan.specs.Table.{Answered}
use Rattle.plan.specs.Limits.{Acceptable, AcceptableEdit}
use Rattle.plan.proofs.Exactly.{plan_taken, call_taken, edit_taken}
use Rattle.plan.proofs.Keeps.{applied_acceptable}
use Rattle.file.specs.Applied.{plan_after, entries}
use Rattle.file.specs.File.{File, ends, gives_plan, gives_edit}
use Rattle.file.specs.Sound.{EditsWithin}
use Rattle.regions.specs.Demand.{Fresh}
use Rattle.regions.specs.Edit.{Row}
use Rattle.regions.specs.Slices.{Slices, slices_of, row_at, with_rows, LentTables, lent_of, PlanSlices, settled_tables}
use Rattle.regions.specs.Slices.{afresh_answer, afresh_left, afresh_slices, slice_answer, edited_left, edit_slices}
use Rattle.regions.specs.Slices.{plan_table, entry_of}
use Rattle.regions.specs.Table.{Method, afresh, edited}
use Rattle.regions.proofs.Run.{run_ends}
use Rattle.regions.proofs.Slices.{afresh_room, row_written, settled_lengths, edited-left, slices-of}
use Rattle.reading.specs.Whole.{over}

-- the fold of a file's plan and edits over tables
unfoldable pub left_over : Method → File → PlanSlices → PlanSlices
left_over m (ends a) d = d
left_over m (gives_plan p f) d = left_over m f (afresh_slices m (over d.tables p)).left
left_over m (gives_edit e f) d = left_over m f (edit_slices m d e).left

-- ---- written twice

drop_rest : {A : Type 0} (f : ℕ → A) (count : ℕ) (l : List A) → drop count (written f count l) ≡ drop count l
drop_rest f count l = drop_at (tab f count) (drop count l) count (length_tab f count)

slices_over : {a a' : List ℕ} {b b' : List Float} → a ≡ a' → b ≡ b' → slices_of a b ≡ slices_of a' b'
slices_over e f = ap₂ slices_of e f

-- the second stands, by a rule that agrees on these rows
rows_again : (F G H : ℕ → Row) (count : ℕ) (u : Slices) → ((S : ℕ) → S < count → F S ≡ G S)
    → with_rows F count (with_rows H count u) ≡ with_rows G count u
rows_again F G H count u e =
    slices_over
    (written_cong (λ S. (F S).byte) (λ S. (G S).byte) count _ u.bytes (λ S h. ap (λ r. r.byte) (e S h))
    (drop_rest (λ S. (H S).byte) count u.bytes))
    (written_cong (λ S. (F S).number) (λ S. (G S).number) count _ u.numbers (λ S h. ap (λ r. r.number) (e S h))
    (drop_rest (λ S. (H S).number) count u.numbers))

tables_over : {a a' b b' : Slices} → a ≡ a' → b ≡ b'
    → ◌≡◌ {A = LentTables} (record { rows = a; exclusives = b }) (record { rows = a'; exclusives = b' })
tables_over e f = rw (e, f)

settled_again : (m : Method) (n : ℕ) (F G H : ℕ → Row) (t : LentTables) → ((S : ℕ) → S < 2 ^ n → F S ≡ G S)
    → settled_tables m (2 ^ n) n F (settled_tables m (2 ^ n) n H t) ≡ settled_tables m (2 ^ n) n G t
settled_again m n F G H t e =
    let rows = rows_again F G H (2 ^ n) t.rows e in
    tables_over rows
    (ap (λ u. with_rows (m.exclusives.of n (row_at u)) (2 ^ n) (settled_tables m (2 ^ n) n H t).exclusives) rows
    ∙ rows_again (m.exclusives.of n (row_at (with_rows G (2 ^ n) t.rows)))
    (m.exclusives.of n (row_at (with_rows G (2 ^ n) t.rows)))
    (m.exclusives.of n (row_at (with_rows H (2 ^ n) t.rows))) (2 ^ n) t.exclusives (λ S h. refl))

-- a row that is written
pub row_below : (F : ℕ → Row) (count : ℕ) (u : Slices) (S : ℕ) → S < count → row_at (with_rows F count u) S ≡ F S
row_below F count u S h = row_written F count u S ∙ rw (lt-ltb S count h)

-- ---- what the checks say

module _ (t : LentTables) (q : Plan) (ten : length q.heads ≡ 10) where
  pub afresh_is_taken : Acceptable q → 2 ^ q.n ≤ (lent_of t).rows → afresh_answer (over t q) ≡ Table.taken
  afresh_is_taken ok enough = (call_taken q None (lent_of t) ten).1 (ok, (enough, omega arith))

  pub afresh_needs : afresh_answer (over t q) ≡ Table.taken → 2 ^ q.n ≤ (lent_of t).rows
  afresh_needs e = ((call_taken q None (lent_of t) ten).0 e).1.0

-- what the afresh call leaves
pub afresh_leaves : (m : Method) (d : PlanSlices) → afresh_answer d ≡ Table.taken
    → (afresh_slices m d).left ≡ afresh_left m d
unfolding afresh_slices
afresh_leaves m d e = ap (λ a. leaves a d (afresh_left m d)) e

pub afresh_stays : (m : Method) (d : PlanSlices) → (afresh_answer d ≡ Table.taken → ⊥) → (afresh_slices m d).left ≡ d
unfolding afresh_slices
afresh_stays m d n = go (afresh_answer d) n
  where
    go : (a : Answered) → (a ≡ Table.taken → ⊥) → leaves a d (afresh_left m d) ≡ d
    go (Ok done) n = absurd (n refl)
    go (Err r) n = refl

-- ---- one edit on fresh tables

module _ (m : Method) (t : LentTables) (q : Plan) (e : Edit) (ten : length q.heads ≡ 10) (ok : Acceptable q)
    (within : AcceptableEdit q.n e)
    (enough : 2 ^ q.n ≤ (lent_of t).rows) where
  fresh : PlanSlices
  fresh = afresh_left m (over t q)

  lengths : lent_of fresh.tables ≡ lent_of t
  unfolding fresh
  lengths = settled_lengths m q.n (afresh m q) t (afresh_room (over t q) ten (afresh_is_taken t q ten ok enough))

  taken : slice_answer fresh e ≡ Table.taken
  unfolding fresh
  taken = (edit_taken q e (lent_of fresh.tables) ten).1 (ok, within, subst (λ l. 2 ^ q.n ≤ l.rows) (sym lengths) enough)

  -- its rows
  rows : ℕ → Row
  unfolding fresh
  rows = edited m q e (row_at fresh.tables.rows)

  left_is : (edit_slices m fresh e).left
      ≡ record { plan = applied q e; tables = settled_tables m (2 ^ q.n) q.n rows fresh.tables }
  unfolding edit_slices fresh rows
  left_is = ap (λ a. leaves a fresh (edited_left m fresh e)) taken ∙ edited-left m fresh e

  begin : Fresh m (plan_table fresh)
  unfolding fresh
  begin = record {
    room = ten;
    taken = (plan_taken q ten).1 ok;
    fresh = λ S h. row_below (afresh m q) (2 ^ q.n) t.rows S h;
  }

  -- they are the afresh rows of the plan after it
  rows_fresh : (S : ℕ) → S < 2 ^ q.n → rows S ≡ afresh m (applied q e) S
  unfolding fresh Run.after
  rows_fresh S h =
      let end = (run_ends m fresh (e ∷ []) begin).ends in
      let booked : book q (entry_of fresh.tables e ∷ []) ≡ applied q e = ap (λ a. leaves a q (applied q e)) taken in
      sym (row_below rows (2 ^ q.n) fresh.tables.rows S h)
      ∙ ap (λ d. row_at d.tables.rows S) (sym left_is)
      ∙ end.fresh S (subst (λ p. S < 2 ^ p.n) (sym booked) h)
      ∙ ap (λ p. afresh m p S) booked

  pub fresh_edit : (edit_slices m (afresh_left m (over t q)) e).left ≡ afresh_left m (over t (applied q e))
  unfolding fresh
  fresh_edit = left_is ∙ slices-of refl (settled_again m q.n rows (afresh m (applied q e)) (afresh m q) t rows_fresh)

-- ---- a file's edits on fresh tables

pub fresh_edits : (m : Method) (t : LentTables) (f : File) (q : Plan) → length q.heads ≡ 10 → Acceptable q
    → EditsWithin q f → 2 ^ q.n ≤ (lent_of t).rows
    → left_over m f (afresh_left m (over t q)) ≡ afresh_left m (over t (plan_after q f))
unfolding left_over plan_after
fresh_edits m t (ends a) q ten ok within enough = refl
fresh_edits m t (gives_plan p f) q ten ok within enough = absurd within
fresh_edits m t (gives_edit e f) q ten ok within enough =
    ap (left_over m f) (fresh_edit m t q e ten ok within.0 enough)
    ∙ fresh_edits m t f (applied q e) (length-set q.heads e.head (head_of e) ∙ ten)
    (applied_acceptable q e ten ok within.0) within.1 enough

-- ---- on tables that are too short

module _ (p : Plan) (lent : Lent) (ten : length p.heads ≡ 10) (short : lent.rows < 2 ^ p.n) where
  not_taken : (e : Edit) → edit_answer p e lent ≡ Table.taken → ⊥
  not_taken e a = omega (arith, ((edit_taken p e lent ten).0 a).2)

  stays : {A : Type 0} (e : Edit) (x y : A) → leaves (edit_answer p e lent) x y ≡ x
  stays e x y = go (edit_answer p e lent) (not_taken e)
    where
      go : (a : Answered) → (a ≡ Table.taken → ⊥) → leaves a x y ≡ x
      go (Ok done) n = absurd (n refl)
      go (Err r) n = refl

  pub short_book : (f : File) → book p (entries lent f) ≡ p
  unfolding Run.after entries
  short_book (ends a) = refl
  short_book (gives_plan q f) = short_book f
  short_book (gives_edit e f) = ap (λ q. book q (entries lent f)) (stays e p (applied p e)) ∙ short_book f

pub short_edits : (m : Method) (t : LentTables) (p : Plan) → length p.heads ≡ 10 → (lent_of t).rows < 2 ^ p.n
    → (f : File) (q : Plan) → EditsWithin q f
    → left_over m f (over t p) ≡ over t p
unfolding left_over edit_slices
short_edits m t p ten short (ends a) q within = refl
short_edits m t p ten short (gives_plan r f) q within = absurd within
short_edits m t p ten short (gives_edit e f) q within =
    ap (left_over m f) (stays p (lent_of t) ten short e (over t p) (edited_left m (over t p) e))
    ∙ short_edits m t p ten short f (applied q e) within.1
