-- Slices are tables: what is written into slices is what the rows say, each call over slices is the step on their rows, and what a taken call has been
-- checked for. A function over slices puts its parts together by the laws of the last section.
use Prim.Native.Nat.{ℕ, ◌^◌, ◌≤◌, ◌<◌}
use mathlib.Core.Path.{◌≡◌, refl, sym, ap, ap₂, ◌∙◌, fun_ext}
use mathlib.Core.Bool.{Bool, true, false, cond}
use mathlib.Core.List.{List}
use native.Mathlib.Omega.{arith}
use lib.Dec.{ltb}
use lib.Ieee.{Float, nan}
use lib.ListN.{length}
use lib.Seq.{ext_get_or}
use borrow.Author.Tests.{ltb-true, ltb-false}
use Rattle.std.specs.Prelude.{Ok, Err}
use Rattle.lists.proofs.Writing.{length_written, written_before, written_past}
use Rattle.plan.specs.Table.{Answered, taken}
use Rattle.plan.specs.declared.Edit.{Edit}
use Rattle.plan.specs.declared.Plan.{Plan}
use Rattle.plan.specs.declared.Refused.{Refused}
use Rattle.plan.specs.Book.{applied, leaves}
use Rattle.plan.proofs.Exactly.{call_taken, edit_taken}
use Rattle.regions.specs.Edit.{Row}
use Rattle.regions.specs.Table.{Method, PlanTable, afresh, edited, overlaid, settled, rows_over, afresh_step, table_step}
use Rattle.regions.specs.Slices.{Slices, slices_of, row_at, written_bytes, written_numbers, with_rows, RowWritten, RowsFix, LentTables, tables_of}
use Rattle.regions.specs.Slices.{lent_of, PlanSlices, settled_tables, step_of, afresh_answer, afresh_left, afresh_slices, slice_answer, edited_left}
use Rattle.regions.specs.Slices.{edit_slices, plan_table, SlicesAreTables}
use Rattle.regions.proofs.Steps.{rows-over}

-- ---- what is written is read

pub row_written : RowWritten
row_written rows count t S = by (ltb S count) refl
  where
    by : (b : Bool) → ltb S count ≡ b → row_at (with_rows rows count t) S ≡ cond b (rows S) (row_at t S)
    by true e =
        ap₂ (λ x y. record { byte = x; number = y })
        (written_before (λ T. (rows T).byte) count S t.bytes 0 (ltb-true S count e))
        (written_before (λ T. (rows T).number) count S t.numbers nan (ltb-true S count e))
    by false e =
        ap₂ (λ x y. record { byte = x; number = y })
        (written_past (λ T. (rows T).byte) count S t.bytes 0 (ltb-false S count e))
        (written_past (λ T. (rows T).number) count S t.numbers nan (ltb-false S count e))

rows_written : (rows : ℕ → Row) (count : ℕ) (t : Slices) → row_at (with_rows rows count t) ≡ overlaid count rows (row_at t)
rows_written rows count t = fun_ext (λ S. row_written rows count t S)

-- the rows and the lengths are the slices
pub rows_fix : RowsFix
rows_fix t u a b e =
    ap₂ slices_of
    (ext_get_or 0 t.bytes u.bytes a (λ S h. ap (λ (r : Row). r.byte) (e S)))
    (ext_get_or nan t.numbers u.numbers b (λ S h. ap (λ (r : Row). r.number) (e S)))

-- ---- each call is the step on the rows

module _ (m : Method) where
  table_of : Plan → (ℕ → Row) → (ℕ → Row) → PlanTable
  table_of p rows exclusives = record { plan = p; rows = rows; exclusives = exclusives }

  settled_table : (count : ℕ) (p : Plan) (rows : ℕ → Row) (d : PlanSlices)
      → plan_table (record { plan = p; tables = settled_tables m count p.n rows d.tables }) ≡ settled m count p rows (plan_table d)
  unfolding table_of
  settled_table count p rows d =
      let written = rows_written rows count d.tables.rows in
      let t = d.tables.exclusives in
      ap₂ (table_of p) written
      (rows_written (m.exclusives.of p.n (row_at (with_rows rows count d.tables.rows))) count t
      ∙ ap (λ r. overlaid count (m.exclusives.of p.n r) (row_at t)) written)

  left_table : (d left : PlanSlices) (end : PlanTable) → plan_table left ≡ end → (a : Answered) → plan_table (leaves a d left) ≡ leaves a (plan_table d) end
  left_table d left end e (Ok done) = e
  left_table d left end e (Err r) = refl

  pub slices_are_tables : SlicesAreTables m
  unfolding afresh_slices edit_slices afresh_step table_step
  slices_are_tables = record {
    afresh-answer = λ d. refl;
    afresh-left = λ d. left_table d (afresh_left m d) _ (settled_table (2 ^ d.plan.n) d.plan (afresh m d.plan) d) (afresh_answer d);
    edit-answer = λ d e. refl;
    edit_left = λ d e.
        left_table d (edited_left m d e) _
        (settled_table (rows_over d.plan e) (applied d.plan e) (edited m d.plan e (row_at d.tables.rows)) d) (slice_answer d e);
  }

-- ---- what is known of a taken call

-- a plan of at most ten heads, and room for its rows in each slice
pub record Room (n : ℕ) (t : LentTables) : Type 0 where
  pub count : n ≤ 10
  pub bytes : 2 ^ n ≤ length t.rows.bytes
  pub numbers : 2 ^ n ≤ length t.rows.numbers
  pub others : 2 ^ n ≤ length t.exclusives.bytes
  pub areas : 2 ^ n ≤ length t.exclusives.numbers

room : (n : ℕ) (t : LentTables) → n ≤ 10 → 2 ^ n ≤ (lent_of t).rows → Room n t
room n t h g = record { count = h; bytes = omega arith; numbers = omega arith; others = omega arith; areas = omega arith }

pub afresh_room : (d : PlanSlices) → length d.plan.heads ≡ 10 → afresh_answer d ≡ taken → Room d.plan.n d.tables
afresh_room d ten a =
    let ok = (call_taken d.plan _ (lent_of d.tables) ten).0 a in
    room d.plan.n d.tables ok.0.count ok.1.0

pub edit_room : (d : PlanSlices) (e : Edit) → length d.plan.heads ≡ 10 → slice_answer d e ≡ taken → Room d.plan.n d.tables × (e.head < d.plan.n)
edit_room d e ten a =
    let ok = (edit_taken d.plan e (lent_of d.tables) ten).0 a in
    (room d.plan.n d.tables ok.0.count ok.2, ok.1.head)

-- written tables keep their lengths
pub settled_lengths : (m : Method) (n : ℕ) (F : ℕ → Row) (t : LentTables) → Room n t → lent_of (settled_tables m (2 ^ n) n F t) ≡ lent_of t
settled_lengths m n F t r =
    let G : ℕ → Row = m.exclusives.of n (row_at (with_rows F (2 ^ n) t.rows)) in
    rw (
      length_written (λ S. (F S).byte) (2 ^ n) t.rows.bytes r.bytes,
      length_written (λ S. (F S).number) (2 ^ n) t.rows.numbers r.numbers,
      length_written (λ S. (G S).byte) (2 ^ n) t.exclusives.bytes r.others,
      length_written (λ S. (G S).number) (2 ^ n) t.exclusives.numbers r.areas,
    )

-- ---- a call from its parts

pub tables-of : {bytes bytes' : List ℕ} {numbers numbers' : List Float} {others others' : List ℕ} {areas areas' : List Float}
    → bytes ≡ bytes' → numbers ≡ numbers' → others ≡ others' → areas ≡ areas' → tables_of bytes numbers others areas ≡ tables_of bytes' numbers' others' areas'
tables-of a b c d = rw (a, b, c, d)

pub slices-of : {p p' : Plan} {t t' : LentTables} → p ≡ p' → t ≡ t' → ◌≡◌ {A = PlanSlices} (record { plan = p; tables = t }) (record { plan = p'; tables = t' })
slices-of a b = rw (a, b)

-- the exclusives are worked out from the rows as they are written
pub settled_of : (m : Method) (n : ℕ) (F : ℕ → Row) (t : LentTables) {bytes : List ℕ} {numbers : List Float} {others : List ℕ} {areas : List Float}
    → bytes ≡ written_bytes F (2 ^ n) t.rows.bytes → numbers ≡ written_numbers F (2 ^ n) t.rows.numbers
    → others ≡ written_bytes (m.exclusives.of n (row_at (slices_of bytes numbers))) (2 ^ n) t.exclusives.bytes
    → areas ≡ written_numbers (m.exclusives.of n (row_at (slices_of bytes numbers))) (2 ^ n) t.exclusives.numbers
    → tables_of bytes numbers others areas ≡ settled_tables m (2 ^ n) n F t
settled_of m n F t a b c d =
    tables-of a b
    (c ∙ ap₂ (λ x y. written_bytes (m.exclusives.of n (row_at (slices_of x y))) (2 ^ n) t.exclusives.bytes) a b)
    (d ∙ ap₂ (λ x y. written_numbers (m.exclusives.of n (row_at (slices_of x y))) (2 ^ n) t.exclusives.numbers) a b)

module _ (m : Method) (d : PlanSlices) where
  pub afresh_taken : (t : LentTables) → afresh_answer d ≡ taken → t ≡ settled_tables m (2 ^ d.plan.n) d.plan.n (afresh m d.plan) d.tables
      → step_of (record { plan = d.plan; tables = t }) taken ≡ afresh_slices m d
  unfolding afresh_slices
  afresh_taken t q e = rw (q, e)

  pub afresh_refused : (r : Refused) → afresh_answer d ≡ Err r → step_of d (Err r) ≡ afresh_slices m d
  unfolding afresh_slices
  afresh_refused r q = rw q

  -- a taken edit, with its 2^n rows
  pub edited-left : (e : Edit)
      → edited_left m d e ≡ record {
        plan =
            applied d.plan e;
        tables = settled_tables m (2 ^ d.plan.n) d.plan.n (edited m d.plan e (row_at d.tables.rows)) d.tables;
      }
  edited-left e =
      ap (λ count. record {
        plan = applied d.plan e;
        tables = settled_tables m count d.plan.n (edited m d.plan e (row_at d.tables.rows)) d.tables;
      })
      (rows-over d.plan e)

  pub edit_step_taken : (e : Edit) (p : Plan) (t : LentTables) → slice_answer d e ≡ taken → p ≡ applied d.plan e
      → t ≡ settled_tables m (2 ^ d.plan.n) d.plan.n (edited m d.plan e (row_at d.tables.rows)) d.tables
      → step_of (record { plan = p; tables = t }) taken ≡ edit_slices m d e
  unfolding edit_slices
  edit_step_taken e p t q f g = rw q (ap (λ left. step_of left taken) (slices-of f g ∙ sym (edited-left e)))

  pub edit_step_refused : (e : Edit) (r : Refused) → slice_answer d e ≡ Err r → step_of d (Err r) ≡ edit_slices m d e
  unfolding edit_slices
  edit_step_refused e r q = rw q
