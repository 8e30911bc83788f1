-- Lent slices are tables: presence bytes and numbers as lists, the rows that they hold, and the calls over them, with "bytes beyond stay" in
-- every equation. `proofs/Slices.antt` shows that each call over slices is the step of `Table.antt` on their rows.
use Rattle.std.specs.Prelude.{ℕ, ◌^◌, ◌≡◌, cond, List, [], ◌∷◌, ltb, Float, length, get_or}
use Rattle.std.specs.Float.{nan}
use Rattle.lists.specs.Run.{Step}
use Rattle.lists.specs.Written.{written}
use Rattle.plan.specs.declared.Edit.{Edit}
use Rattle.plan.specs.declared.Gradients.TheVariants.{None}
use Rattle.plan.specs.declared.Lent.{Lent}
use Rattle.plan.specs.declared.Plan.{Plan}
use Rattle.plan.specs.Book.{Entry, applied, leaves}
use Rattle.plan.specs.Checks.{call_answer, edit_answer}
use Rattle.plan.specs.Table.{Answered, lent_by}
use Rattle.regions.specs.Edit.{Row}
use Rattle.regions.specs.Table.{Method, PlanTable, afresh, edited, rows_over, afresh_step, table_step}

-- ---- one table

-- the two slices of a table: its presence bytes and its numbers
pub record Slices : Type 0 where
  pub bytes : List ℕ
  pub numbers : List Float

abbrev pub slices_of : List ℕ → List Float → Slices
slices_of bytes numbers = record { bytes = bytes; numbers = numbers }

-- row S of a table
abbrev pub row_at : Slices → ℕ → Row
row_at t S = record { byte = get_or t.bytes S 0; number = get_or t.numbers S nan }

-- bytes and numbers of rows 0 to `count` - 1 written, the rest as it was
abbrev pub written_bytes : (ℕ → Row) → ℕ → List ℕ → List ℕ
written_bytes rows count l = written (λ S. (rows S).byte) count l

abbrev pub written_numbers : (ℕ → Row) → ℕ → List Float → List Float
written_numbers rows count l = written (λ S. (rows S).number) count l

abbrev pub with_rows : (ℕ → Row) → ℕ → Slices → Slices
with_rows rows count t = slices_of (written_bytes rows count t.bytes) (written_numbers rows count t.numbers)

-- what is written is read, and beyond it what stood there. Proved as `row_written`.
abbrev pub RowWritten : Type 0
RowWritten = (rows : ℕ → Row) (count : ℕ) (t : Slices) (S : ℕ) → row_at (with_rows rows count t) S ≡ cond (ltb S count) (rows S) (row_at t S)

-- and back: slices of the same lengths that hold the same rows are the same, in every byte and every bit. Proved as `rows_fix`.
abbrev pub RowsFix : Type 0
RowsFix = (t u : Slices) → length t.bytes ≡ length u.bytes → length t.numbers ≡ length u.numbers → ((S : ℕ) → row_at t S ≡ row_at u S) → t ≡ u

-- ---- the tables of a call

-- the table of rows and the table of exclusives
pub record LentTables : Type 0 where
  pub rows : Slices
  pub exclusives : Slices

abbrev pub tables_of : List ℕ → List Float → List ℕ → List Float → LentTables
tables_of bytes numbers others areas = record { rows = slices_of bytes numbers; exclusives = slices_of others areas }

-- what a call over both tables lends
abbrev pub lent_of : LentTables → Lent
lent_of t =
    lent_by (length t.rows.bytes ∷ length t.rows.numbers ∷ length t.exclusives.bytes ∷ length t.exclusives.numbers ∷ []) 0

-- a plan and the tables lent for it
pub record PlanSlices : Type 0 where
  pub plan : Plan
  pub tables : LentTables

abbrev pub plan_slices : Plan → List ℕ → List Float → List ℕ → List Float → PlanSlices
plan_slices p bytes numbers others areas = record { plan = p; tables = tables_of bytes numbers others areas }

-- ---- the calls

-- both tables with `count` rows written: the exclusives of a plan of n heads are worked out from the rows as they are written
abbrev pub settled_tables : Method → ℕ → ℕ → (ℕ → Row) → LentTables → LentTables
settled_tables m count n rows t = record {
  rows = with_rows rows count t.rows;
  exclusives = with_rows (m.exclusives.of n (row_at (with_rows rows count t.rows))) count t.exclusives;
}

-- what a call leaves and answers, from its parts
abbrev pub step_of : PlanSlices → Answered → Step PlanSlices Answered
step_of left answer = record { left = left; answer = answer }

abbrev pub afresh_answer : PlanSlices → Answered
afresh_answer d = call_answer d.plan None (lent_of d.tables)

-- a taken afresh call: rows 0 to 2^n - 1 of both tables
abbrev pub afresh_left : Method → PlanSlices → PlanSlices
afresh_left m d = record { plan = d.plan; tables = settled_tables m (2 ^ d.plan.n) d.plan.n (afresh m d.plan) d.tables }

-- the afresh call
unfoldable pub afresh_slices : Method → PlanSlices → Step PlanSlices Answered
afresh_slices m d = step_of (leaves (afresh_answer d) d (afresh_left m d)) (afresh_answer d)

abbrev pub slice_answer : PlanSlices → Edit → Answered
slice_answer d e = edit_answer d.plan e (lent_of d.tables)

-- a taken edit
abbrev pub edited_left : Method → PlanSlices → Edit → PlanSlices
edited_left m d e = record {
  plan = applied d.plan e;
  tables = settled_tables m (rows_over d.plan e) (applied d.plan e).n (edited m d.plan e (row_at d.tables.rows)) d.tables;
}

-- one edit
unfoldable pub edit_slices : Method → PlanSlices → Edit → Step PlanSlices Answered
edit_slices m d e = step_of (leaves (slice_answer d e) d (edited_left m d e)) (slice_answer d e)

-- ---- slices are tables

-- the rows that the slices hold
abbrev pub plan_table : PlanSlices → PlanTable
plan_table d = record { plan = d.plan; rows = row_at d.tables.rows; exclusives = row_at d.tables.exclusives }

-- an edit in a list, with the lengths of these tables
abbrev pub entry_of : LentTables → Edit → Entry
entry_of t e = record { edit = e; lent = lent_of t }

-- Each call over slices is the step on their rows: it answers as the step does and leaves the step's plan, rows and exclusives.
pub record SlicesAreTables (m : Method) : Type 0 where
  pub afresh-answer : (d : PlanSlices) → (afresh_slices m d).answer ≡ (afresh_step m (plan_table d) (lent_of d.tables)).answer
  pub afresh-left : (d : PlanSlices) → plan_table (afresh_slices m d).left ≡ (afresh_step m (plan_table d) (lent_of d.tables)).left
  pub edit-answer : (d : PlanSlices) (e : Edit) → (edit_slices m d e).answer ≡ (table_step m (plan_table d) (entry_of d.tables e)).answer
  pub edit_left : (d : PlanSlices) (e : Edit) → plan_table (edit_slices m d e).left ≡ (table_step m (plan_table d) (entry_of d.tables e)).left
