-- A plan file read over lent tables, said of the whole file: the plan and the tables that it leaves, its answer, and
-- what the program prints. Nothing here speaks of reading byte by byte; `Reading.antt` does, and says that both agree.
use Rattle.std.specs.Prelude.{ℕ, ◌<◌, ◌^◌, ◌≡◌, List, [], eqb, Ok, Err}
use Rattle.plan.specs.declared.Plan.{Plan}
use Rattle.plan.specs.Book.{book}
use Rattle.plan.specs.Checks.{first_of}
use Rattle.plan.specs.Table.{Answered, taken, number_of}
use Rattle.file.specs.Applied.{entries}
use Rattle.file.specs.File.{File, ends, gives_plan, gives_edit, read_file, no_heads, missing_ground}
use Rattle.file.specs.Same.{end_of}
use Rattle.regions.specs.Edit.{Row}
use Rattle.regions.specs.Slices.{LentTables, lent_of, PlanSlices, afresh_answer, afresh_slices}
use Rattle.regions.specs.Table.{Method, afresh}
use Rattle.printing.specs.Rows.{row_lines, refusal_line}

-- ---- what a file leaves

-- a plan and lent tables
abbrev pub over : LentTables → Plan → PlanSlices
over t p = record { plan = p; tables = t }

-- before a plan is read: no heads
abbrev pub no_plan : Plan
no_plan = no_heads missing_ground 0

-- the book's last plan: the file's plan p after the file's edits f, each checked against the lengths of the lent tables
abbrev pub last_plan : LentTables → Plan → File → Plan
last_plan t p f = book p (entries (lent_of t) f)

-- A file that gives no plan leaves the tables as they are. Any other leaves what one afresh call on the book's last
-- plan leaves: rows and exclusives of that plan, what stands beyond them as it was; and nothing is written where the
-- tables have fewer than 2^n rows. So a file that is refused at an edit leaves the tables as the edit before it left
-- them. No file gives an edit first.
unfoldable pub file_left : Method → LentTables → File → PlanSlices
file_left m t (ends a) = over t no_plan
file_left m t (gives_plan p f) = (afresh_slices m (over t (last_plan t p f))).left
file_left m t (gives_edit e f) = over t no_plan

-- ---- its answer

-- the tables' own check, "after all values": 7 at offset 0 where they have fewer than 2^n rows
unfoldable pub tables_answer : LentTables → File → Answered
tables_answer t (ends a) = taken
tables_answer t (gives_plan p f) = afresh_answer (over t (last_plan t p f))
tables_answer t (gives_edit e f) = taken

-- "The first failed check in reading order gives the number": the file's own, then the tables'
abbrev pub file_answer : LentTables → File → Answered
unfolding end_of
file_answer t f = first_of (end_of f) (tables_answer t f)

-- ---- what is printed

-- row S of a plan's exclusives, worked out afresh
abbrev pub afresh_exclusive : Method → Plan → ℕ → Row
afresh_exclusive m p = m.exclusives.of p.n (afresh m p)

-- the lines of a plan's afresh exclusives
unfoldable pub exclusive_lines : Method → Plan → List ℕ
exclusive_lines m p = row_lines p.n (λ S. eqb (afresh_exclusive m p S).byte 1) (λ S. (afresh_exclusive m p S).number)

unfoldable pub plan_lines : Method → LentTables → File → List ℕ
plan_lines m t (ends a) = []
plan_lines m t (gives_plan p f) = exclusive_lines m (last_plan t p f)
plan_lines m t (gives_edit e f) = []

-- "A refusal prints `refused N at P` .. and nothing more."
abbrev pub printed_for : Answered → List ℕ → List ℕ
printed_for (Ok done) lines = lines
printed_for (Err r) lines = refusal_line (number_of r.refusal) r.at

-- "It prints for each present row .. its exclusive area .. after the last edit"; "One refused edit refuses the whole
-- file for the program"
abbrev pub file_printed : Method → LentTables → File → List ℕ
file_printed m t f = printed_for (file_answer t f) (plan_lines m t f)

-- Tables too short for a file that is taken otherwise: refusal 7 at offset 0 is printed, and nothing is written. Proved
-- as `short_tables`, proofs/Whole.antt.
abbrev pub ShortTables : Method → Type 0
ShortTables m =
    (t : LentTables) (s : List ℕ) (p : Plan) (f : File) → read_file s ≡ gives_plan p f → end_of f ≡ taken
    → (lent_of t).rows < 2 ^ p.n
    → (file_printed m t (read_file s) ≡ refusal_line 7 0) × ((file_left m t (read_file s)).tables ≡ t)
