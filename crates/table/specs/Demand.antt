-- Demand 3 of the tables that this crate works out: the first half, of a whole list of edits, and the second,
-- of each edit. Both are about the table in the box, over the sets of discover_regions and the exclusives of
-- to_exclusive_areas. `run` and `edit` (src/run.rt, src/edit.rt) promise them of the lent slices; the proofs
-- are those of `regions`, for any way to work out a table.
use Rattle.regions.specs.Demand.{AfreshWorks, ListEndsAfresh, EditReworksExactly, RefusedLeavesAll}
use Rattle.regions.specs.Run.{AfreshBegins, RunEnds, SlicesRework}
use Rattle.regions.proofs.Demand.{afresh_works, list_ends_afresh, edit_reworks_exactly, refused_leaves_all}
use Rattle.regions.proofs.Run.{afresh_begins, run_ends, slices_rework}
use Rattle.table.specs.Method.{clipped_table, open_table}

-- ---- the table as rows, each edit of a list with the lengths lent for it

-- First half. From an accepted plan with its afresh rows, after any list of edits, refused ones included: the
-- answers are the book's, the plan left is the book's, its rows are the book's afresh rows.
pub table_list_ends_afresh : ListEndsAfresh clipped_table
table_list_ends_afresh = list_ends_afresh clipped_table

-- Second half. At any table: a taken edit reworks exactly the rows it must and keeps every other number, even
-- a false one.
pub table_edit_reworks : EditReworksExactly clipped_table
table_edit_reworks = edit_reworks_exactly clipped_table

-- a refused edit leaves plan and tables
pub table_refused_leaves_all : RefusedLeavesAll clipped_table
table_refused_leaves_all = refused_leaves_all clipped_table

-- the afresh call leaves the plan's afresh rows and their exclusives, in the box and without it
pub table_afresh_works : AfreshWorks clipped_table
table_afresh_works = afresh_works clipped_table

pub open_afresh_works : AfreshWorks open_table
open_afresh_works = afresh_works open_table

-- ---- the lent slices of afresh, run and edit

-- a taken afresh call leaves what the first half begins with
pub table_afresh_begins : AfreshBegins clipped_table
table_afresh_begins = afresh_begins clipped_table

-- first half, of every byte and number of the four slices
pub table_run_ends : RunEnds clipped_table
table_run_ends = run_ends clipped_table

-- second half
pub table_slices_rework : SlicesRework clipped_table
table_slices_rework = slices_rework clipped_table
