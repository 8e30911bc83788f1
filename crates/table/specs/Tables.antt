-- What the lent tables of a call hold, and what one pass leaves in them, by the bytes of the sets: the rows
-- of an edit, and the rows worked out afresh. The private functions promise these passes; the public calls
-- promise the steps of `regions`, specs/Slices.antt, over what the tables hold.
use Rattle.std.specs.Prelude.{ℕ, ◌≡◌, ◌^◌, List, ℤ}
use Rattle.plan.specs.declared.Edit.{Edit}
use Rattle.plan.specs.declared.Plan.{Plan}
use Rattle.plan.specs.Book.{applied}
use Rattle.masks.specs.Presence.{stands}
use Rattle.areas.specs.Exclusives.{to_exclusives}
use Rattle.regions.specs.Edit.{Row, afresh_row, edited_row}
use Rattle.regions.specs.Slices.{row_at, with_rows, LentTables, tables_of, PlanSlices}
use Rattle.regions.specs.Table.{Method, area_at, met_by}
use Rattle.table.specs.declared.rows.Change.{Change}
use Rattle.table.specs.declared.tables.Tables.{Tables}

-- ---- lent tables

abbrev pub tables_in : Tables → LentTables
tables_in t = tables_of t.presence.now t.rows.now t.exclusive_presence.now t.exclusives.now

-- a plan and the tables lent for it
abbrev pub plan_tables : Plan → Tables → PlanSlices
plan_tables p t = record { plan = p; tables = tables_in t }

-- A call puts no other slice in the place of one: so its caller finds in its own slices what the tables hold after it.
pub record SameSlices (old new : Tables) : Type 0 where
  pub presence : new.presence.ghost_name ≡ old.presence.ghost_name
  pub rows : new.rows.ghost_name ≡ old.rows.ghost_name
  pub exclusive_presence : new.exclusive_presence.ghost_name ≡ old.exclusive_presence.ghost_name
  pub exclusives : new.exclusives.ghost_name ≡ old.exclusives.ghost_name

-- ---- what a pass leaves

-- the edit that four numbers ask for
abbrev pub edit_of : ℕ → ℤ → ℤ → ℤ → Edit
edit_of head x y radius = record { head = head; x = x; y = y; radius = radius }

-- the edited head's own bit, and the heads that it meets before or after
abbrev pub change_of : Plan → Edit → Change
change_of p e = record { own = 2 ^ e.head; met = met_by p e }

-- both tables with rows 0 to 2^n - 1 written, the exclusives from the rows as they are written
abbrev pub tables_written : ℕ → (ℕ → Row) → LentTables → LentTables
tables_written n rows t = record {
  rows = with_rows rows (2 ^ n) t.rows;
  exclusives = with_rows (to_exclusives.of n (row_at (with_rows rows (2 ^ n) t.rows))) (2 ^ n) t.exclusives;
}

-- a plan's afresh row over the sets of these bytes
abbrev pub afresh_over : Method → Plan → List ℕ → ℕ → Row
afresh_over m p sets S = afresh_row m.has_box (m.box_area p.ground) (area_at m p) (stands sets) S

-- row S after an edit, over the sets before and after of these bytes
abbrev pub edited_over : Method → Plan → Edit → List ℕ → List ℕ → (ℕ → Row) → ℕ → Row
edited_over m p e earlier later rows S =
    edited_row m.has_box (2 ^ e.head) (met_by p e) (area_at m (applied p e)) (stands earlier) (stands later) rows S
