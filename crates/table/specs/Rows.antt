-- The rows that one pass over lent slices writes, by the bytes of the sets before and after: the rule of
-- `regions`, specs/Edit.antt.
use Rattle.std.specs.Prelude.{ℕ, zero, suc, Bool, false, ◌&&◌, List, Float}
use Rattle.std.specs.Option.{is_some}
use Rattle.masks.specs.Presence.{stands}
use Rattle.regions.specs.Edit.{Row, reworked, edited_row}
use Rattle.regions.specs.Slices.{slices_of, row_at}
use Rattle.table.specs.declared.ready.Ready.{Ready}
use Rattle.table.specs.declared.rows.Change.{Change}
use Rattle.table.specs.Ready.{area_of}

-- row S, from the bytes of the sets and the slices as they were
abbrev pub rows_written : Ready → Change → List ℕ → List ℕ → List ℕ → List Float → ℕ → Row
rows_written r c before after bytes numbers S =
    edited_row (is_some r.bounds) c.own c.met (area_of r) (stands before) (stands after)
    (row_at (slices_of bytes numbers)) S

-- row S is worked out: that of a set after the edit, if the edit reworks it. Row 0 never is.
abbrev pub worked_out : Change → (ℕ → Bool) → (ℕ → Bool) → ℕ → Bool
worked_out c before after zero = false
worked_out c before after (suc S) = after (suc S) && reworked c.own c.met before (suc S)
