-- One row of the table, worked out afresh, and after an edit of one head: demand 3's rule, which rows are worked out and
-- which keep the number handed in. Over any geometry and any list of sets.
use Rattle.std.specs.Prelude.{ℕ, zero, suc, Bool, false, not, ◌&&◌, ◌||◌, cond, List, [], ◌∷◌, eqb, Float}
use Rattle.std.specs.Int.Bits.{bit_and}
use Rattle.binary64.specs.Constants.{zero64}
use Rattle.heads.specs.declared.Head.{Head}
use Rattle.heads.specs.Pair.{meets_of}
use Rattle.masks.specs.Mask.{gather}
use Rattle.intersections.specs.Members.{is_single}

-- A row of the table: its presence byte and its number.
pub record Row : Type 0 where
  pub byte : ℕ
  pub number : Float

-- "Any other row has byte 0 and +0."
abbrev pub absent : Row
absent = record { byte = 0; number = zero64 }

abbrev pub present : Float → Row
present v = record { byte = 1; number = v }

-- "Row 0, always present where there is a box": its row with a number, or none without a box.
abbrev pub box_row : Bool → Float → Row
box_row has_box v = cond has_box (present v) absent

-- Document 01, "Afresh": "Row 0 has byte 1 and the box area. A row whose mask is among the plan's sets has byte 1 and its
-- area as defined. Any other row has byte 0 and +0." Whether there is a box, its area, the area of a set and the sets are handed in.
unfoldable pub afresh_row : Bool → Float → (ℕ → Float) → (ℕ → Bool) → ℕ → Row
afresh_row has_box box area sets zero = box_row has_box box
afresh_row has_box box area sets (suc S) = cond (sets (suc S)) (present (area (suc S))) absent

-- two sets have a head in common
abbrev pub overlaps : ℕ → ℕ → Bool
overlaps S U = not (eqb (bit_and S U) 0)

-- a head at one of these places meets the head b
unfoldable pub meets_any : List Head → Head → Bool
meets_any [] b = false
meets_any (v ∷ vs) b = meets_of v b || meets_any vs b

-- "A head was met before or after if the rule of meeting above holds with head k's old or its new values." The values of
-- head k are a list: the old and the new ones for a move, one of the two where there is no before or no after.
unfoldable pub met : List Head → (ℕ → Head) → ℕ → ℕ → ℕ
unfolding meets_any
met values h n k = gather n (λ j. not (eqb j k) && meets_any values (h j))

-- Which sets after an edit have their row worked out: those that have the edited head (its own bit), those that were no
-- set before ("newly present"), and those of two heads or more that have a head met before or after. A single is
-- worked out from its head alone, so whatever meets it leaves its row.
unfoldable pub reworked : ℕ → ℕ → (ℕ → Bool) → ℕ → Bool
reworked own met before S = overlaps S own || (not (before S) || (not (is_single S) && overlaps S met))

-- A row after an edit. Row 0, where there is a box, keeps its number; a row reworked has its area; "still present" and not reworked, it keeps the
-- number handed in, even a false one; no set any more, it is absent. The byte handed in is not read.
unfoldable pub edited_row : Bool → ℕ → ℕ → (ℕ → Float) → (ℕ → Bool) → (ℕ → Bool) → (ℕ → Row) → ℕ → Row
unfolding reworked
edited_row has_box own met area before after rows zero = box_row has_box (rows zero).number
edited_row has_box own met area before after rows (suc S) =
    cond (after (suc S)) (present (cond (reworked own met before (suc S)) (area (suc S)) (rows (suc S)).number)) absent
