-- Which rows of a lent table are there: their presence bytes, and absent rows cleared.
use Rattle.std.specs.Prelude.{ℕ, zero, suc, min, Bool, cond, List, Float, get_or, length}
use Rattle.std.specs.Float.{nan}
use Rattle.binary64.specs.Constants.{zero64}
use Rattle.lists.specs.Written.{written}
use Rattle.masks.specs.Presence.{byte}
use Rattle.sums.specs.Rows.{rows_of}

-- row S is there: row 0 where there is a box, any other where its mask is a set
abbrev pub among : Bool → (ℕ → Bool) → ℕ → Bool
among has_box sets zero = has_box
among has_box sets (suc S) = sets (suc S)

-- the presence bytes of all rows for which the slice has a place
abbrev pub bytes_written : ℕ → (ℕ → Bool) → List ℕ → List ℕ
bytes_written n there bytes = written (λ S. byte (there S)) (min (rows_of n) (length bytes)) bytes

-- "an absent row holds +0"; a row that is there keeps its number
abbrev pub absent_cleared : ℕ → (ℕ → Bool) → List Float → List Float
absent_cleared n there numbers =
    written (λ S. cond (there S) (get_or numbers S nan) zero64) (min (rows_of n) (length numbers)) numbers
