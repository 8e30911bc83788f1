-- The areas of the rows of a pass, written in place: those that are wanted are worked out, every other number stays.
use Rattle.std.specs.Prelude.{ℕ, min, ◌^◌, Bool, cond, Option, None, Some, List, Float, get_or, length}
use Rattle.std.specs.Float.{nan}
use Rattle.lists.specs.Written.{written}
use Rattle.geometry.specs.declared.bounds.Bounds.{Bounds}
use Rattle.intersections.specs.Members.{Member}
use Rattle.outline.specs.Area.{open_area}
use Rattle.clip.specs.Area.{clipped_area}

-- the area of a set's members, in the box or without it
abbrev pub area_of : Option Bounds → List Member → Float
area_of None ms = open_area ms
area_of (Some box) ms = clipped_area box ms

-- how many rows n circles have: of more than ten the first ten count
abbrev pub rows_of : ℕ → ℕ
rows_of n = 2 ^ min n 10

-- the number of row S after the pass: worked out where it is wanted, else the one that stood there
abbrev pub number_at : (ℕ → Bool) → (ℕ → Float) → List Float → ℕ → Float
number_at wanted area numbers S = cond (wanted S) (area S) (get_or numbers S nan)

-- all rows for which the slice has a place; what stands beyond stays
abbrev pub areas_written : ℕ → (ℕ → Bool) → (ℕ → Float) → List Float → List Float
areas_written n wanted area numbers = written (number_at wanted area numbers) (min (rows_of n) (length numbers)) numbers
