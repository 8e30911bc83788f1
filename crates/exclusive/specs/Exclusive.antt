-- Exclusive areas: document 01, "from the last row to the first, minus the sum, in row order, of the not yet clamped
-- exclusives of present strict supersets. .. Clamping comes last." Over any list of sets and any areas.
-- proofs/Unclamped.antt proves the sentence as an equation: `unclamped_is`.
use Prim.Native.Nat.{ℕ, zero, suc, min, ◌<◌, ◌^◌}
use Rattle.std.specs.Prelude.{Bool, cond, List, [], ◌∷◌, ◌≡◌, eqb, ltb, Float, get_or, length}
use Rattle.std.specs.Prelude.{Result, Ok, Err}
use Rattle.std.specs.Float.{nan}
use Rattle.lists.specs.Lists.{keep}
use Rattle.lists.specs.Written.{written}
use Rattle.masks.specs.Mask.{strict_subset}
use Rattle.masks.specs.Presence.{stands}
use Rattle.binary64.specs.Constants.{zero64}
use Rattle.binary64.specs.Functions.{clamp_to_zero}
use Rattle.binary64.specs.Floats.{◌+ᶠ◌, ◌-ᶠ◌}
use Rattle.exclusive.specs.declared.areas.RowsError.{RowsError}
use Rattle.exclusive.specs.declared.areas.RowsError.TheVariants.{TooManyHeads, TablesTooShort}
use Rattle.exclusive.specs.RowOrder.{row_order}

-- f of each row of a list, added one after another
unfoldable pub sum_onto : (ℕ → Float) → Float → List ℕ → Float
sum_onto f sum [] = sum
sum_onto f sum (T ∷ rest) = sum_onto f (sum +ᶠ f T) rest

module _ (n : ℕ) (present : ℕ → Bool) where
  -- the present strict supersets of S, in row order
  unfoldable pub above : ℕ → List ℕ
  unfolding keep row_order
  above S = keep (strict_subset n S) (row_order present n)

  module _ (area : ℕ → Float) where
    -- what is subtracted from the area of S, d levels of supersets deep
    unfoldable pub subtracted : ℕ → ℕ → Float
    unfolding sum_onto above
    subtracted zero S = zero64
    subtracted (suc d) S = sum_onto (λ T. area T -ᶠ subtracted d T) zero64 (above S)

    -- The exclusive area not yet clamped. A strict superset has more heads, so n levels are all there are.
    unfoldable pub unclamped : ℕ → Float
    unfolding subtracted
    unclamped S = area S -ᶠ subtracted n S

    -- "Clamping comes last." "an absent row holds +0"
    abbrev pub exclusive_row : ℕ → Float
    exclusive_row S = cond (present S) (clamp_to_zero (unclamped S)) zero64

-- "minus the sum, in row order, of the not yet clamped exclusives of present strict supersets"
abbrev pub UnclampedIs : Type 0
UnclampedIs =
    (n : ℕ) (present : ℕ → Bool) (area : ℕ → Float) (S : ℕ) → S < 2 ^ n
    → unclamped n present area S ≡ area S -ᶠ sum_onto (unclamped n present area) zero64 (above n present S)

-- ---- the call over lent tables

-- Whether tables of so many rows are taken: not where n is above 10, and not where there are fewer than 2^n rows.
abbrev pub rows_check : ℕ → ℕ → Result Unit RowsError
rows_check n rows = cond (ltb 10 n) (Err TooManyHeads) (cond (ltb rows (2 ^ n)) (Err TablesTooShort) (Ok tt))

-- Document 01's number of an answer: 0 where the tables are taken, 2 for too many heads, 7 for tables too short.
abbrev pub rows_number : Result Unit RowsError → ℕ
rows_number (Ok x) = 0
rows_number (Err TooManyHeads) = 2
rows_number (Err TablesTooShort) = 7

-- Document 01's number for tables of so many rows.
abbrev pub rows_answer : ℕ → ℕ → ℕ
rows_answer n rows = rows_number (rows_check n rows)

-- the answer, from presence bytes, areas and the table of exclusives
abbrev pub exclusive_answer : ℕ → List ℕ → List Float → List Float → ℕ
exclusive_answer n bytes areas exclusives = rows_answer n (min (length bytes) (min (length areas) (length exclusives)))

-- The table of exclusives: where it is taken rows 0 to 2^n - 1 are written and "bytes beyond .. stay", otherwise
-- nothing is written.
abbrev pub exclusive_table : ℕ → List ℕ → List Float → List Float → List Float
exclusive_table n bytes areas exclusives =
    cond (eqb (exclusive_answer n bytes areas exclusives) 0)
    (written (exclusive_row n (stands bytes) (λ S. get_or areas S nan)) (2 ^ n) exclusives)
    exclusives

-- The same in place of the areas.
abbrev pub exclusives_in_place : ℕ → List ℕ → List Float → List Float
exclusives_in_place n bytes areas =
    cond (eqb (rows_answer n (min (length bytes) (length areas))) 0)
    (written (exclusive_row n (stands bytes) (λ S. get_or areas S nan)) (2 ^ n) areas)
    areas
