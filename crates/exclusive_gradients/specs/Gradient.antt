-- The exclusives with their gradients (the Rust's to_exclusive_areas_and_gradients). Each entry of a gradient goes the
-- way of the areas, by itself; "the gradient form only replaces values below 0.0 and then zeroes that gradient row". So
-- a NaN and a -0 stay, unlike in the form without gradients.
use Rattle.std.specs.Prelude.{ℕ, min, ◌*◌, ◌/◌, ◌%◌, ◌^◌, Bool, not, cond, ◌&&◌}
use Rattle.std.specs.Prelude.{List, eqb, ltb, Float, get_or, length, Result, Ok, Err, is_ok}
use Rattle.std.specs.Float.{nan}
use Rattle.std.specs.Float.Ieee.{lt}
use Rattle.lists.specs.Written.{written}
use Rattle.masks.specs.Presence.{stands}
use Rattle.binary64.specs.Constants.{zero64}
use Rattle.exclusive.specs.declared.areas.RowsError.{RowsError}
use Rattle.exclusive.specs.declared.areas.RowsError.TheVariants.{TablesTooShort}
use Rattle.exclusive.specs.Exclusive.{unclamped, rows_check, rows_number}
use Rattle.exclusive.specs.Entries.{entry}

module _ (n : ℕ) (present : ℕ → Bool) (area : ℕ → Float) where
  -- the exclusive area of S is below zero
  abbrev pub replaced : ℕ → Bool
  replaced S = lt (unclamped n present area S) zero64

  -- +0 where the row is absent or replaced, and otherwise the row's unclamped exclusive of some numbers, one a row
  abbrev pub unless_replaced : (ℕ → Float) → ℕ → Float
  unless_replaced number S = cond (present S) (cond (replaced S) zero64 (unclamped n present number S)) zero64

  -- the area that goes with the gradient
  abbrev pub exclusive_with_gradient : ℕ → Float
  exclusive_with_gradient = unless_replaced area

-- ---- the call over lent tables: areas and gradients on entry, exclusives and their gradients on exit

-- Whether tables of so many rows and a gradient table of so many numbers are taken: not where those are fewer than 2^n
-- times the width.
abbrev pub width_check : ℕ → ℕ → ℕ → ℕ → Result Unit RowsError
width_check n width rows count =
    let check = rows_check n rows in
    cond (is_ok check) (cond (ltb count (2 ^ n * width)) (Err TablesTooShort) (Ok tt)) check

-- Document 01's number for them.
abbrev pub width_answer : ℕ → ℕ → ℕ → ℕ → ℕ
width_answer n width rows count = rows_number (width_check n width rows count)

abbrev pub gradient_answer : ℕ → ℕ → List ℕ → List Float → List Float → ℕ
gradient_answer n width bytes areas gradients =
    width_answer n width (min (length bytes) (length areas)) (length gradients)

-- the areas in place
abbrev pub exclusive_areas : ℕ → ℕ → List ℕ → List Float → List Float → List Float
exclusive_areas n width bytes areas gradients =
    cond (eqb (gradient_answer n width bytes areas gradients) 0)
    (written (exclusive_with_gradient n (stands bytes) (λ S. get_or areas S nan)) (2 ^ n) areas)
    areas

-- number x of the gradients: entry x % width of row x / width
abbrev pub gradient_entry : ℕ → ℕ → List ℕ → List Float → List Float → ℕ → Float
gradient_entry n width bytes areas gradients x =
    unless_replaced n (stands bytes) (λ S. get_or areas S nan) (entry width gradients (x % width)) (x / width)

-- the gradients in place
abbrev pub exclusive_gradients : ℕ → ℕ → List ℕ → List Float → List Float → List Float
exclusive_gradients n width bytes areas gradients =
    cond (eqb (gradient_answer n width bytes areas gradients) 0)
    (written (gradient_entry n width bytes areas gradients) (2 ^ n * width) gradients)
    gradients

-- ---- what the private functions promise one another

-- A row keeps its numbers where it is present and its area, its supersets' subtracted, is not below zero.
abbrev pub kept_row : List ℕ → List Float → ℕ → Bool
kept_row bytes areas S = stands bytes S && not (lt (get_or areas S nan) zero64)
