-- A lent table of rows of so many numbers each, one row after another, and what stands in it once the supersets are
-- subtracted and nothing is clamped yet: absent rows and what is beyond stay. What functions promise one another; of
-- public contracts only that of to_unclamped_areas cites it.
use Rattle.std.specs.Prelude.{ℕ, suc, ◌+◌, ◌*◌, ◌≤◌, ◌<◌, ◌^◌, Bool, false, cond}
use Rattle.std.specs.Prelude.{List, [], ◌∷◌, ◌≡◌, Float, get_or, length, drop}
use Rattle.std.specs.Float.{nan}
use Rattle.lists.specs.Every.{Every}
use Rattle.masks.specs.Mask.{subset}
use Rattle.binary64.specs.Constants.{zero64}
use Rattle.binary64.specs.Floats.{◌+ᶠ◌, ◌-ᶠ◌}
use Rattle.exclusive.specs.RowOrder.{row_order}
use Rattle.exclusive.specs.Exclusive.{sum_onto, unclamped}

-- number k of row S
abbrev pub entry : ℕ → List Float → ℕ → ℕ → Float
entry width numbers k S = get_or numbers (S * width + k) nan

-- the sum of number k of each row of a list
abbrev pub row_sums : ℕ → List Float → List ℕ → ℕ → Float
row_sums width numbers rows k = sum_onto (entry width numbers k) zero64 rows

-- From the first k numbers of row S their sums are subtracted. All other numbers stay.
pub record RowSubtracted (width S : ℕ) (sums : ℕ → Float) (k : ℕ) (before after : List Float) : Type 0 where
  pub own : (j : ℕ) → j < k → entry width after j S ≡ entry width before j S -ᶠ sums j
  pub others : (T j : ℕ) → (T ≡ S → k ≤ j) → j < width → entry width after j T ≡ entry width before j T
  pub rest : (m : ℕ) → suc S * width ≤ m → drop m after ≡ drop m before
  pub many : length after ≡ length before

-- Each number of each present row is its unclamped exclusive. Absent rows and what is beyond row 2^n - 1 stay.
pub record Subtracted (n : ℕ) (present : ℕ → Bool) (width : ℕ) (before after : List Float) : Type 0 where
  pub rows : (k : ℕ) → k < width
      → Every (λ S. entry width after k S ≡ unclamped n present (entry width before k) S) (row_order present n)
  pub absent : (S k : ℕ) → present S ≡ false → k < width → entry width after k S ≡ entry width before k S
  pub rest : drop (2 ^ n * width) after ≡ drop (2 ^ n * width) before
  pub many : length after ≡ length before

-- ---- levels: the rows from place lo to place hi of the order, all of as many heads

-- f of each row that passes, and +0 of the others, added one after another
unfoldable pub sum_all : (ℕ → Float) → (ℕ → Bool) → Float → List ℕ → Float
sum_all f p sum [] = sum
sum_all f p sum (T ∷ rest) = sum_all f p (sum +ᶠ cond (p T) (f T) zero64) rest

-- To the sum of each row of the level f of the rows that are its supersets is added, one after another, and +0 of the
-- others. The sums of the rows before the level stay.
pub record LevelAdded (order : List ℕ) (lo hi : ℕ) (f : ℕ → Float) (rows : List ℕ)
    (before after : List Float) : Type 0 where
  pub level : (i : ℕ) → lo ≤ i → i < hi
      → get_or after i nan ≡ sum_all f (subset 64 (get_or order i 0)) (get_or before i nan) rows
  pub lower : (i : ℕ) → i < lo → get_or after i nan ≡ get_or before i nan
  pub many : length after ≡ length before
