-- The rows of a diagram, and their exclusives with and without gradients. Whether there is a box, which masks are sets,
-- and what the row of a set is are handed in: any list of sets, any areas.
use Rattle.std.specs.Prelude.{ℕ, zero, suc, ◌*◌, ◌/◌, ◌%◌, ◌^◌, Bool, cond, List, Float, get_or, replicate}
use Rattle.std.specs.Float.{nan}
use Rattle.lists.specs.Written.{written}
use Rattle.masks.specs.Presence.{byte}
use Rattle.binary64.specs.Constants.{zero64}
use Rattle.sums.specs.Presence.{among}
use Rattle.exclusive.specs.Exclusive.{exclusive_row}
use Rattle.exclusive_gradients.specs.Gradient.{unless_replaced, exclusive_with_gradient}

-- The rows before anything is subtracted: row 0, "always present where there is a box", has the box's area; the row of
-- a set has the set's.
pub record Rows : Type 0 where
  pub has_box : Bool
  pub box_area : Float
  pub sets : ℕ → Bool
  pub area : ℕ → Float

-- row S is there
abbrev pub is_there : Rows → ℕ → Bool
is_there r = among r.has_box r.sets

-- what stands in row S, and in an absent one
abbrev pub in_row : {A : Type 0} → Bool → (ℕ → Bool) → A → (ℕ → A) → A → ℕ → A
in_row has_box sets box row absent zero = cond has_box box absent
in_row has_box sets box row absent (suc S) = cond (sets (suc S)) (row (suc S)) absent

-- the area of row S: "an absent row holds +0"
abbrev pub area_at : Rows → ℕ → Float
area_at r = in_row r.has_box r.sets r.box_area r.area zero64

-- the exclusive area of row S of n heads
abbrev pub exclusive_at : ℕ → Rows → ℕ → Float
exclusive_at n r S = exclusive_row n (is_there r) (area_at r) S

-- ---- with gradients

-- The rows with a gradient each, of `width` numbers: of row 0 the box's, of a set the set's.
pub record Slopes : Type 0 where
  pub rows : Rows
  pub width : ℕ
  pub box_row : List Float
  pub row : ℕ → List Float

-- the gradient of row S: that of an absent row is +0 throughout
abbrev pub slopes_at : Slopes → ℕ → List Float
slopes_at g = in_row g.rows.has_box g.rows.sets g.box_row g.row (replicate g.width zero64)

-- the exclusive area of row S, as it comes with its gradient
abbrev pub exclusive_with : ℕ → Slopes → ℕ → Float
exclusive_with n g S = exclusive_with_gradient n (is_there g.rows) (area_at g.rows) S

-- number x of the gradients of the exclusives: entry x % width of row x / width
abbrev pub exclusive_slope : ℕ → Slopes → ℕ → Float
exclusive_slope n g x =
    unless_replaced n (is_there g.rows) (area_at g.rows) (λ S. get_or (slopes_at g S) (x % g.width) nan) (x / g.width)

-- ---- in lent slices: rows 0 to 2^n - 1 written, and "bytes beyond row 2^n - 1 stay"

abbrev pub presence_written : ℕ → Rows → List ℕ → List ℕ
presence_written n r bytes = written (λ S. byte (is_there r S)) (2 ^ n) bytes

abbrev pub exclusives_written : ℕ → Rows → List Float → List Float
exclusives_written n r numbers = written (exclusive_at n r) (2 ^ n) numbers

abbrev pub areas_written : ℕ → Slopes → List Float → List Float
areas_written n g numbers = written (exclusive_with n g) (2 ^ n) numbers

abbrev pub slopes_written : ℕ → Slopes → List Float → List Float
slopes_written n g numbers = written (exclusive_slope n g) (2 ^ n * g.width) numbers
