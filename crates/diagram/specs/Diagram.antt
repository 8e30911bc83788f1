-- What the calls under the Rust's names leave in lent slices: of circles alone, and of circles in a box. Taken, rows 0
-- to 2^n - 1 are written; refused, by 2 for n above 10 and by 7 for tables too short, nothing is.
use Rattle.std.specs.Prelude.{ℕ, min, cond, List, eqb, Float, length, Result}
use Rattle.masks.specs.Presence.{stands}
use Rattle.geometry.specs.declared.circle.Circle.{Circle}
use Rattle.geometry.specs.declared.rectangle.Rectangle.{Rectangle}
use Rattle.intersections.specs.Heads.{first_ten}
use Rattle.intersections.specs.Points.{collected}
use Rattle.sets.specs.Regions.{set_bytes}
use Rattle.exclusive.specs.declared.areas.RowsError.{RowsError}
use Rattle.exclusive.specs.Exclusive.{rows_check, rows_answer}
use Rattle.exclusive_gradients.specs.Gradient.{width_check, width_answer}
use Rattle.diagram.specs.Rows.{Rows, Slopes, presence_written, exclusives_written, areas_written, slopes_written}
use Rattle.diagram.specs.Drawing.{open_rows, clipped_rows, open_slopes, clipped_slopes}

-- ---- the rows of circles: their sets are those that discover_regions finds. Of more than ten, which are refused, the
-- first ten are read.

abbrev pub open_diagram : List Circle → Rows
open_diagram circles =
    let cs = first_ten circles in open_rows cs (collected cs) (stands (set_bytes cs (collected cs)))

abbrev pub clipped_diagram : Rectangle → List Circle → Rows
clipped_diagram box circles =
    let cs = first_ten circles in clipped_rows cs (collected cs) (stands (set_bytes cs (collected cs))) box

abbrev pub open_with_gradients : List Circle → Slopes
open_with_gradients circles =
    let cs = first_ten circles in open_slopes cs (collected cs) (stands (set_bytes cs (collected cs)))

abbrev pub clipped_with_gradients : Rectangle → List Circle → Slopes
clipped_with_gradients box circles =
    let cs = first_ten circles in clipped_slopes cs (collected cs) (stands (set_bytes cs (collected cs))) box

-- ---- presence bytes and exclusives in two slices

module _ (n : ℕ) (rows : Rows) (bytes : List ℕ) (numbers : List Float) where
  -- whether they are taken, and the number that this has
  abbrev pub check : Result Unit RowsError
  check = rows_check n (min (length bytes) (length numbers))

  abbrev pub answer : ℕ
  answer = rows_answer n (min (length bytes) (length numbers))

  abbrev pub presence_left : List ℕ
  presence_left = cond (eqb answer 0) (presence_written n rows bytes) bytes

  abbrev pub exclusives_left : List Float
  exclusives_left = cond (eqb answer 0) (exclusives_written n rows numbers) numbers

-- ---- presence bytes, exclusives and their gradients in three slices

module _ (n : ℕ) (slopes : Slopes) (bytes : List ℕ) (numbers gradients : List Float) where
  abbrev pub check_with : Result Unit RowsError
  check_with = width_check n slopes.width (min (length bytes) (length numbers)) (length gradients)

  abbrev pub answer_with : ℕ
  answer_with = width_answer n slopes.width (min (length bytes) (length numbers)) (length gradients)

  abbrev pub presence_left_with : List ℕ
  presence_left_with = cond (eqb answer_with 0) (presence_written n slopes.rows bytes) bytes

  abbrev pub areas_left : List Float
  areas_left = cond (eqb answer_with 0) (areas_written n slopes numbers) numbers

  abbrev pub gradients_left : List Float
  gradients_left = cond (eqb answer_with 0) (slopes_written n slopes gradients) gradients
