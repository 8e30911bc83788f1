-- The rows of circles with their meeting points, in a box or without one, for any list of sets. A gradient is by head
-- here: three numbers a head, by x, y and radius, then in a box four by its centre x, centre y, ln(width·height) and
-- ln(width/height), worked out as the Rust does, over the arcs of the set's outline under head numbers.
use Rattle.std.specs.Prelude.{ℕ, ◌+◌, ◌*◌, Bool, true, false, List, map, Float, length, replicate, set}
use Rattle.std.specs.Prelude.{◌≡◌, Option, None, Some, is_some, option_map, unwrap_or}
use Rattle.binary64.specs.Constants.{zero64}
use Rattle.geometry.specs.Rectangle.{area, bounds}
use Rattle.geometry.specs.declared.bounds.Bounds.{Bounds}
use Rattle.geometry.specs.declared.circle.Circle.{Circle}
use Rattle.geometry.specs.declared.rectangle.Rectangle.{Rectangle}
use Rattle.intersections.specs.declared.points.IntersectionPoint.{IntersectionPoint}
use Rattle.intersections.specs.Members.{heads_of, circle_at, members_of}
use Rattle.intersections.specs.Heads.{first_ten}
use Rattle.intersections.specs.Points.{collected}
use Rattle.boundary.specs.Set.{region_arcs}
use Rattle.outline.specs.Area.{area_of, add_gradient, open_area}
use Rattle.clip.specs.Area.{clipped_area}
use Rattle.clip.specs.Gradient.{WithGradient, with_gradient, clipped_with_gradient}
use Rattle.sums.specs.Rows.{area_of as area_in}
use Rattle.sums.specs.Gradients.{row_with}
use Rattle.diagram.specs.declared.drawing.Drawing.{Drawing}
use Rattle.diagram.specs.Rows.{Rows, Slopes}

module _ (circles : List Circle) (points : List IntersectionPoint) where
  -- the area that the heads of a set water together, without a box and in one, and its gradient by head, added to a
  -- gradient
  abbrev pub open_onto : ℕ → List Float → WithGradient
  open_onto S g =
      with_gradient (area_of circles (region_arcs circles points S))
      (add_gradient circles g (region_arcs circles points S))

  abbrev pub clipped_onto : Rectangle → ℕ → List Float → WithGradient
  clipped_onto box S g =
      clipped_with_gradient (bounds box) circles (map (circle_at circles) (heads_of (length circles) S))
      (region_arcs circles points S) g

  -- three numbers a head, and the box's four
  abbrev pub open_width : ℕ
  open_width = 3 * length circles

  abbrev pub clipped_width : ℕ
  clipped_width = length circles * 3 + 4

  module _ (sets : ℕ → Bool) where
    -- the rows without a box: there is no row 0
    abbrev pub open_rows : Rows
    open_rows =
        record { has_box = false; box_area = zero64; sets = sets; area = λ S. open_area (members_of circles points S) }

    -- the rows in a box: row 0 has the box's area
    abbrev pub clipped_rows : Rectangle → Rows
    clipped_rows box = record {
      has_box = true;
      box_area = area box;
      sets = sets;
      area = λ S. clipped_area (bounds box) (members_of circles points S);
    }

    -- The same with gradients. The area that comes with a gradient in a box is summed in another order.
    abbrev pub open_slopes : Slopes
    open_slopes = record {
      rows = record {
        has_box = false;
        box_area = zero64;
        sets = sets;
        area = λ S. (open_onto S (replicate open_width zero64)).sum;
      };
      width = open_width;
      box_row = replicate open_width zero64;
      row = λ S. (open_onto S (replicate open_width zero64)).grad;
    }

    -- The gradient of row 0 is all +0 but for the box's area at its third box entry.
    abbrev pub clipped_slopes : Rectangle → Slopes
    clipped_slopes box = record {
      rows = record {
        has_box = true;
        box_area = area box;
        sets = sets;
        area = λ S. (clipped_onto box S (replicate clipped_width zero64)).sum;
      };
      width = clipped_width;
      box_row = set (replicate clipped_width zero64) (length circles * 3 + 2) (area box);
      row = λ S. (clipped_onto box S (replicate clipped_width zero64)).grad;
    }

-- ---- in a box where there is one

abbrev pub box_row_in : Option Rectangle → ℕ → ℕ → List Float
box_row_in None n width = replicate width zero64
box_row_in (Some box) n width = set (replicate width zero64) (n * 3 + 2) (area box)

abbrev pub width_in : Option Rectangle → ℕ → ℕ
width_in None n = 3 * n
width_in (Some box) n = n * 3 + 4

-- ---- as the code holds it

-- d is drawn from these circles, in the box where there is one
pub record Of (cs : List Circle) (box : Option Rectangle) (d : Drawing) : Type 0 where
  pub circles : d.circles.now ≡ cs
  pub points : d.points.now ≡ collected (first_ten cs)
  pub container : d.container ≡ box

-- the circles that are read: of more than ten, which are refused, the first ten
abbrev pub circles_of : Drawing → List Circle
circles_of d = first_ten d.circles.now

abbrev pub points_of : Drawing → List IntersectionPoint
points_of d = d.points.now

abbrev pub count_of : Drawing → ℕ
count_of d = length d.circles.now

-- whether there is a box, and its edges
abbrev pub has_box : Drawing → Bool
has_box d = is_some d.container

abbrev pub bounds_of : Drawing → Option Bounds
bounds_of d = option_map bounds d.container

-- the area of a set, and the same as it comes with its gradient, onto so many zeros
abbrev pub set_area : Drawing → ℕ → Float
set_area d S = area_in (bounds_of d) (members_of (circles_of d) (points_of d) S)

abbrev pub set_row : ℕ → Drawing → ℕ → WithGradient
set_row width d = row_with (bounds_of d) (circles_of d) (points_of d) width

-- what row 0 has, and its gradient; how many numbers a gradient has
abbrev pub box_area_of : Drawing → Float
box_area_of d = unwrap_or (option_map area d.container) zero64

abbrev pub box_row_of : ℕ → Drawing → List Float
box_row_of width d = box_row_in d.container (length (circles_of d)) width

abbrev pub width_of : Drawing → ℕ
width_of d = width_in d.container (length (circles_of d))

-- the rows, and the rows with gradients of some width
abbrev pub rows_of : Drawing → (ℕ → Bool) → Rows
rows_of d sets = record { has_box = has_box d; box_area = box_area_of d; sets = sets; area = set_area d }

abbrev pub slopes_by : ℕ → Drawing → (ℕ → Bool) → Slopes
slopes_by width d sets = record {
  rows = record { has_box = has_box d; box_area = box_area_of d; sets = sets; area = λ S. (set_row width d S).sum };
  width = width;
  box_row = box_row_of width d;
  row = λ S. (set_row width d S).grad;
}

abbrev pub slopes_of : Drawing → (ℕ → Bool) → Slopes
slopes_of d = slopes_by (width_of d) d
