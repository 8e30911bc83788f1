-- The areas of the rows of a pass with their gradients, written in place: those that are wanted are worked out, every
-- other number stays.
use Rattle.std.specs.Prelude.{ℕ, min, ◌*◌, ◌/◌, Bool, cond, Option, None, Some, List, map, eqb, Float}
use Rattle.std.specs.Prelude.{length, replicate, take, drop}
use Rattle.std.specs.Float.{nan}
use Rattle.lists.specs.Written.{written}
use Rattle.binary64.specs.Constants.{zero64}
use Rattle.geometry.specs.declared.bounds.Bounds.{Bounds}
use Rattle.geometry.specs.declared.circle.Circle.{Circle}
use Rattle.exclusive.proofs.TableRows.{by_row}
use Rattle.intersections.specs.declared.points.IntersectionPoint.{IntersectionPoint}
use Rattle.intersections.specs.Members.{heads_of, circle_at}
use Rattle.boundary.specs.Set.{region_arcs}
use Rattle.outline.specs.Area.{area_of, add_gradient}
use Rattle.clip.specs.Gradient.{WithGradient, with_gradient, clipped_with_gradient}
use Rattle.sums.specs.Rows.{rows_of, number_at}

-- the area of S as it comes with its gradient by head, which is added to one: without a box, in it, and either
abbrev pub open_onto : List Circle → List IntersectionPoint → ℕ → List Float → WithGradient
open_onto circles points S g =
    with_gradient (area_of circles (region_arcs circles points S))
    (add_gradient circles g (region_arcs circles points S))

abbrev pub clipped_onto : Bounds → List Circle → List IntersectionPoint → ℕ → List Float → WithGradient
clipped_onto box circles points S g =
    clipped_with_gradient box circles (map (circle_at circles) (heads_of (length circles) S))
    (region_arcs circles points S) g

abbrev pub set_onto : Option Bounds → List Circle → List IntersectionPoint → ℕ → List Float → WithGradient
set_onto None circles points S g = open_onto circles points S g
set_onto (Some box) circles points S g = clipped_onto box circles points S g

-- onto a row of +0
abbrev pub row_anew : (ℕ → List Float → WithGradient) → ℕ → ℕ → WithGradient
row_anew onto width S = onto S (replicate width zero64)

abbrev pub row_with : Option Bounds → List Circle → List IntersectionPoint → ℕ → ℕ → WithGradient
row_with bounds circles points width S = set_onto bounds circles points S (replicate width zero64)

-- ---- written in place

-- how many rows of so many numbers have a place
abbrev pub rows_held : ℕ → ℕ → ℕ
rows_held width places = cond (eqb width 0) 1024 (places / width)

-- how many rows of n circles have a place in both slices
abbrev pub rows_in : ℕ → ℕ → List Float → List Float → ℕ
rows_in n width areas gradients = min (min (rows_of n) (length areas)) (rows_held width (length gradients))

-- row S as it stands
abbrev pub row_at : ℕ → List Float → ℕ → List Float
row_at width numbers S = take width (drop (S * width) numbers)

-- row S after the pass: worked out where it is wanted, else the one that stood there
abbrev pub row_after : (ℕ → Bool) → (ℕ → WithGradient) → ℕ → List Float → ℕ → List Float
row_after wanted row width numbers S = cond (wanted S) (row S).grad (row_at width numbers S)

-- the first so many rows; what stands beyond stays
abbrev pub areas_to : (ℕ → Bool) → (ℕ → WithGradient) → ℕ → List Float → List Float
areas_to wanted row count areas = written (number_at wanted (λ S. (row S).sum) areas) count areas

abbrev pub rows_to : (ℕ → Bool) → (ℕ → WithGradient) → ℕ → ℕ → List Float → List Float
rows_to wanted row width count gradients =
    written (by_row width nan (row_after wanted row width gradients)) (count * width) gradients
