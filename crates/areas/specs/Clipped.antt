-- The rows of a plan in its box: the clipped area as an area of members, so that what is proved of rows holds of rows in the box.
use Rattle.std.specs.Prelude.{ℕ, Bool, true, List, [], ◌∷◌, ◌≡◌, refl}
use Rattle.geometry.specs.Rectangle.{area, bounds}
use Rattle.geometry.specs.declared.bounds.Bounds.{Bounds}
use Rattle.geometry.specs.declared.circle.Circle.{Circle}
use Rattle.geometry.specs.declared.point.Point.{Point}
use Rattle.plan.specs.declared.Plan.{Plan}
use Rattle.drawn.specs.Drawn.{box_of}
use Rattle.intersections.specs.Points.{Rule, rule}
use Rattle.boundary.specs.Outline.{outline}
use Rattle.clip.specs.Area.{clipped_area}
use Rattle.clip.specs.Gradient.{WithGradient, clipped_gradient}
use Rattle.regions.specs.Edit.{present, afresh_row}
use Rattle.regions.specs.Table.{Exclusives, Method, members_by, plan_members, area_at, afresh}

-- the area in a box of one member alone comes from its full circle
pub clipped_alone : (box : Bounds) (c : Circle) (ps qs : List Point)
    → clipped_area box (record { circle = c; points = ps } ∷ []) ≡ clipped_area box (record { circle = c; points = qs } ∷ [])
unfolding clipped_area outline
clipped_alone box c ps qs = refl

-- How a plan's table of rows in its box is worked out, for any list of sets and any exclusives: row 0 is the box's area.
abbrev pub clipped_method : (Plan → ℕ → Bool) → Exclusives → Method
clipped_method sets exclusives =
    record {
      area = λ g. clipped_area (bounds (box_of g));
      alone = λ g. clipped_alone (bounds (box_of g));
      has_box = true;
      box_area = λ g. area (box_of g);
      sets = sets;
      exclusives = exclusives;
    }

-- "Row 0 has byte 1 and the box area."
pub clipped_row_zero : (sets : Plan → ℕ → Bool) (exclusives : Exclusives) (p : Plan)
    → afresh (clipped_method sets exclusives) p 0 ≡ present (area (box_of p.ground))
unfolding afresh_row
clipped_row_zero sets exclusives p = refl

-- the area of row S and its gradient by position: three entries a member, in the order of the members, then the box's four
abbrev pub clipped_gradient_row_by : Rule → Plan → ℕ → WithGradient
clipped_gradient_row_by r p S = clipped_gradient (bounds (box_of p.ground)) (members_by r p S)

abbrev pub clipped_gradient_row : Plan → ℕ → WithGradient
clipped_gradient_row = clipped_gradient_row_by rule

-- The area inside the box that the code works out for a set of a plan's heads is the row of that set.
pub clipped-row : (sets : Plan → ℕ → Bool) (exclusives : Exclusives) (p : Plan) (S : ℕ)
    → area_at (clipped_method sets exclusives) p S ≡ clipped_area (bounds (box_of p.ground)) (plan_members p S)
clipped-row sets exclusives p S = refl
