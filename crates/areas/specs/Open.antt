-- The rows of a plan without its box: the open area as an area of members, so that what is proved of rows holds of open rows.
use Rattle.std.specs.Prelude.{ℕ, Bool, false, List, [], ◌∷◌, ◌≡◌, refl, Float}
use Rattle.binary64.specs.Constants.{zero64}
use Rattle.geometry.specs.declared.circle.Circle.{Circle}
use Rattle.geometry.specs.declared.point.Point.{Point}
use Rattle.plan.specs.declared.Plan.{Plan}
use Rattle.intersections.specs.Points.{Rule, rule}
use Rattle.boundary.specs.Outline.{outline}
use Rattle.outline.specs.Area.{open_area, open_gradient}
use Rattle.regions.specs.Edit.{absent, afresh_row}
use Rattle.regions.specs.Table.{Exclusives, Method, members_by, plan_members, area_at, afresh}

-- the open area of one member alone comes from its full circle
pub open_alone : (c : Circle) (ps qs : List Point) → open_area (record { circle = c; points = ps } ∷ []) ≡ open_area (record { circle = c; points = qs } ∷ [])
unfolding open_area outline
open_alone c ps qs = refl

-- How a plan's table of open rows is worked out, for any list of sets and any exclusives. There is no box, and so no row 0.
abbrev pub open_method : (Plan → ℕ → Bool) → Exclusives → Method
open_method sets exclusives =
    record {
      area = λ g. open_area;
      alone = λ g. open_alone;
      has_box = false;
      box_area = λ g. zero64;
      sets = sets;
      exclusives = exclusives;
    }

-- without a box row 0 is absent
pub open_row_zero : (sets : Plan → ℕ → Bool) (exclusives : Exclusives) (p : Plan) → afresh (open_method sets exclusives) p 0 ≡ absent
unfolding afresh_row
open_row_zero sets exclusives p = refl

-- the gradient of row S by position: three entries a member, in the order of the members
abbrev pub open_gradient_row_by : Rule → Plan → ℕ → List Float
open_gradient_row_by r p S = open_gradient (members_by r p S)

abbrev pub open_gradient_row : Plan → ℕ → List Float
open_gradient_row = open_gradient_row_by rule

-- The area that the code works out for a set of a plan's heads is the row of that set.
pub open_row : (sets : Plan → ℕ → Bool) (exclusives : Exclusives) (p : Plan) (S : ℕ) → area_at (open_method sets exclusives) p S ≡ open_area (plan_members p S)
open_row sets exclusives p S = refl
