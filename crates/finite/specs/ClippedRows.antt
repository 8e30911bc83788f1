-- The rows of a taken plan in its box are finite, areas and gradients, with a bound: what is claimed, and proved in
-- proofs/ClippedRows.antt. A bound is a whole number j: `Most j 1074 x` says that x is finite and |x| ≤ j.
use Rattle.std.specs.Prelude.{◌≡◌, Bool, ℕ, ◌^◌, ◌≤◌, ◌<◌, Float, length, replicate}
use Rattle.binary64.specs.Constants.{zero64}
use Rattle.binary64.specs.Magnitude.{Most}
use Rattle.plan.specs.declared.Plan.{Plan}
use Rattle.plan.specs.Checks.{plan_answer}
use Rattle.plan.specs.Limits.{GroundWithin, Acceptable}
use Rattle.plan.specs.Table.{taken, gradient_width}
use Rattle.drawn.specs.Drawn.{plan_circles, box_of}
use Rattle.regions.specs.Table.{Exclusives, plan_members, afresh}
use Rattle.geometry.specs.Rectangle.{area, bounds}
use Rattle.intersections.specs.Points.{collected}
use Rattle.boundary.specs.Set.{region_arcs}
use Rattle.areas.specs.Scatter.{circles_in}
use Rattle.areas.specs.Clipped.{clipped_method, clipped_gradient_row}
use Rattle.clip.specs.Area.{clipped_area_of, clipped_area}
use Rattle.clip.specs.Gradient.{WithGradient, clipped_with_gradient}
use Rattle.finite.specs.Clipped.{GradientMost}
use Rattle.finite.specs.Rows.{MembersDrawn}

-- the area of row S of a plan in its box, from arcs under head numbers
abbrev pub area_by_head : Plan → ℕ → Float
area_by_head p S = let cs = plan_circles p in clipped_area_of (bounds (box_of p.ground)) cs (circles_in cs S) (region_arcs cs (collected cs) S)

-- with its gradient by head number: x, y and radius of each head in turn, then the box's four numbers, added up from zeros
abbrev pub gradient_by_head : Plan → ℕ → WithGradient
gradient_by_head p S =
    let cs = plan_circles p in
    clipped_with_gradient (bounds (box_of p.ground)) cs (circles_in cs S) (region_arcs cs (collected cs) S) (replicate (gradient_width p.n) zero64)

-- The numbers of row S of a plan in its box: the area is at most 41,197,685,760,000, and each entry of the gradient at
-- most 31,490,604,288. By position in the set, and by head number.
pub record ClippedRowFinite (p : Plan) (S : ℕ) : Type 0 where
  pub area : Most 41197685760000 1074 (clipped_area (bounds (box_of p.ground)) (plan_members p S))
  pub gradient : GradientMost 41197685760000 31490604288 (clipped_gradient_row p S)
  pub numbered_area : Most 41197685760000 1074 (area_by_head p S)
  pub numbered_gradient : GradientMost 41197685760000 31490604288 (gradient_by_head p S)

-- At most ten heads, in a box within the limits: the row of a set whose heads are drawn, whatever the other heads are.
abbrev pub DrawnClippedFinite : Type 0
DrawnClippedFinite =
    (p : Plan) → length p.heads ≡ 10 → p.n ≤ 10 → GroundWithin p.ground → (S : ℕ) → MembersDrawn p S → ClippedRowFinite p S

-- A plan within the limits: the row of any set of its heads, the empty set too.
abbrev pub AcceptableClippedFinite : Type 0
AcceptableClippedFinite = (p : Plan) → length p.heads ≡ 10 → Acceptable p → (S : ℕ) → ClippedRowFinite p S

-- A plan that is taken: the row of any set of its heads.
abbrev pub PlanClippedFinite : Type 0
PlanClippedFinite = (p : Plan) → length p.heads ≡ 10 → plan_answer p ≡ taken → (S : ℕ) → ClippedRowFinite p S

-- And row 0, the area of the box, is at most 1,600,000,000.
abbrev pub PlanBoxFinite : Type 0
PlanBoxFinite = (p : Plan) → length p.heads ≡ 10 → plan_answer p ≡ taken → Most 1600000000 1074 (area (box_of p.ground))

-- The afresh table of a taken plan's rows in its box, for any list of sets and any exclusives: every number, row 0 too.
abbrev pub TableClippedFinite : Type 0
TableClippedFinite =
    (sets : Plan → ℕ → Bool) (exclusives : Exclusives) (p : Plan) → length p.heads ≡ 10 → plan_answer p ≡ taken → (S : ℕ) → S < 2 ^ p.n
    → Most 41197685760000 1074 (afresh (clipped_method sets exclusives) p S).number
