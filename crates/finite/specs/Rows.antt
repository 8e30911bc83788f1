-- The open rows of a taken plan are finite, areas and gradients, with a bound: what is claimed, and proved in proofs/Rows.antt.
-- A bound is a whole number j: `Most j 1074 x` says that x is finite and |x| ≤ j.
use Rattle.std.specs.Prelude.{◌≡◌, Bool, true, List, ℕ, ◌*◌, ◌^◌, ◌≤◌, ◌<◌, Float, length, replicate}
use Rattle.binary64.specs.Constants.{zero64}
use Rattle.binary64.specs.Magnitude.{Most}
use Rattle.plan.specs.Table.{taken}
use Rattle.plan.specs.declared.Plan.{Plan}
use Rattle.plan.specs.Checks.{plan_answer}
use Rattle.plan.specs.Limits.{Acceptable}
use Rattle.drawn.specs.Drawn.{plan_circles}
use Rattle.masks.specs.Mask.{in_set}
use Rattle.exact.specs.Decisions.{Drawn}
use Rattle.regions.specs.Table.{Exclusives, head_at, plan_members, afresh}
use Rattle.outline.specs.Area.{add_gradient, open_area}
use Rattle.lists.specs.Every.{Every}
use Rattle.intersections.specs.Points.{collected}
use Rattle.boundary.specs.Set.{region_arcs}
use Rattle.areas.specs.Open.{open_method, open_gradient_row}

-- the gradient of row S of a plan by head number: x, y and radius of each head in turn, added up from zeros
abbrev pub row_gradient_by_head : Plan → ℕ → List Float
row_gradient_by_head p S = let cs = plan_circles p in add_gradient cs (replicate (3 * p.n) zero64) (region_arcs cs (collected cs) S)

-- The numbers of row S of a plan: the area is at most 1,440,000,000,000, and each entry of the gradient at most 72,000,000.
pub record OpenRowFinite (p : Plan) (S : ℕ) : Type 0 where
  pub area : Most 1440000000000 1074 (open_area (plan_members p S))
  pub gradient : Every (Most 72000000 1074) (open_gradient_row p S)
  pub gradient_by_head : Every (Most 72000000 1074) (row_gradient_by_head p S)

-- The heads of a set are drawn: their circles are of the float domain, closed or not. A head that the checks accept is
-- (`is-drawn`, exact/proofs/Theorem.antt). No bound asks for a radius above 0.
abbrev pub MembersDrawn : Plan → ℕ → Type 0
MembersDrawn p S = (j : ℕ) → j < p.n → in_set S j ≡ true → Drawn (head_at p j)

-- At most ten heads: the row of a set whose heads are drawn, whatever the other heads are.
abbrev pub DrawnFinite : Type 0
DrawnFinite = (p : Plan) → length p.heads ≡ 10 → p.n ≤ 10 → (S : ℕ) → MembersDrawn p S → OpenRowFinite p S

-- A plan within the limits: the row of any set of its heads, the empty set too.
abbrev pub AcceptableFinite : Type 0
AcceptableFinite = (p : Plan) → length p.heads ≡ 10 → Acceptable p → (S : ℕ) → OpenRowFinite p S

-- A plan that is taken: the row of any set of its heads.
abbrev pub PlanFinite : Type 0
PlanFinite = (p : Plan) → length p.heads ≡ 10 → plan_answer p ≡ taken → (S : ℕ) → OpenRowFinite p S

-- The afresh table of open rows of a taken plan, for any list of sets and any exclusives: every number.
abbrev pub TableFinite : Type 0
TableFinite =
    (sets : Plan → ℕ → Bool) (exclusives : Exclusives) (p : Plan) → length p.heads ≡ 10 → plan_answer p ≡ taken
    → (S : ℕ) → S < 2 ^ p.n → Most 1440000000000 1074 (afresh (open_method sets exclusives) p S).number
