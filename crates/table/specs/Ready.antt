-- What the area of every row of a plan is worked out from, as the code holds it.
use Rattle.std.specs.Prelude.{ℕ, List, Option, None, Some, ◌≡◌, ◌≤◌, Float, length}
use Rattle.plan.specs.declared.Plan.{Plan}
use Rattle.geometry.specs.Rectangle.{bounds as bounds_of}
use Rattle.geometry.specs.declared.bounds.Bounds.{Bounds}
use Rattle.intersections.specs.Members.{Member, members_of}
use Rattle.intersections.specs.Points.{collected}
use Rattle.sums.specs.Rows as Sums
use Rattle.drawn.specs.Drawn.{plan_circles, box_of}
use Rattle.sets.specs.Regions.{set_bytes}
use Rattle.table.specs.declared.ready.Ready.{Ready}

-- how many heads
abbrev pub heads_in : Ready → ℕ
heads_in r = length r.circles.items

-- the members of a set
abbrev pub members_in : Ready → ℕ → List Member
members_in r S = members_of r.circles.items r.points.items S

-- the area of row S
unfoldable pub area_of : Ready → ℕ → Float
area_of r S = Sums.area_of r.bounds (members_in r S)

-- r is made of the plan p, in this box or without one; a plan to be refused may say that it has more heads
-- than it holds
pub record Of (p : Plan) (box : Option Bounds) (r : Ready) : Type 0 where
  pub n : p.n ≤ 10 → heads_in r ≡ p.n
  pub circles : r.circles.items ≡ plan_circles p
  pub points : r.points.items ≡ collected (plan_circles p)
  pub bounds : r.bounds ≡ box

-- the box of a plan, and that a box is it, where there is one
abbrev pub plan_bounds : Plan → Bounds
plan_bounds p = bounds_of (box_of p.ground)

abbrev pub BoxOf : Plan → Option Bounds → Type 0
BoxOf p None = Unit {0}
BoxOf p (Some b) = b ≡ plan_bounds p

-- the bytes of the sets found, as discover_regions writes them
abbrev pub sets_in : Ready → List ℕ
sets_in r = set_bytes r.circles.items r.points.items
