-- The open row of a set of drawn heads is finite, and so are the rows of a taken plan. Rests on proofs/Open.antt: the circles of such
-- heads are of the domain, and ten circles have outlines of at most 180 arcs.
use mathlib.Core.Path.{◌≡◌, subst}
use mathlib.Core.Bool.{Bool, true, false, cond}
use mathlib.Core.List.{List}
use Prim.Native.Nat.{ℕ, zero, suc, ◌*◌, ◌≤◌, ◌<◌}
use lib.Ieee.{Float}
use lib.ListN.{length, replicate}
use Rattle.binary64.specs.Magnitude.{Most}
use Rattle.binary64.specs.Constants.{zero64}
use Rattle.binary64.proofs.Magnitude.{most_zero}
use Rattle.heads.specs.declared.Head.{Head}
use Rattle.plan.specs.Limits.{Acceptable}
use Rattle.plan.specs.declared.Plan.{Plan}
use Rattle.plan.proofs.Exactly.{plan_taken, within_limits}
use Rattle.regions.specs.Edit.{absent, present, afresh_row}
use Rattle.drawn.specs.Drawn.{plan_circles}
use Rattle.regions.specs.Table.{head_at, plan_members, area_at}
use Rattle.exact.specs.Circle.{circle_of}
use Rattle.exact.specs.Decisions.{Drawn}
use Rattle.exact.proofs.Theorem.{is-drawn}
use Rattle.geometry.specs.declared.circle.Circle.{Circle}
use Rattle.intersections.specs.declared.points.IntersectionPoint.{IntersectionPoint}
use Rattle.intersections.specs.Members.{no_circle, circles_of, heads_of, circle_at, members_of}
use Rattle.intersections.specs.Points.{collected}
use Rattle.intersections.specs.Counts.{heads_below}
use Rattle.outline.specs.Counts.{outline_few}
use Rattle.lists.specs.Every.{Every, every_map, every_both, every_at, every_mapped, every_by_index}
use Rattle.outline.proofs.Walking.{circles_of_members}
use Rattle.outline.specs.Area.{add_gradient}
use Rattle.boundary.specs.Set.{region_arcs}
use Rattle.areas.specs.Open.{open_method, open_gradient_row}
use Rattle.areas.proofs.ByHead.{plan_by_head}
use Rattle.areas.proofs.Scattering.{heads-in}
use Rattle.drawn.proofs.Circles.{circles_many, circle-at, circles_few}
use Rattle.finite.specs.Open.{InDomain}
use Rattle.finite.specs.Rows.{MembersDrawn, DrawnFinite, AcceptableFinite, PlanFinite, TableFinite}
use Rattle.finite.proofs.Open.{area_finite, gradient_finite}
use Rattle.finite.proofs.Scattering.{scatter_most}

-- ---- circles of heads

drawn_domain : (h : Head) → Drawn h → InDomain (circle_of h)
drawn_domain h d = record { x = d.x; y = d.y; r = d.most }

-- a head that the checks accept is drawn
accepted_drawn : (p : Plan) → Acceptable p → (i : ℕ) → i < p.n → Drawn (head_at p i)
accepted_drawn p ok i h = is-drawn (head_at p i) (within_limits (head_at p i) (ok.heads i h))

pub all_drawn : (p : Plan) → Acceptable p → (S : ℕ) → MembersDrawn p S
all_drawn p ok S j h t = accepted_drawn p ok j h

-- the circles of a plan within the limits are of the domain
pub circles_domain : (p : Plan) → length p.heads ≡ 10 → Acceptable p → Every InDomain (plan_circles p)
circles_domain p ten ok =
    every_by_index InDomain (plan_circles p) no_circle
    (λ i h.
    let g : i < p.n = subst (λ n. i < n) (circles_many p ten ok.count) h in
    rw (circle-at p ten ok.count i no_circle g) (drawn_domain (head_at p i) (accepted_drawn p ok i g)))

-- the circles of a set's members are among the circles
pub members_domain : (cs : List Circle) (points : List IntersectionPoint) (S : ℕ) → Every InDomain cs → Every InDomain (circles_of (members_of cs points S))
members_domain cs points S d =
    rw (circles_of_members cs points S)
    (every_mapped InDomain (circle_at cs) (heads_of (length cs) S)
    (every_map (heads_of (length cs) S) (λ j g. every_at InDomain cs j no_circle g d) (heads_below (length cs) S)))

-- the circles of a set whose heads are drawn are of the domain
pub drawn_members : (p : Plan) → length p.heads ≡ 10 → p.n ≤ 10 → (S : ℕ) → MembersDrawn p S → Every InDomain (circles_of (plan_members p S))
drawn_members p ten few S drawn =
    let cs = plan_circles p in
    rw (circles_of_members cs (collected cs) S)
    (every_mapped InDomain (circle_at cs) (heads_of (length cs) S)
    (every_both (heads_of (length cs) S)
    (λ j h t.
    let g : j < p.n = subst (λ n. j < n) (circles_many p ten few) h in
    rw (circle-at p ten few j no_circle g) (drawn_domain (head_at p j) (drawn j g t)))
    (heads_below (length cs) S) (heads-in (length cs) S)))

-- ---- rows

-- The open row of a set whose heads are drawn is finite. By head number it is the row by position, scattered.
pub drawn_finite : DrawnFinite
drawn_finite p ten few S drawn =
    let cs = plan_circles p in
    let inside = drawn_members p ten few S drawn in
    let short = outline_few cs S (circles_few p few) in
    let gradient = gradient_finite (plan_members p S) inside short in
    record {
      area = area_finite (plan_members p S) inside short;
      gradient = gradient;
      gradient_by_head =
          subst (λ n. Every (Most 72000000 1074) (add_gradient cs (replicate (3 * n) zero64) (region_arcs cs (collected cs) S))) (circles_many p ten few)
          (rw (plan_by_head p S few).gradient (scatter_most 72000000 (heads_of (length cs) S) (length cs) (open_gradient_row p S) gradient));
    }

-- The open row of any set of the heads of a plan within the limits is finite.
pub acceptable_finite : AcceptableFinite
acceptable_finite p ten ok S = drawn_finite p ten ok.count S (all_drawn p ok S)

-- The open row of any set of a taken plan's heads is finite.
pub plan_finite : PlanFinite
plan_finite p long taken = acceptable_finite p long ((plan_taken p long).0 taken)

-- ---- tables

-- a row with a number, or an absent one
row_most : {j a : ℕ} (b : Bool) (v : Float) → Most j a v → Most j a (cond b (present v) absent).number
row_most true v h = h
row_most false v h = most_zero

-- An afresh row has the box's number, a set's area or +0.
pub afresh_most : {j a : ℕ} (has_box : Bool) (box : Float) (area : ℕ → Float) (sets : ℕ → Bool) (S : ℕ) → Most j a box → Most j a (area S)
    → Most j a (afresh_row has_box box area sets S).number
unfolding afresh_row
afresh_most has_box box area sets zero hb ha = row_most has_box box hb
afresh_most has_box box area sets (suc S) hb ha = row_most (sets (suc S)) (area (suc S)) ha

-- Every number of the afresh table of a taken plan's open rows is finite.
pub table_finite : TableFinite
table_finite sets exclusives p long taken S h_s =
    afresh_most false zero64 (area_at (open_method sets exclusives) p) (sets p) S most_zero (plan_finite p long taken S).area
