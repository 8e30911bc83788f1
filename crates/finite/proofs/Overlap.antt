-- The overlap of heads is finite: by the number of circles it is an area of one, the area that two share, or an open area of the set of all.
use mathlib.Core.Path.{◌≡◌, subst, sym}
use mathlib.Core.Bool.{not}
use mathlib.Core.List.{List, [], ◌∷◌}
use Prim.Native.Nat.{◌^◌, ◌-◌, ◌≤◌, ◌<◌}
use native.Mathlib.Omega.{arith}
use lib.Dec.{T, lit≤}
use lib.ListN.{length, length-map}
use Rattle.lists.specs.Every.{Every, every_map, every_both, every_keep, every_mapped, every_by_index}
use Rattle.binary64.specs.Magnitude.{Most}
use Rattle.binary64.proofs.Magnitude.{most_weaken}
use Rattle.heads.specs.declared.Head.{Head}
use Rattle.heads.specs.Limits.{in_limits}
use Rattle.plan.specs.Limits.{Acceptable}
use Rattle.plan.specs.declared.Plan.{Plan}
use Rattle.plan.proofs.Exactly.{plan_taken, within_limits}
use Rattle.geometry.specs.Circle.{is_closed}
use Rattle.geometry.specs.declared.circle.Circle.{Circle}
use Rattle.exact.specs.Circle.{circle_of}
use Rattle.exact.proofs.Theorem.{is-drawn}
use Rattle.drawn.specs.Drawn.{plan_circles}
use Rattle.drawn.proofs.Circles.{circles_many, circle-at, circles_few}
use Rattle.intersections.specs.Members.{no_circle, circle_at, heads_of, members_of}
use Rattle.intersections.specs.Points.{collected}
use Rattle.intersections.specs.Counts.{heads_below, heads_few}
use Rattle.outline.specs.Counts.{outline_few}
use Rattle.regions.specs.Table.{head_at}
use Rattle.areas.proofs.Scattering.{heads-in}
use Rattle.overlaps.specs.Overlap.{of_all, together, not_closed, overlap, chosen}
use Rattle.overlaps.proofs.Keeping.{not_closed_few}
use Rattle.finite.specs.Open.{InDomain}
use Rattle.finite.specs.Overlap.{OverlapOfFinite, OverlapFinite}
use Rattle.finite.proofs.Circles.{circle_finite, shared_finite}
use Rattle.finite.proofs.Open.{area_finite}
use Rattle.finite.proofs.Rows.{members_domain}

-- the circle of a head within the limits
record OfHead (c : Circle) : Type 0 where
  head : Head
  limits : T (in_limits head)
  is : c ≡ circle_of head

of_head_domain : (c : Circle) → OfHead c → InDomain c
of_head_domain c h =
    let d = is-drawn h.head h.limits in
    subst InDomain (sym h.is) (record { x = d.x; y = d.y; r = d.most })

-- the open area of the set of all of at most ten
all_most : (cs : List Circle) → length cs ≤ 10 → Every OfHead cs → Most 1440000000000 1074 (of_all cs)
all_most cs few h =
    let S = 2 ^ length cs - 1 in
    area_finite (members_of cs (collected cs) S) (members_domain cs (collected cs) S (every_map cs of_head_domain h)) (outline_few cs S few)

together_most : (cs : List Circle) → length cs ≤ 10 → Every OfHead cs → Most 1440000000000 1074 (together cs)
together_most [] few h = all_most [] few h
together_most (a ∷ []) few h =
    most_weaken {j = 1600000000} (rw h.0.is (circle_finite h.0.head h.0.limits)) (lit≤ tt)
together_most (a ∷ b ∷ []) few h =
    most_weaken {j = 11789934592}
    (rw (h.0.is, h.1.0.is) (shared_finite h.0.head h.1.0.head h.0.limits h.1.0.limits))
    (lit≤ tt)
together_most (a ∷ b ∷ c ∷ rest) few h = all_most (a ∷ b ∷ c ∷ rest) few h

overlap_most : (cs : List Circle) → length cs ≤ 10 → Every OfHead cs → Most 1440000000000 1074 (overlap cs)
unfolding not_closed
overlap_most cs few h =
    together_most (not_closed cs) (omega (arith, not_closed_few cs)) (every_keep OfHead (λ c. not (is_closed c)) cs h)

-- the circles of a plan within the limits are circles of heads
circles-of-heads : (p : Plan) → length p.heads ≡ 10 → Acceptable p → Every OfHead (plan_circles p)
circles-of-heads p ten ok =
    every_by_index OfHead (plan_circles p) no_circle
    (λ i h.
    let g : i < p.n = subst (λ n. i < n) (circles_many p ten ok.count) h in
    record { head = _; limits = within_limits _ (ok.heads i g); is = circle-at p ten ok.count i no_circle g })

-- What the heads of a mask water together.
pub overlap_of_finite : OverlapOfFinite
overlap_of_finite p ten few S limits =
    let cs = plan_circles p in
    let js = heads_of (length cs) S in
    let fewer : length (chosen cs S) ≤ 10 = omega (arith, length-map js (circle_at cs), heads_few (length cs) S, circles_few p few) in
    overlap_most (chosen cs S) fewer
    (every_mapped OfHead (circle_at cs) js
    (every_both js
    (λ j h t.
    let g : j < p.n = subst (λ n. j < n) (circles_many p ten few) h in
    record { head = head_at p j; limits = limits j g t; is = circle-at p ten few j no_circle g })
    (heads_below (length cs) S) (heads-in (length cs) S)))

-- What the heads of a taken plan water together.
pub overlap_finite : OverlapFinite
overlap_finite p ten taken =
    let ok = (plan_taken p ten).0 taken in
    record {
      all = overlap_most (plan_circles p) (circles_few p ok.count) (circles-of-heads p ten ok);
      some = λ S. overlap_of_finite p ten ok.count S (λ j h t. within_limits (head_at p j) (ok.heads j h));
    }
