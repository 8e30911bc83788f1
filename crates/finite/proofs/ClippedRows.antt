-- The row in the box of a set of drawn heads is finite, and so are the rows of a taken plan. Rests on proofs/Clipped.antt and
-- proofs/Slopes.antt: the box of such a plan is of the domain, as are the circles of its heads.
use mathlib.Core.Bool.{true}
use mathlib.Core.Path.{◌≡◌, refl, subst}
use Prim.Native.Nat.{◌+◌, ◌*◌, ◌≤◌}
use native.Mathlib.Omega.{arith}
use lib.Dec.{lit≤}
use lib.Ieee.{binary64, of_int, of_bits}
use lib.IntN.{ℤ, pos}
use lib.ListN.{length, replicate}
use Rattle.binary64.specs.Units.{mag, pow2}
use Rattle.binary64.specs.Constants.{zero64, two64}
use Rattle.binary64.specs.Magnitude.{Most, Least}
use Rattle.binary64.proofs.Magnitude.{literal_least, most_weaken, add_most, sub_most, mul_most, div_most}
use Rattle.plan.specs.declared.Ground.{Ground}
use Rattle.plan.specs.declared.Plan.{Plan}
use Rattle.plan.specs.Limits.{Within, GroundWithin}
use Rattle.plan.proofs.Exactly.{plan_taken}
use Rattle.plan.specs.Table.{gradient_width}
use Rattle.drawn.specs.Drawn.{plan_circles, box_of}
use Rattle.regions.specs.Table.{plan_members, area_at}
use Rattle.binary64.specs.Floats.{◌/ᶠ◌}
use Rattle.geometry.specs.Rectangle.{area, bounds}
use Rattle.boundary.specs.Set.{region_arcs}
use Rattle.intersections.specs.Points.{collected}
use Rattle.outline.specs.Counts.{outline_few}
use Rattle.areas.specs.Clipped.{clipped_method, clipped_gradient_row}
use Rattle.areas.proofs.ByHead.{plan_by_head}
use Rattle.clip.specs.Gradient.{clipped_with_gradient}
use Rattle.intersections.specs.Members.{heads_of}
use Rattle.drawn.proofs.Circles.{circles_many, circles_few}
use Rattle.finite.specs.Clipped.{BoxInDomain, GradientMost}
use Rattle.areas.specs.Scatter.{circles_in}
use Rattle.finite.specs.ClippedRows.{DrawnClippedFinite, AcceptableClippedFinite, PlanClippedFinite, PlanBoxFinite, TableClippedFinite}
use Rattle.finite.proofs.Limits.{position_most, side_most}
use Rattle.finite.proofs.Rows.{all_drawn, drawn_members, afresh_most}
use Rattle.finite.proofs.Scattering.{clipped_most}
use Rattle.finite.proofs.Clipped.{area_clipped_finite}
use Rattle.finite.proofs.Slopes.{gradient_clipped_finite}

-- ---- the box

two_least : Least 2 1074 two64
unfolding of_bits mag pow2
two_least = literal_least 0x4000_0000_0000_0000 2 1074 tt tt

half_side_most : (z : ℤ) → Within (pos 1) (pos 40000) z → Most 20000 1074 (of_int binary64 z /ᶠ two64)
half_side_most z w = div_most (side_most z w) two_least 20000 1074 refl (lit≤ tt) (lit≤ tt) (lit≤ tt) (lit≤ tt)

-- the box within the limits is a box of the domain
box_domain : (g : Ground) → GroundWithin g → BoxInDomain (bounds (box_of g))
unfolding box_of
box_domain g m =
    let x = position_most g.x m.0 in
    let y = position_most g.y m.1 in
    let wide = half_side_most g.width m.2 in
    let high = half_side_most g.height m.3 in
    record {
      x-min = sub_most x wide (lit≤ tt) (lit≤ tt);
      x-max = add_most x wide (lit≤ tt) (lit≤ tt);
      y-min = sub_most y high (lit≤ tt) (lit≤ tt);
      y-max = add_most y high (lit≤ tt) (lit≤ tt);
    }

box_area_most : (g : Ground) → GroundWithin g → Most 1600000000 1074 (area (box_of g))
unfolding box_of
box_area_most g m = mul_most (side_most g.width m.2) (side_most g.height m.3) 1074 refl (lit≤ tt) (lit≤ tt)

-- ---- rows

-- three entries a circle and the box's four are the row's width
width : (p : Plan) → length p.heads ≡ 10 → p.n ≤ 10 → length (plan_circles p) * 3 + 4 ≡ gradient_width p.n
width p ten few = omega (arith, circles_many p ten few)

-- The row in the box of a set whose heads are drawn is finite. By head number it is the row by position, its gradient scattered.
pub drawn_clipped_finite : DrawnClippedFinite
drawn_clipped_finite p ten few ground S drawn =
    let box = bounds (box_of p.ground) in
    let cs = plan_circles p in
    let b = box_domain p.ground ground in
    let inside = drawn_members p ten few S drawn in
    let short = outline_few cs S (circles_few p few) in
    let area = area_clipped_finite box (plan_members p S) b inside short in
    let gradient = gradient_clipped_finite box (plan_members p S) b inside short in
    record {
      area = area;
      gradient = gradient;
      numbered_area = rw ((plan_by_head p S few).clipped-area box) area;
      numbered_gradient =
          subst
          (λ g. GradientMost 41197685760000 31490604288 (clipped_with_gradient box cs (circles_in cs S) (region_arcs cs (collected cs) S) (replicate g zero64)))
          (width p ten few)
          (rw ((plan_by_head p S few).clipped-gradient box) (record {
            sum = gradient.sum;
            entries = clipped_most 31490604288 (heads_of (length cs) S) (length cs) (clipped_gradient_row p S).grad gradient.entries;
          }));
    }

-- The row in the box of any set of the heads of a plan within the limits is finite.
pub acceptable_clipped_finite : AcceptableClippedFinite
acceptable_clipped_finite p ten ok S = drawn_clipped_finite p ten ok.count (ok.x, ok.y, ok.width, ok.height) S (all_drawn p ok S)

-- The row in the box of any set of a taken plan's heads is finite.
pub plan_clipped_finite : PlanClippedFinite
plan_clipped_finite p long taken = acceptable_clipped_finite p long ((plan_taken p long).0 taken)

-- And so is the area of its box.
pub plan_box_finite : PlanBoxFinite
plan_box_finite p long taken =
    let ok = (plan_taken p long).0 taken in
    box_area_most p.ground (ok.x, ok.y, ok.width, ok.height)

-- Every number of the afresh table of a taken plan's rows in its box is finite.
pub table_clipped_finite : TableClippedFinite
table_clipped_finite sets exclusives p long taken S h_s =
    afresh_most true (area (box_of p.ground)) (area_at (clipped_method sets exclusives) p) (sets p) S (most_weaken (plan_box_finite p long taken) (lit≤ tt))
    (plan_clipped_finite p long taken S).area
