-- The functions over arcs with head numbers give what those by position give, scattered, as specs/Scatter.antt states it.
use mathlib.Core.Path.{◌≡◌, refl, sym, ap, ap₂, ◌∙◌}
use mathlib.Core.Bool.{cond}
use mathlib.Core.List.{List, ◌++◌, map}
use Prim.Native.Nat.{ℕ, ◌+◌, ◌*◌, ◌≤◌, ◌<◌}
use native.Mathlib.Omega.{arith}
use lib.ListN.{length, replicate, length-map, length-append, length-replicate}
use lib.Seq.{take_all}
use lib.Ieee.{Float}
use Rattle.binary64.specs.Constants.{zero64, half64}
use Rattle.binary64.specs.Floats.{◌*ᶠ◌}
use Rattle.geometry.specs.declared.bounds.Bounds.{Bounds}
use Rattle.geometry.specs.declared.circle.Circle.{Circle}
use Rattle.intersections.specs.declared.points.IntersectionPoint.{IntersectionPoint}
use Rattle.lists.specs.Every.{Every, every_map}
use Rattle.intersections.specs.Members.{Member, circles_of, heads_of, circle_at, members_of}
use Rattle.boundary.specs.Outline.{outline}
use Rattle.outline.specs.Area.{area_of, add_gradient, open_area, open_gradient}
use Rattle.boundary.specs.Set.{numbered, arcs_held, region_arcs}
use Rattle.intersections.specs.Counts.{heads_below}
use Rattle.outline.specs.Counts.{outline_few}
use Rattle.outline.proofs.Walking.{circles_of_members, members_many}
use Rattle.clip.specs.Area.{empty_box, add_edges, clipped_area_of, clipped_area}
use Rattle.clip.specs.Gradient.{with_gradient, clipped_with_gradient, clipped_onto, clipped_gradient}
use Rattle.intersections.specs.Points.{collected}
use Rattle.drawn.specs.Drawn.{plan_circles}
use Rattle.drawn.proofs.Circles.{circles_few}
use Rattle.areas.specs.Scatter.{PlanByHead, entries_of, box_entries, put, scatter, scatter_clipped, Fits, circles_in, ByHead}
use Rattle.clip.proofs.Naming.{Below, outline_named}
use Rattle.areas.proofs.Scattering.{heads_increasing, entries_below, entries_increasing, entries_many, places_increasing, places_below}
use Rattle.areas.proofs.Scattering.{put_equal, entries_stand, box_stands, stand_append}
use Rattle.clip.proofs.Summing.{arcs-sum, clipped_sum}
use Rattle.areas.proofs.Slopes.{gradient_kept, clipped_kept}

module _ (circles : List Circle) (points : List IntersectionPoint) (S : ℕ) (fits : Fits circles points S) where
  abbrev heads : List ℕ
  heads = heads_of (length circles) S

  abbrev ms : List Member
  ms = members_of circles points S

  below : Every (λ j. j < length circles) heads
  below = heads_below (length circles) S

  arcs_are : region_arcs circles points S ≡ map (numbered heads) (outline ms)
  unfolding region_arcs
  arcs_are = take_all arcs_held (map (numbered heads) (outline ms)) (rw (length-map (outline ms) (numbered heads)) fits)

  named : Every (Below (length heads)) (outline ms)
  named = rw (sym (members_many circles points S)) (outline_named ms)

  area-by-head : area_of circles (region_arcs circles points S) ≡ open_area ms
  unfolding area_of open_area
  area-by-head =
      rw (arcs_are, circles_of_members circles points S)
      (ap (λ v. half64 *ᶠ v) (sym (arcs-sum circles heads below (outline ms) named zero64)))

  clipped_area_by_head : (box : Bounds) → clipped_area_of box circles (circles_in circles S) (region_arcs circles points S) ≡ clipped_area box ms
  unfolding clipped_area_of clipped_area
  clipped_area_by_head box =
      rw (arcs_are, circles_of_members circles points S)
      (ap (λ v. cond (empty_box box) zero64 (half64 *ᶠ add_edges box (circles_in circles S) v))
      (sym (clipped_sum circles heads below box (outline ms) named zero64)))

  gradient_onto_by_head : (g out : List Float) → length g ≡ 3 * length ms → 3 * length circles ≤ length out
      → add_gradient circles (put (entries_of heads) g out) (region_arcs circles points S)
      ≡ put (entries_of heads) (add_gradient (circles_of ms) g (outline ms)) out
  gradient_onto_by_head g out lg lo =
      rw (arcs_are, circles_of_members circles points S)
      (gradient_kept (entries_of heads) out (entries_increasing heads (heads_increasing (length circles) S))
      (every_map (entries_of heads) (λ p h. omega (arith, h)) (entries_below (length circles) heads below))
      circles heads below (entries_stand heads) (outline ms) named g (put (entries_of heads) g out)
      (record { many = omega (arith, lg, members_many circles points S, entries_many heads); same = refl })).same

  gradient-by-head : add_gradient circles (replicate (3 * length circles) zero64) (region_arcs circles points S)
      ≡ scatter heads (length circles) (open_gradient ms)
  unfolding scatter open_gradient
  gradient-by-head =
      ap (λ G. add_gradient circles G (region_arcs circles points S)) (sym (put_equal (entries_of heads) (3 * length ms) (3 * length circles) zero64))
      ∙ gradient_onto_by_head (replicate (3 * length ms) zero64) (replicate (3 * length circles) zero64)
      (length-replicate (3 * length ms) zero64) (rw (length-replicate (3 * length circles) zero64) (omega arith))

  abbrev places : List ℕ
  places = entries_of heads ++ box_entries (length circles)

  clipped_onto_is : (box : Bounds) (g : List Float) → clipped_onto box ms g ≡ clipped_with_gradient box (circles_of ms) (circles_of ms) (outline ms) g
  unfolding clipped_onto
  clipped_onto_is box g = refl

  clipped_onto_by_head : (box : Bounds) (g out : List Float) → length g ≡ length ms * 3 + 4 → length circles * 3 + 4 ≤ length out
      → clipped_with_gradient box circles (circles_in circles S) (region_arcs circles points S) (put places g out)
      ≡ with_gradient (clipped_onto box ms g).sum (put places (clipped_onto box ms g).grad out)
  clipped_onto_by_head box g out lg lo =
      rw (clipped_onto_is box g, arcs_are, circles_of_members circles points S)
      (let r = clipped_kept places out (places_increasing (length circles) heads below (heads_increasing (length circles) S))
      (every_map places (λ p h. omega (arith, h, lo)) (places_below (length circles) heads below))
      circles heads below (λ k h i l. stand_append (entries_of heads) (box_entries (length circles)) _ _ (entries_stand heads k h i l))
      box (outline ms) named (λ i l. rw (length-map heads (circle_at circles)) (box_stands heads (length circles) i l)) g (put places g out)
      (record {
        many = omega (arith, lg, members_many circles points S, entries_many heads, length-append (entries_of heads) (box_entries (length circles)));
        same = refl;
      }) in
      ap₂ with_gradient (sym r.sums) r.grads.same)

  clipped_gradient_is : (box : Bounds) → clipped_gradient box ms ≡ clipped_onto box ms (replicate (length ms * 3 + 4) zero64)
  unfolding clipped_gradient
  clipped_gradient_is box = refl

  clipped_by_head : (box : Bounds)
      → clipped_with_gradient box circles (circles_in circles S) (region_arcs circles points S) (replicate (length circles * 3 + 4) zero64)
      ≡ with_gradient (clipped_gradient box ms).sum (scatter_clipped heads (length circles) (clipped_gradient box ms).grad)
  unfolding scatter_clipped
  clipped_by_head box =
      rw (clipped_gradient_is box)
      (ap (clipped_with_gradient box circles (circles_in circles S) (region_arcs circles points S))
      (sym (put_equal places (length ms * 3 + 4) (length circles * 3 + 4) zero64))
      ∙ clipped_onto_by_head box (replicate (length ms * 3 + 4) zero64) (replicate (length circles * 3 + 4) zero64)
      (length-replicate (length ms * 3 + 4) zero64) (rw (length-replicate (length circles * 3 + 4) zero64) (omega arith)))

pub by_head : (circles : List Circle) (points : List IntersectionPoint) (S : ℕ) → Fits circles points S → ByHead circles points S
by_head circles points S fits =
    record {
      area = area-by-head circles points S fits;
      gradient = gradient-by-head circles points S fits;
      gradient_onto = gradient_onto_by_head circles points S fits;
      clipped-area = clipped_area_by_head circles points S fits;
      clipped-gradient = clipped_by_head circles points S fits;
      clipped_gradient_onto = clipped_onto_by_head circles points S fits;
    }

-- Of the heads of a plan, with nothing asked: the outline fits.
pub plan_by_head : PlanByHead
plan_by_head p S few = let cs = plan_circles p in by_head cs (collected cs) S (outline_few cs S (circles_few p few))
