-- What an arc adds to a sum, by its number.
use mathlib.Core.Path.{◌≡◌, refl, sym, ap, ◌∙◌}
use mathlib.Core.Bool.{true, false}
use mathlib.Core.List.{List, map, foldl}
use Prim.Native.Nat.{ℕ, ◌+◌, ◌-◌, ◌*◌, ◌/◌, ◌%◌, ◌≤◌, ◌<◌}
use native.Mathlib.Omega.{arith}
use borrow.Author.Tests.{lt-ltb, le-ltb}
use lib.ListN.{length}
use lib.Ieee.{Float}
use Rattle.lists.specs.Every.{Every}
use Rattle.lists.proofs.Folds.{fold_related}
use Rattle.binary64.specs.Constants.{zero64, half64}
use Rattle.binary64.specs.Floats.{◌+ᶠ◌, ◌*ᶠ◌}
use Rattle.geometry.specs.declared.bounds.Bounds.{Bounds}
use Rattle.geometry.specs.declared.circle.Circle.{Circle}
use Rattle.intersections.specs.declared.points.IntersectionPoint.{IntersectionPoint}
use Rattle.intersections.specs.Members.{heads_of, circle_at, members_of}
use Rattle.intersections.specs.Counts.{heads_below}
use Rattle.boundary.specs.declared.arcs.BoundaryArc.{BoundaryArc}
use Rattle.boundary.specs.declared.sort.Mark.{Mark}
use Rattle.boundary.specs.Outline.{gap, between, full_circle, outline}
use Rattle.inside.specs.Parts.{clipped_arc_integral}
use Rattle.outline.specs.Area.{arc_terms, add_arc, add_arcs, area_of, open_area}
use Rattle.outline.specs.Terms.{terms_of, term_x, term_y, term_r}
use Rattle.outline.proofs.Walking.{circles_of_members, members_many}
use Rattle.clip.specs.Area.{empty_box, add_clipped_arc, add_clipped_arcs, add_edges, clipped_area_of, clipped_area}
use Rattle.clip.proofs.Naming.{Below, outline_named}
use Rattle.clip.proofs.Summing.{arcs-sum, clipped_sum}
use Rattle.gaps.specs.declared.marks.HeadMarks.{HeadMarks}
use Rattle.gaps.specs.Gaps.{next_of}
use Rattle.gaps.specs.Marks.{phi_at}
use Rattle.gaps.proofs.Next.{next_is, next_less}
use Rattle.sums.specs.declared.pass.Pass.{Pass}
use Rattle.sums.specs.Walk.{marks_of, gap_arc, arc_at, head_of, Placed, arcs_listed, outline_arcs, Listing}
use Rattle.sums.specs.Values.{term_of, add_one, add_terms}
use Rattle.sums.proofs.Held.{head_near, head_whole, head_far, marks_few, near_read, start_read, end_read, list_below}
use Rattle.sums.proofs.Walking.{neighbour_arc}

-- ---- the arc of a number, as code finds its head, the head's marks and a circle

-- an arc does not tell the circle that it was made for
any_between : (k : ℕ) (c c' : Circle) (a delta : Float) → between k c a delta ≡ between k c' a delta
unfolding between
any_between k c c' a delta = refl

any_whole : (k : ℕ) (c c' : Circle) → full_circle k c ≡ full_circle k c'
unfolding full_circle
any_whole k c c' = refl

module _ (pass : Pass) (p : ℕ) (placed : Placed pass.needed pass.heads.now.items p) where
  abbrev circles : List Circle
  circles = pass.circles.now

  abbrev heads : List HeadMarks
  heads = pass.heads.now.items

  module _ {j : ℕ} (ej : j ≡ head_of p) where
    module _ {marks : List Mark} (em : marks ≡ marks_of pass.heads.now.items j) where
      -- it has both ends
      pub ends_near : p < 320 → (p % 32 < length marks) × (next_of (p % 32) (length marks) < length marks)
      ends_near h =
          let read : p % 32 < length marks =
          omega (arith, near_read pass p placed h, ap length em, ap (λ i. length (marks_of heads i)) ej) in
          (read, next_less (p % 32) (length marks) read)

      pub ends_far : 330 ≤ p → ((p - 330) / 320 % 32 < length marks) × ((p - 330) % 320 % 32 < length marks)
      ends_far h =
          let many = ap (λ i. length (marks_of heads i)) ej in (
            omega (arith, start_read pass p placed h, ap length em, many),
            omega (arith, end_read pass p placed h, ap length em, many),
          )

      module _ (circle : Circle) {arc : BoundaryArc} where
        pub arc_near : p < 320
            → arc ≡ between j circle (phi_at marks (p % 32))
            (gap (phi_at marks (p % 32)) (phi_at marks (next_of (p % 32) (length marks))))
            → arc ≡ arc_at pass.circles.now pass.heads.now.items p
        arc_near h ea =
            ea ∙ any_between j circle (circle_at circles j) (phi_at marks (p % 32)) _
            ∙ rw (em, ej, head_near p h) (sym near)
          where
            all : List Mark
            all = marks_of heads (p / 32)

            read : p % 32 < length all
            read = rw (sym (head_near p h)) (near_read pass p placed h)

            next : next_of (p % 32) (length all) ≡ (p % 32 + 1) % length all
            next = next_is (p % 32) (length all) read

            near : arc_at circles heads p
                ≡ between (p / 32) (circle_at circles (p / 32)) (phi_at all (p % 32))
                (gap (phi_at all (p % 32)) (phi_at all (next_of (p % 32) (length all))))
            near =
                let same : p ≡ p / 32 * 32 + p % 32 = omega arith in
                ap (arc_at circles heads) same
                ∙ neighbour_arc circles heads (p / 32) (p % 32) (omega arith) (omega (arith, h))
                (omega (arith, sym next, next_less (p % 32) (length all) read, marks_few pass (p / 32)))
                ∙ ap (λ m. between (p / 32) (circle_at circles (p / 32)) (phi_at all (p % 32))
                (gap (phi_at all (p % 32)) (phi_at all m)))
                (sym next)

        pub arc_far : 330 ≤ p
            → arc ≡ between j circle (phi_at marks ((p - 330) / 320 % 32))
            (gap (phi_at marks ((p - 330) / 320 % 32)) (phi_at marks ((p - 330) % 320 % 32)))
            → arc ≡ arc_at pass.circles.now pass.heads.now.items p
        unfolding arc_at gap_arc
        arc_far h ea =
            let wide : 320 ≤ p = omega arith in
            ea ∙ any_between j circle (circle_at circles j) (phi_at marks ((p - 330) / 320 % 32)) _
            ∙ rw (em, ej, head_far p h, le-ltb p 320 wide, le-ltb p 330 h, placed.same h)

    pub arc_whole : (circle : Circle) {arc : BoundaryArc} → 320 ≤ p → p < 330 → arc ≡ full_circle j circle
        → arc ≡ arc_at pass.circles.now pass.heads.now.items p
    unfolding arc_at
    arc_whole circle h k ea =
        ea ∙ any_whole j circle (circle_at circles j) ∙ rw (ej, head_whole p h k, le-ltb p 320 h, lt-ltb p 330 k)

-- its circle is that of its head
pub arc_head : (circles : List Circle) (heads : List HeadMarks) (p : ℕ) → (arc_at circles heads p).circle ≡ head_of p
unfolding arc_at gap_arc between full_circle head_of
arc_head circles heads p = grind arith

-- ---- a sum over numbers is the sum over their arcs

module _ (circles : List Circle) (heads : List HeadMarks) where
  pub sum_by_arcs : {S : Type 0} (add : S → ℕ → S) (add-arc : S → BoundaryArc → S)
      → ((s : S) (p : ℕ) → head_of p < length circles → add s p ≡ add-arc s (arc_at circles heads p))
      → (l : List ℕ) → Every (λ p. head_of p < length circles) l → (s : S)
      → foldl add s l ≡ foldl add-arc s (arcs_listed circles heads l)
  sum_by_arcs add add-arc one l h s =
      fold_related ◌≡◌ (λ p. head_of p < length circles) (arc_at circles heads) add add-arc
      (λ a b p k e. rw e (one b p k)) l h s s refl

  module _ (box : Bounds) where
    add_in_box : (total : Float) (p : ℕ) → head_of p < length circles
        → total +ᶠ term_of (clipped_arc_integral box) circles heads p
        ≡ add_clipped_arc box circles total (arc_at circles heads p)
    unfolding add_clipped_arc term_of
    add_in_box total p h = rw (arc_head circles heads p, lt-ltb (head_of p) (length circles) h)

    pub sum_in_box : (l : List ℕ) → Every (λ p. head_of p < length circles) l → (total : Float)
        → foldl (add_one (term_of (clipped_arc_integral box) circles heads)) total l
        ≡ add_clipped_arcs box circles total (arcs_listed circles heads l)
    sum_in_box = sum_by_arcs (add_one (term_of (clipped_arc_integral box) circles heads))
        (add_clipped_arc box circles) add_in_box

  -- without a box
  add_open : (total : Float) (p : ℕ) → head_of p < length circles
      → add_terms circles heads total p ≡ add_arc circles total (arc_at circles heads p)
  unfolding add_arc arc_terms term_of terms_of term_x term_y term_r
  add_open total p h = rw (arc_head circles heads p, lt-ltb (head_of p) (length circles) h)

  pub sum_open : (l : List ℕ) → Every (λ p. head_of p < length circles) l → (total : Float)
      → foldl (add_terms circles heads) total l ≡ add_arcs circles total (arcs_listed circles heads l)
  sum_open = sum_by_arcs (add_terms circles heads) (add_arc circles) add_open

-- ---- the area of a set whose arcs the walk has listed

module _ (pass : Pass) (S : ℕ) {list : List ℕ}
    (listing : Listing pass.circles.now pass.needed pass.heads.now.items
    (outline_arcs pass.circles.now pass.points.now S) list) where
  abbrev cs : List Circle
  cs = pass.circles.now

  abbrev points : List IntersectionPoint
  points = pass.points.now

  abbrev own : List ℕ
  own = heads_of (length pass.circles.now) S

  below : Every (λ p. head_of p < length pass.circles.now) list
  below = list_below pass list listing.placed

  named : Every (Below (length (heads_of (length pass.circles.now) S)))
      (outline (members_of pass.circles.now pass.points.now S))
  named = rw (sym (members_many cs points S)) (outline_named (members_of cs points S))

  pub row_in_box : (box : Bounds) {sum edges : Float} → empty_box box ≡ false
      → sum ≡ foldl (add_one (term_of (clipped_arc_integral box) pass.circles.now pass.heads.now.items)) zero64
      list
      → edges ≡ add_edges box (map (circle_at pass.circles.now) (heads_of (length pass.circles.now) S)) sum
      → half64 *ᶠ edges ≡ clipped_area box (members_of pass.circles.now pass.points.now S)
  unfolding clipped_area_of clipped_area
  row_in_box box open-box es ee =
      rw (
        open-box,
        circles_of_members cs points S,
        clipped_sum cs own (heads_below (length cs) S) box (outline (members_of cs points S)) named zero64,
        sym listing.said,
        sym (sum_in_box cs pass.heads.now.items box list below zero64),
        sym es,
        sym ee,
      )

  pub row_open : {sum : Float} → sum ≡ foldl (add_terms pass.circles.now pass.heads.now.items) zero64 list
      → half64 *ᶠ sum ≡ open_area (members_of pass.circles.now pass.points.now S)
  unfolding area_of open_area
  row_open es =
      rw (
        circles_of_members cs points S,
        arcs-sum cs own (heads_below (length cs) S) (outline (members_of cs points S)) named zero64,
        sym listing.said,
        sym (sum_open cs pass.heads.now.items list below zero64),
        sym es,
      )

pub area_of_none : (box : Bounds) (circles : List Circle) (points : List IntersectionPoint) (S : ℕ)
    → empty_box box ≡ true
    → zero64 ≡ clipped_area box (members_of circles points S)
unfolding clipped_area_of clipped_area
area_of_none box circles points S e = rw e
