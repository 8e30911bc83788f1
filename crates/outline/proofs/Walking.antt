-- The members of a set: their circles, how many they are, and what is made of their outline, from the list of heads
-- that `members_of` of the code gives.
use mathlib.Core.Path.{◌≡◌, ◌∙◌, sym}
use mathlib.Core.List.{List, [], ◌∷◌, ◌++◌, map, map-map, map-id}
use Prim.Native.Nat.{ℕ, zero, suc, ◌+◌, ◌*◌, ◌≤◌, ◌<◌, min}
use native.Mathlib.Omega.{arith}
use lib.ListN.{length, take, length-map}
use lib.Ieee.{Float}
use Rattle.std.proofs.Math.Nat.{min-eq_left}
use Rattle.std.proofs.lemmas.List.{append_assoc, append-nil, take-map}
use Rattle.geometry.specs.declared.circle.Circle.{Circle}
use Rattle.intersections.specs.declared.members.HeadCircle.{HeadCircle}
use Rattle.intersections.specs.declared.points.IntersectionPoint.{IntersectionPoint}
use Rattle.intersections.specs.Heads.{head_circle, heads_with, circle_list, members_with}
use Rattle.intersections.specs.Heads.{members_with_heads, circles_with_heads}
use Rattle.intersections.specs.Members.{circles_of, heads_of, circle_at, member_at, members_of}
use Rattle.boundary.specs.declared.arcs.BoundaryArc.{BoundaryArc}
use Rattle.boundary.specs.Outline.{outline}
use Rattle.boundary.specs.Set.{arcs_held, numbered, region_arcs}
use Rattle.outline.specs.Area.{area_of, open_area, arc_slopes}
use Rattle.outline.specs.Terms.{slopes_of, add_three_at, arc_slopes_are}

module _ (circles : List Circle) (points : List IntersectionPoint) (S : ℕ) where
  pub circles_of_members : circles_of (members_of circles points S)
      ≡ map (circle_at circles) (heads_of (length circles) S)
  unfolding members_of member_at
  circles_of_members = map-map (λ m. m.circle) (member_at circles points S) (heads_of (length circles) S)

  pub members_many : length (members_of circles points S) ≡ length (heads_of (length circles) S)
  unfolding members_of
  members_many = length-map (heads_of (length circles) S) (member_at circles points S)

  abbrev set : List HeadCircle
  set = heads_with circles S

  -- what `outline_of` of the code gives
  pub outline_of_set : {heads : List HeadCircle} {arcs : List BoundaryArc} → heads ≡ set
      → arcs ≡ outline (members_with points S heads) → arcs ≡ outline (members_of circles points S)
  outline_of_set e f = f ∙ rw (e, members_with_heads circles points S)

  head_numbers : map (λ m. m.head) set ≡ heads_of (length circles) S
  unfolding heads_with
  head_numbers =
      let heads = heads_of (length circles) S in
      map-map (λ m. m.head) (head_circle circles) heads ∙ map-id heads

  pub region_arcs_are : region_arcs circles points S
      ≡ take arcs_held (map (numbered (map (λ m. m.head) set)) (outline (members_with points S set)))
  unfolding region_arcs
  region_arcs_are = rw (head_numbers, members_with_heads circles points S)

  pub open_area_is : open_area (members_of circles points S)
      ≡ area_of (circle_list set) (outline (members_with points S set))
  unfolding open_area
  open_area_is =
      rw (members_with_heads circles points S, circles_with_heads circles points S, circles_of_members)

-- the slopes of an arc of one of ten circles, in the entries after those of the circles before
pub three_entries : (g : List Float) (c : Circle) (arc : BoundaryArc) → arc.circle < 10
    → add_three_at (min arc.circle 10 * 3) (slopes_of c arc) g ≡ arc_slopes g c arc
three_entries g c arc below =
    let few : arc.circle ≤ 10 = omega (arith, below) in
    rw (min-eq_left few, arc_slopes_are g c arc)

-- Arcs under other numbers, of which so many are still to come: the first of them is put behind those before,
pub arcs_next : (f : BoundaryArc → BoundaryArc) (front longer rest others all : List BoundaryArc) (arc put : BoundaryArc)
    (n m : ℕ) → rest ≡ arc ∷ others → m + 1 ≡ n → put ≡ f arc → longer ≡ front ++ put ∷ []
    → front ++ map f (take n rest) ≡ all → longer ++ map f (take m others) ≡ all
arcs_next f front longer rest others all arc put n m r e p l h =
    let more : n ≡ suc m = omega (arith, e) in
    rw (l, p, append_assoc front (f arc ∷ []) (map f (take m others)), sym h, more, r)

-- and where none is left, they are all.
pub arcs_ended : (f : BoundaryArc → BoundaryArc) (front rest arcs : List BoundaryArc) (n k : ℕ)
    → (0 < n → length rest ≡ 0) → front ++ map f (take n rest) ≡ map f (take k arcs) → front ≡ take k (map f arcs)
arcs_ended f front rest arcs zero k none h = sym (append-nil front) ∙ h ∙ sym (take-map f k arcs)
arcs_ended f front [] arcs (suc n) k none h = sym (append-nil front) ∙ h ∙ sym (take-map f k arcs)
arcs_ended f front (x ∷ rest) arcs (suc n) k none h = absurd (omega (arith, none (omega arith)))
