-- The points counted for a set at a head, one after another, and their angles in order: what the loop of `angles_for` has found.
use mathlib.Core.Path.{◌≡◌, refl, sym, ◌∙◌}
use mathlib.Core.Bool.{Bool, true, false, cond}
use mathlib.Core.List.{List, [], ◌∷◌, ◌++◌, map, map-append, append-nil}
use Prim.Native.Nat.{ℕ}
use lib.Dec.{ltb}
use lib.ListN.{length, length-map}
use lib.Ieee.{Float}
use Rattle.lists.specs.Lists.{keep}
use Rattle.lists.proofs.Lists.{keep_push}
use Rattle.lists.proofs.Listing.{take_push}
use Rattle.geometry.specs.declared.circle.Circle.{Circle}
use Rattle.intersections.specs.declared.points.IntersectionPoint.{IntersectionPoint}
use Rattle.boundary.specs.Sort.{insert, sort_onto, sorted, sort_onto_by, sorted_by}
use Rattle.boundary.specs.Outline.{angle_about}
use Rattle.boundary.proofs.Sorting.{sorted_length}
use Rattle.intersections.specs.Members.{counted_for, points_for, points_held}

-- sorting with one more at the end puts that one in last
sort_onto_push : (done l : List Float) (x : Float) → sort_onto done (l ++ (x ∷ [])) ≡ insert x (sort_onto done l)
unfolding sort_onto_by
sort_onto_push done [] x = refl
sort_onto_push done (y ∷ l) x = sort_onto_push (insert y done) l x

pub sorted_push : (l : List Float) (x : Float) → sorted (l ++ (x ∷ [])) ≡ insert x (sorted l)
unfolding sorted_by
sorted_push l x = sort_onto_push [] l x

module _ (S j : ℕ) (l : List IntersectionPoint) (q : IntersectionPoint) where
  -- a counted point more, while there is room
  pub points_with : counted_for S j q ≡ true
      → points_for (l ++ (q ∷ [])) S j ≡ cond (ltb (length (points_for l S j)) points_held) (points_for l S j ++ (q.point ∷ [])) (points_for l S j)
  unfolding points_for
  points_with e =
      rw (keep_push (counted_for S j) l q, e, map-append (λ q. q.point) (keep (counted_for S j) l) (q ∷ []))
      (take_push points_held (map (λ q. q.point) (keep (counted_for S j) l)) q.point)

  -- a point that is not counted
  pub points_without : counted_for S j q ≡ false → points_for (l ++ (q ∷ [])) S j ≡ points_for l S j
  unfolding points_for
  points_without e = rw (keep_push (counted_for S j) l q, e, append-nil (keep (counted_for S j) l))

module _ (c : Circle) (S j : ℕ) (l : List IntersectionPoint) (q : IntersectionPoint) where
  -- the angles of the points counted among the points of l, in order
  abbrev pub angles_to : List IntersectionPoint → List Float
  angles_to l = sorted (map (angle_about c) (points_for l S j))

  -- a list of them, and the angle of a counted point put in while there is room
  pub angles_with : (list r : List Float) → counted_for S j q ≡ true
      → r ≡ cond (ltb (length list) 32) (insert (angle_about c q.point) list) list → list ≡ angles_to l → r ≡ angles_to (l ++ (q ∷ []))
  angles_with list r e g h = g ∙ rw (h, points_with S j l q e, many) (by (ltb (length (points_for l S j)) 32))
    where
      many : length (angles_to l) ≡ length (points_for l S j)
      many = sorted_length (λ x. x) _ ∙ length-map (points_for l S j) (angle_about c)

      by : (b : Bool) → cond b (insert (angle_about c q.point) (angles_to l)) (angles_to l)
          ≡ sorted (map (angle_about c) (cond b (points_for l S j ++ (q.point ∷ [])) (points_for l S j)))
      by true =
          rw (map-append (angle_about c) (points_for l S j) (q.point ∷ []))
          (sym (sorted_push (map (angle_about c) (points_for l S j)) (angle_about c q.point)))
      by false = refl

-- with no point there is none
pub angles_none : (c : Circle) (S j : ℕ) → sorted (map (angle_about c) (points_for [] S j)) ≡ []
unfolding points_for keep sorted_by sort_onto_by
angles_none c S j = refl
