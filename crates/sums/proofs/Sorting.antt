-- Law 1: the points of a head sorted once and filtered for a set are the set's points sorted.
use mathlib.Core.Path.{◌≡◌, refl, ap, ◌∙◌}
use mathlib.Core.Bool.{Bool, true, false, ◌&&◌, cond}
use mathlib.Core.List.{List, [], ◌∷◌, map}
use Prim.Native.Nat.{ℕ, ◌≤◌}
use native.Mathlib.Omega.{arith}
use lib.ListN.{length, length-map}
use lib.Seq.{take_all}
use lib.Ieee.{Float, lt, binary64}
use lib.Ieee.Fits.{sub-fits}
use Rattle.binary64.specs.Units.{Finite}
use Rattle.binary64.proofs.Units.{units_of_lt, units_of_not_lt, lt_of_units, not_lt_of_units}
use Rattle.lists.specs.Lists.{keep}
use Rattle.geometry.specs.declared.circle.Circle.{Circle}
use Rattle.intersections.specs.declared.points.IntersectionPoint.{IntersectionPoint}
use Rattle.lists.specs.Every.{Every, every_both, every_keep}
use Rattle.boundary.specs.Sort.{insert_by, sort_onto, sorted, sort_onto_by, sorted_by}
use Rattle.boundary.specs.Outline.{angle_about}
use Rattle.intersections.specs.Members.{has_parent, counted_for, points_for}
use Rattle.elementary.proofs.arctangent.Promise.{atan2_promise}
use Rattle.lists.proofs.Lists.{keep_length}
use Rattle.boundary.proofs.Sorting.{map_insert}
use Rattle.boundary.specs.declared.sort.Mark.{Mark}
use Rattle.boundary.specs.Marks.{insert_mark}
use Rattle.gaps.specs.Marks.{mark_of, marks_at, adopted_by, angles_in}

-- an angle about a centre is finite, whatever the circle and the point
pub angle_finite : (c : Circle) (q : IntersectionPoint) → Finite (angle_about c q.point)
unfolding angle_about
angle_finite c q = (atan2_promise.always _ _ (sub-fits binary64 _ _) (sub-fits binary64 _ _)).finite

abbrev FiniteMark : Mark → Type 0
FiniteMark m = Finite m.phi

-- none is below one that stands before it
abbrev InOrder : List Mark → Type 0
InOrder [] = Unit
InOrder (x ∷ l) = Every (λ y. lt y.phi x.phi ≡ false) l × InOrder l

insert_every : (P : Mark → Type 0) (x : Mark) (l : List Mark) → P x → Every P l → Every P (insert_mark x l)
unfolding insert_by
insert_every P x [] h g = (h, tt)
insert_every P x (y ∷ l) h g = grind (arith, insert_every P x l h g.1, h, g)

below_rest : {x y z : Float} → Finite x → Finite y → Finite z → lt x y ≡ true → lt z y ≡ false → lt z x ≡ false
below_rest fx fy fz h g = not_lt_of_units fz fx (omega (arith, units_of_lt fx fy h, units_of_not_lt fz fy g))

below_not : {x y : Float} → Finite x → Finite y → lt x y ≡ true → lt y x ≡ false
below_not fx fy h = not_lt_of_units fy fx (omega (arith, units_of_lt fx fy h))

above_rest : {x y z : Float} → Finite x → Finite y → Finite z → lt x y ≡ true → lt z y ≡ false → lt x z ≡ true
above_rest fx fy fz h g = lt_of_units fx fz (omega (arith, units_of_lt fx fy h, units_of_not_lt fz fy g))

insert_order : (x : Mark) (l : List Mark) → FiniteMark x → Every FiniteMark l → InOrder l → InOrder (insert_mark x l)
unfolding insert_by
insert_order x [] fx fl o = (tt, tt)
insert_order x (y ∷ l) fx fl o = by (lt x.phi y.phi) refl (insert_order x l fx fl.1 o.1)
  where
    by : (b : Bool) → lt x.phi y.phi ≡ b → InOrder (insert_mark x l)
        → InOrder (cond b (x ∷ y ∷ l) (y ∷ insert_mark x l))
    by true e r =
        ((below_not fx fl.0 e, every_both l (λ z fz h. below_rest fx fl.0 fz e h) fl.1 o.0), o)
    by false e r = (insert_every (λ z. lt z.phi y.phi ≡ false) x l e o.0, r)

-- before all that are greater
insert_front : (x : Mark) (l : List Mark) → Every (λ z. lt x.phi z.phi ≡ true) l → insert_mark x l ≡ x ∷ l
unfolding insert_by
insert_front x [] h = refl
insert_front x (y ∷ l) h = rw h.0

module _ (p : Mark → Bool) where
  -- put in and then filtered, or filtered and then put in
  keep_insert : (x : Mark) (l : List Mark) → FiniteMark x → Every FiniteMark l → InOrder l
      → keep p (insert_mark x l) ≡ cond (p x) (insert_mark x (keep p l)) (keep p l)
  unfolding insert_by keep
  keep_insert x [] fx fl o = refl
  keep_insert x (y ∷ l) fx fl o = grind (arith, keep_insert x l fx fl.1 o.1, front)
    where
      above : lt x.phi y.phi ≡ true → Every (λ z. lt x.phi z.phi ≡ true) (y ∷ l)
      above e = (e, every_both l (λ z fz h. above_rest fx fl.0 fz e h) fl.1 o.0)

      front : lt x.phi y.phi ≡ true → insert_mark x (keep p (y ∷ l)) ≡ x ∷ keep p (y ∷ l)
      front e = insert_front x (keep p (y ∷ l)) (every_keep (λ z. lt x.phi z.phi ≡ true) p (y ∷ l) (above e))

  keep_sort_onto : (done l : List Mark) → Every FiniteMark done → Every FiniteMark l → InOrder done
      → keep p (sort_onto_by (λ m. m.phi) done l) ≡ sort_onto_by (λ m. m.phi) (keep p done) (keep p l)
  unfolding sort_onto_by keep
  keep_sort_onto done [] fd fl o = refl
  keep_sort_onto done (x ∷ l) fd fl o =
      keep_sort_onto (insert_mark x done) l (insert_every FiniteMark x done fl.0 fd) fl.1
      (insert_order x done fl.0 fd o)
      ∙ rw (keep_insert x done fl.0 fd o) (grind arith)

  -- Law 1: filtered after the sort, or sorted after the filter.
  pub keep_sort : (l : List Mark) → Every FiniteMark l
      → keep p (sorted_by (λ m. m.phi) l) ≡ sorted_by (λ m. m.phi) (keep p l)
  unfolding sorted_by keep
  keep_sort l h = keep_sort_onto [] l tt h tt

-- the angles of sorted marks are the angles sorted
map_sort_onto : (done l : List Mark)
    → map (λ m. m.phi) (sort_onto_by (λ m. m.phi) done l) ≡ sort_onto (map (λ m. m.phi) done) (map (λ m. m.phi) l)
unfolding sort_onto_by
map_sort_onto done [] = refl
map_sort_onto done (x ∷ l) =
    map_sort_onto (insert_mark x done) l ∙ ap (λ t. sort_onto t (map (λ m. m.phi) l)) (map_insert x done)

pub map_sort : (l : List Mark) → map (λ m. m.phi) (sorted_by (λ m. m.phi) l) ≡ sorted (map (λ m. m.phi) l)
unfolding sorted_by
map_sort l = map_sort_onto [] l

-- a filter after a map, and one after another
keep_map : {A B : Type 0} (f : A → B) (p : B → Bool) (l : List A) → keep p (map f l) ≡ map f (keep (λ x. p (f x)) l)
unfolding keep
keep_map f p [] = refl
keep_map f p (x ∷ l) = grind (arith, keep_map f p l)

keep_keep : {A : Type 0} (p q : A → Bool) (l : List A) → keep p (keep q l) ≡ keep (λ x. q x && p x) l
unfolding keep
keep_keep p q [] = refl
keep_keep p q (x ∷ l) = grind (arith, keep_keep p q l)

marks_finite : (c : Circle) (l : List IntersectionPoint) → Every FiniteMark (map (mark_of c) l)
unfolding mark_of
marks_finite c [] = tt
marks_finite c (q ∷ l) = (angle_finite c q, marks_finite c l)

module _ (c : Circle) (S j : ℕ) (points : List IntersectionPoint) where
  counted_by : keep (λ q. adopted_by S (mark_of c q)) (keep (has_parent j) points) ≡ keep (counted_for S j) points
  unfolding adopted_by mark_of has_parent counted_for keep
  counted_by = keep_keep (λ q. adopted_by S (mark_of c q)) (has_parent j) points

  phis_of : (l : List IntersectionPoint)
      → map (λ m. m.phi) (map (mark_of c) l) ≡ map (angle_about c) (map (λ q. q.point) l)
  unfolding mark_of
  phis_of [] = refl
  phis_of (q ∷ l) = ap (λ t. angle_about c q.point ∷ t) (phis_of l)

  whole : length (keep (has_parent j) points) ≤ 32
      → points_for points S j ≡ map (λ q. q.point) (keep (counted_for S j) points)
  unfolding points_for
  whole h =
      take_all 32 (map (λ q. q.point) (keep (counted_for S j) points))
      (omega (
        arith,
        length-map (keep (counted_for S j) points) (λ q. q.point),
        ap length counted_by,
        keep_length (λ q. adopted_by S (mark_of c q))
            (keep (has_parent j) points),
        h,
      ))

  -- the points of head j sorted once, and filtered for S: the sorted angles of the points counted for S at j
  pub angles-in : length (keep (has_parent j) points) ≤ 32
      → angles_in S (marks_at c j points) ≡ sorted (map (angle_about c) (points_for points S j))
  unfolding angles_in marks_at
  angles-in h =
      rw (
        take_all 32 (keep (has_parent j) points) h,
        keep_sort (adopted_by S) (map (mark_of c) (keep (has_parent j) points))
            (marks_finite c (keep (has_parent j) points)),
        map_sort (keep (adopted_by S) (map (mark_of c) (keep (has_parent j) points))),
        keep_map (mark_of c) (adopted_by S) (keep (has_parent j) points),
        counted_by,
        phis_of (keep (counted_for S j) points),
        whole h,
      )
