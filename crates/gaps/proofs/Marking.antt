-- Laws of what is held of the heads: how many marks a head has, and what is held of each; and each list as the code's
-- loops fill it.
use mathlib.Core.Path.{◌≡◌, refl, sym, ap, ap₂, ◌∙◌}
use mathlib.Core.Bool.{Bool, true, false, cond}
use mathlib.Core.List.{List, [], ◌∷◌, ◌++◌, map, map-append, append-nil}
use Prim.Native.Nat.{ℕ, ◌+◌, ◌/◌, ◌^◌, ◌≤◌, ◌<◌}
use native.Mathlib.Nat.{le_refl}
use native.Mathlib.Numerals.{add-one}
use native.Mathlib.Omega.{arith}
use lib.Bits.{bit_and}
use lib.Dec.{ltb}
use borrow.Author.Tests.{lt-ltb, ltb-true, ltb-false, eq-eqb, ne_eqb}
use lib.ListN.{length, get_or, set, take, length-map, length-take}
use lib.Seq.{take_all, take-suc}
use Rattle.std.specs.List.{filter}
use Rattle.masks.specs.Mask.{in_set}
use Rattle.masks.specs.Operations.{in_by_shift}
use Rattle.lists.specs.Lists.{keep}
use Rattle.lists.proofs.Lists.{keep_push}
use Rattle.lists.proofs.Listing.{take_push}
use Rattle.lists.specs.Written.{tab, written}
use Rattle.lists.proofs.Writing.{written_none, write_next, written_before, written_past, written_whole}
use Rattle.lists.proofs.Writing.{length_tab, get_d_tab}
use Rattle.geometry.specs.declared.circle.Circle.{Circle}
use Rattle.intersections.specs.declared.points.IntersectionPoint.{IntersectionPoint}
use Rattle.intersections.specs.Members.{has_parent, no_point, points_held}
use Rattle.boundary.specs.declared.sort.Mark.{Mark}
use Rattle.boundary.specs.Marks.{mark, no_mark, insert_mark}
use Rattle.boundary.specs.Outline.{angle_about}
use Rattle.boundary.specs.Sort.{sort_onto_by, sorted_by}
use Rattle.boundary.proofs.Sorting.{sorted_length}
use Rattle.gaps.proofs.Next.{next_is, next_less}
use Rattle.gaps.specs.declared.marks.HeadMarks.{HeadMarks}
use Rattle.gaps.specs.Gaps.{next_of}
use Rattle.gaps.specs.Marks.{mark_of, marks_at, Few, gap_letters, phi_at, lets_at, let_at, marks_let}
use Rattle.gaps.specs.Marks.{head_marked, unmarked, heads_marked}

-- the library's filter
pub filter_keep : {A : Type 0} (p : A → Bool) (l : List A) → filter p l ≡ keep p l
unfolding keep
filter_keep p [] = refl
filter_keep p (x ∷ l) = by (p x) (filter_keep p l)
  where
    by : (b : Bool) → filter p l ≡ keep p l → cond b (x ∷ filter p l) (filter p l) ≡ cond b (x ∷ keep p l) (keep p l)
    by true e = ap (λ t. x ∷ t) e
    by false e = e

-- ---- the marks of a head

-- sorting with one more at the end puts that one in last
sort_onto_push : (done l : List Mark) (x : Mark)
    → sort_onto_by (λ m. m.phi) done (l ++ (x ∷ [])) ≡ insert_mark x (sort_onto_by (λ m. m.phi) done l)
unfolding sort_onto_by
sort_onto_push done [] x = refl
sort_onto_push done (y ∷ l) x = sort_onto_push (insert_mark y done) l x

module _ (c : Circle) (j : ℕ) where
  -- the points whose marks there are
  abbrev held : List IntersectionPoint → List IntersectionPoint
  held l = take points_held (keep (has_parent j) l)

  abbrev by_angle : List IntersectionPoint → List Mark
  by_angle l = sorted_by (λ m. m.phi) (map (mark_of c) l)

  many : (l : List IntersectionPoint) → length (marks_at c j l) ≡ length (held l)
  unfolding marks_at
  many l = sorted_length (λ m. m.phi) (map (mark_of c) (held l)) ∙ length-map (held l) (mark_of c)

  -- there are places for all
  pub marks_few : (points : List IntersectionPoint) → length (marks_at c j points) ≤ 32
  marks_few points = omega (arith, many points, length-take points_held (keep (has_parent j) points))

  pub marks_none : marks_at c j [] ≡ []
  unfolding marks_at keep sorted_by sort_onto_by
  marks_none = refl

  module _ (l : List IntersectionPoint) (q : IntersectionPoint) where
    -- one more at the end, a point of head j
    put : has_parent j q ≡ true
        → cond (ltb (length (marks_at c j l)) 32) (insert_mark (mark_of c q) (marks_at c j l)) (marks_at c j l)
        ≡ marks_at c j (l ++ (q ∷ []))
    unfolding marks_at sorted_by
    put e =
        rw (many l, keep_push (has_parent j) l q, e, take_push points_held (keep (has_parent j) l) q)
        (by (ltb (length (held l)) points_held))
      where
        by : (b : Bool)
            → cond b (insert_mark (mark_of c q) (by_angle (held l))) (by_angle (held l))
            ≡ by_angle (cond b (held l ++ (q ∷ [])) (held l))
        by true =
            rw (map-append (mark_of c) (held l) (q ∷ []))
            (sym (sort_onto_push [] (map (mark_of c) (held l)) (mark_of c q)))
        by false = refl

    -- a point of others
    leave : has_parent j q ≡ false → marks_at c j l ≡ marks_at c j (l ++ (q ∷ []))
    unfolding marks_at
    leave e = rw (keep_push (has_parent j) l q, e, append-nil (keep (has_parent j) l))

  -- a point more of a list
  module _ (points : List IntersectionPoint) (i : ℕ) (below : i < length points) where
    abbrev q : IntersectionPoint
    q = get_or points i no_point

    abbrev so_far : List Mark
    so_far = marks_at c j (take i points)

    pub marks_with : has_parent j q ≡ true
        → cond (ltb (length so_far) 32) (insert_mark (mark (angle_about c q.point) q.adopters) so_far) so_far
        ≡ marks_at c j (take (i + 1) points)
    unfolding mark_of
    marks_with e = rw (add-one i, take-suc points i no_point below) (put (take i points) q e)

    pub marks_without : has_parent j q ≡ false → so_far ≡ marks_at c j (take (i + 1) points)
    marks_without e = rw (add-one i, take-suc points i no_point below) (leave (take i points) q e)

pub ruleset marking = (marks_none, marks_with, marks_without)

-- where there are places for the points of every head, none is left out
pub marks_whole : (circles : List Circle) (points : List IntersectionPoint) → Few circles points
    → (c : Circle) (j : ℕ) → j < length circles
    → marks_at c j points ≡ sorted_by (λ m. m.phi) (map (mark_of c) (keep (has_parent j) points))
unfolding marks_at
marks_whole circles points few c j h = rw (take_all points_held (keep (has_parent j) points) (few j h))

-- ---- the gaps one after another

module _ (circles : List Circle) (j : ℕ) (marks : List Mark) where
  -- those before i have who lets the head have them
  pub let_to : ℕ → List Mark
  let_to i = written (let_at circles j marks) i marks

  pub let_none : marks ≡ let_to 0
  unfolding let_to
  let_none = written_none (let_at circles j marks) marks

  -- they keep their angles
  phi_kept : (i k : ℕ) → phi_at (let_to i) k ≡ phi_at marks k
  unfolding let_to let_at
  phi_kept i k = by (ltb k i) refl
    where
      by : (b : Bool) → ltb k i ≡ b → phi_at (let_to i) k ≡ phi_at marks k
      by true e = ap (λ m. m.phi) (written_before (let_at circles j marks) i k marks no_mark (ltb-true k i e))
      by false e = ap (λ m. m.phi) (written_past (let_at circles j marks) i k marks no_mark (ltb-false k i e))

  pub let_next : {l : List Mark} {v : ℕ} (i : ℕ) → l ≡ let_to i → i < length marks
      → v ≡ gap_letters circles j (phi_at l i) (phi_at l (next_of i (length marks)))
      → let m = get_or l i no_mark in
      set l i (record { phi = m.phi; adopters = m.adopters; lets = v }) ≡ let_to (i + 1)
  unfolding let_to let_at lets_at
  let_next {l} {v} i e h g =
      let here = ap (λ l. get_or l i no_mark) e
      ∙ written_past (let_at circles j marks) i i marks no_mark (le_refl i) in
      let lets = g
      ∙ ap (λ (l : List Mark). gap_letters circles j (phi_at l i) (phi_at l (next_of i (length marks)))) e
      ∙ ap₂ (gap_letters circles j) (phi_kept i i) (phi_kept i (next_of i (length marks))) in
      ap (λ t. set t i
      (record { phi = (get_or l i no_mark).phi; adopters = (get_or l i no_mark).adopters; lets = v })) e
      ∙ write_next (let_at circles j marks) i marks _ no_mark h
      (rw (here, lets, lt-ltb i (length marks) h, next_is i (length marks) h) refl)

  pub let_all : (i : ℕ) → i ≡ length marks → let_to i ≡ marks_let circles j marks
  unfolding let_to marks_let
  let_all i e = written_whole (let_at circles j marks) i (length marks) marks e refl

pub ruleset letting = (let_none, let_next, let_all, next_less)

-- ---- what is held of each head

-- the default is of a head that no set needs
pub unmarked_is : {items : List Mark} {owners : ℕ} → items ≡ [] → owners ≡ 0
    → ◌≡◌ {A = HeadMarks} (record { marks = record { items = items }; owners = owners }) unmarked
unmarked_is e f = rw (e, f) refl

module _ (circles : List Circle) (points : List IntersectionPoint) (needed : ℕ) where
  -- one of each head
  pub heads_many : length (heads_marked circles points needed) ≡ length circles
  unfolding heads_marked
  heads_many = length_tab _ (length circles)

  held_at : (j : ℕ) (d : HeadMarks) → j < length circles
      → get_or (heads_marked circles points needed) j d ≡ cond (in_set needed j) (head_marked circles points j) unmarked
  unfolding heads_marked
  held_at j d h = get_d_tab _ (length circles) j d h

  -- of a head that is needed, and of one that is not
  pub head_in : (j : ℕ) (d : HeadMarks) → j < length circles → in_set needed j ≡ true
      → get_or (heads_marked circles points needed) j d ≡ head_marked circles points j
  head_in j d h e = rw (held_at j d h, e)

  pub head_out : (j : ℕ) (d : HeadMarks) → j < length circles → in_set needed j ≡ false
      → get_or (heads_marked circles points needed) j d ≡ unmarked
  head_out j d h e = rw (held_at j d h, e)

  -- those below j
  pub heads_to : ℕ → List HeadMarks
  heads_to j = tab (λ j. cond (in_set needed j) (head_marked circles points j) unmarked) j

  pub heads_none : heads_to 0 ≡ []
  unfolding heads_to tab
  heads_none = refl

  pub heads_few : (j : ℕ) → length (heads_to j) ≡ j
  unfolding heads_to
  heads_few j = length_tab _ j

  pub heads_with : (j : ℕ) → bit_and (needed / 2 ^ j) 1 ≡ 1
      → heads_to j ++ (head_marked circles points j ∷ []) ≡ heads_to (j + 1)
  unfolding heads_to tab
  heads_with j e = rw (add-one j, ← in_by_shift needed j, eq-eqb _ _ e) refl

  pub heads_without : (j : ℕ) → (bit_and (needed / 2 ^ j) 1 ≡ 1 → ⊥) → heads_to j ++ (unmarked ∷ []) ≡ heads_to (j + 1)
  unfolding heads_to tab
  heads_without j e = rw (add-one j, ← in_by_shift needed j, ne_eqb _ _ e) refl

  pub heads_all : (j : ℕ) → j ≡ length circles → heads_to j ≡ heads_marked circles points needed
  unfolding heads_to heads_marked
  heads_all j e = rw e refl

pub ruleset heading = (heads_none, heads_few, heads_with, heads_without, heads_all)
