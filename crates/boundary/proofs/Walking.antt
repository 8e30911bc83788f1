-- The walk round a set: what the list holds after so many members, and after so many gaps of the next one.
use mathlib.Core.Path.{◌≡◌, refl, sym, ap, ◌∙◌}
use mathlib.Core.Bool.{Bool, true, false, cond}
use mathlib.Core.List.{List, [], ◌∷◌, ◌++◌, map, append_assoc, append-nil, map-map}
use Prim.Native.Nat.{ℕ, zero, suc, ◌+◌, ◌≤◌, ◌<◌}
use native.Mathlib.Numerals.{add-one}
use native.Mathlib.Omega.{arith}
use borrow.Author.Tests.{eqb-true, eqb-false}
use lib.Dec.{eqb}
use lib.ListN.{length, get_or, drop, length-map, drop_of_length-le}
use lib.Seq.{drop-cons}
use lib.Ieee.{Float}
use Rattle.lists.specs.Lists.{up_to, keep}
use Rattle.intersections.specs.declared.members.HeadCircle.{HeadCircle}
use Rattle.intersections.specs.declared.points.IntersectionPoint.{IntersectionPoint}
use Rattle.intersections.specs.Members.{Member, circles_of, no_circle, points_for}
use Rattle.intersections.specs.Heads.{circle_list, as_member, members_with}
use Rattle.boundary.specs.declared.arcs.BoundaryArc.{BoundaryArc}
use Rattle.boundary.specs.Outline.{lets, owned_from, angle_about, arcs_at, angles_of, outline_from, outline}
use Rattle.boundary.specs.Sort.{sorted, sort_onto_by, sorted_by}

-- ---- the members one after another

-- what stands for a member that a list does not have
abbrev pub nobody : HeadCircle
nobody = record { head = 0; circle = no_circle }

module _ (points : List IntersectionPoint) (S : ℕ) (set : List HeadCircle) where
  -- the arcs of a member at k
  abbrev arcs_by : ℕ → HeadCircle → List BoundaryArc
  arcs_by k m = arcs_at (circle_list set) k m.circle (sorted (map (angle_about m.circle) (points_for points S m.head)))

  -- of the one that stands there
  abbrev pub arcs_of : ℕ → List BoundaryArc
  arcs_of k = arcs_by k (get_or set k nobody)

  abbrev from : ℕ → List BoundaryArc
  from k = outline_from (circle_list set) k (members_with points S (drop k set))

  -- the arcs from the member at k on: its own, then those of the rest
  from_step : (k : ℕ) → k < length set → from k ≡ arcs_of k ++ from (suc k)
  unfolding outline_from angles_of
  from_step k h = rw (drop-cons set k nobody h)

  -- past the last member there are none
  from_end : from (length set) ≡ []
  unfolding outline_from
  from_end = rw (drop_of_length-le set {i = length set} (omega arith))

  -- the arcs of the members before k, and of those from k on
  to_and_from : (k : ℕ) → k ≤ length set → up_to arcs_of k ++ from k ≡ outline_from (circle_list set) 0 (members_with points S set)
  unfolding up_to
  to_and_from zero h = refl
  to_and_from (suc k) h =
      append_assoc (up_to arcs_of k) (arcs_of k) (from (suc k))
      ∙ ap (λ l. up_to arcs_of k ++ l) (sym (from_step k (omega arith)))
      ∙ to_and_from k (omega arith)

  pub all_members : up_to arcs_of (length set) ≡ outline_from (circle_list set) 0 (members_with points S set)
  all_members =
      sym (append-nil (up_to arcs_of (length set)))
      ∙ ap (λ l. up_to arcs_of (length set) ++ l) (sym from_end)
      ∙ to_and_from (length set) (omega arith)

-- ---- the outline of a single, and of any other number

-- with no point to look at, a single has its full circle: the probe is its own
single : (points : List IntersectionPoint) (S : ℕ) (set : List HeadCircle) → length set ≡ 1
    → outline (members_with points S set) ≡ outline_from (circle_list set) 0 (members_with [] S set)
unfolding outline outline_from angles_of points_for keep sorted_by sort_onto_by arcs_at owned_from lets
single points S [] e = absurd (omega arith)
single points S (m ∷ (m' ∷ ms)) e = absurd (omega arith)
single points S (m ∷ []) e = refl

other : (ms : List Member) → (length ms ≡ 1 → ⊥) → outline ms ≡ outline_from (circles_of ms) 0 ms
unfolding outline outline_from
other [] h = refl
other (m ∷ []) h = absurd (h refl)
other (m ∷ (m' ∷ ms)) h = refl

pub outline_looked : (points : List IntersectionPoint) (S : ℕ) (set : List HeadCircle)
    → outline (members_with points S set) ≡ outline_from (circle_list set) 0 (members_with (cond (eqb (length set) 1) [] points) S set)
outline_looked points S set = by (eqb (length set) 1) refl
  where
    by : (b : Bool) → eqb (length set) 1 ≡ b
        → outline (members_with points S set) ≡ outline_from (circle_list set) 0 (members_with (cond b [] points) S set)
    by true t = single points S set (eqb-true _ 1 t)
    by false t =
        other (members_with points S set) (λ h. eqb-false _ 1 t (sym (length-map set (as_member points S)) ∙ h))
        ∙ ap (λ l. outline_from l 0 (members_with points S set)) (map-map (λ m. m.circle) (as_member points S) set)

-- ---- the loop

module _ (points : List IntersectionPoint) (S : ℕ) (set : List HeadCircle) where
  -- the arcs of the members before k
  abbrev pub before_member : ℕ → List BoundaryArc
  before_member k = up_to (arcs_of points S set) k

  pub no_member : before_member 0 ≡ []
  unfolding up_to
  no_member = refl

  -- with those of the member at k, whose angles are given
  pub next_member : (k : ℕ) (m : HeadCircle) (phis : List Float) → get_or set k nobody ≡ m
      → phis ≡ sorted (map (angle_about m.circle) (points_for points S m.head))
      → before_member k ++ arcs_at (circle_list set) k m.circle phis ≡ before_member (k + 1)
  unfolding up_to
  next_member k m phis em ep = rw (add-one k, em, ep) refl
