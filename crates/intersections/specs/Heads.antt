-- The heads of a set as a list, each with its number and its circle: what stands between circles and the members of a set.
use Rattle.std.specs.Prelude.{ℕ, ◌≡◌, List, map, take, length}
use mathlib.Core.List.{map-map}
use Rattle.geometry.specs.declared.circle.Circle.{Circle}
use Rattle.intersections.specs.declared.points.IntersectionPoint.{IntersectionPoint}
use Rattle.intersections.specs.declared.members.HeadCircle.{HeadCircle}
use Rattle.intersections.specs.Members.{Member, heads_of, circle_at, points_for, members_of}

-- what is read of a list of circles or heads of any length: no plan has more than ten
abbrev pub first_ten : {A : Type 0} → List A → List A
first_ten list = take 10 list

-- head j with its circle
abbrev pub head_circle : List Circle → ℕ → HeadCircle
head_circle circles j = record { head = j; circle = circle_at circles j }

-- the heads of S among these circles, in order
unfoldable pub heads_with : List Circle → ℕ → List HeadCircle
unfolding heads_of
heads_with circles S = map (head_circle circles) (heads_of (length circles) S)

-- their circles
abbrev pub circle_list : List HeadCircle → List Circle
circle_list set = map (λ h. h.circle) set

-- a head as a member of S
abbrev pub as_member : List IntersectionPoint → ℕ → HeadCircle → Member
as_member points S h = record { circle = h.circle; points = points_for points S h.head }

-- and the heads of a list
abbrev pub members_with : List IntersectionPoint → ℕ → List HeadCircle → List Member
members_with points S set = map (as_member points S) set

module _ (circles : List Circle) (points : List IntersectionPoint) (S : ℕ) where
  -- those of the set are its members
  pub members_with_heads : members_with points S (heads_with circles S) ≡ members_of circles points S
  unfolding heads_with members_of
  members_with_heads = map-map (as_member points S) (head_circle circles) (heads_of (length circles) S)

  -- and their circles those of the members
  pub circles_with_heads : circle_list (heads_with circles S) ≡ map (circle_at circles) (heads_of (length circles) S)
  unfolding heads_with
  circles_with_heads = map-map (λ h. h.circle) (head_circle circles) (heads_of (length circles) S)
