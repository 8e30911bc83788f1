-- The outline of a set: the arcs that go round what its heads water together. A set is the list of its members; an arc
-- names its member by the position in that list.
use Rattle.std.specs.Prelude.{ℕ, suc, ◌+◌, ◌%◌, Bool, true, not, ◌&&◌, ◌||◌, cond, List, [], ◌∷◌, ◌++◌, map, eqb, ltb, length, get_or, Float, Option, Some, None}
use Rattle.std.specs.Float.{nan}
use Rattle.elementary.specs.Sine.{sine as sin, cosine as cos}
use Rattle.elementary.specs.Arctangent.{atan2}
use Rattle.geometry.specs.declared.point.Point.{Point}
use Rattle.geometry.specs.declared.circle.Circle.{Circle}
use Rattle.intersections.specs.Members.{Member, circles_of}
use Rattle.boundary.specs.declared.arcs.BoundaryArc.{BoundaryArc}
use Rattle.binary64.specs.Constants.{zero64, half64, one64, two64, pi, two_pi}
use Rattle.binary64.specs.Functions.{absolute, larger_of, rem_euclid}
use Rattle.geometry.specs.Point.{at, squared_distance}
use Rattle.binary64.specs.Floats.{◌+ᶠ◌, ◌-ᶠ◌, ◌*ᶠ◌, ◌/ᶠ◌, ◌<ᶠ◌, ◌≤ᶠ◌}
use Rattle.geometry.specs.Tolerances.{arc_eps, coincidence, coincidence_share}
use Rattle.lists.specs.Lists.{up_to}
use Rattle.boundary.specs.Sort.{sorted, sorted_by}

-- ---- which member has a point of its edge

-- The implicit form of a circle at a point: below 1 inside, 1 on the edge, above 1 outside.
unfoldable pub implicit_value : Point → Circle → Float
unfolding squared_distance
implicit_value p c = squared_distance p c.center /ᶠ (c.radius *ᶠ c.radius)

-- How far from 1 the implicit form counts as 1: twice the distance 1e-7 over the radius, and at least 1e-12.
unfoldable pub tolerance : Circle → Float
tolerance c = larger_of (two64 *ᶠ coincidence /ᶠ c.radius) coincidence_share

-- The member at position l lets the one at k have the point p: l is k, or p is not beyond l's circle, and not on its
-- edge with l the lower position.
unfoldable pub lets : ℕ → Point → ℕ → Circle → Bool
unfolding tolerance implicit_value
lets k p l c =
    eqb l k
    || (not (one64 +ᶠ tolerance c <ᶠ implicit_value p c)
    && not ((absolute (implicit_value p c -ᶠ one64) ≤ᶠ tolerance c) && ltb l k))

-- all of the circles, from position l on, let k have p
unfoldable pub owned_from : ℕ → Point → ℕ → List Circle → Bool
unfolding lets
owned_from k p l [] = true
owned_from k p l (c ∷ cs) = lets k p l c && owned_from k p (suc l) cs

-- The point p of the edge of the member at k is k's own.
abbrev pub owned : ℕ → Point → List Circle → Bool
owned k p cs = owned_from k p 0 cs

-- ---- angles

-- An angle wrapped into (-π, π].
unfoldable pub wrap_angle : Float → Float
wrap_angle x = let y = rem_euclid x two_pi in cond (pi <ᶠ y) (y -ᶠ two_pi) y

-- the angle of a point about a circle's centre
unfoldable pub angle_about : Circle → Point → Float
angle_about c p = atan2 (p.y -ᶠ c.center.y) (p.x -ᶠ c.center.x)

-- the point of a circle's edge at an angle
unfoldable pub point_at : Circle → Float → Point
point_at c phi = at (c.center.x +ᶠ c.radius *ᶠ cos phi) (c.center.y +ᶠ c.radius *ᶠ sin phi)

-- the point of a circle's edge straight to the right
unfoldable pub probe : Circle → Point
probe c = at (c.center.x +ᶠ c.radius) c.center.y

-- the gap from one angle counterclockwise to another
unfoldable pub gap : Float → Float → Float
gap a b = let delta = b -ᶠ a in cond (delta ≤ᶠ zero64) (delta +ᶠ two_pi) delta

-- A gap of nothing or of a full turn, within 1e-9, is skipped.
unfoldable pub collapsed : Float → Bool
collapsed delta = (delta <ᶠ arc_eps) || (two_pi -ᶠ arc_eps <ᶠ delta)

-- the midpoint of the gap from a to b of a circle
unfoldable pub midpoint : Circle → Float → Float → Point
unfolding gap point_at
midpoint c a b = point_at c (a +ᶠ gap a b *ᶠ half64)

-- the same of a gap that is not collapsed
unfoldable pub gap_midpoint : Circle → Float → Float → Option Point
unfolding gap collapsed midpoint
gap_midpoint c a b = cond (collapsed (gap a b)) None (Some (midpoint c a b))

-- ---- arcs

-- The two makers of an arc of the member at a position. The whole circle:
unfoldable pub full_circle : ℕ → Circle → BoundaryArc
full_circle k c = record { circle = k; phi_start = zero64; phi_end = zero64; delta_phi = two_pi }

-- From an angle over a gap:
unfoldable pub between : ℕ → Circle → Float → Float → BoundaryArc
unfolding wrap_angle
between k c a delta = record { circle = k; phi_start = a; phi_end = wrap_angle (a +ᶠ delta); delta_phi = delta }

-- From the i-th angle of the member at k to the next, round the circle: an arc if the gap is not collapsed and its
-- midpoint is k's own.
unfoldable pub arc_from : List Circle → ℕ → Circle → List Float → ℕ → List BoundaryArc
unfolding gap collapsed point_at between owned_from
arc_from cs k c phis i =
    let a = get_or phis i nan in
    let delta = gap a (get_or phis ((i + 1) % length phis) nan) in
    cond (not (collapsed delta) && owned k (point_at c (a +ᶠ delta *ᶠ half64)) cs) (between k c a delta ∷ []) []

-- The arcs of the member at k, whose sorted angles are given. With no angle: its full circle, if the probe is k's own.
-- "A head with just one meeting point counted for it gets no arc there": its one gap is a full turn.
unfoldable pub arcs_at : List Circle → ℕ → Circle → List Float → List BoundaryArc
unfolding probe full_circle arc_from owned_from up_to
arcs_at cs k c [] = cond (owned k (probe c) cs) (full_circle k c ∷ []) []
arcs_at cs k c (phi ∷ phis) = up_to (arc_from cs k c (phi ∷ phis)) (length (phi ∷ phis))

-- the angles of a member's points, sorted
unfoldable pub angles_of : Member → List Float
unfolding angle_about sorted_by
angles_of m = sorted (map (angle_about m.circle) m.points)

-- the arcs of the members from position k on, among all the circles of the set
unfoldable pub outline_from : List Circle → ℕ → List Member → List BoundaryArc
unfolding arcs_at angles_of
outline_from cs k [] = []
outline_from cs k (m ∷ ms) = arcs_at cs k m.circle (angles_of m) ++ outline_from cs (suc k) ms

-- "The outline of a single is its head's full circle, whatever meets it": no point is looked at. In a larger set the arcs
-- of each member, in order.
unfoldable pub outline : List Member → List BoundaryArc
unfolding full_circle outline_from
outline [] = []
outline (m ∷ []) = full_circle 0 m.circle ∷ []
outline (m ∷ (m' ∷ ms)) = outline_from (circles_of (m ∷ (m' ∷ ms))) 0 (m ∷ (m' ∷ ms))
