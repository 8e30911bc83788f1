-- What holds between two circles (circle.rs, first part). Rests on root and hypot of elementary, of which only the names are used.
use Rattle.std.specs.Prelude.{Bool, not, ◌&&◌, ◌||◌, cond, List, [], Float}
use Rattle.std.specs.Float.Ieee.{neg}
use Rattle.elementary.specs.Arctangent.{acos}
use Rattle.binary64.specs.Constants.{pi, zero64, half64, two64}
use Rattle.binary64.specs.Functions.{absolute, smaller_of}
use Rattle.elementary.specs.Root.{root}
use Rattle.binary64.specs.Floats.{◌+ᶠ◌, ◌-ᶠ◌, ◌*ᶠ◌, ◌/ᶠ◌, ◌<ᶠ◌, ◌≤ᶠ◌, ◌=ᶠ◌}
use Rattle.geometry.specs.Point.{at, distance}
use Rattle.geometry.specs.Meeting.{distinct}
use Rattle.geometry.specs.declared.point.Point.{Point}
use Rattle.geometry.specs.declared.circle.Circle.{Circle}

-- The circle with this centre and radius, whatever the radius.
abbrev pub around : Point → Float → Circle
around c r = record { center = c; radius = r }

-- PI times the radius, times the radius.
abbrev pub area : Circle → Float
area c = pi *ᶠ c.radius *ᶠ c.radius

-- A circle is closed unless its radius is above 0; so is one whose radius is no number. Document 02, slip 3.
abbrev pub is_closed : Circle → Bool
is_closed c = not (zero64 <ᶠ c.radius)

abbrev pub either_closed : Circle → Circle → Bool
either_closed a b = is_closed a || is_closed b

-- The centres' distance and the other's radius are together at most this radius.
abbrev pub covers : Circle → Circle → Bool
covers a b = distance a.center b.center +ᶠ b.radius ≤ᶠ a.radius

-- The point lies within the radius, or on it.
abbrev pub covers_point : Circle → Point → Bool
covers_point c p = distance c.center p ≤ᶠ c.radius

-- A closed circle contains no circle and no point, and is contained in none.
abbrev pub contains : Circle → Circle → Bool
contains a b = not (either_closed a b) && covers a b

abbrev pub contains_point : Circle → Point → Bool
contains_point c p = not (is_closed c) && covers_point c p

-- The outlines cross: the distance lies strictly between the difference and the sum of the radii.
abbrev pub intersects : Circle → Circle → Bool
intersects a b =
    let d = distance a.center b.center in
    (d <ᶠ a.radius +ᶠ b.radius) && (absolute (a.radius -ᶠ b.radius) <ᶠ d)

-- The area between two arcs, for radii r and s and centres at the distance d: a sector of each circle, less the kite between the centres and
-- the points.
abbrev pub lens : Float → Float → Float → Float
lens r s d =
    let sector1 = r *ᶠ r *ᶠ acos ((d *ᶠ d +ᶠ r *ᶠ r -ᶠ s *ᶠ s) /ᶠ (two64 *ᶠ d *ᶠ r)) in
    let sector2 = s *ᶠ s *ᶠ acos ((d *ᶠ d +ᶠ s *ᶠ s -ᶠ r *ᶠ r) /ᶠ (two64 *ᶠ d *ᶠ s)) in
    let kite = half64 *ᶠ root ((r +ᶠ s -ᶠ d) *ᶠ (d +ᶠ r -ᶠ s) *ᶠ (d -ᶠ r +ᶠ s) *ᶠ (d +ᶠ r +ᶠ s)) in
    sector1 +ᶠ sector2 -ᶠ kite

-- The area that two circles share: +0 where they are apart or touch from outside, the smaller circle where it lies within the other, and
-- the lens otherwise.
abbrev pub intersection_area : Circle → Circle → Float
intersection_area a b =
    let d = distance a.center b.center in
    let least = smaller_of a.radius b.radius in
    cond
    (a.radius +ᶠ b.radius ≤ᶠ d)
    zero64
    (cond (d ≤ᶠ absolute (a.radius -ᶠ b.radius)) (pi *ᶠ least *ᶠ least) (lens a.radius b.radius d))

-- Document 01: identical heads have the same centre and the same radius.
abbrev pub identical : Circle → Circle → Bool
identical a b = (a.center.x =ᶠ b.center.x) && ((a.center.y =ᶠ b.center.y) && (a.radius =ᶠ b.radius))

-- The outlines do not meet: the circles are apart, or one lies within the other.
abbrev pub apart : Circle → Circle → Float → Bool
apart a b d = (a.radius +ᶠ b.radius <ᶠ d) || (d <ᶠ absolute (a.radius -ᶠ b.radius))

-- The points where the outlines cross, for centres at the distance d. The chord's foot lies the way `along` from the first centre towards
-- the second, the points `across` from the foot, the first to the left.
abbrev pub crossing : Circle → Circle → Float → List Point
crossing a b d =
    let along = (a.radius *ᶠ a.radius -ᶠ b.radius *ᶠ b.radius +ᶠ d *ᶠ d) /ᶠ (two64 *ᶠ d) in
    let across = root (a.radius *ᶠ a.radius -ᶠ along *ᶠ along) in
    let dx = b.center.x -ᶠ a.center.x in
    let dy = b.center.y -ᶠ a.center.y in
    let x = a.center.x +ᶠ along *ᶠ dx /ᶠ d in
    let y = a.center.y +ᶠ along *ᶠ dy /ᶠ d in
    let rx = neg dy *ᶠ (across /ᶠ d) in
    let ry = dx *ᶠ (across /ᶠ d) in
    distinct (at (x +ᶠ rx) (y +ᶠ ry)) (at (x -ᶠ rx) (y -ᶠ ry))

-- Document 01's meeting of two heads: identical ones have none.
abbrev pub outline_points : Circle → Circle → List Point
outline_points a b =
    let d = distance a.center b.center in
    cond (identical a b) [] (cond (apart a b d) [] (crossing a b d))

-- A closed circle meets none.
abbrev pub intersection_points : Circle → Circle → List Point
intersection_points a b = cond (either_closed a b) [] (outline_points a b)
