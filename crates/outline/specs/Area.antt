-- The area that a list of arcs encloses and its gradient, by the Rust's sums in the Rust's order. The circles are a
-- list, in which an arc names one; an arc of no circle of the list adds nothing.
use Rattle.std.specs.Prelude.{ℕ, ◌+◌, ◌*◌, cond, ltb, length, get_or, set, replicate, Float}
use mathlib.Core.List.{List, foldl}
use Rattle.std.specs.Float.{nan}
use Rattle.elementary.specs.Sine.{sine as sin, cosine as cos}
use Rattle.geometry.specs.declared.circle.Circle.{Circle}
use Rattle.boundary.specs.declared.arcs.BoundaryArc.{BoundaryArc}
use Rattle.binary64.specs.Constants.{zero64, half64}
use Rattle.binary64.specs.Functions.{absolute, signum_of}
use Rattle.binary64.specs.Floats.{◌+ᶠ◌, ◌-ᶠ◌, ◌*ᶠ◌}
use Rattle.intersections.specs.Members.{Member, no_circle, circles_of}
use Rattle.boundary.specs.Outline.{outline}

-- ---- area

-- Three terms of one arc of a circle, added to a sum one after another.
unfoldable pub arc_terms : Float → Circle → BoundaryArc → Float
arc_terms total c arc =
    let r = c.radius in
    let a = arc.phi_start in
    let b = a +ᶠ arc.delta_phi in
    let t = total +ᶠ c.center.x *ᶠ r *ᶠ (sin b -ᶠ sin a) in
    let u = t +ᶠ c.center.y *ᶠ r *ᶠ (cos a -ᶠ cos b) in
    u +ᶠ r *ᶠ r *ᶠ arc.delta_phi

unfoldable pub add_arc : List Circle → Float → BoundaryArc → Float
unfolding arc_terms
add_arc cs total arc = cond (ltb arc.circle (length cs)) (arc_terms total (get_or cs arc.circle no_circle) arc) total

-- the arcs one after another, onto a sum
abbrev pub add_arcs : List Circle → Float → List BoundaryArc → Float
add_arcs cs = foldl (add_arc cs)

-- the area that the arcs enclose
unfoldable pub area_of : List Circle → List BoundaryArc → Float
unfolding add_arc
area_of cs arcs = half64 *ᶠ add_arcs cs zero64 arcs

-- ---- gradient: x, y and radius of each circle in turn

-- g with x added to, or taken from, its entry i; g itself where it has no such entry
abbrev pub add_at : List Float → ℕ → Float → List Float
add_at g i x = set g i (get_or g i nan +ᶠ x)

abbrev pub sub_at : List Float → ℕ → Float → List Float
sub_at g i x = set g i (get_or g i nan -ᶠ x)

-- one arc of a circle, added to that circle's three entries
unfoldable pub arc_slopes : List Float → Circle → BoundaryArc → List Float
arc_slopes g c arc =
    let r = c.radius in
    let sign = signum_of arc.delta_phi in
    let off = arc.circle * 3 in
    let gx = add_at g off (sign *ᶠ r *ᶠ (sin arc.phi_end -ᶠ sin arc.phi_start)) in
    let gy = sub_at gx (off + 1) (sign *ᶠ r *ᶠ (cos arc.phi_end -ᶠ cos arc.phi_start)) in
    add_at gy (off + 2) (r *ᶠ absolute arc.delta_phi)

unfoldable pub add_slopes : List Circle → List Float → BoundaryArc → List Float
unfolding arc_slopes
add_slopes cs g arc = cond (ltb arc.circle (length cs)) (arc_slopes g (get_or cs arc.circle no_circle) arc) g

-- the arcs one after another, onto a gradient
abbrev pub add_gradient : List Circle → List Float → List BoundaryArc → List Float
add_gradient cs = foldl (add_slopes cs)

-- ---- of a set: functions of the list of its members

-- the area that the members water together
unfoldable pub open_area : List Member → Float
unfolding area_of outline
open_area ms = area_of (circles_of ms) (outline ms)

-- its gradient, by position
unfoldable pub open_gradient : List Member → List Float
unfolding add_slopes outline
open_gradient ms = add_gradient (circles_of ms) (replicate (3 * length ms) zero64) (outline ms)
