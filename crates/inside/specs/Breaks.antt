-- The breaks of an arc: its two ends and the angles at which it crosses the four edges of the box, in order.
use Rattle.std.specs.Prelude.{ℕ, ◌+◌, ◌≤◌, ◌≡◌, Bool, ◌&&◌, cond, List, [], ◌∷◌, ◌++◌, map, length, Float}
use Rattle.std.specs.Float.Ieee.{neg}
use Rattle.elementary.specs.Arctangent.{acos, asin}
use Rattle.geometry.specs.declared.bounds.Bounds.{Bounds}
use Rattle.geometry.specs.declared.circle.Circle.{Circle}
use Rattle.geometry.specs.Tolerances.{clip_angle}
use Rattle.lists.specs.Lists.{keep}
use Rattle.binary64.specs.Constants.{zero64, one64, pi, two_pi}
use Rattle.binary64.specs.Functions.{absolute}
use Rattle.binary64.specs.Floats.{◌+ᶠ◌, ◌-ᶠ◌, ◌*ᶠ◌, ◌/ᶠ◌, ◌<ᶠ◌, ◌≤ᶠ◌}
use Rattle.boundary.specs.Sort.{sort_onto, sorted, sorted_by}
use Rattle.boundary.specs.declared.arcs.BoundaryArc.{BoundaryArc}
use Rattle.inside.specs.declared.edges.BoxEdge.{BoxEdge}
use Rattle.inside.specs.Edges.{is_upright, line_of}
use Rattle.inside.specs.declared.breaks.Breaks.{Breaks}

-- strictly inside the arc from a to b: further than 1e-12 from either end
unfoldable pub strictly_inside : Float → Float → Float → Bool
strictly_inside a b p = (a +ᶠ clip_angle <ᶠ p) && (p <ᶠ b -ᶠ clip_angle)

-- an angle, a turn before, as it is, and a turn after
abbrev pub copies : Float → List Float
copies phi = map (λ k. phi +ᶠ k *ᶠ two_pi) ((neg one64) ∷ (zero64 ∷ (one64 ∷ [])))

-- those of them inside the arc from a to b
unfoldable pub periodic_in_range : Float → Float → Float → List Float
unfolding keep strictly_inside
periodic_in_range phi a b = keep (strictly_inside a b) (copies phi)

-- where the arc crosses the vertical line at x: the cosine is (x - xc) / r
unfoldable pub vertical_crossings : Float → Circle → Float → Float → List Float
unfolding periodic_in_range
vertical_crossings x c a b =
    let q = (x -ᶠ c.center.x) /ᶠ c.radius in
    cond (absolute q ≤ᶠ one64) (periodic_in_range (acos q) a b ++ periodic_in_range (neg (acos q)) a b) []

-- where the arc crosses the horizontal line at y: the sine is (y - yc) / r
unfoldable pub horizontal_crossings : Float → Circle → Float → Float → List Float
unfolding periodic_in_range
horizontal_crossings y c a b =
    let q = (y -ᶠ c.center.y) /ᶠ c.radius in
    cond (absolute q ≤ᶠ one64) (periodic_in_range (asin q) a b ++ periodic_in_range (pi -ᶠ asin q) a b) []

-- the offset of an edge's line from the centre, over the radius
abbrev pub offset_of : Bounds → Circle → BoxEdge → Float
offset_of box c edge = (line_of box edge -ᶠ cond (is_upright edge) c.center.x c.center.y) /ᶠ c.radius

-- the angle at which a line at this offset crosses the circle, and its mirror, which is the other one
abbrev pub crossing_of : BoxEdge → Float → Float
crossing_of edge q = cond (is_upright edge) (acos q) (asin q)

abbrev pub mirror_of : BoxEdge → Float → Float
mirror_of edge phi = cond (is_upright edge) (neg phi) (pi -ᶠ phi)

-- where the arc crosses the line of an edge
unfoldable pub edge_crossings : Bounds → Circle → Float → Float → BoxEdge → List Float
unfolding vertical_crossings horizontal_crossings
edge_crossings box c a b edge =
    cond (is_upright edge) (vertical_crossings (line_of box edge) c a b) (horizontal_crossings (line_of box edge) c a b)

-- the crossings with the box, in the Rust's order
unfoldable pub crossings : Bounds → Circle → Float → Float → List Float
unfolding vertical_crossings horizontal_crossings
crossings box c a b =
    vertical_crossings box.x_min c a b
    ++ (vertical_crossings box.x_max c a b
    ++ (horizontal_crossings box.y_min c a b
    ++ horizontal_crossings box.y_max c a b))

-- the ends and the crossings, sorted stably
unfoldable pub breaks_between : Bounds → Circle → Float → Float → List Float
unfolding crossings sorted_by
breaks_between box c a b = sorted (a ∷ (crossings box c a b ++ (b ∷ [])))

-- the breaks of an arc, which ends at its start plus its length, not wrapped
unfoldable pub breaks : Bounds → Circle → BoundaryArc → List Float
unfolding breaks_between
breaks box c arc = breaks_between box c arc.phi_start (arc.phi_start +ᶠ arc.delta_phi)

-- ---- the breaks that the code has found so far

-- The new ones, of which there are at most so many, are put in: the list is those that were there with them, sorted.
-- The arc and the box stay.
pub record Put (most : ℕ) (new : List Float) (before after : Breaks) : Type 0 where
  pub few : length after.found.items ≤ length before.found.items + most
  pub found : after.found.items ≡ sort_onto before.found.items new
  pub bounds : after.bounds ≡ before.bounds
  pub circle : after.circle ≡ before.circle
  pub phi_a : after.phi_a ≡ before.phi_a
  pub phi_b : after.phi_b ≡ before.phi_b
