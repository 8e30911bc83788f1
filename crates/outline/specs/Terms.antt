-- The three numbers that an arc adds, each by itself: the terms of an area and the slopes of a gradient, the same in
-- the plain form, which works each out, and where they are held.
use Rattle.std.specs.Prelude.{◌≡◌, refl, ℕ, ◌+◌, ◌*◌, List, Float}
use Rattle.elementary.specs.Sine.{sine as sin, cosine as cos}
use Rattle.geometry.specs.declared.circle.Circle.{Circle}
use Rattle.boundary.specs.declared.arcs.BoundaryArc.{BoundaryArc}
use Rattle.binary64.specs.Functions.{absolute, signum_of}
use Rattle.binary64.specs.Floats.{◌+ᶠ◌, ◌-ᶠ◌, ◌*ᶠ◌}
use Rattle.outline.specs.declared.terms.Triple.{Triple}
use Rattle.outline.specs.Area.{arc_terms, add_at, sub_at, arc_slopes}

-- three together
abbrev pub triple : Float → Float → Float → Triple
triple x y r = record { x = x; y = y; r = r }

-- ---- area

unfoldable pub term_x : Circle → BoundaryArc → Float
term_x c arc = let a = arc.phi_start in c.center.x *ᶠ c.radius *ᶠ (sin (a +ᶠ arc.delta_phi) -ᶠ sin a)

unfoldable pub term_y : Circle → BoundaryArc → Float
term_y c arc = let a = arc.phi_start in c.center.y *ᶠ c.radius *ᶠ (cos a -ᶠ cos (a +ᶠ arc.delta_phi))

unfoldable pub term_r : Circle → BoundaryArc → Float
term_r c arc = c.radius *ᶠ c.radius *ᶠ arc.delta_phi

-- the terms that an arc adds to an area without a box
unfoldable pub terms_of : Circle → BoundaryArc → Triple
unfolding term_x term_y term_r
terms_of c arc = triple (term_x c arc) (term_y c arc) (term_r c arc)

-- three numbers, added to a sum one after another
abbrev pub add_triple : Float → Triple → Float
add_triple total t = total +ᶠ t.x +ᶠ t.y +ᶠ t.r

-- they are what it adds
pub arc_terms_are : (total : Float) (c : Circle) (arc : BoundaryArc)
    → arc_terms total c arc ≡ total +ᶠ term_x c arc +ᶠ term_y c arc +ᶠ term_r c arc
unfolding arc_terms term_x term_y term_r
arc_terms_are total c arc = refl

-- ---- gradient

unfoldable pub slope_x : Circle → BoundaryArc → Float
slope_x c arc = signum_of arc.delta_phi *ᶠ c.radius *ᶠ (sin arc.phi_end -ᶠ sin arc.phi_start)

unfoldable pub slope_y : Circle → BoundaryArc → Float
slope_y c arc = signum_of arc.delta_phi *ᶠ c.radius *ᶠ (cos arc.phi_end -ᶠ cos arc.phi_start)

unfoldable pub slope_r : Circle → BoundaryArc → Float
slope_r c arc = c.radius *ᶠ absolute arc.delta_phi

-- all three
unfoldable pub slopes_of : Circle → BoundaryArc → Triple
unfolding slope_x slope_y slope_r
slopes_of c arc = triple (slope_x c arc) (slope_y c arc) (slope_r c arc)

-- three numbers, in the entries of a head by x, y and radius
unfoldable pub add_three_at : ℕ → Triple → List Float → List Float
add_three_at off t g = add_at (sub_at (add_at g off t.x) (off + 1) t.y) (off + 2) t.r

-- the slopes are what an arc adds to the entries of its circle
pub arc_slopes_are : (g : List Float) (c : Circle) (arc : BoundaryArc)
    → arc_slopes g c arc ≡ add_three_at (arc.circle * 3) (slopes_of c arc) g
unfolding arc_slopes add_three_at slopes_of slope_x slope_y slope_r
arc_slopes_are g c arc = refl
