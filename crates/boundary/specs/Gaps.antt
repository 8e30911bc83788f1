-- The arc of one gap, between two angles.
use Rattle.std.specs.Prelude.{ℕ, not, ◌&&◌, cond, List, [], ◌∷◌, Float}
use Rattle.geometry.specs.declared.circle.Circle.{Circle}
use Rattle.boundary.specs.declared.arcs.BoundaryArc.{BoundaryArc}
use Rattle.boundary.specs.Outline.{gap, collapsed, midpoint, owned_from, owned, between}

-- The arc of the member at k from one angle to the next: none, where the gap is collapsed or its midpoint is not k's own.
unfoldable pub arc_between : List Circle → ℕ → Circle → Float → Float → List BoundaryArc
unfolding gap collapsed midpoint owned_from between
arc_between cs k c a b = cond (not (collapsed (gap a b)) && owned k (midpoint c a b) cs) (between k c a (gap a b) ∷ []) []
