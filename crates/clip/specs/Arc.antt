-- The integral of one arc in the box with its gradient, as the Rust's clipped_arc_integral_with_gradient takes it: the
-- arc names a circle of a list.
use Rattle.std.specs.Prelude.{cond, List, ltb, length, get_or, Float}
use Rattle.binary64.specs.Constants.{zero64}
use Rattle.geometry.specs.declared.bounds.Bounds.{Bounds}
use Rattle.geometry.specs.declared.circle.Circle.{Circle}
use Rattle.intersections.specs.Members.{no_circle}
use Rattle.boundary.specs.declared.arcs.BoundaryArc.{BoundaryArc}
use Rattle.clip.specs.Gradient.{WithGradient, with_gradient, clipped_arc_integral_with_gradient}

-- An arc of no circle of the list has the integral +0 and no gradient. (The Rust panics there.)
unfoldable pub named_arc_integral_with_gradient : Bounds → List Circle → BoundaryArc → List Float → WithGradient
unfolding clipped_arc_integral_with_gradient
named_arc_integral_with_gradient box cs arc g =
    cond
    (ltb arc.circle (length cs))
    (clipped_arc_integral_with_gradient box (get_or cs arc.circle no_circle) arc g)
    (with_gradient zero64 g)

-- The same with the arc's circle given, for ten heads: an arc of none of them has the integral +0 and no gradient.
unfoldable pub head_arc_integral_with_gradient : Bounds → Circle → BoundaryArc → List Float → WithGradient
unfolding clipped_arc_integral_with_gradient
head_arc_integral_with_gradient box c arc g =
    cond (ltb arc.circle 10) (clipped_arc_integral_with_gradient box c arc g) (with_gradient zero64 g)
