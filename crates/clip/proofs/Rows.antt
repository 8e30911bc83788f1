-- The area of a set inside the box with its gradient, from the sum over its arcs; the circles of a set of heads, and
-- the integral of one arc.
use mathlib.Core.Path.{◌≡◌}
use mathlib.Core.Bool.{true, false}
use mathlib.Core.List.{List}
use Prim.Native.Nat.{ℕ, ◌*◌, ◌<◌}
use borrow.Author.Tests.{lt-ltb}
use lib.ListN.{length, length-map}
use lib.Ieee.{Float}
use Rattle.binary64.specs.Constants.{zero64, half64}
use Rattle.binary64.specs.Floats.{◌+ᶠ◌, ◌*ᶠ◌}
use Rattle.geometry.specs.declared.bounds.Bounds.{Bounds}
use Rattle.geometry.specs.declared.circle.Circle.{Circle}
use Rattle.intersections.specs.Heads.{members_with_heads, circles_with_heads}
use Rattle.intersections.proofs.Few.{few_read}
use Rattle.boundary.specs.declared.arcs.BoundaryArc.{BoundaryArc}
use Rattle.outline.specs.declared.terms.Triple.{Triple}
use Rattle.outline.specs.Terms.{add_three_at}
use Rattle.outline.proofs.Walking.{circles_of_members}
use Rattle.inside.specs.Parts.{summed}
use Rattle.inside.proofs.Breaking.{pairs_next, pairs_none}
use Rattle.clip.specs.Gradient.{WithGradient, with_gradient, add_clipped_arcs_with_gradient, add_edges_with_gradient}
use Rattle.clip.specs.Gradient.{part_integral, part_shares, add_part_with_gradient}
use Rattle.clip.specs.Gradient.{clipped_arc_integral_with_gradient, clipped_with_gradient}
use Rattle.clip.specs.Arc.{head_arc_integral_with_gradient}
use Rattle.clip.specs.Area.{empty_box}

module _ (box : Bounds) (all own : List Circle) (arcs : List BoundaryArc) (g : List Float) where
  -- a box with no inside: the gradient stays
  pub gradient_of_nothing : empty_box box ≡ true → with_gradient zero64 g ≡ clipped_with_gradient box all own arcs g
  unfolding clipped_with_gradient
  gradient_of_nothing e = rw e

  -- the sum over the arcs, and the edges
  pub gradient_by_sum : (s : WithGradient) → empty_box box ≡ false
      → s ≡ add_edges_with_gradient box own (length all * 3)
      (add_clipped_arcs_with_gradient box all (with_gradient zero64 g) arcs)
      → with_gradient (half64 *ᶠ s.sum) s.grad ≡ clipped_with_gradient box all own arcs g
  unfolding clipped_with_gradient
  gradient_by_sum s e es = rw (es, e)

-- ---- the circles of a set of heads

pub ruleset of_heads = (circles_of_members, members_with_heads, circles_with_heads, few_read, length-map)

-- ---- arcs

-- what one part adds to the sum and the gradient
pub part_added : (box : Bounds) (c : Circle) (off : ℕ) (s : WithGradient) (a b x : Float) (share : Triple) (g : List Float)
    → summed box c a b ≡ true → x ≡ part_integral c a b → share ≡ part_shares c a b → g ≡ add_three_at off share s.grad
    → with_gradient (s.sum +ᶠ x) g ≡ add_part_with_gradient box c off s a b
unfolding part_integral part_shares add_three_at add_part_with_gradient
part_added box c off s a b x share g inside ex es eg = rw (inside, eg, es, ex)

-- the pairs of neighbours, one after another
pub ruleset parts = (pairs_next, pairs_none)

-- the integral of an arc of one of ten heads
pub ten : (box : Bounds) (c : Circle) (arc : BoundaryArc) (g : List Float) → arc.circle < 10
    → head_arc_integral_with_gradient box c arc g ≡ clipped_arc_integral_with_gradient box c arc g
unfolding head_arc_integral_with_gradient
ten box c arc g below = rw (lt-ltb arc.circle 10 below)
