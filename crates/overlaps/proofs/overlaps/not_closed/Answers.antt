-- `overlaps::not_closed`: those of the circles before the index; the law of one more is Keeping's.
use mathlib.Core.Path.{sym, ap, ◌∙◌}
use native.Mathlib.Omega.{arith}
use lib.Seq.{take_all}
use Rattle.intersections.specs.Members.{no_circle}
use Rattle.overlaps.specs.Overlap.{not_closed}
use Rattle.overlaps.proofs.Keeping.{not_closed_none, kept_with, kept_without, kept_few}
use Rattle.overlaps.proofs.overlaps.not_closed.Goals as goal
use Rattle.overlaps.proofs.overlaps.not_closed.Goals.{then-not-is_closed, else-not-is_closed}

pub loop-circle-init : goal.loop-circle-init
loop-circle-init c = c.new-kept.ensures ∙ sym not_closed_none

pub loop-circle-preserved : goal.loop-circle-preserved
loop-circle-preserved c =
    let cs = c.args.circles.now in
    let i = c.loop-circle.circle-index in
    elim c.if-not-is_closed.branch [
      | then-not-is_closed w ↦ rw w.kept-is
          (kept_with cs i no_circle c.loop-circle-test.true c.loop-circle.invariant
          (sym c.is_closed.ensures ∙ w.if-not-is_closed.true)
          (w.push.ensures.items (omega (arith, kept_few cs i no_circle c.loop-circle-test.true c.loop-circle.invariant))))
      | else-not-is_closed w ↦ rw w.kept-is
          (kept_without cs i no_circle c.loop-circle-test.true c.loop-circle.invariant
          (sym c.is_closed.ensures ∙ w.if-not-is_closed.false))
    ]

pub returns : goal.returns
returns c = c.loop-circle.invariant ∙ ap not_closed (take_all _ c.args.circles.now (omega arith))
