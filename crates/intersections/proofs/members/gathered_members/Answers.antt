-- `members::gathered_members`: the heads of the set below `head` are gathered; the law of one head more is Gathering's.
use borrow.Author.Tests.{eq-eqb, ne_eqb}
use mathlib.Core.Path.{refl, sym, ◌∙◌}
use native.Mathlib.Omega.{arith}
use Rattle.masks.specs.Operations.{in_by_shift}
use Rattle.intersections.proofs.Gathering.{gathered_none, gathered_with, gathered_without, gathered_few, gathered_all}
use Rattle.intersections.proofs.members.gathered_members.Goals as goal
use Rattle.intersections.proofs.members.gathered_members.Goals.{then-mask-head-eq1, else-mask-head-eq1}

pub loop-head-init : goal.loop-head-init
loop-head-init c = c.new-members.ensures ∙ sym (gathered_none _ _)

pub loop-head-preserved : goal.loop-head-preserved
loop-head-preserved c =
    let a = c.args in
    let j = c.loop-head.head in
    elim c.if-mask-head-eq1.branch [
      | then-mask-head-eq1 w ↦ rw w.members-is (gathered_with _ _ j c.loop-head.invariant
          (sym (in_by_shift a.mask j) ∙ eq-eqb _ _ w.if-mask-head-eq1.true)
          refl (w.push.ensures.items (omega (arith, gathered_few _ _ _ c.loop-head.invariant))))
      | else-mask-head-eq1 w ↦ rw w.members-is
          (gathered_without _ _ j c.loop-head.invariant (sym (in_by_shift a.mask j) ∙ ne_eqb _ _ w.if-mask-head-eq1.false))
    ]

pub returns : goal.returns
returns c = c.loop-head.invariant ∙ gathered_all _ _ _ (omega arith)
