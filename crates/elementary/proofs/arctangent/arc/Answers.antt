-- `arc` meets its contract: the calls are the definition's steps, and half of the last result is at most a quarter
-- turn.
use Rattle.std.proofs.Common.{ℕ, ◌/◌, ◌≡◌, ◌≤◌, refl, sym, subst, ◌∙◌}
use Rattle.cells.specs.Arc.{arc, first_arc, arcs, quarter_turn}
use Rattle.elementary.specs.FixedSteps.{from_last_is}
use Rattle.elementary.proofs.arctangent.Aimed.{arc_small}
use Rattle.elementary.proofs.arctangent.arc.Goals as goal

pub returns : goal.returns
unfolding arc
returns c =
    let is : c.mulhi-2.result / 2 ≡ arc c.args.n =
    rw (
      c.mulhi-2.ensures.value,
      c.horner.ensures
          ∙ from_last_is first_arc arcs c.mulhi.result,
      c.mulhi.ensures.value,
    ) refl in
    record { value = is; bound = subst (λ (a : ℕ). a ≤ quarter_turn) (sym is) (arc_small c.args.n c.ranges.n.fits) }
