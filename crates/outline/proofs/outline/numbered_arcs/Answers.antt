-- `outline::numbered_arcs`: the next arc is put on with its head's number.
use mathlib.Core.Path.{ap}
use mathlib.Core.List.{[], ◌∷◌}
use native.Mathlib.Omega.{arith}
use lib.ListN.{length, length-append}
use Rattle.boundary.specs.Set.{arcs_held}
use Rattle.outline.proofs.Walking.{arcs_next, arcs_ended}
use Rattle.outline.proofs.outline.numbered_arcs.Goals as goal

pub loop-arc-preserved : goal.loop-arc-preserved
loop-arc-preserved c =
    let steps = c.in-Some.ensures.steps in
    let before = c.loop-arc.invariant in
    let pushed = c.push.ensures.items (omega (arith, steps.1, before.1)) in (
      arcs_next _ _ _ _ _ _ _ _ _ _ steps.0 steps.1 c.numbered.ensures pushed before.0,
      omega (arith, steps.1, ap length pushed, length-append c.loop-arc.all.items (c.numbered.result ∷ []), before.1),
    )

pub returns : goal.returns
returns c =
    arcs_ended _ _ _ c.args.arcs.now _ arcs_held (λ some. (c.in-None.ensures.steps some).0) c.loop-arc.invariant.0
