-- `walk::walk`: the arcs of the members before k are held.
use mathlib.Core.Path.{◌≡◌, refl, sym, ap, ◌∙◌}
use native.Mathlib.Omega.{arith}
use lib.ListN.{length, get_or}
use Rattle.boundary.proofs.Walking.{nobody, no_member, next_member, before_member, all_members}
use Rattle.boundary.proofs.walk.walk.Goals as goal

pub loop-k-init : goal.loop-k-init
loop-k-init c =
    let a = c.args in
    (c.new-all.ensures ∙ sym (no_member a.points.now a.mask a.set.now), omega (arith, ap length c.new-all.ensures))

pub loop-k-preserved : goal.loop-k-preserved
loop-k-preserved c =
    let a = c.args in
    let k = c.loop-k.k in
    let m = get_or a.set.now k nobody in
    let next = next_member a.points.now a.mask a.set.now k m c.angles_for-angles.result.items in (
      c.push_arcs.ensures.arcs ∙ rw (c.loop-k.invariant.0) (next refl c.angles_for-angles.ensures),
      omega (arith, c.push_arcs.ensures.few, c.loop-k.invariant.1),
    )

pub returns : goal.returns
returns c =
    let a = c.args in
    let last : c.loop-k.k ≡ length a.set.now = omega arith in
    c.loop-k.invariant.0 ∙ ap (before_member a.points.now a.mask a.set.now) last
    ∙ all_members a.points.now a.mask a.set.now
