-- `members::single_member`: the set has one head, its trailing zeros, or none among the circles.
use borrow.Author.Tests.{ltb-true, ltb-false}
use mathlib.Core.Path.{sym, ap, ◌∙◌}
use native.Mathlib.Omega.{arith}
use lib.ListN.{length}
use Rattle.intersections.specs.Members.{no_circle}
use Rattle.intersections.proofs.Gathering.{single_with, single_none}
use Rattle.intersections.proofs.members.single_member.Goals as goal

pub returns-in-Some : goal.returns-in-Some
returns-in-Some c =
    let k = c.in-Some.ensures.lookup in
    c.push.ensures.items (omega (arith, ap length c.new-members.ensures)) ∙ rw (c.new-members.ensures, k.3.1 no_circle)
    (sym (single_with c.args.circles.now _ c.ranges.mask.fits c.requires (ltb-true _ _ (sym k.0))))

pub returns-in_default : goal.returns-in_default
returns-in_default c =
    c.new-members.ensures ∙ sym (single_none c.args.circles.now _ c.ranges.mask.fits c.requires
    (omega (arith, ltb-false _ _ (sym c.in_default.ensures.lookup.0))))
