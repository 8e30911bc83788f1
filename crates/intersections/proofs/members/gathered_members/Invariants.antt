-- `members::gathered_members`: the heads of the set below `head` are gathered; the law of one head more is Gathering's.
use mathlib.Core.Path.{◌≡◌}
use Rattle.intersections.proofs.Gathering.{heads_to}
use Rattle.intersections.proofs.members.gathered_members.Given as goal

abbrev pub invariant-loop-head : goal.invariant-loop-head
invariant-loop-head l = l.members.items ≡ heads_to l.circles l.mask l.head
