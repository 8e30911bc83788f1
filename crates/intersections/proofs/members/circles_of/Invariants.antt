-- `members::circles_of`: the circles of the heads before the index.
use mathlib.Core.Path.{◌≡◌}
use lib.ListN.{take}
use Rattle.intersections.specs.Heads.{circle_list}
use Rattle.intersections.proofs.members.circles_of.Given as goal

abbrev pub invariant-loop-member : goal.invariant-loop-member
invariant-loop-member l = l.circles.items ≡ circle_list (take l.member-index l.member-items)
