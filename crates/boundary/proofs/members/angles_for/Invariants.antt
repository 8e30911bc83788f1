-- `members::angles_for`: the list holds the angles of the points counted among those read so far.
use mathlib.Core.Path.{◌≡◌}
use mathlib.Core.List.{map}
use lib.ListN.{take}
use Rattle.intersections.specs.Members.{points_for}
use Rattle.boundary.specs.Outline.{angle_about}
use Rattle.boundary.specs.Sort.{sorted}
use Rattle.boundary.proofs.members.angles_for.Given as goal

abbrev pub invariant-loop-q : goal.invariant-loop-q
invariant-loop-q l = l.list.items ≡ sorted (map (angle_about l.member.circle) (points_for (take l.q-index l.points) l.mask l.member.head))
