-- `ownership::MemberOf::push_arcs`: the arcs after the angles before i are held.
use mathlib.Core.Path.{◌≡◌}
use mathlib.Core.List.{◌++◌}
use Prim.Native.Nat.{◌+◌, ◌≤◌}
use lib.ListN.{length}
use Rattle.lists.specs.Lists.{up_to}
use Rattle.intersections.specs.Heads.{circle_list}
use Rattle.boundary.specs.Outline.{arc_from}
use Rattle.boundary.proofs.ownership.MemberOf.push_arcs.Given as goal

abbrev pub invariant-loop-i : goal.invariant-loop-i
invariant-loop-i l =
    (l.all.items ≡ l.fn.all.items ++ up_to (arc_from (circle_list l.self.set.now) l.self.k l.self.circle l.angles.items) l.i)
    × (length l.all.items ≤ length l.fn.all.items + l.i)
