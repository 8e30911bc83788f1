-- `collect::collect_intersections`: held are the points of the heads below i, and those of head i with the heads below j.
use Rattle.intersections.proofs.Collecting.{Rows, Row}
use Rattle.intersections.proofs.collect.collect_intersections.Given as goal

abbrev pub invariant-loop-i : goal.invariant-loop-i
invariant-loop-i l = Rows l.heads l.i l.found.items

abbrev pub invariant-loop-j : goal.invariant-loop-j
invariant-loop-j l = Row l.heads l.i l.j l.found.items
