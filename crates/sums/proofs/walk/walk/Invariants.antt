-- `walk::walk`: the arcs of the heads below j are listed.
use mathlib.Core.List.{[]}
use Prim.Native.Nat.{◌*◌, ◌≤◌}
use lib.ListN.{length}
use Rattle.sums.specs.Walk.{marks_of, heads_in, Added}
use Rattle.sums.proofs.walk.walk.Given as goal

abbrev pub invariant-loop-j : goal.invariant-loop-j
invariant-loop-j l =
    (length l.list.items ≤ l.j * 32)
    × Added l.pass (heads_in l.pass.circles.now (marks_of l.pass.heads.now.items) l.mask l.j) [] l.list.items
