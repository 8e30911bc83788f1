-- `walk::walk`: the arcs of the members before k are held.
use mathlib.Core.Path.{◌≡◌}
use Prim.Native.Nat.{◌*◌, ◌≤◌}
use lib.ListN.{length}
use Rattle.boundary.proofs.Walking.{before_member}
use Rattle.boundary.proofs.walk.walk.Given as goal

abbrev pub invariant-loop-k : goal.invariant-loop-k
invariant-loop-k l = (l.all.items ≡ before_member l.points l.mask l.set l.k) × (length l.all.items ≤ 32 * l.k)
