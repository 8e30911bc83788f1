-- `lookup::standing_arcs`: the numbers below this one are listed.
use Prim.Native.Nat.{◌+◌, ◌*◌}
use Rattle.sums.proofs.Filling.{Below}
use Rattle.sums.proofs.lookup.standing_arcs.Given as goal

abbrev pub invariant-loop-j : goal.invariant-loop-j
invariant-loop-j l = Below l.pass.needed l.pass.heads.now.items (l.j * 32) l.places.items

abbrev pub invariant-loop-mark : goal.invariant-loop-mark
invariant-loop-mark l = Below l.pass.needed l.pass.heads.now.items (l.j * 32 + l.mark) l.places.items

abbrev pub invariant-loop-j-2 : goal.invariant-loop-j-2
invariant-loop-j-2 l = Below l.pass.needed l.pass.heads.now.items (320 + l.j) l.places.items
