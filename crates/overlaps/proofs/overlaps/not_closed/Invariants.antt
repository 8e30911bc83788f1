-- `overlaps::not_closed`: those of the circles before the index.
use mathlib.Core.Path.{◌≡◌}
use lib.ListN.{take}
use Rattle.overlaps.specs.Overlap.{not_closed}
use Rattle.overlaps.proofs.overlaps.not_closed.Given as goal

abbrev pub invariant-loop-circle : goal.invariant-loop-circle
invariant-loop-circle l = l.kept.items ≡ not_closed (take l.circle-index l.circles)
