-- `accumulate_region_overlap_gradient`: the arcs below the index are added.
use mathlib.Core.Path.{◌≡◌}
use mathlib.Core.List.{foldl}
use lib.ListN.{take}
use Rattle.outline.specs.Area.{add_slopes}
use Rattle.outline.proofs.gradient.accumulate_region_overlap_gradient.Given as goal

abbrev pub invariant-loop-arc : goal.invariant-loop-arc
invariant-loop-arc l = l.grad ≡ foldl (add_slopes l.circles) l.initial.grad (take l.arc-index l.arcs)
