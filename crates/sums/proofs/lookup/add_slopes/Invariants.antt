-- `lookup::add_slopes`: the arcs before this one are added.
use mathlib.Core.Path.{◌≡◌}
use mathlib.Core.List.{foldl}
use lib.ListN.{take}
use Rattle.sums.specs.Slopes.{add_slopes_at}
use Rattle.sums.proofs.lookup.add_slopes.Given as goal

abbrev pub invariant-loop-place : goal.invariant-loop-place
invariant-loop-place l =
    l.grad ≡ foldl (add_slopes_at l.held.pass.circles.now l.held.pass.heads.now.items) l.initial.grad
    (take l.place-index l.arcs)
