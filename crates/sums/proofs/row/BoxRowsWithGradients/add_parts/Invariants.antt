-- `BoxRowsWithGradients::add_parts`: the arcs before this one are added.
use mathlib.Core.Path.{◌≡◌}
use mathlib.Core.List.{foldl}
use lib.ListN.{take}
use Rattle.binary64.specs.Constants.{zero64}
use Rattle.clip.specs.Gradient.{with_gradient}
use Rattle.sums.specs.Slopes.{add_parts_at}
use Rattle.sums.proofs.row.BoxRowsWithGradients.add_parts.Given as goal

abbrev pub invariant-loop-place : goal.invariant-loop-place
invariant-loop-place l =
    with_gradient l.total l.grad
    ≡ foldl (add_parts_at l.self.bounds l.self.pass.circles.now l.self.pass.heads.now.items)
    (with_gradient zero64 l.initial.grad)
    (take l.place-index l.arcs)
