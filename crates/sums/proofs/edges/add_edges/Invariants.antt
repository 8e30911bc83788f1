-- `edges::add_edges`: the edges below the index are added.
use mathlib.Core.Path.{◌≡◌}
use mathlib.Core.List.{foldl}
use lib.ListN.{take}
use Rattle.inside.specs.Edges.{box_edges, factor_of}
use Rattle.clip.specs.Area.{add_span}
use Rattle.chords.specs.Chords.{edge_from}
use Rattle.sums.proofs.edges.add_edges.Given as goal

abbrev pub invariant-loop-edge : goal.invariant-loop-edge
invariant-loop-edge l =
    l.sum ≡ foldl (λ sum e. add_span (factor_of l.bounds e) sum (edge_from l.chords l.mask e)) l.total
    (take l.edge-index box_edges)
