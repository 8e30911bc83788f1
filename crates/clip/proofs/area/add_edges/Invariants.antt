-- `area::add_edges`: the edges below the index are added.
use mathlib.Core.Path.{◌≡◌}
use mathlib.Core.List.{foldl}
use lib.ListN.{take}
use Rattle.inside.specs.Edges.{box_edges, factor_of, edge_span}
use Rattle.intersections.specs.Heads.{circle_list}
use Rattle.clip.specs.Area.{add_span}
use Rattle.clip.proofs.area.add_edges.Given as goal

abbrev pub invariant-loop-edge : goal.invariant-loop-edge
invariant-loop-edge l =
    l.sum ≡ foldl (λ so e. add_span (factor_of l.bounds e) so (edge_span l.bounds e (circle_list l.set)))
    l.total (take l.edge-index box_edges)
