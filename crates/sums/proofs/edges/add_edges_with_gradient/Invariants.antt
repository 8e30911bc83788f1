-- `edges::add_edges_with_gradient`: the edges below the index are added.
use mathlib.Core.Path.{◌≡◌}
use mathlib.Core.List.{foldl}
use lib.ListN.{take}
use Rattle.inside.specs.Edges.{box_edges, factor_of, across_of}
use Rattle.clip.specs.Gradient.{so_far, add_span_with_gradient}
use Rattle.chords.specs.Chords.{edge_from}
use Rattle.sums.proofs.edges.add_edges_with_gradient.Given as goal

abbrev pub invariant-loop-edge : goal.invariant-loop-edge
invariant-loop-edge l = record {
  same_reference : l.sum.grad.ghost_name ≡ l.initial.sum.grad.ghost_name;
  added : so_far l.sum
      ≡ foldl (λ so e. add_span_with_gradient e (factor_of l.bounds e) (across_of l.bounds e) l.place.at so
      (edge_from l.chords l.mask e))
      (so_far l.initial.sum) (take l.edge-index box_edges);
}
