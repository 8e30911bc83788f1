-- `Sum::add_edges`: the edges below the index are added.
use mathlib.Core.Path.{◌≡◌}
use mathlib.Core.List.{foldl}
use lib.ListN.{take}
use Rattle.inside.specs.Edges.{box_edges, factor_of, across_of, edge_span}
use Rattle.intersections.specs.Heads.{circle_list}
use Rattle.clip.specs.Gradient.{so_far, add_span_with_gradient}
use Rattle.clip.proofs.slopes.Sum.add_edges.Given as goal

abbrev pub invariant-loop-edge : goal.invariant-loop-edge
invariant-loop-edge l = record {
  same_reference : l.self.grad.ghost_name ≡ l.initial.self.grad.ghost_name;
  added : so_far l.self
      ≡ foldl (λ so e. add_span_with_gradient e (factor_of l.bounds e) (across_of l.bounds e) l.place.at so
      (edge_span l.bounds e (circle_list l.set)))
      (so_far l.initial.self) (take l.edge-index box_edges);
}
