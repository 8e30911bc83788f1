-- `Sum::add_arcs`: the arcs below the index are added.
use mathlib.Core.Path.{◌≡◌}
use lib.ListN.{take}
use Rattle.intersections.specs.Heads.{first_ten}
use Rattle.clip.specs.Gradient.{so_far, add_clipped_arcs_with_gradient}
use Rattle.clip.proofs.slopes.Sum.add_arcs.Given as goal

abbrev pub invariant-loop-arc : goal.invariant-loop-arc
invariant-loop-arc l = record {
  same_reference : l.self.grad.ghost_name ≡ l.initial.self.grad.ghost_name;
  added : so_far l.self
      ≡ add_clipped_arcs_with_gradient l.bounds (first_ten l.circles) (so_far l.initial.self) (take l.arc-index l.arcs);
}
