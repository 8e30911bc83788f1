-- `breaks::Breaks::collect_crossings`: the crossings with the edges so far are put in.
use Rattle.std.proofs.Common.{◌*◌, ◌∷◌, [], take, flat_map}
use Rattle.inside.specs.declared.edges.BoxEdge.TheVariants.{Bottom, Right, Top, Left}
use Rattle.inside.specs.Breaks.{edge_crossings, Put}
use Rattle.inside.proofs.breaks.Breaks.collect_crossings.Given as goal

abbrev pub invariant-loop-edge : goal.invariant-loop-edge
invariant-loop-edge l =
    let b = l.initial.self in
    let done = take l.edge-index (Left ∷ Right ∷ Bottom ∷ Top ∷ []) in
    Put (6 * l.edge-index) (flat_map (edge_crossings b.bounds b.circle b.phi_a b.phi_b) done) b l.self
