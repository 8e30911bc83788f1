-- `span::edge_inside_interval`: the heads not yet read, with the ends so far, give the span.
use mathlib.Core.Path.{◌≡◌}
use mathlib.Core.List.{map}
use lib.ListN.{drop}
use Rattle.intersections.specs.Heads.{circle_list}
use Rattle.inside.specs.Edges.{edge_span}
use Rattle.inside.specs.Span.{horizontal_span, seen}
use Rattle.inside.proofs.span.edge_inside_interval.Given as goal

abbrev pub invariant-loop-member : goal.invariant-loop-member
invariant-loop-member l =
    horizontal_span l.at l.lo l.hi (map (seen l.upright) (circle_list (drop l.member-index l.set)))
    ≡ edge_span l.fn.bounds l.fn.edge (circle_list l.set)
