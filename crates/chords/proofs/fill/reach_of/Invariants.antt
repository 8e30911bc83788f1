-- `fill::reach_of`: the heads below l that reach the edge.
use Rattle.std.proofs.Common.{◌≡◌, not}
use Rattle.masks.specs.Mask.{gather}
use Rattle.intersections.specs.Heads.{first_ten}
use Rattle.intersections.specs.Members.{circle_at}
use Rattle.inside.specs.Edges.{is_upright, line_of}
use Rattle.inside.specs.Span.{misses, seen}
use Rattle.chords.proofs.fill.reach_of.Given as goal

abbrev pub invariant-loop-l : goal.invariant-loop-l
invariant-loop-l l =
    let circles = first_ten l.fn.circles in
    let y = line_of l.fn.bounds l.fn.edge in
    l.reach ≡ gather l.l (λ i. not (misses y (seen (is_upright l.fn.edge) (circle_at circles i))))
