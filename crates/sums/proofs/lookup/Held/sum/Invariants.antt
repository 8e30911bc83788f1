-- `Held::sum`: the arcs before this one are added.
use mathlib.Core.Path.{◌≡◌}
use lib.ListN.{take}
use Rattle.sums.specs.Values.{term_of, sum_of}
use Rattle.sums.proofs.lookup.Held.sum.Given as goal

abbrev pub invariant-loop-place : goal.invariant-loop-place
invariant-loop-place g l =
    l.total
    ≡ sum_of g.N.OfArc.added (term_of (g.N.OfArc.value l.self.of) l.self.pass.circles.now l.self.pass.heads.now.items)
    (take l.place-index l.arcs)
