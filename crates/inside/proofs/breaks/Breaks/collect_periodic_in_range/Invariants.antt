-- `breaks::Breaks::collect_periodic_in_range`: of the copies so far those inside the arc are put in.
use lib.ListN.{take}
use Rattle.lists.specs.Lists.{keep}
use Rattle.inside.specs.Breaks.{strictly_inside, copies, Put}
use Rattle.inside.proofs.breaks.Breaks.collect_periodic_in_range.Given as goal

abbrev pub invariant-loop-k : goal.invariant-loop-k
invariant-loop-k l =
    let b = l.initial.self in
    Put l.k-index (keep (strictly_inside b.phi_a b.phi_b) (take l.k-index (copies l.cand))) b l.self
