-- `lookup::fill`: the places before this one are filled.
use mathlib.Core.Path.{◌≡◌}
use mathlib.Core.List.{foldl}
use lib.ListN.{take, set}
use Rattle.sums.specs.Values.{term_of}
use Rattle.sums.proofs.lookup.fill.Given as goal

abbrev pub invariant-loop-place : goal.invariant-loop-place
invariant-loop-place g l =
    l.values
    ≡ foldl (λ v p. set v p (term_of (g.N.OfArc.value l.of) l.pass.circles.now l.pass.heads.now.items p))
    l.initial.values (take l.place-index l.place-items)
