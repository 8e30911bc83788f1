-- `lookup::fill`: every place is filled.
use mathlib.Core.Path.{ap, ◌∙◌}
use mathlib.Core.List.{foldl}
use lib.ListN.{get_or, set}
use lib.Seq.{take_all}
use Rattle.sums.specs.Values.{term_of}
use Rattle.sums.proofs.Filling.{all_filled}
use Rattle.sums.proofs.lookup.fill.Goals as goal

pub returns-clause-valued : goal.returns-clause-valued
returns-clause-valued g c none p h is =
    let pass = c.args.pass.now in
    let f = term_of (g.N.OfArc.value c.args.of.now) pass.circles.now pass.heads.now.items in
    let l = c.loop-place in
    let all = take_all l.place-index c.deref-place-items.result.now c.loop-place-test.false
    ∙ c.deref-place-items.ensures.0 in
    ap (λ v. get_or v p none)
    (l.invariant ∙ ap (λ t. foldl (λ v p. set v p (f p)) c.args.values.now t) all)
    ∙ all_filled c.standing_arcs-places.ensures f c.args.values.now c.requires none p h is
