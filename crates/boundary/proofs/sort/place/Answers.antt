-- `sort::place`: the first that is found, or the end.
use borrow.Author.Rules.{rules}
use borrow.Author.Tests.{tests}
use lib.Ieee.{lt}
use Rattle.std.proofs.lemmas.Iterator.{YieldsList-from_slice}
use Rattle.std.proofs.lemmas.Iterator.Search.{position_from_yields_List}
use Rattle.boundary.proofs.Sorting.{place_found}
use Rattle.boundary.proofs.sort.place.Goals as goal

pub returns-clause-first : goal.returns-clause-first
returns-clause-first g c =
    let l = c.args.list.now in
    let x = c.args.x in
    let f = g.T.Angled.angle_of in
    rw c.unwrap_or.ensures
    (place_found f x l c.position.result (position_from_yields_List (λ y. lt (f x) (f y)) _ _ c.position.result
    c.position.ensures.ran (YieldsList-from_slice l cc) (λ y b q k. search (rules, tests))))
