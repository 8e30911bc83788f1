-- `walk::first_in`: the library's `position`.
use borrow.Author.Rules.{rules}
use borrow.Author.Tests.{tests}
use Rattle.std.proofs.lemmas.Iterator.{YieldsList-from_slice}
use Rattle.std.proofs.lemmas.Iterator.Search.{position_from_yields_List}
use Rattle.gaps.specs.Marks.{adopted_by}
use Rattle.sums.proofs.walk.first_in.Goals as goal

pub returns : goal.returns
unfolding adopted_by
returns c =
    position_from_yields_List (adopted_by c.args.mask) _ _ c.position.result c.position.ensures.ran
    (YieldsList-from_slice c.args.marks.now cc) (λ y b q k. search (rules, tests))
