-- `marks::points_of`: the points that pass the filter.
use borrow.Author.Rules.{rules}
use borrow.Author.Tests.{tests}
use mathlib.Core.Path.{ap, ◌∙◌}
use lib.ListN.{length}
use Rattle.std.proofs.lemmas.Iterator.{YieldsList-from_slice}
use Rattle.std.proofs.lemmas.Iterator.Consumers.{YieldsList-from_filter, count_from_yields_List}
use Rattle.intersections.specs.Members.{has_parent}
use Rattle.gaps.proofs.Marking.{filter_keep}
use Rattle.gaps.proofs.marks.points_of.Goals as goal

pub returns : goal.returns
returns c =
    let points = c.args.points.now in
    let own = has_parent c.args.j in
    count_from_yields_List c.filter.result c.count.result c.count.ensures.ran
    (YieldsList-from_filter _ own (YieldsList-from_slice points cc) c.filter.ensures.closure
    (λ x b q k. search (rules, tests)))
    ∙ ap length (filter_keep own points)
