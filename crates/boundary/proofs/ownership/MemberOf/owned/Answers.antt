-- `ownership::MemberOf::owned`: every member lets the one at k have the point (`all_owned`).
use borrow.Author.Rules.{rules}
use borrow.Author.Tests.{tests}
use mathlib.Core.Path.{◌∙◌}
use Rattle.std.proofs.lemmas.Iterator.{YieldsList-from_slice}
use Rattle.std.proofs.lemmas.Iterator.Consumers.{YieldsList-from_enumerate}
use Rattle.std.proofs.lemmas.Iterator.Search.{all_from_yields_List}
use Rattle.boundary.specs.Outline.{lets}
use Rattle.boundary.proofs.Owning.{all_owned}
use Rattle.boundary.proofs.ownership.MemberOf.owned.Goals as goal

pub returns : goal.returns
returns c =
    let a = c.args in
    all_from_yields_List (λ q. lets a.self.k a.p q.0 q.1.circle) _ _ _ c.all.ensures.ran (YieldsList-from_enumerate (YieldsList-from_slice a.self.set.now cc) (cc))
    (λ x b q k. search (rules, tests))
    ∙ all_owned a.self.k a.p 0 a.self.set.now
