-- `head::HeadOf::owned_in`: the test of every head.
use borrow.Author.Rules.{rules}
use borrow.Author.Tests.{tests}
use mathlib.Core.Path.{sym, ◌∙◌}
use mathlib.Core.Bool.{Bool, not, ◌||◌}
use Prim.Native.Nat.{ℕ}
use Rattle.std.proofs.lemmas.Iterator.{YieldsList-from_slice}
use Rattle.std.proofs.lemmas.Iterator.Consumers.{YieldsList-from_enumerate}
use Rattle.std.proofs.lemmas.Iterator.Search.{all_from_yields_List}
use Rattle.masks.specs.Mask.{in_set}
use Rattle.masks.specs.Operations.{in_by_shift}
use Rattle.geometry.specs.declared.circle.Circle.{Circle}
use Rattle.boundary.specs.Outline.{lets}
use Rattle.gaps.proofs.Owning.{all_let}
use Rattle.gaps.proofs.head.HeadOf.owned_in.Goals as goal

pub returns : goal.returns
returns c =
    let a = c.args in
    let test : ℕ × Circle → Bool = λ q. not (in_set a.mask q.0) || lets a.self.j a.p q.0 q.1 in
    all_from_yields_List test _ _ _ c.all.ensures.ran
    (YieldsList-from_enumerate (YieldsList-from_slice a.self.circles.now cc) cc)
    (λ x b q k. (search (rules, tests), rw (sym (in_by_shift a.mask x.0)) (search (rules, tests))))
    ∙ all_let a.self.circles.now a.mask a.self.j a.p
