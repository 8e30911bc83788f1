-- `marks::few`: the test of every head.
use borrow.Author.Rules.{rules}
use borrow.Author.Tests.{tests}
use mathlib.Core.Path.{refl, ◌∙◌}
use mathlib.Core.Bool.{Bool, not}
use Prim.Native.Nat.{ℕ}
use native.Mathlib.Omega.{arith}
use lib.Dec.{ltb}
use lib.ListN.{length}
use Rattle.std.proofs.lemmas.Iterator.{YieldsList-from_range}
use Rattle.std.proofs.lemmas.Iterator.Search.{all_from_yields_List}
use Rattle.lists.specs.Lists.{keep}
use Rattle.intersections.specs.Members.{has_parent}
use Rattle.gaps.specs.Marks.{few_points}
use Rattle.gaps.proofs.Owning.{every_range}
use Rattle.gaps.proofs.marks.few.Goals as goal

pub returns : goal.returns
unfolding few_points
returns c =
    let a = c.args in
    let test : ℕ → Bool = λ j. not (ltb 32 (length (keep (has_parent j) a.points.now))) in
    all_from_yields_List test _ _ c.all.result c.all.ensures.ran (YieldsList-from_range 0 a.n a.n refl (omega arith))
    (λ x b q k. search (rules, tests))
    ∙ every_range test a.n
