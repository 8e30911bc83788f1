-- `Levels::one_in_all`: the test of each number of the range.
use Rattle.std.proofs.Common.{◌≡◌, ℕ, zero, suc, ◌+◌, Bool, ◌&&◌, ◌||◌, refl, ◌∙◌, rules, tests, arith}
use Rattle.std.proofs.lemmas.Iterator.{YieldsList-from_range}
use Rattle.std.proofs.lemmas.Iterator.Search.{any_from_yields_List}
use Rattle.std.specs.List.{list_any, range_with_len}
use Rattle.lists.specs.Some.{some}
use Rattle.lists.proofs.Somes.{some_next, some_zero}
use Rattle.masks.specs.Mask.{in_set, without_head, subset}
use Rattle.sets.specs.Sets.{one_in_all}
use Rattle.sets.specs.Steps.{mask_of}
use Rattle.sets.proofs.levels.Levels.one_in_all.Goals as goal

-- some number from a on
some_from : (p : ℕ → Bool) (a n : ℕ) → some (a + n) p ≡ (some a p || list_any p (range_with_len a n))
some_from p a zero = grind arith
some_from p a (suc n) = grind (arith, some_from p (a + 1) n, some_next a p)

some_range : (p : ℕ → Bool) (n : ℕ) → list_any p (range_with_len 0 n) ≡ some n p
some_range p n = grind (arith, some_from p 0 n, some_zero p)

pub returns : goal.returns
unfolding one_in_all
returns c =
    let levels = c.args.self.now in
    let n = levels.heads.n in
    let test : ℕ → Bool =
    λ i. in_set c.args.mask i && subset n (without_head n c.args.mask i) (mask_of levels.containing.now i) in
    any_from_yields_List test _ _ c.any.result c.any.ensures.ran (YieldsList-from_range 0 n n refl (omega arith))
    (λ x b q k. search (rules, tests)) ∙ some_range test n
