-- `fields::next_field` meets its contract.
use Rattle.std.proofs.Common.{◌≡◌, rules, tests}
use Rattle.std.proofs.lemmas.Iterator.{first_from_Range}
use Rattle.masks.specs.Mask.{bit}
use Rattle.file.proofs.Reading.{next_found}
use Rattle.file.proofs.fields.next_field.Goals as goal

pub returns : goal.returns
unfolding bit
returns c =
    let a = c.args in
    next_found a.count a.map a.from _
    (first_from_Range _ _ _ _ (λ i. bit a.map i ≡ 1) (λ i. bit a.map i ≡ 1 → ⊥) c.find.ensures.ran
    (λ x q k. search (rules, tests))
    (λ x q k. (search rules, search (rules, tests))))
