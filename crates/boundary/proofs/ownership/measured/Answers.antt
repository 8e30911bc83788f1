-- `ownership::measured`: all tests passed.
use borrow.Author.Rules.{rules}
use mathlib.Core.Path.{sym, ◌∙◌}
use Rattle.masks.specs.Subset.{and_both}
use Rattle.binary64.proofs.Ranges.{partial_lt_is, partial_le_is}
use Rattle.boundary.proofs.Far.{measured}
use Rattle.boundary.proofs.ownership.measured.Goals as goal

pub returns-then-contains : goal.returns-then-contains
returns-then-contains c e =
    let a = c.args in
    let r = and_both _ _ (sym c.contains.ensures.value ∙ c.if-contains.true) in
    let s = and_both _ _ (sym c.moderate.ensures ∙ e) in
    measured a.r a.squared (search rules) (search rules) (sym (partial_le_is _ _) ∙ r.0) (sym (partial_lt_is _ _) ∙ r.1) s.0 s.1
