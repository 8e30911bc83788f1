-- `circle::root_above`: past a number above t, the root is above t.
use Rattle.std.proofs.Common.{sym, ◌∙◌, rules}
use Rattle.std.proofs.lemmas.Bool.{false≢true}
use Rattle.geometry.proofs.Roots.{past}
use Rattle.geometry.proofs.circle.root_above.Goals as goal
use Rattle.geometry.proofs.circle.root_above.Goals.{then-moderate, else-moderate, then-moderate-2, else-moderate-2}

pub returns-then-t-more : goal.returns-then-t-more
returns-then-t-more c e =
    elim c.if-moderate-2.branch [
      | then-moderate-2 w ↦
          elim c.if-moderate.branch [
            | then-moderate v ↦
                past c.args.s c.args.t (search rules) (search rules) (sym c.moderate.ensures ∙ v.if-moderate.true)
                (sym v.moderate-then-moderate.ensures ∙ sym v.value-is ∙ w.if-moderate-2.true) (sym w.value-is ∙ c.if-t-more.true) e
            | else-moderate v ↦ absurd (false≢true (sym v.if-moderate.false ∙ sym v.value-is ∙ w.if-moderate-2.true))
          ]
      | else-moderate-2 w ↦ absurd (false≢true (sym w.if-moderate-2.false ∙ sym w.value-is ∙ c.if-t-more.true))
    ]
