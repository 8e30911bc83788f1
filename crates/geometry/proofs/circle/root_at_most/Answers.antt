-- `circle::root_at_most`: each test decides as the root does.
use Rattle.std.proofs.Common.{sym, ◌∙◌, rules}
use Rattle.geometry.proofs.Roots.{at_most}
use Rattle.geometry.proofs.circle.root_at_most.Goals as goal

pub returns-then-s-t : goal.returns-then-s-t
returns-then-s-t c =
    sym (at_most c.args.s c.args.t (search rules) (search rules) (sym c.moderate.ensures ∙ c.if-moderate.true)
    (sym c.moderate-then-moderate.ensures ∙ c.if-moderate-2.true) c.if-s-t.true)
