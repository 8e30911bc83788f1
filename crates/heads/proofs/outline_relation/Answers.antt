-- `heads::outline_relation` meets its contract: each arm by the two comparisons that led to it (proofs/Decided.antt).
use Rattle.std.proofs.Common.{◌+◌, ◌∙◌, arith}
use Rattle.heads.proofs.Decided.{holding, same, inside, crossing, outside, apart}
use Rattle.heads.proofs.outline_relation.Goals as goal

pub returns-in-Less-default : goal.returns-in-Less-default
returns-in-Less-default c =
    let v = c.args in
    holding v.d v.r1 v.r2 _ (c.from-t.ensures ∙ c.abs_diff.ensures) c.in-Less-default.ensures

pub returns-in-Equal-default : goal.returns-in-Equal-default
returns-in-Equal-default c =
    let v = c.args in
    same v.d v.r1 v.r2 _ (c.from-t.ensures ∙ c.abs_diff.ensures) c.in-Equal-default.ensures c.if-t-eq0.true

pub returns-in-Equal-default-2 : goal.returns-in-Equal-default-2
returns-in-Equal-default-2 c =
    let v = c.args in
    inside v.d v.r1 v.r2 _ (c.from-t.ensures ∙ c.abs_diff.ensures) c.in-Equal-default.ensures c.if-t-eq0.false

pub returns-in-Greater-Less : goal.returns-in-Greater-Less
returns-in-Greater-Less c =
    let v = c.args in
    crossing v.d v.r1 v.r2 _ (c.from-t.ensures ∙ c.abs_diff.ensures) (c.from.result + c.from-2.result) (omega arith)
    c.in-Greater-Less.ensures c.in-Greater-Less.ensures'

pub returns-in-Greater-Equal : goal.returns-in-Greater-Equal
returns-in-Greater-Equal c =
    let v = c.args in
    outside v.d v.r1 v.r2 _ (c.from-t.ensures ∙ c.abs_diff.ensures) (c.from.result + c.from-2.result) (omega arith)
    c.in-Greater-Equal.ensures c.in-Greater-Equal.ensures'

pub returns-in-Greater-Greater : goal.returns-in-Greater-Greater
returns-in-Greater-Greater c =
    let v = c.args in
    apart v.d v.r1 v.r2 _ (c.from-t.ensures ∙ c.abs_diff.ensures) (c.from.result + c.from-2.result) (omega arith)
    c.in-Greater-Greater.ensures c.in-Greater-Greater.ensures'
