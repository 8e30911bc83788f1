-- `file::reader::step_number` meets its contract. Assumes nothing.
use Prim.Native.Nat.{◌+◌}
use mathlib.Core.Path.{◌∙◌, ap, ap₂}
use Rattle.heads.proofs.Signed.{read_back}
use Rattle.file.proofs.Reading.{number_step}
use Rattle.file.specs.Reader.{item_of, value_read, seek, check_or}
use Rattle.file.proofs.reader.step_number.Goals as goal

pub returns : goal.returns
returns c =
    let a = c.args in
    let z = c.number32-z.result in
    let back = read_back z c.number32-z.type_inv in
    c.check_or.ensures
    ∙ ap₂ (λ item next. check_or item a.r.from a.r next)
    (c.item_of-item.ensures ∙ ap (item_of a.r.target a.r.field) back)
    (c.seek_after.ensures ∙ ap (λ q. seek q (a.r.field + 1)) (c.value_read.ensures ∙ ap (value_read a.r) back))
    ∙ number_step a.r a.a0 a.a1 a.a2 a.b z c.number32-z.ensures
