use mathlib.Core.Path.{◌≡◌, ap₂, ◌∙◌}
use native.Mathlib.Omega.{arith}
use lib.ListN.{length}
use Rattle.lists.proofs.Arrays.{length_of_values}
use Rattle.masks.specs.Operations.{shifted_is}
use Rattle.table.proofs.Writing.{met_first}
use Rattle.table.proofs.edit.change_of.Goals as goal

pub returns : goal.returns
returns c =
    let e = c.args.edit in
    let p = c.args.plan in
    let ten : length p.heads ≡ 10 = (let h = c.well_formed in search length_of_values) in
    ap₂ (λ own met. record { own = own; met = met })
    (shifted_is 64 e.head (omega (arith, c.requires.0, c.requires.1)))
    (c.met_by.ensures
    ∙ rw c.from.ensures (met_first p.heads p.n e.head _ (omega (arith, ten, c.requires.0)) c.requires.1))
