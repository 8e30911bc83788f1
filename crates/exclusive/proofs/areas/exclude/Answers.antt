-- `areas::exclude` meets its contract.
use mathlib.Core.Path.{◌∙◌}
use Rattle.exclusive.proofs.Closing.{clamped_is}
use Rattle.exclusive.proofs.areas.exclude.Goals as goal

pub returns : goal.returns
returns c =
    let P = c.args.present.now in
    c.clamp_rows.ensures ∙ clamped_is P.n P.bytes.now c.args.areas.now _ c.subtract_levels.ensures
