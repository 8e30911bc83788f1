-- `levels::contains`: a smaller circle does not contain the other.
use mathlib.Core.Path.{sym, subst}
use lib.Dec.{T}
use lib.Ieee.{binary64, fits}
use Rattle.sets.proofs.Contained.{not_contained}
use Rattle.sets.proofs.levels.contains.Goals as goal

pub returns-then-circle-other : goal.returns-then-circle-other
returns-then-circle-other c =
    let a = c.args in
    -- what a program holds fits
    let held : T (fits binary64 a.circle.radius) = subst T (sym c.well_formed.0.1.1.1.0.1) tt in
    let held-other : T (fits binary64 a.other.radius) = subst T (sym c.well_formed.1.0.1.1.1.0.1) tt in
    sym (not_contained a.circle a.other held held-other c.if-circle-other.true)
