-- `plan::fits_map` meets its contract: no bit of a byte stands at or above the eighth.
use mathlib.Core.Path.{sym}
use native.Mathlib.Nat.{lt_of_lt_of_le}
use lib.Pow.{pow_mono}
use borrow.Author.Tests.{lt-ltb, le-leb}
use Rattle.plan.proofs.fits_map.Goals as goal

pub returns-then-fields-ge8 : goal.returns-then-fields-ge8
returns-then-fields-ge8 c =
    let fits = lt_of_lt_of_le c.ranges.map.fits (pow_mono c.if-fields-ge8.true) in
    rw (le-leb 8 _ c.if-fields-ge8.true) (sym (lt-ltb _ _ fits))
