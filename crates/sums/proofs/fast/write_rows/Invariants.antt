-- `fast::write_rows`: the rows below mask are written.
use mathlib.Core.Path.{◌≡◌}
use Rattle.lists.specs.Written.{written}
use Rattle.masks.specs.Presence.{stands}
use Rattle.sums.specs.Rows.{number_at}
use Rattle.sums.proofs.fast.write_rows.Given as goal

abbrev pub invariant-loop-mask : goal.invariant-loop-mask
invariant-loop-mask g l =
    l.areas ≡ written (number_at (stands l.wanted) (g.R.Areas.given l.rows) l.initial.areas) l.mask l.initial.areas
