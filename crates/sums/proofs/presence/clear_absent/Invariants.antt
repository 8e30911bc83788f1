-- `presence::clear_absent`: the rows below mask are cleared or kept.
use mathlib.Core.Path.{◌≡◌}
use mathlib.Core.Bool.{cond}
use lib.Ieee.{nan}
use lib.ListN.{get_or}
use Rattle.binary64.specs.Constants.{zero64}
use Rattle.lists.specs.Written.{written}
use Rattle.masks.specs.Presence.{stands}
use Rattle.sums.specs.Presence.{among}
use Rattle.sums.proofs.presence.clear_absent.Given as goal

abbrev pub invariant-loop-mask : goal.invariant-loop-mask
invariant-loop-mask l =
    l.area-items
    ≡ written (λ S. cond (among l.has_box (stands l.sets) S) (get_or l.initial.area-items S nan) zero64) l.mask
    l.initial.area-items
