-- `presence::write_presence`: the bytes below mask are written.
use mathlib.Core.Path.{◌≡◌}
use Rattle.lists.specs.Written.{written}
use Rattle.masks.specs.Presence.{byte, stands}
use Rattle.sums.specs.Presence.{among}
use Rattle.sums.proofs.presence.write_presence.Given as goal

abbrev pub invariant-loop-mask : goal.invariant-loop-mask
invariant-loop-mask l =
    l.byte-items ≡ written (λ S. byte (among l.has_box (stands l.sets) S)) l.mask l.initial.byte-items
