-- The invariant: the bytes below mask are written, the others 0.
use mathlib.Core.Path.{◌≡◌}
use lib.ListN.{take, replicate}
use Rattle.lists.specs.Written.{written}
use Rattle.masks.specs.Presence.{byte, stands}
use Rattle.table.specs.Rows.{worked_out}
use Rattle.table.proofs.rows.Update.rows_worked_out.Given as goal

abbrev pub invariant-loop-mask : goal.invariant-loop-mask
invariant-loop-mask l =
    l.byte-items
    ≡ written (λ S. byte (worked_out l.self.change (stands l.self.earlier.now) (stands l.self.later.now) S)) l.mask
    (take l.count (replicate 1024 0))
