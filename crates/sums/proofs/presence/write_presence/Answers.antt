-- `presence::write_presence`: one byte more is written.
use mathlib.Core.Path.{ap, ◌∙◌}
use lib.ListN.{take}
use Rattle.lists.proofs.Writing.{written_none, write_next}
use Rattle.masks.specs.Presence.{byte, stands}
use Rattle.sums.specs.Presence.{among}
use Rattle.sums.proofs.Bytes.{among_own}
use Rattle.sums.proofs.presence.write_presence.Goals as goal

pub loop-mask-init : goal.loop-mask-init
loop-mask-init c = written_none _ _

pub loop-mask-preserved : goal.loop-mask-preserved
loop-mask-preserved c =
    let l = c.loop-mask in
    let a = c.args in
    rw l.invariant
    (write_next (λ S. byte (among a.has_box (stands a.sets.now) S)) l.mask
    (take c.row_count-count.result a.presence.now) _ 0
    c.loop-mask-test.true (c.row_byte.ensures ∙ ap byte (among_own a.has_box (stands a.sets.now) l.mask)))
