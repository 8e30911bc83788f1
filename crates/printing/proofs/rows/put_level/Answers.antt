-- `rows::put_level` meets its contract. The invariant: the lines of the rows below s are put.
use mathlib.Core.Path.{sym, ◌∙◌}
use native.Mathlib.Omega.{arith}
use lib.Ieee.{nan}
use lib.ListN.{get_or}
use Rattle.masks.specs.Presence.{stands}
use Rattle.printing.specs.Rows.{row_line}
use Rattle.printing.proofs.Putting.{advance_none, advance_then}
use Rattle.printing.proofs.Lines.{no_level, level_row, level_skip, level_few}
use Rattle.printing.proofs.rows.put_level.Goals as goal
use Rattle.printing.proofs.rows.put_level.Goals.{then-is_row, else-is_row}

pub loop-s-init : goal.loop-s-init
loop-s-init c = rw no_level (advance_none _)

pub put_line-requires : goal.put_line-requires
put_line-requires c = omega (arith, level_few c.args.presence.now c.args.numbers.now c.args.c c.loop-s.s)

pub loop-s-preserved : goal.loop-s-preserved
loop-s-preserved c =
    let a = c.args in
    let line = row_line (λ S. get_or a.numbers.now S nan) in
    let is = c.is_row.ensures in
    elim c.if-is_row.branch [
      | then-is_row w ↦
          let more = level_row (stands a.presence.now) line a.c c.loop-s.s (sym is ∙ w.if-is_row.true) in
          rw (w.text-is, more, ← w.bits_at.ensures) (advance_then _ _ c.loop-s.invariant w.put_line.ensures)
      | else-is_row w ↦ rw (w.text-is, level_skip (stands a.presence.now) line a.c c.loop-s.s (sym is ∙ w.if-is_row.false)) c.loop-s.invariant
    ]
