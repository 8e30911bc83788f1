-- `gradients::write_rows`: the rows below mask are written, in both slices.
use mathlib.Core.Path.{◌≡◌}
use Rattle.masks.specs.Presence.{stands}
use Rattle.sums.specs.Gradients.{row_anew, areas_to, rows_to}
use Rattle.sums.proofs.gradients.write_rows.Given as goal

abbrev pub invariant-loop-mask : goal.invariant-loop-mask
invariant-loop-mask g l =
    (l.areas ≡ areas_to (stands l.wanted) (row_anew (g.R.Gradients.given l.rows) l.width) l.mask l.initial.areas)
    × (l.gradients
    ≡ rows_to (stands l.wanted) (row_anew (g.R.Gradients.given l.rows) l.width) l.width l.mask l.initial.gradients)
