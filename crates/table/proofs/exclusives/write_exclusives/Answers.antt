use mathlib.Core.Path.{ap, ◌∙◌}
use mathlib.Core.List.{◌++◌}
use Prim.Native.Nat.{◌^◌}
use lib.ListN.{drop}
use Rattle.exclusive.proofs.FirstItems.{copied_whole}
use Rattle.exclusive.proofs.TableRows.{take_by_place}
use Rattle.table.proofs.Writing.{rows_count}
use Rattle.table.proofs.exclusives.write_exclusives.Goals as goal

pub returns-clause-exclusive_presence_after : goal.returns-clause-exclusive_presence_after
returns-clause-exclusive_presence_after c =
    let a = c.args in
    rw (c.copy_first.ensures, rows_count a.n _ c.requires.0 c.rows_needed-count.ensures)
    (copied_whole a.presence.now a.exclusive_presence.now (2 ^ a.n) c.requires.1 c.requires.3
    ∙ ap (λ l. l ++ drop (2 ^ a.n) a.exclusive_presence.now) (take_by_place a.presence.now 0 (2 ^ a.n) c.requires.1))
