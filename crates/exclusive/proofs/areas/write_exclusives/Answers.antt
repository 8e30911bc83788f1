-- `areas::write_exclusives` meets its contract: the areas are copied, and then excluded.
use mathlib.Core.Path.{ap, ◌∙◌}
use mathlib.Core.List.{List, ◌++◌}
use Prim.Native.Nat.{ℕ}
use native.Mathlib.Omega.{arith}
use lib.Ieee.{Float, nan}
use lib.ListN.{get_or, drop}
use Rattle.lists.specs.Written.{written}
use Rattle.exclusive.proofs.Closing.{copied_is}
use Rattle.exclusive.proofs.FirstItems.{copied_whole}
use Rattle.exclusive.proofs.TableRows.{take_by_place}
use Rattle.exclusive.proofs.areas.write_exclusives.Goals as goal

pub returns : goal.returns
returns c =
    let P = c.args.present.now in let areas = c.args.areas.now in let first = c.args.exclusives.now in
    let rows = c.row_count-rows in
    c.exclude.ensures
    ∙ copied_is P.n P.bytes.now areas first _
    (c.copy_first.ensures
    ∙ copied_whole areas first rows.result (omega (arith, rows.ensures.value)) (omega (arith, rows.ensures.value))
    ∙ ap (λ (l : List Float). l ++ drop rows.result first)
    (take_by_place areas nan rows.result (omega (arith, rows.ensures.value)))
    ∙ ap (λ (m : ℕ). written (λ S. get_or areas S nan) m first) rows.ensures.value)
