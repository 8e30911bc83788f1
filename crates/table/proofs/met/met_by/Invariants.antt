use mathlib.Core.Path.{◌≡◌}
use mathlib.Core.Bool.{not, ◌&&◌}
use mathlib.Core.List.{[], ◌∷◌}
use lib.Dec.{eqb}
use lib.ListN.{get_or}
use Rattle.plan.specs.Limits.{no_head}
use Rattle.masks.specs.Mask.{gather}
use Rattle.regions.specs.Edit.{meets_any}
use Rattle.table.proofs.met.met_by.Given as goal

abbrev pub invariant-loop-j : goal.invariant-loop-j
invariant-loop-j l =
    l.mask
    ≡ gather l.j
    (λ j. not (eqb j l.k) && meets_any (get_or l.heads l.k no_head ∷ l.head ∷ []) (get_or l.heads j no_head))
