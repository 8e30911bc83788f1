-- `plan::check::check_heads` meets its contract. Assumes nothing.
use mathlib.Core.Path.{◌≡◌}
use lib.ListN.{take}
use Rattle.plan.specs.Table.{taken}
use Rattle.plan.specs.Checks.{first_failed, heads_items}
use Rattle.plan.proofs.check.check_heads.Given as goal

-- the heads so far are within their limits
abbrev pub invariant-loop-h : goal.invariant-loop-h
invariant-loop-h l = first_failed (heads_items (take l.h-index l.heads)) ≡ taken
