-- A closed head and the calls of a plan, over the steps that stand in their contracts: it is in no set, and so every
-- row that names it has byte 0 and +0; its gradient entries are +0 in every row. Proved in proofs/Closed.antt as
-- `closed_head_of_calls`, from `closed_in_no_set` (crate areas) and `closed_entries` (crate gradients).
use Rattle.std.specs.Prelude.{ℕ, ◌^◌, ◌<◌, ◌≡◌, true, List, length}
use Rattle.heads.specs.Pair.{is_closed}
use Rattle.masks.specs.Mask.{in_set}
use Rattle.plan.specs.declared.Edit.{Edit}
use Rattle.plan.specs.Table.{Answered, taken}
use Rattle.lists.specs.Run.{Step}
use Rattle.regions.specs.Demand.{ExclusivesOf, Fresh}
use Rattle.regions.specs.Edit.{absent}
use Rattle.regions.specs.Run.{slices_after}
use Rattle.regions.specs.Slices.{row_at, PlanSlices, plan_table, afresh_slices, edit_slices}
use Rattle.regions.specs.Table.{afresh, head_at}
use Rattle.table.specs.Method.{clipped_table, open_table}
use Rattle.gradients.specs.Closed.{ClosedEntries}

-- Each row of both tables that names a closed head of their plan is absent: byte 0 and +0, bit for bit.
abbrev pub ClosedHaveNoRow : PlanSlices → Type 0
ClosedHaveNoRow left =
    (j : ℕ) → j < left.plan.n → is_closed (head_at left.plan j) ≡ true
    → (S : ℕ) → S < 2 ^ left.plan.n → in_set S j ≡ true
    → (row_at left.tables.rows S ≡ absent) × (row_at left.tables.exclusives S ≡ absent)

-- so does a taken call leave them, whatever the slices held
abbrev pub LeavesNoRow : (PlanSlices → Step PlanSlices Answered) → Type 0
LeavesNoRow step =
    (d : PlanSlices) → length d.plan.heads ≡ 10 → (step d).answer ≡ taken → ClosedHaveNoRow (step d).left

-- so does a list of edits, refused ones included, that starts with the plan's afresh tables
abbrev pub RunLeavesNoRow : Type 0
RunLeavesNoRow =
    (d : PlanSlices) (es : List Edit) → Fresh clipped_table (plan_table d)
    → ExclusivesOf clipped_table d.plan.n (afresh clipped_table d.plan) (row_at d.tables.exclusives)
    → ClosedHaveNoRow (slices_after clipped_table d es)

pub record ClosedHeadOfCalls : Type 0 where
  -- afresh, in the box and without it,
  pub afresh : LeavesNoRow (afresh_slices clipped_table)
  pub open_afresh : LeavesNoRow (afresh_slices open_table)
  -- one edit, of the plan that it leaves: the head that it closes, and each that was closed before,
  pub edit : (e : Edit) → LeavesNoRow (λ d. edit_slices clipped_table d e)
  -- and a list of edits.
  pub run : RunLeavesNoRow
  -- The calls that give gradients, in the box and without it.
  pub gradients : ClosedEntries
