use mathlib.Core.Path.{◌≡◌}
use mathlib.Core.List.{List}
use Prim.Native.Nat.{ℕ}
use lib.ListN.{length, take}
use Rattle.lists.specs.Written.{tab}
use Rattle.plan.specs.declared.Edit.{Edit}
use Rattle.regions.specs.Run.{edit_at, slices_after, answers_written}
use Rattle.regions.specs.Slices.{PlanSlices}
use Rattle.table.specs.Method.{clipped_table}
use Rattle.table.specs.Tables.{plan_tables, SameSlices}
use Rattle.table.proofs.run.run.Given as goal

-- the first i edits have been tried: the slices are what they leave, and their answers' numbers are written
pub record Tried (start : PlanSlices) (f : ℕ → Edit) (out : List ℕ) (i : ℕ) (left : PlanSlices) (so_far : List ℕ)
    : Type 0 where
  pub slices : left ≡ slices_after clipped_table start (tab f i)
  pub answers : so_far ≡ answers_written clipped_table start (tab f i) out
  pub many : length so_far ≡ length out

abbrev pub invariant-loop-i : goal.invariant-loop-i
invariant-loop-i l =
    record {
      tried : Tried (plan_tables l.initial.left l.initial.tables)
          (edit_at l.edits.head.now l.edits.x.now l.edits.y.now l.edits.radius.now)
          (take l.count l.fn.answers) l.i (plan_tables l.left l.tables) l.answer-items;
      same_slices : SameSlices l.initial.tables l.tables;
    }
