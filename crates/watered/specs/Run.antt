-- What a run of a list of edits gives and leaves, as a C program sees it: crate `regions`, specs/Run.antt, with the
-- plan left as thirty numbers. (The box and n are not written.)
use Rattle.std.specs.Prelude.{ℕ, List, ◌≡◌, ℤ}
use Rattle.regions.specs.Demand.{Fresh}
use Rattle.regions.specs.Run.{edit_count, edits_of, slices_after, answers_after, answers_written, SlicesEnd}
use Rattle.regions.specs.Slices.{LentTables, PlanSlices, plan_table}
use Rattle.regions.specs.Table.{Method}
use Rattle.watered.specs.Handed.{numbers_of}

pub record Ran (m : Method) (d : PlanSlices) (heads : List ℕ) (xs ys radii : List ℤ) (out : List ℕ)
    (count : ℕ) (numbers : List ℤ) (left : LentTables) (out' : List ℕ) : Type 0 where
  pub tried : count ≡ edit_count heads xs ys radii out
  pub plan : numbers ≡ numbers_of (slices_after m d (edits_of heads xs ys radii out)).plan.heads
  pub tables : left ≡ (slices_after m d (edits_of heads xs ys radii out)).tables
  pub numbered : out' ≡ answers_written m d (edits_of heads xs ys radii out) out
  -- from the plan's afresh rows: demand 3's end
  pub ends :
      Fresh m (plan_table d)
      → SlicesEnd m d (edits_of heads xs ys radii out) (slices_after m d (edits_of heads xs ys radii out))
      (answers_after m d (edits_of heads xs ys radii out))
