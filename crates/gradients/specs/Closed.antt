-- A closed head and the calls that give gradients: "its gradient entries are +0 in every row of both forms, bit for
-- bit". What a taken call leaves, whatever the slices held. Proved in proofs/Closed.antt as `closed_entries`.
use Rattle.std.specs.Prelude.{ℕ, ◌+◌, ◌*◌, ◌^◌, ◌<◌, ◌≡◌, true, length, get_or}
use Rattle.std.specs.Float.{nan}
use Rattle.lists.specs.Run.{Step}
use Rattle.binary64.specs.Constants.{zero64}
use Rattle.heads.specs.Pair.{is_closed}
use Rattle.masks.specs.Mask.{in_set}
use Rattle.plan.specs.declared.Plan.{Plan}
use Rattle.plan.specs.Table.{Answered, taken, gradient_width, open_gradient_width}
use Rattle.regions.specs.Table.{head_at}
use Rattle.areas.specs.Sets.{plan_sets}
use Rattle.gradients.specs.Step.{GradientSlices, clipped_step, open_step}

-- Of head j, in row S of `width` numbers: its entries by x, by y and by its radius, in any row, row 0 too; and the byte
-- and the exclusive of a row that names it. (A place past the end of the bytes reads as 1, one past the numbers as a
-- NaN: so there is room for all that is named here.)
pub record NothingOf (j S width : ℕ) (t : GradientSlices) : Type 0 where
  pub entries : (i : ℕ) → i < 3 → get_or t.gradients (S * width + (j * 3 + i)) nan ≡ zero64
  pub byte : in_set S j ≡ true → get_or t.presence S 1 ≡ 0
  pub exclusive : in_set S j ≡ true → get_or t.exclusives S nan ≡ zero64

abbrev pub ClosedIn : (ℕ → ℕ) → (Plan → GradientSlices → Step GradientSlices Answered) → Type 0
ClosedIn width step =
    (p : Plan) (t : GradientSlices) → length p.heads ≡ 10 → (step p t).answer ≡ taken
    → (j : ℕ) → j < p.n → is_closed (head_at p j) ≡ true
    → (S : ℕ) → S < 2 ^ p.n → NothingOf j S (width p.n) (step p t).left

-- in the box, and without it
pub record ClosedEntries : Type 0 where
  pub clipped : ClosedIn gradient_width (clipped_step plan_sets)
  pub unboxed : ClosedIn open_gradient_width (open_step plan_sets)
