-- `gradients::to_exclusive_areas_and_gradients` meets its contract.
use mathlib.Core.Path.{ap, ◌∙◌}
use mathlib.Core.Bool.{cond}
use mathlib.Core.List.{List}
use Prim.Native.Nat.{ℕ, ◌*◌, ◌^◌}
use lib.Dec.{eqb}
use lib.Ieee.{Float, nan}
use lib.ListN.{length, get_or}
use Rattle.std.specs.Prelude.{Result}
use Rattle.lists.specs.Written.{written}
use Rattle.masks.specs.Presence.{stands}
use Rattle.exclusive.specs.declared.areas.RowsError.{RowsError}
use Rattle.exclusive.specs.Exclusive.{rows_number}
use Rattle.exclusive_gradients.specs.Gradient.{exclusive_with_gradient, gradient_entry, width_check}
use Rattle.exclusive_gradients.proofs.Replacing.{areas_are, gradients_are}
use Rattle.exclusive_gradients.proofs.gradients.to_exclusive_areas_and_gradients.Goals as goal

-- the tables, taken or not
module _ (n width : ℕ) (bytes : List ℕ) (areas gradients : List Float) where
  abbrev areas_by : Result Unit RowsError → List Float
  areas_by answer =
      cond (eqb (rows_number answer) 0)
      (written (exclusive_with_gradient n (stands bytes) (λ S. get_or areas S nan)) (2 ^ n) areas) areas

  abbrev gradients_by : Result Unit RowsError → List Float
  gradients_by answer =
      cond (eqb (rows_number answer) 0)
      (written (gradient_entry n width bytes areas gradients) (2 ^ n * width) gradients) gradients

pub returns-clause-areas_after : goal.returns-clause-areas_after
returns-clause-areas_after c =
    let a = c.args in let bytes = a.present.now in
    let taken = c.in_ok-width_answer.ensures
    ∙ ap (λ (rows : ℕ). width_check a.n a.width rows (length a.gradients.now)) c.min.ensures in
    c.replace_rows.ensures.areas_after
    ∙ areas_are a.n a.width bytes a.areas.now a.gradients.now _ _ c.in_ok-to_unclamped_areas.ensures.subtracted
    c.subtract_supersets.ensures
    ∙ ap (areas_by a.n a.width bytes a.areas.now a.gradients.now) taken

pub returns-clause-gradients_after : goal.returns-clause-gradients_after
returns-clause-gradients_after c =
    let a = c.args in let bytes = a.present.now in
    let taken = c.in_ok-width_answer.ensures
    ∙ ap (λ (rows : ℕ). width_check a.n a.width rows (length a.gradients.now)) c.min.ensures in
    c.replace_rows.ensures.gradients_after
    ∙ gradients_are a.n a.width bytes a.areas.now a.gradients.now _ _ c.in_ok-to_unclamped_areas.ensures.subtracted
    c.subtract_supersets.ensures
    ∙ ap (gradients_by a.n a.width bytes a.areas.now a.gradients.now) taken
