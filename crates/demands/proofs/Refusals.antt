-- When the calls answer 5 and 11 (specs/Refusals.antt): what their checks say, for any such numbers.
use Prim.Native.Nat.{ℕ}
use mathlib.Core.Path.{◌≡◌, ◌∙◌}
use mathlib.Core.List.{List, [], ◌∷◌, ◌++◌}
use mathlib.Core.Logic.{◌↔◌, ◌⊎◌}
use lib.ListN.{length, length-set, get_or}
use Rattle.std.proofs.Common.{Ok, Err}
use Rattle.std.specs.Prelude.{map}
use Rattle.plan.specs.declared.Edit.{Edit}
use Rattle.plan.specs.declared.Gradients.TheVariants.{None, Clipped, Open}
use Rattle.plan.specs.declared.Plan.{Plan}
use Rattle.plan.specs.Book.{head_of, leaves}
use Rattle.plan.specs.Fields.{GivenExactly}
use Rattle.plan.specs.Table.{Answered, answer_number}
use Rattle.plan.proofs.Fields.{five_by_values, eleven_by_values}
use Rattle.lists.specs.Run.{after, answers}
use Rattle.regions.specs.Run.{slices_after, answers_after}
use Rattle.regions.specs.Slices.{lent_of, PlanSlices, edited_left, slice_answer, afresh_slices, edit_slices}
use Rattle.regions.specs.Table.{Method}
use Rattle.gradients.specs.Step.{lent_gradients, clipped_step, open_step}
use Rattle.demands.specs.Refusals.{CallsGiveExactly, FiveOfCalls, ElevenOfCalls}

-- an edit, taken or refused, leaves room for ten heads
room_left : (m : Method) (d : PlanSlices) (e : Edit) → length d.plan.heads ≡ 10
    → length (edit_slices m d e).left.plan.heads ≡ 10
unfolding edit_slices
room_left m d e ten = by (slice_answer d e)
  where
    by : (a : Answered) → length (leaves a d (edited_left m d e)).plan.heads ≡ 10
    by (Ok done) = length-set d.plan.heads e.head (head_of e) ∙ ten
    by (Err r) = ten

module _ (k : ℕ) (A : Plan → Type 0) (B : Plan → Edit → Type 0) (of : GivenExactly k A B) where
  one_edit : (m : Method) (d : PlanSlices) (e : Edit) → length d.plan.heads ≡ 10
      → (answer_number (edit_slices m d e).answer ≡ k) ↔ (A d.plan ⊎ B d.plan e)
  unfolding edit_slices
  one_edit m d e ten = of.edit d.plan e (lent_of d.tables) ten

  -- whatever stands after the answers of a list
  each_edit : (m : Method) (d : PlanSlices) (before : List Edit) (e : Edit) (later : List Edit) (rest : List ℕ)
      → length d.plan.heads ≡ 10
      → (get_or (map answer_number (answers_after m d (before ++ (e ∷ later))) ++ rest) (length before) 0 ≡ k)
      ↔ (A (slices_after m d before).plan ⊎ B (slices_after m d before).plan e)
  unfolding after answers
  each_edit m d [] e later rest ten = one_edit m d e ten
  each_edit m d (first ∷ before) e later rest ten =
      each_edit m (edit_slices m d first).left before e later rest (room_left m d first ten)

  calls_give_exactly : CallsGiveExactly k A B
  unfolding afresh_slices clipped_step open_step
  calls_give_exactly = record {
    afresh = λ m d ten. of.call d.plan None (lent_of d.tables) ten;
    edit = one_edit;
    run = λ m d before e later out ten. each_edit m d before e later _ ten;
    gradients = λ sets p t ten. of.call p Clipped (lent_gradients t) ten;
    open_gradients = λ sets p t ten. of.call p Open (lent_gradients t) ten;
    overlap = λ p ten. of.plan p ten;
  }

pub five_of_calls : FiveOfCalls
five_of_calls = calls_give_exactly 5 _ _ five_by_values

pub eleven_of_calls : ElevenOfCalls
eleven_of_calls = calls_give_exactly 11 _ _ eleven_by_values
