-- What a call answers and leaves, told of a plan that equals the one handed over.
use Prim.Native.Nat.{ℕ}
use mathlib.Core.List.{List}
use mathlib.Core.Path.{◌≡◌, ap, subst, ◌∙◌}
use lib.Ieee.{Float}
use lib.IntN.{ℤ}
use Rattle.lists.specs.Run.{Step}
use Rattle.plan.specs.declared.Edit.{Edit}
use Rattle.plan.specs.declared.Plan.{Plan}
use Rattle.plan.specs.Table.{Answered, answer_number}
use Rattle.regions.specs.Run as list
use Rattle.regions.specs.Run.{edits_of, answers_after, SlicesEnd}
use Rattle.regions.specs.Slices.{LentTables, tables_of, PlanSlices, step_of}
use Rattle.regions.specs.Table.{Method}
use Rattle.regions.proofs.Slices.{tables-of}
use Rattle.table.specs.declared.tables.Tables.{Tables}
use Rattle.table.specs.Tables.{tables_in}
use Rattle.watered.specs.Handed.{numbers_of}
use Rattle.watered.specs.Run.{Ran}

pub told : {S : Type 0} (f : Plan → Step S Answered) (p q : Plan) (left : S) (a : Answered) → p ≡ q
    → record { left = left; answer = a } ≡ f p
    → (answer_number a ≡ answer_number (f q).answer) × (left ≡ (f q).left)
told f p q left a e s =
    let t : record { left = left; answer = a } ≡ f q = s ∙ ap f e in
    (ap (λ z. answer_number z.answer) t, ap (λ z. z.left) t)

-- the same of an edit
pub edit_told : (f : Plan → Edit → Step PlanSlices Answered) (p q : Plan) (e e' : Edit) (left : PlanSlices)
    (a : Answered) → p ≡ q → e ≡ e' → step_of left a ≡ f p e
    → (answer_number a ≡ answer_number (f q e').answer) × (left ≡ (f q e').left)
edit_told f p q e e' left a h k s = told (λ z. f z e') p q left a h (s ∙ ap (f p) k)

-- what the tables hold after a call stands in the slices that were lent for them
pub slices_told : {bytes : List ℕ} {numbers : List Float} {others : List ℕ} {areas : List Float} {left : LentTables}
    (t : Tables) → bytes ≡ t.presence.now → numbers ≡ t.rows.now → others ≡ t.exclusive_presence.now
    → areas ≡ t.exclusives.now → tables_in t ≡ left
    → tables_of bytes numbers others areas ≡ left
slices_told t a b c d e = tables-of a b c d ∙ e

-- a run of a list, with the plan left as numbers
module _ (m : Method) (given : Plan → PlanSlices) (heads : List ℕ) (xs ys radii : List ℤ) (out : List ℕ) where
  pub run_told : (p q : Plan) (count : ℕ) (left : PlanSlices) (slices : LentTables) (out' : List ℕ) (numbers : List ℤ)
      → p ≡ q → list.Ran m (given p) heads xs ys radii out count left out' → numbers ≡ numbers_of left.plan.heads
      → slices ≡ left.tables
      → Ran m (given q) heads xs ys radii out count numbers slices out'
  run_told p q count left slices out' numbers e r k l =
      let s : list.Ran m (given q) heads xs ys radii out count left out' =
      subst (λ (z : Plan). list.Ran m (given z) heads xs ys radii out count left out') e r in
      let es = edits_of heads xs ys radii out in
      record {
        tried = s.tried;
        plan = k ∙ ap (λ z. numbers_of z.plan.heads) s.folded;
        tables = l ∙ ap (λ z. z.tables) s.folded;
        numbered = s.numbered;
        ends = λ h. subst (λ (z : PlanSlices). SlicesEnd m (given q) es z (answers_after m (given q) es)) s.folded
            (s.ends h);
      }
