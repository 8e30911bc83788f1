-- What a taken call leaves of a closed head (specs/Closed.antt): its entries are +0 in the rows of all sets, and +0
-- less a sum of +0 is +0; a row that names it is not there.
use mathlib.Core.Path.{◌≡◌, refl, sym, ap, ap₂, ◌∙◌, subst}
use mathlib.Core.Bool.{Bool, true, false, cond}
use mathlib.Core.List.{List, [], ◌∷◌}
use Prim.Native.Nat.{ℕ, zero, suc, ◌+◌, ◌*◌, ◌%◌, ◌/◌, ◌^◌, ◌<◌}
use native.Mathlib.Omega.{arith}
use lib.Ieee.{Float, nan, add, sub, of_bits}
use lib.ListN.{get_or, replicate, get_or-replicate}
use Rattle.std.proofs.Common.{mul-le-mul_right}
use Rattle.std.proofs.lemmas.Nat.{mod-mul-add}
use Rattle.lists.proofs.Writing.{written_before}
use Rattle.masks.specs.Mask.{in_set}
use Rattle.masks.specs.Presence.{byte}
use Rattle.binary64.specs.Constants.{zero64}
use Rattle.binary64.specs.Floats.{◌+ᶠ◌, ◌-ᶠ◌}
use Rattle.exclusive.specs.Exclusive.{sum_onto, above, subtracted, unclamped}
use Rattle.exclusive_gradients.specs.Gradient.{replaced, unless_replaced}
use Rattle.plan.specs.declared.Gradients.{Gradients}
use Rattle.plan.specs.declared.Gradients.TheVariants.{Clipped, Open}
use Rattle.plan.specs.declared.Plan.{Plan}
use Rattle.plan.specs.Book.{leaves}
use Rattle.plan.specs.Checks.{call_answer}
use Rattle.plan.specs.Table.{Answered, taken, gradient_width, open_gradient_width}
use Rattle.plan.proofs.Exactly.{call_taken}
use Rattle.diagram.specs.Rows.{Slopes, slopes_at, is_there, area_at, exclusive_with, exclusive_slope}
use Rattle.areas.specs.Closed.{InNoSet}
use Rattle.areas.specs.Sets.{plan_sets}
use Rattle.areas.proofs.Closed.{not_in_empty, closed_in_no_set, no_slopes}
use Rattle.gradients.specs.Step.{GradientSlices, lent_gradients, gradients_written, gradients_step}
use Rattle.gradients.specs.Step.{clipped_plan, open_plan, clipped_step, open_step}
use Rattle.gradients.specs.Closed.{NothingOf, ClosedIn, ClosedEntries}

less_nothing : zero64 -ᶠ zero64 ≡ zero64
unfolding of_bits sub add
less_nothing = refl

and_nothing : zero64 +ᶠ zero64 ≡ zero64
unfolding of_bits add
and_nothing = refl

-- ---- numbers that are +0 in every row

sum_zero : (f : ℕ → Float) → ((T : ℕ) → f T ≡ zero64) → (l : List ℕ) → sum_onto f zero64 l ≡ zero64
unfolding sum_onto
sum_zero f z [] = refl
sum_zero f z (T ∷ l) =
    ap (λ (x : Float). sum_onto f (zero64 +ᶠ x) l) (z T) ∙ ap (λ (x : Float). sum_onto f x l) and_nothing
    ∙ sum_zero f z l

module _ (n : ℕ) (present : ℕ → Bool) (number : ℕ → Float) (z : (T : ℕ) → number T ≡ zero64) where
  none_subtracted : (d S : ℕ) → subtracted n present number d S ≡ zero64
  unfolding subtracted
  none_subtracted zero S = refl
  none_subtracted (suc d) S =
      sum_zero (λ T. number T -ᶠ subtracted n present number d T)
      (λ T. ap₂ ◌-ᶠ◌ (z T) (none_subtracted d T) ∙ less_nothing) (above n present S)

  unclamped_zero : (S : ℕ) → unclamped n present number S ≡ zero64
  unfolding unclamped
  unclamped_zero S = ap₂ ◌-ᶠ◌ (z S) (none_subtracted n S) ∙ less_nothing

  -- replaced or not
  unless_zero : (area : ℕ → Float) (S : ℕ) → unless_replaced n present area number S ≡ zero64
  unless_zero area S = rw (unclamped_zero S) (either (present S) (replaced n present area S))
    where
      either : (a b : Bool) → cond a (cond b zero64 zero64) zero64 ≡ zero64
      either true true = refl
      either true false = refl
      either false b = refl

-- ---- of a plan's rows

module _ (n : ℕ) (g : Slopes) (j : ℕ) (none : InNoSet g.rows.sets j) where
  -- a row that names the head is not there
  not_there : (S : ℕ) → in_set S j ≡ true → is_there g.rows S ≡ false
  not_there zero i = absurd (not_in_empty j i)
  not_there (suc S) i = none (suc S) i

  no_exclusive_with : (S : ℕ) → in_set S j ≡ true → exclusive_with n g S ≡ zero64
  no_exclusive_with S i = rw (not_there S i)

-- an entry that is +0 in row 0 and in the row of every set
module _ (n : ℕ) (g : Slopes) (e : ℕ) (inside : e < g.width) (box : get_or g.box_row e nan ≡ zero64)
    (row : (S : ℕ) → get_or (g.row S) e nan ≡ zero64) where
  either_row : (b : Bool) (l : List Float) → get_or l e nan ≡ zero64
      → get_or (cond b l (replicate g.width zero64)) e nan ≡ zero64
  either_row true l q = q
  either_row false l q = get_or-replicate g.width e zero64 nan inside

  slopes_zero : (S : ℕ) → get_or (slopes_at g S) e nan ≡ zero64
  slopes_zero zero = either_row g.rows.has_box g.box_row box
  slopes_zero (suc S) = either_row (g.rows.sets (suc S)) (g.row (suc S)) (row (suc S))

  entry_zero : (S : ℕ) → exclusive_slope n g (S * g.width + e) ≡ zero64
  entry_zero S =
      let at : (S * g.width + e) % g.width ≡ e = mod-mul-add S g.width e inside in
      unless_zero n (is_there g.rows) (λ T. get_or (slopes_at g T) ((S * g.width + e) % g.width) nan)
      (λ T. ap (λ (k : ℕ). get_or (slopes_at g T) k nan) at ∙ slopes_zero T) (area_at g.rows)
      ((S * g.width + e) / g.width)

-- ---- what is written

module _ (which : Gradients) (slopes : Plan → Slopes) (p : Plan) (t : GradientSlices) (j : ℕ)
    (is : call_answer p which (lent_gradients t) ≡ taken) (none : InNoSet (slopes p).rows.sets j)
    (inside : (i : ℕ) → i < 3 → j * 3 + i < (slopes p).width)
    (box : (i : ℕ) → i < 3 → get_or (slopes p).box_row (j * 3 + i) nan ≡ zero64)
    (row : (S i : ℕ) → i < 3 → get_or ((slopes p).row S) (j * 3 + i) nan ≡ zero64) where
  step_nothing : (S : ℕ) → S < 2 ^ p.n → NothingOf j S (slopes p).width (gradients_step which slopes p t).left
  step_nothing S h =
      let g = slopes p in
      subst (λ (a : Answered). NothingOf j S g.width (leaves a t (gradients_written p.n g t))) (sym is) (record {
        entries = λ i l.
            written_before (exclusive_slope p.n g) (2 ^ p.n * g.width) (S * g.width + (j * 3 + i)) t.gradients nan
            (omega (arith, mul-le-mul_right g.width h, inside i l))
            ∙ entry_zero p.n g (j * 3 + i) (inside i l) (box i l) (λ T. row T i l) S;
        byte = λ k. written_before (λ T. byte (is_there g.rows T)) (2 ^ p.n) S t.presence 1 h
            ∙ ap byte (not_there p.n g j none S k);
        exclusive = λ k. written_before (exclusive_with p.n g) (2 ^ p.n) S t.exclusives nan h
            ∙ no_exclusive_with p.n g j none S k;
      })

clipped_entries : ClosedIn gradient_width (clipped_step plan_sets)
unfolding clipped_step
clipped_entries p t ten is j h closed S below =
    let none = closed_in_no_set p ten ((call_taken p Clipped (lent_gradients t) ten).0 is).0 j h closed in
    let no_slope = no_slopes plan_sets p j in
    let at : (i : ℕ) → i < 3 → j * 3 + i < p.n * 3 + 4 = λ i l. omega arith in
    let width : p.n * 3 + 4 ≡ gradient_width p.n = omega arith in
    subst (λ (w : ℕ). NothingOf j S w (gradients_step Clipped (clipped_plan plan_sets) p t).left) width
    (step_nothing Clipped (clipped_plan plan_sets) p t j is none at (λ i l. (no_slope i h l none 0).clipped)
    (λ T i l. (no_slope i h l none T).clipped) S below)

open_entries : ClosedIn open_gradient_width (open_step plan_sets)
unfolding open_step
open_entries p t ten is j h closed S below =
    let none = closed_in_no_set p ten ((call_taken p Open (lent_gradients t) ten).0 is).0 j h closed in
    let no_slope = no_slopes plan_sets p j in
    let at : (i : ℕ) → i < 3 → j * 3 + i < 3 * p.n = λ i l. omega arith in
    step_nothing Open (open_plan plan_sets) p t j is none at (λ i l. (no_slope i h l none 0).unboxed)
    (λ T i l. (no_slope i h l none T).unboxed) S below

pub closed_entries : ClosedEntries
closed_entries = record { clipped = clipped_entries; unboxed = open_entries }
