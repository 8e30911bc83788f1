-- Of a plan whose radii are above 0 each answer is the former one: its meeting points are, and so its sets and their
-- members, and all else is worked out from these.
use mathlib.Core.Path.{◌≡◌, refl, sym, ap, ap₂, ◌∙◌, subst, fun_ext}
use mathlib.Core.Bool.{Bool, true, false, not, ◌&&◌, ◌||◌, or-false}
use mathlib.Core.List.{List, [], ◌∷◌}
use Prim.Native.Nat.{ℕ, ◌^◌, ◌<◌}
use native.Mathlib.Omega.{arith}
use lib.Dec.{eqb}
use lib.ListN.{length, get_or, set, length-set}
use lib.Seq.{get_or-set_same, get_or-set_other}
use native.Mathlib.Decide.{ℕ_discrete}
use Rattle.std.specs.Prelude.{Ok, Err}
use Rattle.std.proofs.lemmas.Bool.{not-false}
use Rattle.lists.specs.Every.{Every}
use Rattle.lists.specs.Run as Run
use Rattle.lists.specs.Run.{Step}
use Rattle.binary64.specs.Constants.{zero64}
use Rattle.binary64.specs.Floats.{◌<ᶠ◌}
use Rattle.heads.specs.declared.Head.{Head}
use Rattle.heads.proofs.AsBefore.{above_not_closed, heads_as_before}
use Rattle.heads.specs.Distance.{limits_of}
use Rattle.heads.specs.Pair.{squared_distance, radius_of, meets_of}
use Rattle.plan.specs.declared.Gradients.{Gradients}
use Rattle.plan.specs.declared.Gradients.TheVariants.{Clipped, Open}
use Rattle.plan.specs.declared.Plan.{Plan}
use Rattle.plan.specs.declared.Edit.{Edit}
use Rattle.plan.specs.Limits.{no_head, Acceptable, AcceptableEdit}
use Rattle.plan.specs.Table.{Answered, taken}
use Rattle.plan.proofs.Keeps.{applied_acceptable}
use Rattle.plan.specs.Book.{head_of, applied, leaves}
use Rattle.plan.proofs.Exactly.{plan_taken, edit_taken, within_limits}
use Rattle.drawn.specs.Drawn.{plan_circles}
use Rattle.drawn.proofs.Circles.{circles_many, circle-at}
use Rattle.exact.proofs.Tests.{closed_is}
use Rattle.geometry.specs.Circle as circle
use Rattle.geometry.specs.declared.circle.Circle.{Circle}
use Rattle.intersections.specs.Alike.{RadiiAbove}
use Rattle.intersections.specs.Members.{Member, no_circle, circle_at}
use Rattle.intersections.specs.Points.{rule, outline_rule}
use Rattle.intersections.proofs.Alike.{collected_as_before}
use Rattle.masks.specs.Gather.{gather_same}
use Rattle.sets.proofs.Alike.{sets_as_before}
use Rattle.overlaps.specs.Overlap.{OverlapAsBefore}
use Rattle.overlaps.proofs.AsBefore.{overlap_as_before}
use Rattle.diagram.specs.Rows.{Slopes}
use Rattle.regions.specs.Edit.{Row, edited_row, met, meets_any}
use Rattle.regions.specs.Run.{slices_after, answers_after}
use Rattle.regions.specs.Table.{Method, head_at, plan_members, met_by, edited, rows_over}
use Rattle.regions.specs.Slices.{LentTables, PlanSlices, row_at, lent_of, settled_tables, step_of, afresh_answer}
use Rattle.regions.specs.Slices.{afresh_slices, slice_answer, edited_left, edit_slices}
use Rattle.areas.specs.Sets.{plan_sets}
use Rattle.table.specs.Method.{method_over}
use Rattle.gradients.specs.Step.{GradientSlices, gradients_step, clipped_plan, open_plan, clipped_step, open_step}
use Rattle.as_before.specs.Alike.{PlanAlike}
use Rattle.as_before.proofs.Alike.{plan_alike}
use Rattle.as_before.specs.Former.{former_members, former_sets, former_method}
use Rattle.as_before.specs.Former.{former_clipped_plan, former_open_plan, former_afresh}
use Rattle.as_before.specs.Former.{outlines_meet_of, former_met, former_edited, former_edit_left, former_edit}
use Rattle.as_before.specs.Stays.{AllAbove, EditAbove, over, AllAnswersStay, AllCallsStay}

module _ (p : Plan) (o : AllAbove p) where
  ok : Acceptable p
  ok = (plan_taken p o.room).0 o.accepted

  many : length (plan_circles p) ≡ p.n
  many = circles_many p o.room ok.count

  -- so are the radii of its circles
  above : RadiiAbove (plan_circles p)
  above i h =
      let lower : i < p.n = omega (arith, many) in
      not-false (zero64 <ᶠ (circle_at (plan_circles p) i).radius)
      (ap (λ (c : Circle). circle.is_closed c) (circle-at p o.room ok.count i no_circle lower)
      ∙ closed_is (limits_of (head_at p i) (within_limits (head_at p i) (ok.heads i lower)))
      ∙ above_not_closed (radius_of (head_at p i)) (o.above i lower))

  sets_stay : (S : ℕ) → plan_sets p S ≡ former_sets p S
  unfolding plan_sets former_sets
  sets_stay S = sets_as_before (plan_circles p) above S

  alike : PlanAlike rule outline_rule plan_sets former_sets p
  alike = plan_alike rule outline_rule plan_sets former_sets p (collected_as_before (plan_circles p) above) sets_stay

pub answers_stay : AllAnswersStay
answers_stay p o =
    let together : OverlapAsBefore (plan_circles p) = overlap_as_before (plan_circles p) (above p o) in
    record {
      points = collected_as_before (plan_circles p) (above p o);
      sets = sets_stay p o;
      members = (alike p o).members;
      rows = (alike p o).rows true;
      open_rows = (alike p o).rows false;
      exclusives = (alike p o).exclusives true;
      open_exclusives = (alike p o).exclusives false;
      gradients = (alike p o).clipped_gradients;
      open_gradients = (alike p o).open_gradients;
      slopes = (alike p o).clipped_slopes;
      open_slopes = (alike p o).open_slopes;
      overlap = together.all;
      overlap_of = together.some;
    }

-- ---- calls

module _ (p : Plan) (o : AllAbove p) where
  -- of a method nothing but its exclusives settles tables
  afresh_stays : (has_box : Bool) (t : LentTables) →
      afresh_slices (method_over has_box plan_sets) (over p t) ≡ former_afresh has_box (over p t)
  unfolding afresh_slices
  afresh_stays true t =
      let d : PlanSlices = record { plan = p; tables = t } in
      ap (λ (rows : ℕ → Row). step_of (leaves (afresh_answer d) d (record {
        plan = p;
        tables = settled_tables (former_method true) (2 ^ p.n) p.n rows t;
      })) (afresh_answer d)) (fun_ext ((alike p o).rows true))
  afresh_stays false t =
      let d : PlanSlices = record { plan = p; tables = t } in
      ap (λ (rows : ℕ → Row). step_of (leaves (afresh_answer d) d (record {
        plan = p;
        tables = settled_tables (former_method false) (2 ^ p.n) p.n rows t;
      })) (afresh_answer d)) (fun_ext ((alike p o).rows false))

  -- a gradient call looks at the slopes of its plan alone
  step_stays : (which : Gradients) (slopes slopes' : Plan → Slopes) (t : GradientSlices) → slopes p ≡ slopes' p
      → gradients_step which slopes p t ≡ gradients_step which slopes' p t
  step_stays which slopes slopes' t e = ap (λ (g : Slopes). gradients_step which (λ q. g) p t) e

-- ---- edits

meets_stays : (a b : Head) → 0 < radius_of a → 0 < radius_of b → meets_of a b ≡ outlines_meet_of a b
meets_stays a b h g = (heads_as_before (squared_distance a b) (radius_of a) (radius_of b) h g).meets

-- a taken edit to a radius above 0 leaves such a plan
applied_above : (p : Plan) (e : Edit) → AllAbove p → EditAbove e → AcceptableEdit p.n e → AllAbove (applied p e)
applied_above p e o r edit =
    let room : length (set p.heads e.head (head_of e)) ≡ 10 = length-set p.heads e.head (head_of e) ∙ o.room in
    let fine : Acceptable p = (plan_taken p o.room).0 o.accepted in
    record {
      room = room;
      accepted = (plan_taken (applied p e) room).1 (applied_acceptable p e o.room fine edit);
      above = λ i lt.
          elim (ℕ_discrete i e.head) as (λ d. 0 < radius_of (get_or (set p.heads e.head (head_of e)) i no_head)) [
            | yes same ↦
                let inside : e.head < length p.heads = omega (arith, o.room, fine.count, edit.head) in
                let here : get_or (set p.heads e.head (head_of e)) i no_head ≡ head_of e =
                rw same (get_or-set_same p.heads e.head (head_of e) no_head inside) in
                subst (λ (h : Head). 0 < radius_of h) (sym here) r
            | no other ↦
                subst (λ (h : Head). 0 < radius_of h)
                (sym (get_or-set_other p.heads e.head i (head_of e) no_head other)) (o.above i lt)
          ];
    }

module _ (p : Plan) (e : Edit) (o : AllAbove p) (r : EditAbove e) (edit : AcceptableEdit p.n e) where
  after_above : AllAbove (applied p e)
  after_above = applied_above p e o r edit

  met_stays : met_by p e ≡ former_met p e
  unfolding met meets_any former_met
  met_stays =
      gather_same p.n _ _ (λ j h. ap (λ (b : Bool). not (eqb j e.head) && b)
      (ap₂ (λ (x y : Bool). x || y)
      (meets_stays (head_at p e.head) (head_at p j) (o.above e.head edit.head) (o.above j h))
      (or-false (meets_of (head_of e) (head_at p j)) ∙ meets_stays (head_of e) (head_at p j) r (o.above j h))))

  -- the row by what it is worked out from
  row_by : (has_box : Bool) → (ℕ → Row) → ℕ → ℕ → (ℕ → List Member) → (ℕ → Bool) → (ℕ → Bool) → Row
  row_by has_box rows S met members before after =
      edited_row has_box (2 ^ e.head) met (λ T. (former_method has_box).area p.ground (members T)) before after rows S

  by_parts : (has_box : Bool) (rows : ℕ → Row) (S : ℕ)
      → row_by has_box rows S (met_by p e) (plan_members (applied p e)) (plan_sets p) (plan_sets (applied p e))
      ≡ row_by has_box rows S (former_met p e) (former_members (applied p e)) (former_sets p)
      (former_sets (applied p e))
  by_parts has_box rows S =
      ap₂ (λ (met : ℕ) (members : ℕ → List Member).
      row_by has_box rows S met members (plan_sets p) (plan_sets (applied p e)))
      met_stays (fun_ext (alike (applied p e) after_above).members)
      ∙ ap₂ (row_by has_box rows S (former_met p e) (former_members (applied p e))) (fun_ext (sets_stay p o))
      (fun_ext (sets_stay (applied p e) after_above))

  edited_stays : (has_box : Bool) (rows : ℕ → Row)
      → edited (method_over has_box plan_sets) p e rows ≡ former_edited has_box p e rows
  unfolding edited row_by
  edited_stays true rows = fun_ext (by_parts true rows)
  edited_stays false rows = fun_ext (by_parts false rows)

  left_stays : (has_box : Bool) (t : LentTables)
      → edited_left (method_over has_box plan_sets) (over p t) e ≡ former_edit_left has_box (over p t) e
  left_stays true t =
      ap (λ (rows : ℕ → Row).
      over (applied p e) (settled_tables (former_method true) (rows_over p e) (applied p e).n rows t))
      (edited_stays true (row_at t.rows))
  left_stays false t =
      ap (λ (rows : ℕ → Row).
      over (applied p e) (settled_tables (former_method false) (rows_over p e) (applied p e).n rows t))
      (edited_stays false (row_at t.rows))

module _ (d : PlanSlices) (e : Edit) (o : AllAbove d.plan) (r : EditAbove e) where
  accepted : slice_answer d e ≡ taken → AcceptableEdit d.plan.n e
  accepted f = ((edit_taken d.plan e (lent_of d.tables) o.room).0 f).1

  edit_stays : (has_box : Bool) → edit_slices (method_over has_box plan_sets) d e ≡ former_edit has_box d e
  unfolding edit_slices
  edit_stays has_box = go (slice_answer d e) refl
    where
      go : (a : Answered) → slice_answer d e ≡ a
          → step_of (leaves a d (edited_left (method_over has_box plan_sets) d e)) a
          ≡ step_of (leaves a d (former_edit_left has_box d e)) a
      go (Ok done) f =
          ap (λ (left : PlanSlices). step_of left (Ok done)) (left_stays d.plan e o r (accepted f) has_box d.tables)
      go (Err x) f = refl

  still_above : (has_box : Bool) → AllAbove (former_edit has_box d e).left.plan
  still_above has_box = go (slice_answer d e) refl
    where
      go : (a : Answered) → slice_answer d e ≡ a → AllAbove (leaves a d (former_edit_left has_box d e)).plan
      go (Ok done) f = applied_above d.plan e o r (accepted f)
      go (Err x) f = o

run_stays : (has_box : Bool) (d : PlanSlices) (es : List Edit) → AllAbove d.plan → Every EditAbove es
    → (slices_after (method_over has_box plan_sets) d es ≡ Run.after (former_edit has_box) d es)
    × (answers_after (method_over has_box plan_sets) d es ≡ Run.answers (former_edit has_box) d es)
unfolding Run.after Run.answers
run_stays has_box d [] o r = (refl, refl)
run_stays has_box d (e ∷ es) o r =
    let m : Method = method_over has_box plan_sets in
    let one : edit_slices m d e ≡ former_edit has_box d e = edit_stays d e o r.0 has_box in
    let rest = run_stays has_box (former_edit has_box d e).left es (still_above d e o r.0 has_box) r.1 in (
      ap (λ (s : Step PlanSlices Answered). slices_after m s.left es) one ∙ rest.0,
      ap (λ (s : Step PlanSlices Answered). s.answer ∷ answers_after m s.left es) one
          ∙ ap (λ (l : List Answered). slice_answer d e ∷ l) rest.1,
    )

pub calls_stay : AllCallsStay
unfolding clipped_step open_step
calls_stay p o = record {
  afresh = afresh_stays p o true;
  open_afresh = afresh_stays p o false;
  run = λ t es r. run_stays true (over p t) es o r;
  open_run = λ t es r. run_stays false (over p t) es o r;
  gradients = λ t. step_stays p o Clipped (clipped_plan plan_sets) former_clipped_plan t (alike p o).clipped_slopes;
  open_gradients = λ t. step_stays p o Open (open_plan plan_sets) former_open_plan t (alike p o).open_slopes;
}
