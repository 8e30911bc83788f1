-- What the passes of this crate write is what the steps of `regions` say: the areas of a plan made ready are
-- the method's, the bytes of its sets say which masks are sets, and so a pass over these bytes leaves what a
-- taken call leaves. Over any list of sets.
use Prim.Native.Nat.{ℕ, zero, suc, ◌^◌, ◌≤◌, ◌<◌}
use mathlib.Core.Path.{◌≡◌, refl, sym, ap, ap₂, ◌∙◌, subst}
use mathlib.Core.Bool.{Bool, true, false, true≢false}
use mathlib.Core.List.{List}
use native.Mathlib.Nat.{lt_of_lt_of_le}
use native.Mathlib.Omega.{arith}
use lib.Dec.{eqb}
use Rattle.std.specs.Prelude.{Option, None, Some, Ok, Err, is_ok}
use Rattle.std.specs.Option.{is_some}
use lib.Ieee.{Float, nan}
use lib.IntN.{ℤ}
use lib.ListN.{length, set, drop, replicate, get_or-replicate}
use lib.Pow.{pow_pos}
use lib.Seq.{get_or-set_same, drop-set-lt}
use mir.Facts.{to_z-of_z}
use mir.Syntax.{w32}
use mir.Val.{SFits, to_z, of_z}
use Rattle.lists.proofs.Writing.{written_before, written_cong}
use Rattle.lists.specs.Run.{Step}
use Rattle.masks.specs.Presence.{byte, stands, byte_stands}
use Rattle.plan.specs.declared.Edit.{Edit}
use Rattle.plan.specs.declared.Plan.{Plan}
use Rattle.plan.specs.Book.{applied, entered, leaves}
use Rattle.plan.specs.declared.Lent.{Lent}
use Rattle.plan.specs.declared.Gradients.TheVariants.{None as NoGradients}
use Rattle.plan.specs.Checks.{call_answer, edit_answer}
use Rattle.plan.specs.Table.{Answered, taken}
use Rattle.geometry.specs.Rectangle as Rectangle
use Rattle.geometry.specs.declared.bounds.Bounds.{Bounds}
use Rattle.intersections.specs.Points.{collected}
use Rattle.sets.specs.Regions.{in_regions, set_bytes}
use Rattle.drawn.specs.Drawn.{plan_circles, box_of}
use Rattle.areas.specs.Exclusives.{to_exclusives}
use Rattle.areas.specs.Sets.{plan_sets}
use Rattle.regions.specs.Demand.{Reworks}
use Rattle.regions.specs.Edit.{Row, box_row, afresh_row}
use Rattle.regions.specs.Slices.{slices_of, row_at, with_rows, lent_of, LentTables, tables_of, PlanSlices}
use Rattle.regions.specs.Slices.{settled_tables, step_of, afresh_answer, afresh_slices, slice_answer, edit_slices}
use Rattle.regions.specs.Table.{Method, area_at, met_by, afresh, edited}
use Rattle.regions.proofs.Run.{slices_rework}
use Rattle.regions.proofs.Slices.{Room, afresh_taken, edit_step_taken, edit_step_refused}
use Rattle.table.specs.declared.ready.Ready.{Ready}
use Rattle.table.specs.declared.rows.Change.{Change}
use Rattle.table.specs.Method.{method_over, clipped_table}
use Rattle.table.specs.Ready.{heads_in, area_of, Of, plan_bounds, BoxOf, sets_in}
use Rattle.table.specs.Rows.{rows_written}
use Rattle.table.specs.declared.tables.Tables.{Tables}
use Rattle.table.specs.Tables.{SameSlices, edit_of, change_of, tables_written, afresh_over, edited_over}
use Rattle.table.proofs.Writing.{rows_most, row_cong, afresh_edited}

-- ---- the slices of lent tables stay the same

pub same_self : (t : Tables) → SameSlices t t
same_self t = record { presence = refl; rows = refl; exclusive_presence = refl; exclusives = refl }

pub same_then : {a b c : Tables} → SameSlices a b → SameSlices b c → SameSlices a c
same_then first second = record {
  presence = second.presence ∙ first.presence;
  rows = second.rows ∙ first.rows;
  exclusive_presence = second.exclusive_presence ∙ first.exclusive_presence;
  exclusives = second.exclusives ∙ first.exclusives;
}

-- ---- what the checks answer for the slices lent

pub call_says : (d : PlanSlices) {lent : Lent} {a b : Answered} → a ≡ call_answer d.plan NoGradients lent
    → lent ≡ lent_of d.tables → a ≡ b → afresh_answer d ≡ b
call_says d e l is = sym (e ∙ ap (call_answer d.plan NoGradients) l) ∙ is

ok_taken : (a : Answered) → is_ok a ≡ true → a ≡ taken
ok_taken (Ok done) e = refl
ok_taken (Err r) e = absurd (true≢false (sym e))

pub edit_says : (d : PlanSlices) (x : Edit) {lent : Lent} {a b : Answered} → a ≡ edit_answer d.plan x lent
    → lent ≡ lent_of d.tables → a ≡ b → slice_answer d x ≡ b
edit_says d x e l is = sym (e ∙ ap (edit_answer d.plan x) l) ∙ is

-- where the book takes an edit
pub entered_taken : (p : Plan) (e : Edit) (lent : Lent) {q : Plan} {a : Answered} → q ≡ entered p e lent
    → a ≡ edit_answer p e lent → is_ok a ≡ true → (a ≡ taken) × (q ≡ applied p e)
entered_taken p e lent {q} {a} left same ok =
    let is = ok_taken a ok in
    (is, left ∙ ap (λ b. leaves b p (applied p e)) (sym same ∙ is))

-- ---- a plan made ready

module _ {p : Plan} {bounds : Option Bounds} {r : Ready} (of : Of p bounds r) where
  -- in the box, or without one, that it holds itself
  pub in_own : Of p r.bounds r
  in_own = record { n = of.n; circles = of.circles; points = of.points; bounds = refl }

  -- the bytes of the sets found in it say which masks are the plan's sets
  pub sets_say : p.n ≤ 10 → {sets : List ℕ} → sets ≡ sets_in r → (S : ℕ) → S < 2 ^ p.n → stands sets S ≡ plan_sets p S
  unfolding plan_sets
  sets_say few e S h =
      let is = in_regions (plan_circles p) (collected (plan_circles p)) in
      let count = 2 ^ length (plan_circles p) in
      let below : S < count = subst (λ n. S < 2 ^ n) (sym (of.n few) ∙ ap length of.circles) h in
      ap (λ l. stands l S) (e ∙ ap₂ set_bytes of.circles of.points)
      ∙ ap (λ b. eqb b 1) (written_before (λ T. byte (is T)) count S (replicate 1024 0) 0 below)
      ∙ byte_stands (is S)

-- what the code works out is what a method says
pub record Serves (m : Method) (p : Plan) (r : Ready) : Type 0 where
  pub has_box : is_some r.bounds ≡ m.has_box
  pub area : (S : ℕ) → area_of r S ≡ area_at m p S
  pub box : box_row m.has_box (Rectangle.area (box_of p.ground)) ≡ box_row m.has_box (m.box_area p.ground)

pub serves : (bounds : Option Bounds) (sets : Plan → ℕ → Bool) (p : Plan) (r : Ready) → Of p bounds r → BoxOf p bounds
    → Serves (method_over (is_some bounds) sets) p r
unfolding area_of
serves None sets p r of box =
    record { has_box = ap is_some of.bounds; area = λ S. rw (of.bounds, of.circles, of.points); box = refl }
serves (Some b) sets p r of box =
    record { has_box = ap is_some of.bounds; area = λ S. rw (of.bounds, of.circles, of.points, box); box = refl }

-- no sets
none_stand : (S : ℕ) → S < 1024 → stands (replicate 1024 0) S ≡ false
none_stand S h = rw (get_or-replicate {A = ℕ} 1024 S 0 0 h)

-- ---- both tables

-- rows that agree below 2^n, over numbers that agree beyond
tables_cong : (n : ℕ) (F G : ℕ → Row) (t : LentTables) (numbers : List Float)
    → drop (2 ^ n) numbers ≡ drop (2 ^ n) t.rows.numbers → ((S : ℕ) → S < 2 ^ n → F S ≡ G S)
    → tables_written n F (tables_of t.rows.bytes numbers t.exclusives.bytes t.exclusives.numbers)
    ≡ tables_written n G t
tables_cong n F G t numbers rest e =
    ap₂ both
    (written_cong (λ S. (F S).byte) (λ S. (G S).byte) (2 ^ n) t.rows.bytes t.rows.bytes
    (λ S h. ap (λ row. row.byte) (e S h)) refl)
    (written_cong (λ S. (F S).number) (λ S. (G S).number) (2 ^ n) numbers t.rows.numbers
    (λ S h. ap (λ row. row.number) (e S h)) rest)
  where
    both : List ℕ → List Float → LentTables
    both x y = record {
      rows = slices_of x y;
      exclusives = with_rows (to_exclusives.of n (row_at (slices_of x y))) (2 ^ n) t.exclusives;
    }

-- the exclusives follow from the rows in the same way with and without a box
written_settled : (has_box : Bool) (sets : Plan → ℕ → Bool) (n : ℕ) (F : ℕ → Row) (t : LentTables)
    → tables_written n F t ≡ settled_tables (method_over has_box sets) (2 ^ n) n F t
written_settled true sets n F t = refl
written_settled false sets n F t = refl

-- ---- afresh

-- lent tables with another number in row 0
abbrev pub with_first : Float → LentTables → LentTables
with_first x t = tables_of t.rows.bytes (set t.rows.numbers 0 x) t.exclusives.bytes t.exclusives.numbers

module _ (m : Method) (p : Plan) (r : Ready) (s : Serves m p r) (sets : List ℕ) (t : LentTables) (room : Room p.n t)
    (box : Float) (box-is : box ≡ Rectangle.area (box_of p.ground)) where
  -- what the pass with no sets before writes
  abbrev rows-of : ℕ → Row
  rows-of =
      rows_written r (record { own = 0; met = 0 }) (replicate 1024 0) sets t.rows.bytes (set t.rows.numbers 0 box)

  afresh-row : (S : ℕ) → S < 2 ^ p.n → rows-of S ≡ afresh_over m p sets S
  afresh-row S h =
      let rows = row_at (with_first box t).rows in
      let area = area_at m p in
      let some = pow_pos p.n in
      row_cong 0 0 _ _ (area_of r) area (stands (replicate 1024 0)) (λ T. false) (stands sets) (stands sets) rows S
      s.has_box (s.area S) (none_stand S (lt_of_lt_of_le h (rows_most p.n room.count))) refl
      ∙ afresh_edited m.has_box 0 0 (m.box_area p.ground) area (stands sets) rows S
      (ap (box_row m.has_box) (get_or-set_same t.rows.numbers 0 box nan (omega (arith, room.numbers)) ∙ box-is)
      ∙ s.box)

  -- the box's area, put into row 0 first, is no row beyond
  pub afresh_written : tables_written p.n rows-of (with_first box t) ≡ tables_written p.n (afresh_over m p sets) t
  afresh_written =
      tables_cong p.n _ _ t (set t.rows.numbers 0 box) (drop-set-lt (2 ^ p.n) t.rows.numbers 0 box (pow_pos p.n))
      afresh-row

-- an afresh row looks at its own set
afresh_cong : (has_box : Bool) (box : Float) (area : ℕ → Float) (sets sets' : ℕ → Bool) (S : ℕ) → sets S ≡ sets' S
    → afresh_row has_box box area sets S ≡ afresh_row has_box box area sets' S
unfolding afresh_row
afresh_cong has_box box area sets sets' zero e = refl
afresh_cong has_box box area sets sets' (suc S) e = rw e

sets_of_method : (has_box : Bool) (sets : Plan → ℕ → Bool) → (method_over has_box sets).sets ≡ sets
sets_of_method true sets = refl
sets_of_method false sets = refl

-- a taken afresh call, from what its pass wrote over bytes that say the plan's sets
pub afresh-step : (has_box : Bool) (sets : Plan → ℕ → Bool) (d : PlanSlices) (bytes : List ℕ) (t : LentTables)
    → afresh_answer d ≡ taken → ((S : ℕ) → S < 2 ^ d.plan.n → stands bytes S ≡ sets d.plan S)
    → t ≡ tables_written d.plan.n (afresh_over (method_over has_box sets) d.plan bytes) d.tables
    → step_of (record { plan = d.plan; tables = t }) taken ≡ afresh_slices (method_over has_box sets) d
afresh-step has_box sets d bytes t q say e =
    let m = method_over has_box sets in
    let p = d.plan in
    let row : (S : ℕ) → S < 2 ^ p.n → afresh_over m p bytes S ≡ afresh m p S =
    λ S h. afresh_cong m.has_box (m.box_area p.ground) (area_at m p) (stands bytes) (m.sets p) S
    (say S h ∙ sym (ap (λ f. f p S) (sets_of_method has_box sets))) in
    let u = d.tables in
    afresh_taken m d t q
    (e ∙ tables_cong p.n _ _ u u.rows.numbers refl row ∙ written_settled has_box sets p.n (afresh m p) u)

-- ---- an edit

pub edited_written : (m : Method) (p : Plan) (e : Edit) (r : Ready) → Serves m (applied p e) r
    → (earlier later : List ℕ) (n : ℕ) (t : LentTables)
    → tables_written n (rows_written r (change_of p e) earlier later t.rows.bytes t.rows.numbers) t
    ≡ tables_written n (edited_over m p e earlier later (row_at t.rows)) t
edited_written m p e r s earlier later n t =
    tables_cong n _ _ t t.rows.numbers refl
    (λ S h. row_cong (2 ^ e.head) (met_by p e) _ _ _ _ _ _ _ _ (row_at t.rows) S s.has_box (s.area S) refl refl)

-- by the change of an edit, over its plan made ready in the box
pub edited_pass : (p : Plan) (e : Edit) (r : Ready) → Of (applied p e) (Some (plan_bounds p)) r → p.n ≤ 10
    → (change : Change) → change ≡ change_of p e → (earlier later : List ℕ) (t : LentTables) {left : LentTables}
    → left ≡ tables_written (heads_in r) (rows_written r change earlier later t.rows.bytes t.rows.numbers) t
    → left ≡ tables_written p.n (edited_over clipped_table p e earlier later (row_at t.rows)) t
edited_pass p e r of few change is earlier later t written =
    rw (written, of.n few, is)
    (edited_written clipped_table p e r (serves (Some (plan_bounds p)) plan_sets (applied p e) r of refl) earlier later
    p.n t)

-- a taken edit, from what its pass wrote over bytes that say the sets of the plans before and after
pub edit_step : (sets : Plan → ℕ → Bool) (d : PlanSlices) (e : Edit) (earlier later : List ℕ) (next : Plan)
    (t : LentTables) → slice_answer d e ≡ taken → ((S : ℕ) → S < 2 ^ d.plan.n → stands earlier S ≡ sets d.plan S)
    → ((S : ℕ) → S < 2 ^ d.plan.n → stands later S ≡ sets (applied d.plan e) S)
    → next ≡ applied d.plan e
    → t
    ≡ tables_written d.plan.n (edited_over (method_over true sets) d.plan e earlier later (row_at d.tables.rows))
    d.tables
    → step_of (record { plan = next; tables = t }) taken ≡ edit_slices (method_over true sets) d e
unfolding edited
edit_step sets d e earlier later next t q before after f g =
    let m = method_over true sets in
    let p = d.plan in
    let u = d.tables in
    let rows = row_at u.rows in
    let row : (S : ℕ) → S < 2 ^ p.n → edited_over m p e earlier later rows S ≡ edited m p e rows S =
    λ S h. row_cong (2 ^ e.head) (met_by p e) _ _ _ _ _ _ _ _ rows S refl refl (before S h) (after S h) in
    edit_step_taken m d e next t q f (g ∙ tables_cong p.n _ _ u u.rows.numbers refl row)

-- a step whose answer is another's
pub answered : {left : PlanSlices} {a b : Answered} {step : Step PlanSlices Answered} → a ≡ b → step_of left b ≡ step
    → step_of left a ≡ step
answered e is = rw e is

-- a refused edit, as the book leaves it
pub edit_refused : (m : Method) (d : PlanSlices) (e : Edit) (lent : Lent) (q : Plan) (a : Answered)
    → q ≡ entered d.plan e lent → a ≡ edit_answer d.plan e lent → lent ≡ lent_of d.tables → is_ok a ≡ false
    → step_of (record { plan = q; tables = d.tables }) a ≡ edit_slices m d e
edit_refused m d e lent q (Ok done) left same is not = absurd (true≢false not)
edit_refused m d e lent q (Err r) left same is not =
    ap (λ p. step_of (record { plan = p; tables = d.tables }) (Err r))
    (left ∙ ap (λ b. leaves b d.plan (applied d.plan e)) (sym same))
    ∙ edit_step_refused m d e r (edit_says d e same is refl)

-- an edit of signed numbers of 32 bits comes back from their bits
pub edit_kept : (head : ℕ) (x y radius : ℤ) → SFits w32 x → SFits w32 y → SFits w32 radius
    → edit_of head (to_z w32 (of_z w32 x)) (to_z w32 (of_z w32 y)) (to_z w32 (of_z w32 radius))
    ≡ edit_of head x y radius
edit_kept head x y radius a b c = rw (to_z-of_z a, to_z-of_z b, to_z-of_z c)

-- what a taken edit leaves is in demand 3's words what it reworked
pub edit_reworks : (m : Method) (d left : PlanSlices) (e : Edit) (a : Answered) → step_of left a ≡ edit_slices m d e
    → a ≡ taken → Reworks m d.plan e (row_at d.tables.rows) (row_at left.tables.rows)
edit_reworks m d left e a s k =
    subst (Reworks m d.plan e (row_at d.tables.rows)) (ap (λ t. row_at t.left.tables.rows) (sym s))
    (slices_rework m d e (sym (ap (λ t. t.answer) s) ∙ k))
