-- A list of edits over slices: the next edit of a run, and demand 3's list of the slices themselves, from that of their rows.
use Prim.Native.Nat.{ℕ, suc, ◌+◌, ◌^◌, ◌<◌}
use mathlib.Core.Path.{◌≡◌, refl, sym, ap, ap₂, ◌∙◌, subst}
use mathlib.Core.List.{List, [], ◌∷◌, ◌++◌, map, map-append, append_assoc}
use native.Mathlib.Nat.{le_refl}
use native.Mathlib.Numerals.{add-one}
use lib.ListN.{length, get_or, set, drop, length-map, length-set}
use lib.Seq.{drop-cons, set_at}
use Rattle.std.specs.Prelude.{Ok, Err}
use Rattle.lists.specs.Run as Run
use Rattle.lists.specs.Run.{Step}
use Rattle.lists.specs.Written.{tab}
use Rattle.lists.proofs.Writing.{length_tab, length_written, drop_written}
use Rattle.plan.specs.declared.Edit.{Edit}
use Rattle.plan.specs.declared.Gradients.TheVariants.{None}
use Rattle.plan.specs.Book.{AnyTaken, head_of, leaves}
use Rattle.plan.specs.Checks.{plan_answer, call_answer}
use Rattle.plan.specs.Table.{Answered, taken, answer_number}
use Rattle.plan.proofs.Exactly.{plan_taken, call_taken}
use Rattle.regions.specs.Edit.{Row}
use Rattle.regions.specs.Demand.{AfreshRows, ExclusivesOf, Fresh, Ends, Reworks}
use Rattle.regions.specs.Table.{Method, afresh, edited, afresh_step, table_step}
use Rattle.regions.specs.Slices.{row_at, with_rows, LentTables, lent_of, PlanSlices, settled_tables, step_of, slice_answer, edited_left, afresh_slices}
use Rattle.regions.specs.Slices.{edit_slices, plan_table, entry_of}
use Rattle.regions.specs.Run.{slices_after, answers_after, answers_written, entries_of, BytesStay, AfreshBegins, SlicesRework, RunEnds}
use Rattle.regions.proofs.Demand.{afresh_works, list_ends_afresh, edit_reworks_exactly}
use Rattle.regions.proofs.Slices.{Room, edit_room, edited-left, slices_are_tables}
use Rattle.regions.proofs.Steps.{none_taken}

-- ---- a fold of steps, one step more at its end

module _ {State Entry Answered : Type 0} (step : State → Entry → Step State Answered) where
  after_more : (s : State) (es : List Entry) (e : Entry) → Run.after step s (es ++ (e ∷ [])) ≡ (step (Run.after step s es) e).left
  unfolding Run.after
  after_more s [] e = refl
  after_more s (d ∷ es) e = after_more (step s d).left es e

  answers_more : (s : State) (es : List Entry) (e : Entry)
      → Run.answers step s (es ++ (e ∷ [])) ≡ Run.answers step s es ++ ((step (Run.after step s es) e).answer ∷ [])
  unfolding Run.after Run.answers
  answers_more s [] e = refl
  answers_more s (d ∷ es) e = ap (λ l. (step s d).answer ∷ l) (answers_more (step s d).left es e)

  answers_length : (s : State) (es : List Entry) → length (Run.answers step s es) ≡ length es
  unfolding Run.answers
  answers_length s [] = refl
  answers_length s (e ∷ es) = ap suc (answers_length (step s e).left es)

-- ---- a run's next edit

module _ (m : Method) (start : PlanSlices) (f : ℕ → Edit) (i : ℕ) where
  tab_next : tab f (i + 1) ≡ tab f i ++ (f i ∷ [])
  unfolding tab
  tab_next = rw (add-one i)

  -- what one more edit leaves
  pub slices_next : (d left : PlanSlices) (e : Edit) (a : Answered) → d ≡ slices_after m start (tab f i) → e ≡ f i → step_of left a ≡ edit_slices m d e
      → left ≡ slices_after m start (tab f (i + 1))
  slices_next d left e a h k s =
      ap (λ t. t.left) s ∙ ap₂ (λ x y. (edit_slices m x y).left) h k ∙ sym (ap (slices_after m start) tab_next ∙ after_more (edit_slices m) start (tab f i) (f i))

  numbers_so_far : List ℕ
  numbers_so_far = map answer_number (answers_after m start (tab f i))

  -- its answer's number
  number_next : (d left : PlanSlices) (e : Edit) (a : Answered) → d ≡ slices_after m start (tab f i) → e ≡ f i → step_of left a ≡ edit_slices m d e
      → map answer_number (answers_after m start (tab f (i + 1))) ≡ numbers_so_far ++ (answer_number a ∷ [])
  unfolding numbers_so_far
  number_next d left e a h k s =
      ap (λ es. map answer_number (answers_after m start es)) tab_next
      ∙ ap (map answer_number) (answers_more (edit_slices m) start (tab f i) (f i))
      ∙ map-append answer_number (answers_after m start (tab f i)) ((edit_slices m (slices_after m start (tab f i)) (f i)).answer ∷ [])
      ∙ ap (λ x. numbers_so_far ++ (answer_number x ∷ [])) (sym (ap (λ t. t.answer) s ∙ ap₂ (λ x y. (edit_slices m x y).answer) h k))

  many : length numbers_so_far ≡ i
  unfolding numbers_so_far
  many = length-map (answers_after m start (tab f i)) answer_number ∙ answers_length (edit_slices m) start (tab f i) ∙ length_tab f i

  -- the numbers written, one more
  pub answers_next : (d left : PlanSlices) (e : Edit) (a : Answered) → d ≡ slices_after m start (tab f i) → e ≡ f i → step_of left a ≡ edit_slices m d e
      → (out so_far : List ℕ) (v : ℕ) → so_far ≡ answers_written m start (tab f i) out → i < length out → v ≡ answer_number a
      → set so_far i v ≡ answers_written m start (tab f (i + 1)) out
  unfolding numbers_so_far
  answers_next d left e a h k s out so_far v q b w =
      ap (λ l. set l i v) (q ∙ ap (λ n. numbers_so_far ++ drop n out) (length_tab f i) ∙ ap (λ l. numbers_so_far ++ l) (drop-cons out i 0 b))
      ∙ set_at numbers_so_far (get_or out i 0) (drop (suc i) out) v i many
      ∙ ap (λ x. numbers_so_far ++ x ∷ drop (suc i) out) w
      ∙ sym (append_assoc numbers_so_far (answer_number a ∷ []) (drop (suc i) out))
      ∙ ap₂ (λ l n. l ++ drop n out) (sym (number_next d left e a h k s)) (sym (length_tab f (i + 1) ∙ add-one i))

-- ---- what a list of edits keeps of the slices

settled_stays : (m : Method) (n : ℕ) (F : ℕ → Row) (t : LentTables) → Room n t → BytesStay (2 ^ n) t (settled_tables m (2 ^ n) n F t)
settled_stays m n F t r =
    let G : ℕ → Row = m.exclusives.of n (row_at (with_rows F (2 ^ n) t.rows)) in
    record {
      bytes = (drop_written (λ S. (F S).byte) (2 ^ n) (2 ^ n) t.rows.bytes (le_refl (2 ^ n)), length_written (λ S. (F S).byte) (2 ^ n) t.rows.bytes r.bytes);
      numbers = (drop_written (λ S. (F S).number) (2 ^ n) (2 ^ n) t.rows.numbers (le_refl (2 ^ n)), length_written (λ S. (F S).number) (2 ^ n) t.rows.numbers r.numbers);
      others = (drop_written (λ S. (G S).byte) (2 ^ n) (2 ^ n) t.exclusives.bytes (le_refl (2 ^ n)), length_written (λ S. (G S).byte) (2 ^ n) t.exclusives.bytes r.others);
      areas = (drop_written (λ S. (G S).number) (2 ^ n) (2 ^ n) t.exclusives.numbers (le_refl (2 ^ n)), length_written (λ S. (G S).number) (2 ^ n) t.exclusives.numbers r.areas);
    }

stay_stays : (count : ℕ) (t u v : LentTables) → BytesStay count t u → BytesStay count u v → BytesStay count t v
stay_stays count t u v a b = record {
  bytes = (b.bytes.0 ∙ a.bytes.0, b.bytes.1 ∙ a.bytes.1);
  numbers = (b.numbers.0 ∙ a.numbers.0, b.numbers.1 ∙ a.numbers.1);
  others = (b.others.0 ∙ a.others.0, b.others.1 ∙ a.others.1);
  areas = (b.areas.0 ∙ a.areas.0, b.areas.1 ∙ a.areas.1);
}

same_lengths : (count : ℕ) (t u : LentTables) → BytesStay count t u → lent_of u ≡ lent_of t
same_lengths count t u k = rw (k.bytes.1, k.numbers.1, k.others.1, k.areas.1)

module _ (m : Method) (start : PlanSlices) where
  -- room for ten heads, their number, and what stands beyond
  record Kept (d : PlanSlices) : Type 0 where
    ten : length d.plan.heads ≡ 10
    count : d.plan.n ≡ start.plan.n
    stay : BytesStay (2 ^ start.plan.n) start.tables d.tables

  edited_kept : (d : PlanSlices) (e : Edit) → Kept d → slice_answer d e ≡ taken → Kept (edited_left m d e)
  edited_kept d e k q =
      subst Kept (sym (edited-left m d e))
      (record {
        ten = length-set d.plan.heads e.head (head_of e) ∙ k.ten;
        count = k.count;
        stay = stay_stays (2 ^ start.plan.n) start.tables d.tables _ k.stay
            (subst (λ n. BytesStay (2 ^ n) d.tables
            (settled_tables m (2 ^ d.plan.n) d.plan.n (edited m d.plan e (row_at d.tables.rows)) d.tables)) k.count
            (settled_stays m d.plan.n (edited m d.plan e (row_at d.tables.rows)) d.tables (edit_room d e k.ten q).0));
      })

  left_kept : (d : PlanSlices) (e : Edit) → Kept d → (a : Answered) → slice_answer d e ≡ a → Kept (leaves a d (edited_left m d e))
  left_kept d e k (Ok done) q = edited_kept d e k q
  left_kept d e k (Err r) q = k

  step_kept : (d : PlanSlices) (e : Edit) → Kept d → Kept (edit_slices m d e).left
  unfolding edit_slices
  step_kept d e k = left_kept d e k (slice_answer d e) refl

  after_kept : (es : List Edit) (d : PlanSlices) → Kept d → Kept (slices_after m d es)
  unfolding Run.after
  after_kept [] d k = k
  after_kept (e ∷ es) d k = after_kept es (edit_slices m d e).left (step_kept d e k)

  -- ---- the list over slices is the list over their rows

  step_table : (d : PlanSlices) (e : Edit) → Kept d → plan_table (edit_slices m d e).left ≡ (table_step m (plan_table d) (entry_of start.tables e)).left
  step_table d e k =
      (slices_are_tables m).edit_left d e
      ∙ ap (λ lent. (table_step m (plan_table d) (record { edit = e; lent = lent })).left)
      (same_lengths (2 ^ start.plan.n) start.tables d.tables k.stay)

  step_answer : (d : PlanSlices) (e : Edit) → Kept d → (edit_slices m d e).answer ≡ (table_step m (plan_table d) (entry_of start.tables e)).answer
  step_answer d e k =
      (slices_are_tables m).edit-answer d e
      ∙ ap (λ lent. (table_step m (plan_table d) (record { edit = e; lent = lent })).answer)
      (same_lengths (2 ^ start.plan.n) start.tables d.tables k.stay)

  after_table : (es : List Edit) (d : PlanSlices) → Kept d → plan_table (slices_after m d es) ≡ Run.after (table_step m) (plan_table d) (entries_of start es)
  unfolding Run.after
  after_table [] d k = refl
  after_table (e ∷ es) d k =
      after_table es (edit_slices m d e).left (step_kept d e k)
      ∙ ap (λ s. Run.after (table_step m) s (entries_of start es)) (step_table d e k)

  answers_table : (es : List Edit) (d : PlanSlices) → Kept d → answers_after m d es ≡ Run.answers (table_step m) (plan_table d) (entries_of start es)
  unfolding Run.answers
  answers_table [] d k = refl
  answers_table (e ∷ es) d k =
      ap₂ ◌∷◌ (step_answer d e k)
      (answers_table es (edit_slices m d e).left (step_kept d e k) ∙ ap (λ s. Run.answers (table_step m) s (entries_of start es)) (step_table d e k))

refused_slices : (m : Method) (d : PlanSlices) (e : Edit) → ((edit_slices m d e).answer ≡ taken → ⊥) → (edit_slices m d e).left ≡ d
unfolding edit_slices
refused_slices m d e n = go (slice_answer d e) n
  where
    go : (a : Answered) → (a ≡ taken → ⊥) → leaves a d (edited_left m d e) ≡ d
    go (Ok done) n = absurd (n refl)
    go (Err r) n = refl

-- ---- demand 3, of the slices

afresh_answer_is : (m : Method) (d : PlanSlices) → call_answer d.plan None (lent_of d.tables) ≡ (afresh_slices m d).answer
unfolding afresh_slices
afresh_answer_is m d = refl

-- what a run begins with
pub afresh_begins : (m : Method) → AfreshBegins m
afresh_begins m d ten q =
    let same = slices_are_tables m in
    let works = (afresh_works m (plan_table d) (lent_of d.tables)).taken (sym (same.afresh-answer d) ∙ q) in
    let left = sym (same.afresh-left d) in
    let accepted = ((call_taken d.plan None (lent_of d.tables) ten).0 (afresh_answer_is m d ∙ q)).0 in (
      subst (Fresh m) left
          (record {
            room = ap (λ p. length p.heads) works.0 ∙ ten;
            taken = ap plan_answer works.0 ∙ (plan_taken d.plan ten).1 accepted;
            fresh = subst (λ p. AfreshRows m p (afresh_step m (plan_table d) (lent_of d.tables)).left.rows) (sym works.0) works.1;
          }),
      subst (λ t. ExclusivesOf m d.plan.n (afresh m d.plan) t.exclusives) left works.2,
    )

-- the second half
pub slices_rework : (m : Method) → SlicesRework m
slices_rework m d e q =
    let same = slices_are_tables m in
    let rows = ap (λ t. t.rows) (sym (same.edit_left d e)) in
    subst (Reworks m d.plan e (row_at d.tables.rows)) rows
    (edit_reworks_exactly m (plan_table d) (entry_of d.tables e) (sym (same.edit-answer d e) ∙ q)).1

-- the list
pub run_ends : (m : Method) → RunEnds m
run_ends m d es begin =
    let start : Kept m d d = record {
      ten = begin.room;
      count = refl;
      stay = record { bytes = (refl, refl); numbers = (refl, refl); others = (refl, refl); areas = (refl, refl) };
    } in
    let end = list_ends_afresh m (plan_table d) begin (entries_of d es) in
    let answered = answers_table m d es d start in
    record {
      ends = subst (λ s. Ends m (plan_table d) (entries_of d es) s (answers_after m d es)) (sym (after_table m d es d start))
          (subst (Ends m (plan_table d) (entries_of d es) (Run.after (table_step m) (plan_table d) (entries_of d es))) (sym answered) end);
      untouched = λ t. none_taken (edit_slices m) (refused_slices m) es d (λ u. t (subst AnyTaken (answered ∙ end.answered) u));
      stay = (after_kept m d es d start).stay;
    }
