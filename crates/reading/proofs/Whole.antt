-- What a file leaves and answers, by what it says: the fold of its plan and edits over the lent tables is one afresh
-- call on the book's last plan.
use Prim.Native.Nat.{ℕ, ◌^◌, ◌≤◌, ◌<◌}
use mathlib.Core.Path.{◌≡◌, refl, sym, ap, ap₂, ◌∙◌, subst}
use mathlib.Core.Bool.{Bool, true, false}
use mathlib.Core.List.{List}
use mathlib.Core.Logic.{inl}
use native.Mathlib.Omega.{arith}
use borrow.Author.Tests.{ltb-true, ltb-false}
use lib.Dec.{eqb, ltb}
use lib.Ieee.{nan}
use lib.ListN.{length, get_or}
use Rattle.masks.specs.Presence.{stands}
use Rattle.std.proofs.Common.{Ok, Err}
use Rattle.plan.specs.declared.Gradients.TheVariants.{None}
use Rattle.plan.specs.declared.Plan.{Plan}
use Rattle.plan.specs.Book.{leaves}
use Rattle.plan.specs.Checks.{first_of, call_answer}
use Rattle.plan.specs.Table as Table
use Rattle.plan.specs.Table.{Answered, answer_number, answer_offset}
use Rattle.plan.proofs.Exactly.{call_seven, offset_zero}
use Rattle.plan.proofs.Keeps.{book_keeps, book_acceptable}
use Rattle.file.specs.Applied.{entries}
use Rattle.file.specs.File.{File, ends, gives_plan, gives_edit, read_file}
use Rattle.file.specs.Reader.{start, finish, feed}
use Rattle.file.specs.Same.{end_of}
use Rattle.file.specs.Sound.{FileWithin}
use Rattle.file.proofs.Applied.{reader_plan, reader_book, taken_gives}
use Rattle.file.proofs.Same.{reader_answers}
use Rattle.file.proofs.Sound.{file_sound}
use Rattle.regions.specs.Slices.{row_at, LentTables, lent_of, PlanSlices, afresh_answer, afresh_left, afresh_slices}
use Rattle.regions.specs.Table.{Method, afresh}
use Rattle.regions.proofs.Slices.{afresh_room, settled_lengths}
use Rattle.printing.specs.Rows.{table_lines, refusal_line}
use Rattle.printing.proofs.Lines.{table-lines, lines_same}
use Rattle.reading.specs.Whole.{over, no_plan, last_plan, file_left, tables_answer, file_answer}
use Rattle.reading.specs.Whole.{afresh_exclusive, exclusive_lines, plan_lines, printed_for, ShortTables}
use Rattle.reading.proofs.Fresh.{left_over, row_below, afresh_is_taken, afresh_needs, afresh_leaves, afresh_stays}
use Rattle.reading.proofs.Fresh.{fresh_edits, short_book, short_edits}

-- ---- the tables

module _ (m : Method) (t : LentTables) (s : List ℕ) (p : Plan) (f : File) (e : read_file s ≡ gives_plan p f) where
  within : FileWithin (gives_plan p f)
  within = subst FileWithin e (file_sound s)

  ten : length (last_plan t p f).heads ≡ 10
  unfolding within
  ten = (book_keeps p (entries (lent_of t) f)).room ∙ within.1

  count : (last_plan t p f).n ≡ p.n
  count = (book_keeps p (entries (lent_of t) f)).n

  -- tables that are long enough
  enough_left : 2 ^ p.n ≤ (lent_of t).rows
      → left_over m f (afresh_slices m (over t p)).left ≡ (afresh_slices m (over t (last_plan t p f))).left
  unfolding within ten
  enough_left enough =
      let last = book_acceptable p (entries (lent_of t) f) within.1 within.0 in
      ap (left_over m f) (afresh_leaves m (over t p) (afresh_is_taken t p within.1 within.0 enough))
      ∙ fresh_edits m t f p within.1 within.0 within.2 enough
      ∙ ap (λ q. afresh_left m (over t q)) (sym (reader_plan s p f e) ∙ reader_book s p f (lent_of t) enough e)
      ∙ sym (afresh_leaves m (over t (last_plan t p f))
      (afresh_is_taken t (last_plan t p f) ten last (subst (λ n. 2 ^ n ≤ (lent_of t).rows) (sym count) enough)))

  -- tables that are too short
  stays_over : (lent_of t).rows < 2 ^ p.n → (afresh_slices m (over t p)).left ≡ over t p
  unfolding within
  stays_over short = afresh_stays m (over t p) (λ a. omega (arith, afresh_needs t p within.1 a))

  last_is : (lent_of t).rows < 2 ^ p.n → last_plan t p f ≡ p
  unfolding within
  last_is short = short_book p (lent_of t) within.1 short f

  short_left : (lent_of t).rows < 2 ^ p.n
      → left_over m f (afresh_slices m (over t p)).left ≡ (afresh_slices m (over t (last_plan t p f))).left
  unfolding within
  short_left short =
      ap (left_over m f) (stays_over short) ∙ short_edits m t p within.1 short f p within.2
      ∙ sym (ap (λ q. (afresh_slices m (over t q)).left) (last_is short) ∙ stays_over short)

  plan_left : left_over m f (afresh_slices m (over t p)).left ≡ (afresh_slices m (over t (last_plan t p f))).left
  plan_left = by (ltb (lent_of t).rows (2 ^ p.n)) refl
    where
      by : (b : Bool) → ltb (lent_of t).rows (2 ^ p.n) ≡ b
          → left_over m f (afresh_slices m (over t p)).left ≡ (afresh_slices m (over t (last_plan t p f))).left
      by true h = short_left (ltb-true (lent_of t).rows (2 ^ p.n) h)
      by false h = enough_left (ltb-false (lent_of t).rows (2 ^ p.n) h)

-- What a file leaves. It begins with a plan, or gives nothing.
pub file-left : (m : Method) (t : LentTables) (s : List ℕ)
    → left_over m (read_file s) (over t no_plan) ≡ file_left m t (read_file s)
unfolding left_over file_left
file-left m t s = by (read_file s) refl
  where
    by : (g : File) → read_file s ≡ g → left_over m g (over t no_plan) ≡ file_left m t g
    by (ends a) e = refl
    by (gives_plan p f) e = plan_left m t s p f e
    by (gives_edit d f) e = absurd (subst FileWithin e (file_sound s))

-- ---- the answer

-- a file that gives nothing is refused
not_empty : (s : List ℕ) (a : Answered) → read_file s ≡ ends a → a ≡ Table.taken → ⊥
unfolding end_of
not_empty s a e q =
    let gives = taken_gives s (reader_answers s ∙ ap end_of e ∙ q) in
    let same : ends a ≡ gives_plan gives.0 gives.1 = sym e ∙ gives.2 in
    let z : ◌≡◌ {A = ℕ} 0 1 = cc in
    omega arith

first_same : (a x y : Answered) → (a ≡ Table.taken → x ≡ y) → first_of a x ≡ first_of a y
first_same (Ok done) x y h = h refl
first_same (Err r) x y h = refl

-- the tables' check is the same after the afresh call as before it
afresh_again : (m : Method) (t : LentTables) (q : Plan) → length q.heads ≡ 10
    → afresh_answer (afresh_slices m (over t q)).left ≡ afresh_answer (over t q)
unfolding afresh_slices
afresh_again m t q ten = go (afresh_answer (over t q)) refl
  where
    go : (a : Answered) → afresh_answer (over t q) ≡ a
        → afresh_answer (leaves a (over t q) (afresh_left m (over t q))) ≡ afresh_answer (over t q)
    go (Ok done) e = ap (call_answer q None) (settled_lengths m q.n (afresh m q) t (afresh_room (over t q) ten e))
    go (Err r) e = refl

pub file_answers : (m : Method) (t : LentTables) (s : List ℕ)
    → first_of (finish (feed start s)) (afresh_answer (file_left m t (read_file s))) ≡ file_answer t (read_file s)
unfolding file_left tables_answer end_of
file_answers m t s = ap (λ a. first_of a (afresh_answer (file_left m t (read_file s)))) (reader_answers s)
    ∙ by (read_file s) refl
  where
    by : (g : File) → read_file s ≡ g
        → first_of (end_of g) (afresh_answer (file_left m t g)) ≡ first_of (end_of g) (tables_answer t g)
    by (ends a) e = first_same a _ _ (λ q. absurd (not_empty s a e q))
    by (gives_plan p f) e = ap (first_of (end_of f)) (afresh_again m t (last_plan t p f) (ten m t s p f e))
    by (gives_edit d f) e = absurd (subst FileWithin e (file_sound s))

-- ---- what is printed

pub printed_same : (a : Answered) (x y : List ℕ) → (a ≡ Table.taken → x ≡ y) → printed_for a x ≡ printed_for a y
printed_same (Ok done) x y h = h refl
printed_same (Err r) x y h = refl

-- the lines of the second table after a taken afresh call
exclusive-lines : (m : Method) (t : LentTables) (q : Plan) → length q.heads ≡ 10
    → afresh_answer (over t q) ≡ Table.taken
    → table_lines q.n (afresh_left m (over t q)).tables.exclusives.bytes
    (afresh_left m (over t q)).tables.exclusives.numbers ≡ exclusive_lines m q
unfolding exclusive_lines
exclusive-lines m t q ten e =
    let left = (afresh_left m (over t q)).tables in
    let row : (S : ℕ) → S < 2 ^ q.n → row_at left.exclusives S ≡ afresh_exclusive m q S = λ S h.
    row_below (m.exclusives.of q.n (row_at left.rows)) (2 ^ q.n) t.exclusives S h
    ∙ m.exclusives.below q.n (row_at left.rows) (afresh m q) (λ T k. row_below (afresh m q) (2 ^ q.n) t.rows T k) S h in
    table-lines q.n left.exclusives.bytes left.exclusives.numbers (afresh_room (over t q) ten e).count
    ∙ lines_same q.n (stands left.exclusives.bytes) (λ S. eqb (afresh_exclusive m q S).byte 1)
    (λ S. get_or left.exclusives.numbers S nan) (λ S. (afresh_exclusive m q S).number)
    (λ S h. (ap (λ r. eqb r.byte 1) (row S h), ap (λ r. r.number) (row S h)))

-- both answers are taken
both_taken : (a b : Answered) → first_of a b ≡ Table.taken → (a ≡ Table.taken) × (b ≡ Table.taken)
both_taken (Ok done) b e = (refl, e)
both_taken (Err r) b e = let z : ◌≡◌ {A = ℕ} 0 1 = cc in absurd (omega arith)

-- the lines of the second table
abbrev pub lines_in : PlanSlices → List ℕ
lines_in d = table_lines d.plan.n d.tables.exclusives.bytes d.tables.exclusives.numbers

pub file_lines : (m : Method) (t : LentTables) (s : List ℕ) → file_answer t (read_file s) ≡ Table.taken
    → lines_in (file_left m t (read_file s)) ≡ plan_lines m t (read_file s)
unfolding file_left tables_answer plan_lines end_of
file_lines m t s taken = by (read_file s) refl taken
  where
    by : (g : File) → read_file s ≡ g → first_of (end_of g) (tables_answer t g) ≡ Table.taken
        → lines_in (file_left m t g) ≡ plan_lines m t g
    by (ends a) e q = absurd (not_empty s a e (both_taken a Table.taken q).0)
    by (gives_plan p f) e q =
        let q' = (both_taken (end_of f) (afresh_answer (over t (last_plan t p f))) q).1 in
        ap lines_in (afresh_leaves m (over t (last_plan t p f)) q')
        ∙ exclusive-lines m t (last_plan t p f) (ten m t s p f e) q'
    by (gives_edit d f) e q = absurd (subst FileWithin e (file_sound s))

-- ---- tables that are too short

seven_printed : (a : Answered) (lines : List ℕ) → answer_number a ≡ 7 → answer_offset a ≡ 0
    → printed_for a lines ≡ refusal_line 7 0
seven_printed (Ok done) lines n o = absurd (omega arith)
seven_printed (Err r) lines n o = ap₂ refusal_line n o

pub short_tables : (m : Method) → ShortTables m
unfolding file_left tables_answer plan_lines end_of within
short_tables m t s p f e taken short =
    let last = last_is m t s p f e short in
    let w = within m t s p f e in
    let seven = (call_seven p None (lent_of t) w.1).1 (w.0, inl short) in
    let zero = offset_zero.call p None (lent_of t) in
    let is : file_answer t (read_file s) ≡ call_answer p None (lent_of t) =
    ap (file_answer t) e ∙ ap (λ a. first_of a (afresh_answer (over t (last_plan t p f)))) taken
    ∙ ap (λ q. afresh_answer (over t q)) last in (
      seven_printed (file_answer t (read_file s)) (plan_lines m t (read_file s))
          (ap answer_number is ∙ seven) (ap answer_offset is ∙ zero),
      ap (λ g. (file_left m t g).tables) e ∙ ap (λ q. (afresh_slices m (over t q)).left.tables) last
          ∙ ap (λ d. d.tables) (stays_over m t s p f e short),
    )
