-- The theorems that `specs/Fields.antt` states, from those of the file alone: where the file is taken the tables' check
-- gives 7 at most.
use Prim.Native.Nat.{ℕ, ◌<◌}
use mathlib.Core.Path.{◌≡◌, sym, ap, ap₂, ◌∙◌}
use mathlib.Core.List.{List}
use mathlib.Core.Logic.{◌↔◌}
use native.Mathlib.Omega.{arith}
use Rattle.std.proofs.Common.{Ok, Err}
use Rattle.plan.specs.declared.Gradients.TheVariants.{None}
use Rattle.plan.specs.declared.Item.{Item}
use Rattle.plan.specs.Checks.{first_of}
use Rattle.plan.specs.Exactly.{AnswersWith}
use Rattle.plan.specs.Fields.{IsCoordinate, IsSide, IsRadius}
use Rattle.plan.specs.Table.{Answered, answer_number, answer_offset}
use Rattle.plan.proofs.Exactly.{plan_taken, call_number}
use Rattle.plan.proofs.Keeps.{book_keeps, book_acceptable}
use Rattle.file.specs.Applied.{entries}
use Rattle.file.specs.Exactly.{checks, FirstAt, FileField}
use Rattle.file.specs.File.{File, ends, gives_plan, gives_edit, read_file}
use Rattle.file.specs.Reader.{start}
use Rattle.file.specs.Same.{end_of}
use Rattle.file.specs.Sound.{FileWithin}
use Rattle.file.proofs.Exactly.{file_four, file_five, file_eleven}
use Rattle.file.proofs.Sound.{file_sound}
use Rattle.regions.specs.Slices.{LentTables, lent_of}
use Rattle.printing.specs.Rows.{refusal_line}
use Rattle.reading.specs.Fields.{FileAnswersOver, FileNumberOver, FieldPrinted, FieldsPrinted}
use Rattle.reading.specs.Whole.{last_plan, tables_answer, file_answer, plan_lines, printed_for}

-- the tables' own check gives no number but 7
tables_seven : (t : LentTables) (s : List ℕ) (k : ℕ) → 0 < k → (7 ≡ k → ⊥)
    → answer_number (tables_answer t (read_file s)) ≡ k → ⊥
unfolding tables_answer
tables_seven t s k h seven = by (read_file s) (file_sound s)
  where
    by : (g : File) → FileWithin g → answer_number (tables_answer t g) ≡ k → ⊥
    by (ends a) w q = omega (arith, q)
    by (gives_plan p f) w q =
        let last = last_plan t p f in
        let room = (book_keeps p (entries (lent_of t) f)).room ∙ w.1 in
        let zero = (plan_taken last room).1 (book_acceptable p (entries (lent_of t) f) w.1 w.0) in
        let own = (call_number last None (lent_of t) k h seven).0 q in
        let none : 0 ≡ k = sym (ap answer_number zero) ∙ own in
        omega (arith, none)
    by (gives_edit d f) w q = omega (arith, q)

pub file_number_over : FileNumberOver
unfolding end_of
file_number_over t s k o h seven =
    by (end_of (read_file s)) (tables_answer t (read_file s)) (tables_seven t s k h seven)
  where
    by : (a b : Answered) → (answer_number b ≡ k → ⊥)
        → AnswersWith k o (first_of a b) ↔ AnswersWith k o a
    by (Ok done) b none = ((λ q. absurd (none q.0)), (λ q. omega (arith, q.0)))
    by (Err r) b none = ((λ q. q), (λ q. q))

-- an answer with a number of its own is printed with it
number_printed : (a : Answered) (lines : List ℕ) (k o : ℕ) → 0 < k → answer_number a ≡ k → answer_offset a ≡ o
    → printed_for a lines ≡ refusal_line k o
number_printed (Ok done) lines k o h n at = absurd (omega (arith, n))
number_printed (Err r) lines k o h n at = ap₂ refusal_line n at

field_printed : (k : ℕ) (Those : Item → Type 0) → 0 < k → (7 ≡ k → ⊥) → FileField k Those → FieldPrinted k Those
field_printed k Those h seven field = record {
  given = given;
  printed = λ m t s o first.
      let is = (given t s o).1 first in
      number_printed (file_answer t (read_file s)) (plan_lines m t (read_file s)) k o h is.0 is.1;
}
  where
    given : (t : LentTables) (s : List ℕ) (o : ℕ) → FileAnswersOver t s k o ↔ FirstAt Those o (checks start s)
    given t s o =
        let own = file_number_over t s k o h seven in
        let alone = field s o in
        ((λ q. alone.0 (own.0 q)), (λ u. own.1 (alone.1 u)))

pub fields_printed : FieldsPrinted
fields_printed = record {
  four = field_printed 4 IsCoordinate (omega arith) (omega arith) file_four;
  five = field_printed 5 IsSide (omega arith) (omega arith) file_five;
  eleven = field_printed 11 IsRadius (omega arith) (omega arith) file_eleven;
}
