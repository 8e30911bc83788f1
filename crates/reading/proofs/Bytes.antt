-- The state after the bytes of a file is what the whole file says, as specs/Reading.antt states it; and one byte more,
-- as the code takes it.
use Prim.Native.Nat.{ℕ, ◌+◌, ◌≤◌, ◌<◌}
use mathlib.Core.Path.{◌≡◌, refl, sym, ap, ap₂, ◌∙◌, subst}
use mathlib.Core.List.{List, [], ◌∷◌, ◌++◌, append-nil, append_assoc, foldl}
use native.Mathlib.Omega.{arith}
use lib.Ieee.{Float}
use lib.ListN.{length, get_or, take}
use Rattle.std.proofs.lemmas.List.{take_more}
use Rattle.std.proofs.Common.{Option, None, Some, Ok, Err}
use Rattle.plan.specs.declared.Plan.{Plan}
use Rattle.plan.specs.Table.{Answered, number_of}
use Rattle.file.specs.declared.reader.Completed.{Completed}
use Rattle.file.specs.declared.reader.Completed.TheVariants.{ThePlan, AnEdit}
use Rattle.file.specs.declared.reader.Reader.{Reader}
use Rattle.file.specs.File.{File, ends, read_file}
use Rattle.file.specs.Reader.{start, step, finish, feed, handing, handed_over}
use Rattle.file.proofs.Same.{reader_reads}
use Rattle.regions.specs.Slices.{LentTables, PlanSlices}
use Rattle.regions.specs.Table.{Method}
use Rattle.printing.specs.Rows.{table_lines}
use Rattle.printing.specs.Text.{Printed}
use Rattle.printing.proofs.Lines.{lines_few, refusal_few}
use Rattle.reading.specs.Whole.{over, no_plan, file_left, file_answer, plan_lines, printed_for}
use Rattle.reading.specs.Reading.{State, state_of, begun, handed_to, read_byte, read_bytes, answer_at}
use Rattle.reading.specs.Reading.{printed_at, AfterBytes, BegunReads, PieceReads, FileAnswers, FilePrints, joined}
use Rattle.reading.specs.Reading.{PiecesRead, PiecesPrint}
use Rattle.reading.proofs.Fresh.{left_over}
use Rattle.reading.proofs.Whole.{file-left, file_answers, file_lines, printed_same}

module _ (m : Method) where
  -- ---- the tables are what the file says

  handed-over : (h : Option Completed) (p : Plan) (f : File) (d : PlanSlices)
      → left_over m (handing h p f) d ≡ left_over m f (handed_to m h p d)
  unfolding left_over handed_to
  handed-over None p f d = refl
  handed-over (Some ThePlan) p f d = refl
  handed-over (Some (AnEdit e)) p f d = refl

  bytes_left : (s : List ℕ) (r : Reader) (d : PlanSlices) (a : Answered)
      → (read_bytes m (state_of r d) s).left ≡ left_over m (handed_over r s (ends a)) d
  unfolding read_bytes handed_over left_over
  bytes_left [] r d a = refl
  bytes_left (b ∷ s) r d a =
      bytes_left s (step r b) (handed_to m (step r b).handed (step r b).plan d) a
      ∙ sym (handed-over (step r b).handed (step r b).plan (handed_over (step r b) s (ends a)) d)

  bytes_read : (s : List ℕ) (r : Reader) (d : PlanSlices) → (read_bytes m (state_of r d) s).reader ≡ feed r s
  unfolding read_bytes feed
  bytes_read [] r d = refl
  bytes_read (b ∷ s) r d = bytes_read s (step r b) (handed_to m (step r b).handed (step r b).plan d)

  bytes_whole : (t : LentTables) (s : List ℕ) → AfterBytes m t s (read_bytes m (begun t) s)
  bytes_whole t s =
      ap₂ state_of (bytes_read s start (over t no_plan))
      (bytes_left s start (over t no_plan) (finish (feed start s))
      ∙ ap (λ g. left_over m g (over t no_plan)) (reader_reads s) ∙ file-left m t s)

  -- ---- however it is cut

  bytes_append : (s : State) (a b : List ℕ) → read_bytes m s (a ++ b) ≡ read_bytes m (read_bytes m s a) b
  unfolding read_bytes
  bytes_append s [] b = refl
  bytes_append s (x ∷ a) b = bytes_append (read_byte m s x) a b

  pub begun_reads : BegunReads m
  unfolding read_bytes
  begun_reads t = bytes_whole t []

  pub piece_reads : PieceReads m
  piece_reads t s piece now e =
      ap (λ x. read_bytes m x piece) (e ∙ sym (bytes_whole t s)) ∙ sym (bytes_append (begun t) s piece)
      ∙ bytes_whole t (s ++ piece)

  pub answers_file : FileAnswers m
  answers_file t s now e = ap answer_at e ∙ file_answers m t s

  pub prints_file : FilePrints m
  prints_file t s now e =
      let left = file_left m t (read_file s) in
      let lines = table_lines left.plan.n left.tables.exclusives.bytes left.tables.exclusives.numbers in
      ap printed_at e ∙ ap (λ a. printed_for a lines) (file_answers m t s)
      ∙ printed_same (file_answer t (read_file s)) lines (plan_lines m t (read_file s)) (file_lines m t s)

  pieces_after : (t : LentTables) (pieces : List (List ℕ)) (s : List ℕ) (now : State) → AfterBytes m t s now
      → AfterBytes m t (s ++ joined pieces) (foldl (read_bytes m) now pieces)
  pieces_after t [] s now e = rw (append-nil s) e
  pieces_after t (piece ∷ pieces) s now e =
      rw (← append_assoc s piece (joined pieces))
      (pieces_after t pieces (s ++ piece) (read_bytes m now piece) (piece_reads t s piece now e))

  pub pieces_read : PiecesRead m
  pieces_read t pieces = pieces_after t pieces [] (begun t) (begun_reads t)

  pub pieces_print : PiecesPrint m
  pieces_print t pieces = prints_file t (joined pieces) (foldl (read_bytes m) (begun t) pieces) (pieces_read t pieces)

  -- ---- from the front, as the code goes

  pub bytes_first : (s : State) → read_bytes m s [] ≡ s
  unfolding read_bytes
  bytes_first s = refl

  -- one byte more of those before it
  pub bytes_next : (s : State) (bytes : List ℕ) (i : ℕ) → i < length bytes
      → read_bytes m s (take (i + 1) bytes) ≡ read_byte m (read_bytes m s (take i bytes)) (get_or bytes i 0)
  unfolding read_bytes
  bytes_next s bytes i h =
      ap (read_bytes m s) (take_more bytes i 0 h) ∙ bytes_append s (take i bytes) (get_or bytes i 0 ∷ [])

  pub byte_read : (r r' : Reader) (d d' : PlanSlices) (b : ℕ) → r' ≡ step r b → d' ≡ handed_to m r'.handed r'.plan d
      → state_of r' d' ≡ read_byte m (state_of r d) b
  byte_read r r' d d' b e q = ap (state_of r') q ∙ ap (λ x. state_of x (handed_to m x.handed x.plan d)) e

-- ---- what is printed, as the code prints it

pub printed_as : {text text' out left : List ℕ} {count : ℕ} → text ≡ text' → Printed text out left count
    → Printed text' out left count
printed_as {out = out} {left = left} {count = count} e p = subst (λ text. Printed text out left count) e p

-- it fits in 21504 bytes
pub printed_few : (a : Answered) (n : ℕ) (bytes : List ℕ) (numbers : List Float)
    → length (printed_for a (table_lines n bytes numbers)) ≤ 21504
printed_few (Ok done) n bytes numbers = lines_few n bytes numbers
printed_few (Err r) n bytes numbers = omega (arith, refusal_few (number_of r.refusal) r.at)

pub printed_fits : {text out left : List ℕ} {count : ℕ} → length text ≤ 21504 → Printed text out left count
    → count ≤ 21504
printed_fits few p = omega (arith, p.counted)
