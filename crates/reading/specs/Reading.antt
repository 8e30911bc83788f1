-- A plan file fed in pieces to the reader and the tables: a step on one byte, its fold over the bytes, and that the
-- state after a file's bytes is what the whole file says, however it is cut.
use Rattle.std.specs.Prelude.{ℕ, ◌≡◌, Option, None, Some}
use mathlib.Core.List.{List, [], ◌∷◌, ◌++◌, foldl}
use Rattle.plan.specs.declared.Plan.{Plan}
use Rattle.plan.specs.Checks.{first_of}
use Rattle.plan.specs.Table.{Answered}
use Rattle.file.specs.declared.reader.Completed.{Completed}
use Rattle.file.specs.declared.reader.Completed.TheVariants.{ThePlan, AnEdit}
use Rattle.file.specs.declared.reader.Reader.{Reader}
use Rattle.file.specs.File.{read_file}
use Rattle.file.specs.Reader.{start, step, finish, feed}
use Rattle.regions.specs.Slices.{LentTables, PlanSlices, afresh_answer, afresh_slices, edit_slices}
use Rattle.regions.specs.Table.{Method}
use Rattle.printing.specs.Rows.{table_lines}
use Rattle.reading.specs.declared.feeding.Reading.{Reading}
use Rattle.reading.specs.Whole.{over, no_plan, file_left, file_answer, printed_for, file_printed}

-- ---- the step on one byte, and its fold

-- the reader, the plan that the tables are of, and the tables
pub record State : Type 0 where
  pub reader : Reader
  pub left : PlanSlices

abbrev pub state_of : Reader → PlanSlices → State
state_of r d = record { reader = r; left = d }

-- that of the code, over the tables that it is handed
abbrev pub state_in : Reading → LentTables → State
state_in r t = state_of r.reader (over t r.plan)

-- before the first byte
abbrev pub begun : LentTables → State
begun t = state_of start (over t no_plan)

module _ (m : Method) where
  -- what a byte completes, taken to the tables: a plan is worked out afresh, an edit is tried
  unfoldable pub handed_to : Option Completed → Plan → PlanSlices → PlanSlices
  handed_to None p d = d
  handed_to (Some ThePlan) p d = (afresh_slices m (over d.tables p)).left
  handed_to (Some (AnEdit e)) p d = (edit_slices m d e).left

  -- one byte
  abbrev pub read_byte : State → ℕ → State
  read_byte s b = state_of (step s.reader b) (handed_to (step s.reader b).handed (step s.reader b).plan s.left)

  -- the bytes of a piece
  unfoldable pub read_bytes : State → List ℕ → State
  read_bytes s [] = s
  read_bytes s (b ∷ bytes) = read_bytes (read_byte s b) bytes

-- the answer where the file ends here: the reader's, and then that of the tables
abbrev pub answer_at : State → Answered
answer_at s = first_of (finish s.reader) (afresh_answer s.left)

-- what is printed where the file ends here
abbrev pub printed_at : State → List ℕ
printed_at s = printed_for (answer_at s)
    (table_lines s.left.plan.n s.left.tables.exclusives.bytes s.left.tables.exclusives.numbers)

-- ---- the whole file

-- the bytes of some pieces, one after the other
abbrev pub joined : List (List ℕ) → List ℕ
joined [] = []
joined (piece ∷ pieces) = piece ++ joined pieces

-- the state after the bytes s, by what they say as a file
abbrev pub AfterBytes : Method → LentTables → List ℕ → State → Type 0
AfterBytes m t s now = now ≡ state_of (feed start s) (file_left m t (read_file s))

-- Before the first byte, and after a piece more: however a file is cut into pieces, the state is what the bytes read so
-- far say as a file. Proved under the names in lower case, `proofs/Bytes.antt`.
abbrev pub BegunReads : Method → Type 0
BegunReads m = (t : LentTables) → AfterBytes m t [] (begun t)

abbrev pub PieceReads : Method → Type 0
PieceReads m = (t : LentTables) (s piece : List ℕ) (now : State) → AfterBytes m t s now
    → AfterBytes m t (s ++ piece) (read_bytes m now piece)

-- the answer and what is printed are the whole file's
abbrev pub FileAnswers : Method → Type 0
FileAnswers m = (t : LentTables) (s : List ℕ) (now : State) → AfterBytes m t s now
    → answer_at now ≡ file_answer t (read_file s)

abbrev pub FilePrints : Method → Type 0
FilePrints m = (t : LentTables) (s : List ℕ) (now : State) → AfterBytes m t s now
    → printed_at now ≡ file_printed m t (read_file s)

-- Both at once, of a file in any pieces: what is left, and what is printed.
abbrev pub PiecesRead : Method → Type 0
PiecesRead m = (t : LentTables) (pieces : List (List ℕ))
    → AfterBytes m t (joined pieces) (foldl (read_bytes m) (begun t) pieces)

abbrev pub PiecesPrint : Method → Type 0
PiecesPrint m = (t : LentTables) (pieces : List (List ℕ))
    → printed_at (foldl (read_bytes m) (begun t) pieces) ≡ file_printed m t (read_file (joined pieces))
