-- Which number a plan file has where it is read over lent tables, and so by the program `rows`: every number but 7 is
-- the file's own (`file/specs/Exactly.antt`), and 4, 5 and 11 are by the field that fails first, at its first byte.
-- Proved under the names in lower case, `proofs/Fields.antt`.
use Rattle.std.specs.Prelude.{ℕ, ◌<◌, ◌≡◌, List, ◌↔◌}
use Rattle.plan.specs.declared.Item.{Item}
use Rattle.plan.specs.Exactly.{AnswersWith}
use Rattle.plan.specs.Fields.{IsCoordinate, IsSide, IsRadius}
use Rattle.file.specs.Exactly.{checks, FirstAt, FileAnswers}
use Rattle.file.specs.File.{read_file}
use Rattle.file.specs.Reader.{start}
use Rattle.regions.specs.Slices.{LentTables}
use Rattle.regions.specs.Table.{Method}
use Rattle.printing.specs.Rows.{refusal_line}
use Rattle.reading.specs.Whole.{file_answer, file_printed}

-- over lent tables a file is answered by the number k and the offset o
abbrev pub FileAnswersOver : LentTables → List ℕ → ℕ → ℕ → Type 0
FileAnswersOver t s k o = AnswersWith k o (file_answer t (read_file s))

-- every number but 7 is the file's own
abbrev pub FileNumberOver : Type 0
FileNumberOver = (t : LentTables) (s : List ℕ) (k o : ℕ) → 0 < k → (7 ≡ k → ⊥)
    → FileAnswersOver t s k o ↔ FileAnswers s k o

-- k is given exactly if the first check that fails is of one of those, at that field's first byte; and then nothing is
-- printed but k and this offset.
pub record FieldPrinted (k : ℕ) (Those : Item → Type 0) : Type 0 where
  pub given : (t : LentTables) (s : List ℕ) (o : ℕ) → FileAnswersOver t s k o ↔ FirstAt Those o (checks start s)
  pub printed : (m : Method) (t : LentTables) (s : List ℕ) (o : ℕ) → FirstAt Those o (checks start s)
      → file_printed m t (read_file s) ≡ refusal_line k o

-- 4 for an x or a y, 5 for a side of the box, and since request 6 11 for a radius
pub record FieldsPrinted : Type 0 where
  pub four : FieldPrinted 4 IsCoordinate
  pub five : FieldPrinted 5 IsSide
  pub eleven : FieldPrinted 11 IsRadius
