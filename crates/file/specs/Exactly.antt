-- When a plan file is taken and when each refusal and offset is given: both directions, so that nothing is refused
-- without cause. The checks that the bytes of a file complete are listed in reading order, each with the offset that
-- its refusal has; the first that fails gives the answer. Proved under the names in lower case, `proofs/Exactly.antt`.
use Rattle.std.specs.Prelude.{ℕ, ◌+◌, ◌-◌, ◌^◌, ◌<◌, min, ◌≡◌, List, [], ◌∷◌, ◌++◌, ◌↔◌, ℤ, length}
use Rattle.lists.specs.Every.{Every}
use Rattle.plan.specs.declared.Item.{Item}
use Rattle.plan.specs.declared.Item.TheVariants.{Count, Map, Coordinate, Side, Radius, HeadNumber, Tables}
use Rattle.plan.specs.declared.Refusal.{Refusal}
use Rattle.plan.specs.declared.Refusal.TheVariants.{Ended}
use Rattle.plan.specs.Exactly.{Satisfied, FirstFailing, Numbered, AnswersWith}
use Rattle.plan.specs.Fields.{IsCoordinate, IsSide, IsRadius}
use Rattle.plan.specs.Table.{taken, refused, answer_number, refusal_of}
use Rattle.file.specs.declared.reader.Reader.{Reader}
use Rattle.file.specs.declared.reader.Stage.{Stage}
use Rattle.file.specs.declared.reader.Stage.TheVariants.{AtCount, AtMap, AtByte0, AtByte1, AtByte2, AtByte3, AtEdit}
use Rattle.file.specs.declared.reader.Stage.TheVariants.{Stopped}
use Rattle.file.specs.declared.reader.Target.TheVariants.{TheBox, HeadAt, EditOf}
use Rattle.file.specs.File.{number32, read_file}
use Rattle.file.specs.Reader.{count_of, item_of, start, step, feed}
use Rattle.file.specs.Same.{end_of}

-- ---- the checks of a file

-- what is checked, and the offset of its refusal
pub record Check : Type 0 where
  pub item : Item
  pub offset : ℕ

abbrev pub check_of : Item → ℕ → Check
check_of item offset = record { item = item; offset = offset }

-- What a byte completes: the number of heads, a map, an edit's head number, or a field, of which it is then the last
-- byte.
abbrev pub checks_at : Stage → Reader → ℕ → List Check
checks_at AtCount r b = check_of (Count b) r.at ∷ []
checks_at AtMap r b = check_of (Map (count_of r.target) b) r.at ∷ []
checks_at AtByte0 r b = []
checks_at (AtByte1 a) r b = []
checks_at (AtByte2 a a') r b = []
checks_at (AtByte3 a a' a'') r b = check_of (item_of r.target r.field (number32 a a' a'' b)) r.from ∷ []
checks_at AtEdit r b = check_of (HeadNumber b r.plan.n) r.at ∷ []
checks_at (Stopped why) r b = []

abbrev pub checks_of : Reader → ℕ → List Check
checks_of r b = checks_at r.stage r b

-- the checks that the bytes s complete, in reading order
unfoldable pub checks : Reader → List ℕ → List Check
checks r [] = []
checks r (b ∷ s) = checks_of r b ++ checks (step r b) s

-- "for a field its first byte": the check that the byte number k completes has this offset
abbrev pub PlacedAt : ℕ → Item → ℕ → Type 0
PlacedAt k (Count n) offset = offset ≡ k
PlacedAt k (Map fields map) offset = offset ≡ k
PlacedAt k (Coordinate z) offset = offset + 3 ≡ k
PlacedAt k (Side z) offset = offset + 3 ≡ k
PlacedAt k (Radius z) offset = offset + 3 ≡ k
PlacedAt k (HeadNumber head n) offset = offset ≡ k
PlacedAt k (Tables needed lent) offset = ⊥

-- Every check of a file has its place's offset; lent tables are none of them. An offset is a u64 that stays at its
-- largest value, so the file is shorter than that.
abbrev pub ChecksPlaced : Type 0
ChecksPlaced = (s : List ℕ) (b : ℕ) → length s < 2 ^ 64 - 1
    → Every (λ c. PlacedAt (length s) c.item c.offset) (checks_of (feed start s) b)

-- ---- the answer to a file

abbrev pub Passed : Check → Type 0
Passed c = Satisfied c.item

-- every check is passed
abbrev pub AllPassed : List Check → Type 0
AllPassed cs = Every Passed cs

-- the first check that is not passed is of one of those items and has this offset
abbrev pub FirstAt : (Item → Type 0) → ℕ → List Check → Type 0
FirstAt Those o cs = FirstFailing Passed (λ c. Those c.item × (c.offset ≡ o)) cs

-- an item with this refusal
abbrev pub RefusedBy : Refusal → Item → Type 0
RefusedBy r item = refusal_of item ≡ r

-- a byte is wanted: the file must not end here
abbrev pub Wanted : Stage → Type 0
Wanted AtCount = Unit {0}
Wanted AtMap = Unit {0}
Wanted AtByte0 = Unit {0}
Wanted (AtByte1 a) = Unit {0}
Wanted (AtByte2 a b) = Unit {0}
Wanted (AtByte3 a b c) = Unit {0}
Wanted AtEdit = ⊥
Wanted (Stopped why) = ⊥

-- taken: every check is passed, and the file ends where an edit could begin
abbrev pub FileTaken : Type 0
FileTaken =
    (s : List ℕ) → (end_of (read_file s) ≡ taken) ↔ (AllPassed (checks start s) × ((feed start s).stage ≡ AtEdit))

-- 1: every check is passed, and the file ends where a byte is wanted; the offset is the file's length
abbrev pub FileEnded : Type 0
FileEnded = (s : List ℕ) (o : ℕ)
    → (end_of (read_file s) ≡ refused Ended o)
    ↔ (AllPassed (checks start s) × Wanted (feed start s).stage × (o ≡ min (length s) (2 ^ 64 - 1)))

-- any other refusal: it is that of the first check that fails, and so is its offset
abbrev pub FileRefused : Type 0
FileRefused = (s : List ℕ) (r : Refusal) (o : ℕ) → (r ≡ Ended → ⊥)
    → (end_of (read_file s) ≡ refused r o) ↔ FirstAt (RefusedBy r) o (checks start s)

-- a file is answered by the number k and the offset o
abbrev pub FileAnswers : List ℕ → ℕ → ℕ → Type 0
FileAnswers s k o = AnswersWith k o (end_of (read_file s))

-- The same by numbers: k, beyond 1, is given with the offset o exactly if the first check that is not passed has both.
abbrev pub FileNumber : Type 0
FileNumber = (s : List ℕ) (k o : ℕ) → 1 < k → FileAnswers s k o ↔ FirstAt (Numbered k) o (checks start s)

-- The numbers of the fields, by the field that fails first: k is given with the offset o exactly if it is one of those,
-- and o its first byte's (`ChecksPlaced`).
abbrev pub FileField : ℕ → (Item → Type 0) → Type 0
FileField k Those = (s : List ℕ) (o : ℕ) → FileAnswers s k o ↔ FirstAt Those o (checks start s)

-- 4: an x or a y
abbrev pub FileFour : Type 0
FileFour = FileField 4 IsCoordinate

-- 5: a side of the box
abbrev pub FileFive : Type 0
FileFive = FileField 5 IsSide

-- 11: a radius, a head's or an edit's (request 6)
abbrev pub FileEleven : Type 0
FileEleven = FileField 11 IsRadius

-- Which field is which: of the box x, y, width and height; of a head, and of an edit, x, y and radius.
pub record FieldItems : Type 0 where
  pub box_place : (z : ℤ) → (item_of TheBox 0 z ≡ Coordinate z) × (item_of TheBox 1 z ≡ Coordinate z)
  pub box_sides : (z : ℤ) → (item_of TheBox 2 z ≡ Side z) × (item_of TheBox 3 z ≡ Side z)
  pub head_place : (j : ℕ) (z : ℤ) → (item_of (HeadAt j) 0 z ≡ Coordinate z) × (item_of (HeadAt j) 1 z ≡ Coordinate z)
  pub head_radius : (j : ℕ) (z : ℤ) → item_of (HeadAt j) 2 z ≡ Radius z
  pub edit_place : (k : ℕ) (z : ℤ) → (item_of (EditOf k) 0 z ≡ Coordinate z) × (item_of (EditOf k) 1 z ≡ Coordinate z)
  pub edit_radius : (k : ℕ) (z : ℤ) → item_of (EditOf k) 2 z ≡ Radius z

-- 7: never from the file alone
abbrev pub FileSevenNever : Type 0
FileSevenNever = (s : List ℕ) → answer_number (end_of (read_file s)) ≡ 7 → ⊥
