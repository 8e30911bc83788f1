-- What the program prints: the lines of a table, and the line of a refusal. Over any presence and any numbers: no plan
-- and no geometry.
use Rattle.std.specs.Prelude.{ℕ, ◌<◌, ◌≤◌, ◌^◌, ◌≡◌, Bool, cond, ltb, Float, length, get_or}
use mathlib.Core.List.{List, [], ◌∷◌, ◌++◌, flat_map}
use Rattle.std.specs.Float.{nan, binary64}
use Rattle.std.specs.Float.Ieee.{to_bits}
use Rattle.masks.specs.Presence.{stands}
use Rattle.exclusive.specs.RowOrder.{rows_of, row_order}
use Rattle.printing.specs.Text.{digits, decimal, line_end}

-- ---- a table

-- "its mask in three hexadecimal digits, a space, and the bits of its exclusive area in sixteen"
unfoldable pub line_of : ℕ → ℕ → List ℕ
unfolding digits
line_of mask bits = digits 16 3 mask ++ (32 ∷ (digits 16 16 bits ++ line_end))

-- A NaN has no bits of its own: it is printed as 7FF8000000000000, which is what `to_bits` has for it. An exclusive
-- area is none: it is clamped.
abbrev pub row_line : (ℕ → Float) → ℕ → List ℕ
row_line number S = line_of S (to_bits binary64 (number S))

-- "It prints for each present row" its line; "Rows are ordered by number of heads, then by mask"
unfoldable pub row_lines : ℕ → (ℕ → Bool) → (ℕ → Float) → List ℕ
row_lines n present number = flat_map (row_line number) (row_order present n)

-- The lines of two lent slices. A row past the end of the presence bytes is absent, a number past the end of the
-- numbers is a NaN, and more than ten heads have no table.
unfoldable pub table_lines : ℕ → List ℕ → List Float → List ℕ
unfolding row_lines
table_lines n bytes numbers = cond (ltb 10 n) [] (row_lines n (stands bytes) (λ S. get_or numbers S nan))

-- those of c heads below row m
abbrev pub level_lines : List ℕ → List Float → ℕ → ℕ → List ℕ
level_lines bytes numbers c m = flat_map (row_line (λ S. get_or numbers S nan)) (rows_of (stands bytes) c m)

-- A line has 21 bytes and there are at most 2^n rows: 21504 bytes are enough for every table. Proved as `lines_few`,
-- proofs/Lines.antt.
abbrev pub LinesFew : Type 0
LinesFew = (n : ℕ) (bytes : List ℕ) (numbers : List Float) → length (table_lines n bytes numbers) ≤ 21504

-- They look at rows 0 to 2^n - 1 only. Proved as `lines_same`.
abbrev pub LinesSame : Type 0
LinesSame =
    (n : ℕ) (present present' : ℕ → Bool) (number number' : ℕ → Float)
    → ((S : ℕ) → S < 2 ^ n → (present S ≡ present' S) × (number S ≡ number' S)) → row_lines n present number ≡ row_lines n present' number'

-- ---- a refusal

-- "refused " and " at "
abbrev pub refused_word : List ℕ
refused_word = 114 ∷ 101 ∷ 102 ∷ 117 ∷ 115 ∷ 101 ∷ 100 ∷ 32 ∷ []

abbrev pub at_word : List ℕ
at_word = 32 ∷ 97 ∷ 116 ∷ 32 ∷ []

-- "`refused N at P` in base ten"
unfoldable pub refusal_line : ℕ → ℕ → List ℕ
refusal_line number offset = refused_word ++ (decimal number ++ (at_word ++ (decimal offset ++ line_end)))

-- Two numbers of at most twenty digits and thirteen bytes more are at most 53. Proved as `refusal_few`.
abbrev pub RefusalFew : Type 0
RefusalFew = (number offset : ℕ) → length (refusal_line number offset) ≤ 53
