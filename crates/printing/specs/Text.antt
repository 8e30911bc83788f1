-- Text as a list of bytes: numbers in a base, and a text put into a lent slice.
use Rattle.std.specs.Prelude.{ℕ, zero, suc, ◌+◌, ◌/◌, ◌%◌, ◌^◌, ◌≤◌, ◌≡◌, cond, List, [], ◌∷◌, ◌++◌, ltb, length, set}
use Rattle.std.specs.Prelude.{take, drop}
use Rattle.printing.specs.declared.text.Cursor.{Cursor}

-- ---- numbers

-- The byte of a digit below 16: 0 to 9, then A to F. "Hexadecimal letters are capitals"
abbrev pub glyph : ℕ → ℕ
glyph d = cond (ltb d 10) (48 + d) (55 + d)

-- the last k digits of n in base b, the highest first
unfoldable pub digits : ℕ → ℕ → ℕ → List ℕ
digits b zero n = []
digits b (suc k) n = glyph (n / b ^ k % b) ∷ digits b k n

-- how many digits n has in base ten, at most `most` + 1; 0 has one
unfoldable pub places : ℕ → ℕ → ℕ
places zero n = 1
places (suc most) n = cond (ltb n 10) 1 (suc (places most (n / 10)))

-- n "in base ten", with no zero in front; a u64 has at most twenty digits
abbrev pub decimal : ℕ → List ℕ
decimal n = digits 10 (places 19 n) n

-- "every line, a refusal's too, ends with byte 0x0A"
abbrev pub line_end : List ℕ
line_end = 10 ∷ []

-- ---- a text put into a lent slice

-- The bytes of a text written one after another from index `at` on. What the slice has no place for is dropped, and all
-- else in the slice stays.
unfoldable pub put : List ℕ → ℕ → List ℕ → List ℕ
put out at [] = out
put out at (b ∷ text) = put (set out at b) (suc at) text

-- A cursor over a lent slice after a text was put at it: the text stands from its index on, and its index is the one
-- after the text.
pub record Advances (text : List ℕ) (old new : Cursor) : Type 0 where
  pub bytes : new.out.now ≡ put old.out.now old.at text
  pub place : new.at ≡ old.at + length text
  pub same_slice : new.out.ghost_name ≡ old.out.ghost_name

-- What a call that puts a text gives and leaves: how many bytes the text has, whether or not they fit, and the slice
-- with the text at its front.
pub record Printed (text out left : List ℕ) (count : ℕ) : Type 0 where
  pub counted : count ≡ length text
  pub bytes : left ≡ put out 0 text

-- Where the text fits it stands whole at the front of the slice, and what follows stays. Proved as `put_fits`,
-- proofs/Putting.antt.
abbrev pub PutFits : Type 0
PutFits = (out text : List ℕ) → length text ≤ length out → put out 0 text ≡ text ++ drop (length text) out

-- Where it does not, the slice is full of its first bytes: a count above the slice's length says so. Proved as
-- `put_cut`.
abbrev pub PutCut : Type 0
PutCut = (out text : List ℕ) → length out ≤ length text → put out 0 text ≡ take (length out) text
