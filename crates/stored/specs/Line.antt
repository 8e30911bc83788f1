-- How a line of a stored list is read: a letter and numbers in hexadecimal, one space before each.
use Rattle.std.proofs.Math.Nat.{lt_of_le_of_lt, min-le_right}
use Rattle.std.specs.Prelude.{ℕ, List, refl, min, ◌+◌, ◌-◌, ◌*◌, ◌%◌, ◌^◌, ◌&&◌, cond, eqb, leb, ltb, get_or, set, replicate, bit_or}
use borrow.Author.Tests.{leb-true}
use Rattle.stored.specs.declared.line.Line.{Line}

-- the value of a digit, 0 to 9 or A to F; of another byte its own code
abbrev pub digit : ℕ → ℕ
digit b = cond (leb 48 b && leb b 57) (b - 48) (cond (leb 65 b && leb b 70) (b - 65 + 10) b)

-- a line of which nothing was read
abbrev pub begun : Line
begun = record { words = replicate 40 0; last = 0; within = leb-true 1 40 refl }

-- the numbers with more bits at the end of the one at a place, as far as 64 bits go
abbrev pub longer : List ℕ → ℕ → ℕ → ℕ → List ℕ
longer words at bits more = set words at (bit_or (get_or words at 0 * 2 ^ bits % 2 ^ 64) more)

-- the numbers after one byte more of the one at a place: a letter has eight bits, a digit four
abbrev pub read : List ℕ → ℕ → ℕ → List ℕ
read words at b = cond (eqb at 0) (longer words 0 8 b) (cond (ltb at 40) (longer words at 4 (digit b)) words)

-- a line after one byte more: a space goes on to the next place, as far as there are places
abbrev pub fed : Line → ℕ → Line
fed line b = cond (eqb b 32)
    (record { words = line.words; last = min (line.last + 1) 39; within = lt_of_le_of_lt (min-le_right (line.last + 1) 39) (leb-true 40 40 refl) })
    (record { words = read line.words line.last b; last = line.last; within = line.within })

-- the letter of a line: 0, if its first place does not have just one
abbrev pub letter : Line → ℕ
letter line = let code : ℕ = get_or line.words 0 0 in cond (ltb code 128) code 0
