-- Document 01's example lines, lines in row order, and refusals, computed from the definitions.
use Rattle.std.specs.Prelude.{ℕ, ◌≡◌, refl, Float, replicate}
use mathlib.Core.List.{List, [], ◌∷◌, ◌++◌, flat_map}
use Rattle.std.specs.Int.Count.{ones}
use Rattle.std.specs.Float.Ieee.{of_bits, to_bits}
use Rattle.std.specs.Float.{binary64, nan}
use Rattle.lists.specs.Lists.{up_to}
use Rattle.exclusive.specs.RowOrder.{rows_of, row_order}
use Rattle.printing.specs.Text.{digits, places}
use Rattle.printing.specs.Rows.{line_of, row_lines, table_lines, refusal_line}

-- an f64 by its bits
abbrev pub bits64 : ℕ → Float
bits64 b = of_bits binary64 b

-- " 0000000000000000" and the end of the line
abbrev pub zeros : List ℕ
zeros = 32 ∷ (replicate 16 48 ++ (10 ∷ []))

-- document 01's example, a box of 200 square centimetres of which a head waters all: "000 4069000000000000" and "001
-- 0000000000000000"
pub example_lines :
    table_lines 1 (1 ∷ 1 ∷ []) (bits64 0x4069000000000000 ∷ bits64 0 ∷ [])
    ≡ (48 ∷ 48 ∷ 48 ∷ 32 ∷ 52 ∷ 48 ∷ 54 ∷ 57 ∷ (replicate 12 48 ++ (10 ∷ []))) ++ (48 ∷ 48 ∷ 49 ∷ zeros)
unfolding table_lines row_lines row_order rows_of up_to flat_map ones line_of digits of_bits to_bits
example_lines = refl

-- rows 0, 1, 2, 3 and 4 present, all +0: lines 000, 001, 002, 004, 003
pub ordered_lines :
    table_lines 3 (1 ∷ 1 ∷ 1 ∷ 1 ∷ 1 ∷ 0 ∷ 0 ∷ 0 ∷ []) (replicate 8 (bits64 0))
    ≡ (48 ∷ 48 ∷ 48 ∷ zeros) ++ ((48 ∷ 48 ∷ 49 ∷ zeros) ++ ((48 ∷ 48 ∷ 50 ∷ zeros) ++ ((48 ∷ 48 ∷ 52 ∷ zeros) ++ (48 ∷ 48 ∷ 51 ∷ zeros))))
unfolding table_lines row_lines row_order rows_of up_to flat_map ones line_of digits of_bits to_bits
ordered_lines = refl

-- the root of 2 in row 0: "000 3FF6A09E667F3BCD", in capitals
pub capital_letters :
    table_lines 0 (1 ∷ []) (bits64 0x3FF6A09E667F3BCD ∷ [])
    ≡ 48 ∷ 48 ∷ 48 ∷ 32 ∷ 51 ∷ 70 ∷ 70 ∷ 54 ∷ 65 ∷ 48 ∷ 57 ∷ 69 ∷ 54 ∷ 54 ∷ 55 ∷ 70 ∷ 51 ∷ 66 ∷ 67 ∷ 68 ∷ 10 ∷ []
unfolding table_lines row_lines row_order rows_of up_to flat_map ones line_of digits of_bits to_bits
capital_letters = refl

-- a NaN, which no exclusive area is: "000 7FF8000000000000"
pub nan_line : table_lines 0 (1 ∷ []) (nan ∷ []) ≡ 48 ∷ 48 ∷ 48 ∷ 32 ∷ 55 ∷ 70 ∷ 70 ∷ 56 ∷ (replicate 12 48 ++ (10 ∷ []))
unfolding table_lines row_lines row_order rows_of up_to flat_map ones line_of digits to_bits
nan_line = refl

-- "refused 5 at 10"
pub refused_at_ten : refusal_line 5 10 ≡ 114 ∷ 101 ∷ 102 ∷ 117 ∷ 115 ∷ 101 ∷ 100 ∷ 32 ∷ 53 ∷ 32 ∷ 97 ∷ 116 ∷ 32 ∷ 49 ∷ 48 ∷ 10 ∷ []
unfolding refusal_line digits places
refused_at_ten = refl

-- a number of two digits: "refused 11 at 40"
pub refused_radius :
    refusal_line 11 40 ≡ 114 ∷ 101 ∷ 102 ∷ 117 ∷ 115 ∷ 101 ∷ 100 ∷ 32 ∷ 49 ∷ 49 ∷ 32 ∷ 97 ∷ 116 ∷ 32 ∷ 52 ∷ 48 ∷ 10 ∷ []
unfolding refusal_line digits places
refused_radius = refl

-- "refused 7 at 0"
pub refused_at_none : refusal_line 7 0 ≡ 114 ∷ 101 ∷ 102 ∷ 117 ∷ 115 ∷ 101 ∷ 100 ∷ 32 ∷ 55 ∷ 32 ∷ 97 ∷ 116 ∷ 32 ∷ 48 ∷ 10 ∷ []
unfolding refusal_line digits places
refused_at_none = refl

-- the largest offset: "refused 1 at 18446744073709551615"
pub refused_at_most :
    refusal_line 1 18446744073709551615
    ≡ 114 ∷ 101 ∷ 102 ∷ 117 ∷ 115 ∷ 101 ∷ 100 ∷ 32 ∷ 49 ∷ 32 ∷ 97 ∷ 116 ∷ 32
    ∷ 49 ∷ 56 ∷ 52 ∷ 52 ∷ 54 ∷ 55 ∷ 52 ∷ 52 ∷ 48 ∷ 55 ∷ 51 ∷ 55 ∷ 48 ∷ 57 ∷ 53 ∷ 53 ∷ 49 ∷ 54 ∷ 49 ∷ 53 ∷ 10 ∷ []
unfolding refusal_line digits places
refused_at_most = refl
