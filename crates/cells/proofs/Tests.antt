-- The computed tests. An angle is a whole number of units of 2^-600, fine enough that on a cell the recipe's angle is
-- an integer polynomial.
use mathlib.Core.List.{List, [], ◌∷◌}
use mathlib.Core.Bool.{Bool, true, false, ◌&&◌}
use Prim.Native.Nat.{ℕ, zero, suc, ◌+◌, ◌*◌, ◌/◌, ◌^◌}
use lib.Dec.{T, leb}
use lib.ListN.{take}
use lib.IntN.{ℤ, pos, negsuc, neg_ℤ, nat_abs}
use Rattle.series.specs.Taylor.{factorial, sign}
use Rattle.series.proofs.Integers.{dist}
use Rattle.series.proofs.Polynomial.{nval, step, shift, finer, sizes, slope}
use Rattle.series.proofs.Alternating.{negated, alternating}
use Rattle.series.proofs.Sums.{rising, sin_from, cos_from, sin79, cos79}
use Rattle.cells.specs.Arc.{first_arc, arcs, quarter_turn, half_turn}
use Rattle.cells.proofs.Plain.{scaled, times, plus, compose, gaps, bound}

-- The recipe's polynomial without cuts, times 2^2753: its angle at a tangent n / 2^64 is the value at n, in units of
-- 2^-62.
unfoldable pub arc_polynomial : List ℤ
unfolding alternating
arc_polynomial = pos 0 ∷ alternating 1 (2 ^ 128) [] (first_arc ∷ arcs)

-- The sums' first 24 coefficients over angles in units of 2^-600, 79! 2^14400 times as large, and 2^-61 in that scale.
unfoldable pub sine24 : List ℤ
unfolding finer sin79
sine24 = finer (2 ^ 600) (take 24 sin79)

unfoldable pub cosine24 : List ℤ
unfolding finer cos79
cosine24 = finer (2 ^ 600) (take 24 cos79)

unfoldable pub unit24 : ℕ
unfolding factorial
unit24 = factorial 79 * 2 ^ 14339

-- 2^-62 in units of 2^-600, and the scale of arc_polynomial over that of angles
unfoldable pub tick : ℕ
tick = 2 ^ 538

unfoldable pub grade : ℕ
grade = 2 ^ 2215

-- half a cell in units of 2^-64, and the angles that it spans, with a 32nd more
abbrev pub half : ℕ
half = 2 ^ 59

unfoldable pub reach : ℕ
reach = 2 ^ 595 + 2 ^ 590

-- p is near its first 8 coefficients
unfoldable pub tail : List ℤ → Bool
unfolding gaps bound unit24 reach
tail p = leb (bound (gaps p (take 8 p)) reach) (128 * unit24)

-- the residual sine - tangent × cosine at the tangent c + X, for the sine s and the cosine k of a polynomial b in X
unfoldable pub residual : ℕ → List ℤ → List ℤ → List ℤ → Bool
unfolding gaps bound unit24 compose scaled times
residual c s k b =
    leb (bound (gaps (scaled (pos (2 ^ 64)) (compose s b)) (times (pos c ∷ pos 1 ∷ []) (compose k b))) half)
    (512 * 2 ^ 64 * unit24)

-- on the cell about c the recipe's angle is a + b (X), to 2^-53
unfoldable pub angle : ℕ → ℕ → List ℤ → Bool
unfolding gaps bound arc_polynomial shift scaled tick grade
angle c a b = leb (bound (gaps (shift arc_polynomial c) (scaled (pos grade) (pos a ∷ b))) half) (512 * tick * grade)

-- b (X) stays within the reach
unfoldable pub spans : List ℤ → Bool
unfolding gaps bound reach
spans b = leb (bound (gaps (pos 0 ∷ b) []) half) reach

-- The test of the cell about c: there the recipe's angle is a + b (X), and its residual is small.
unfoldable pub cell : ℕ → ℕ → List ℤ → Bool
unfolding angle spans sine24 cosine24 tail residual shift reach
cell c a b =
    angle c a b && spans b && leb (a + reach) (2 ^ 600) && tail (shift sine24 a) && tail (shift cosine24 a)
    && residual c (take 8 (shift sine24 a)) (take 8 (shift cosine24 a)) (pos 0 ∷ b)

-- a / d, cut
unfoldable pub quotient : ℤ → ℕ → ℤ
quotient (pos a) d = pos (a / d)
quotient (negsuc a) d = neg_ℤ (pos (suc a / d))

unfoldable pub quotients : ℕ → List ℤ → List ℤ
unfolding quotient grade
quotients n [] = []
quotients zero (c ∷ p) = []
quotients (suc n) (c ∷ p) = quotient c grade ∷ quotients n p

-- the test of a cell, with the recipe's polynomial about its middle cut to 10 coefficients
unfoldable pub cell_of : ℕ → List ℤ → Bool
unfolding cell
cell_of c [] = false
cell_of c (a ∷ b) = cell c (nat_abs a) b

unfoldable pub cell_at : ℕ → Bool
unfolding cell_of quotients shift arc_polynomial
cell_at k = cell_of ((2 * k + 1) * half) (quotients 10 (shift arc_polynomial ((2 * k + 1) * half)))

-- the cells k, k + 1, .., n of them
unfoldable pub cells_from : ℕ → ℕ → Bool
unfolding cell_at
cells_from k zero = true
cells_from k (suc n) = cell_at k && cells_from (suc k) n

-- all 16, for tangents from 0 to 1, in four declarations
pub lowest_cells : T (cells_from 0 4)
unfolding cells_from cell_at cell_of cell angle spans quotients quotient arc_polynomial sine24 cosine24 unit24 tick
    grade reach tail residual gaps bound compose scaled times plus shift step finer negated alternating factorial sign
    rising sin_from cos_from sin79 cos79 dist
lowest_cells = tt

pub lower_cells : T (cells_from 4 4)
unfolding cells_from cell_at cell_of cell angle spans quotients quotient arc_polynomial sine24 cosine24 unit24 tick
    grade reach tail residual gaps bound compose scaled times plus shift step finer negated alternating factorial sign
    rising sin_from cos_from sin79 cos79 dist
lower_cells = tt

pub upper_cells : T (cells_from 8 4)
unfolding cells_from cell_at cell_of cell angle spans quotients quotient arc_polynomial sine24 cosine24 unit24 tick
    grade reach tail residual gaps bound compose scaled times plus shift step finer negated alternating factorial sign
    rising sin_from cos_from sin79 cos79 dist
upper_cells = tt

pub highest_cells : T (cells_from 12 4)
unfolding cells_from cell_at cell_of cell angle spans quotients quotient arc_polynomial sine24 cosine24 unit24 tick
    grade reach tail residual gaps bound compose scaled times plus shift step finer negated alternating factorial sign
    rising sin_from cos_from sin79 cos79 dist
highest_cells = tt

-- ---- the whole sums over angles in units of 2^-600, 79! 2^48000 times as large, and 2^-61 in that scale

unfoldable pub sine80 : List ℤ
unfolding finer sin79
sine80 = finer (2 ^ 600) sin79

unfoldable pub cosine80 : List ℤ
unfolding finer cos79
cosine80 = finer (2 ^ 600) cos79

unfoldable pub unit80 : ℕ
unfolding factorial
unit80 = factorial 79 * 2 ^ 47939

-- p and q differ by at most e × 2^-61 at every angle up to X
unfoldable pub close : List ℤ → List ℤ → ℕ → ℕ → Bool
unfolding gaps bound unit80
close p q X e = leb (bound (gaps p q) X) (e * unit80)

-- the first 24 coefficients are enough up to 1
pub sine_head : T (close sine80 (scaled (pos ((2 ^ 600) ^ 56)) sine24) (2 ^ 600) 1)
unfolding close sine80 sine24 unit80 gaps bound scaled finer factorial sign rising sin_from sin79 dist
sine_head = tt

pub cosine_head : T (close cosine80 (scaled (pos ((2 ^ 600) ^ 56)) cosine24) (2 ^ 600) 1)
unfolding close cosine80 cosine24 unit80 gaps bound scaled finer factorial sign rising cos_from cos79 dist
cosine_head = tt

-- the cosine differs from 1 by at most 5/8 there
pub cosine_start : T (close cosine80 (pos (2 ^ 61 * unit80) ∷ []) (2 ^ 600) (5 * 2 ^ 58))
unfolding close cosine80 unit80 gaps bound finer factorial sign rising cos_from cos79 dist
cosine_start = tt

-- a quarter turn on, the sine is the cosine and the cosine is minus the sine
pub quarter-sine : T (close (shift sine80 (quarter_turn * tick)) cosine80 (4 * 2 ^ 600) 64)
unfolding close sine80 cosine80 unit80 tick gaps bound shift step finer factorial sign rising sin_from cos_from sin79
    cos79 dist
quarter-sine = tt

pub quarter_cosine : T (close (shift cosine80 (quarter_turn * tick)) (negated sine80) (4 * 2 ^ 600) 64)
unfolding close sine80 cosine80 unit80 tick gaps bound shift step finer negated factorial sign rising sin_from cos_from
    sin79 cos79 dist
quarter_cosine = tt

-- half a turn on, both change sign
pub half_sine : T (close (shift sine80 (half_turn * tick)) (negated sine80) (4 * 2 ^ 600) 64)
unfolding close sine80 unit80 tick gaps bound shift step finer negated factorial sign rising sin_from sin79 dist
half_sine = tt

pub half_cosine : T (close (shift cosine80 (half_turn * tick)) (negated cosine80) (4 * 2 ^ 600) 64)
unfolding close cosine80 unit80 tick gaps bound shift step finer negated factorial sign rising cos_from cos79 dist
half_cosine = tt

-- moved by 2^-62, either changes by at most 16 × 2^-61, up to 4
pub sine_slope : T (leb (slope (sizes sine80) (4 * 2 ^ 600) 1 * tick) (16 * unit80))
unfolding sine80 unit80 tick slope sizes nval finer factorial sign rising sin_from sin79
sine_slope = tt

pub cosine_slope : T (leb (slope (sizes cosine80) (4 * 2 ^ 600) 1 * tick) (16 * unit80))
unfolding cosine80 unit80 tick slope sizes nval finer factorial sign rising cos_from cos79
cosine_slope = tt
