-- Whole numbers as floats. `n as f64` of an integer n is `of_int binary64 n`; with its sign apart it is `whole`, which
-- has a -0 too.
use Rattle.std.specs.Prelude.{ℕ, Bool, true, false, ℤ, pos, negsuc, ◌==◌, Float}
use Rattle.std.specs.Float.{binary64}
use Rattle.std.specs.Float.Ieee.{round}

-- The float nearest to n, with the sign s: n itself up to 2 ^ 53.
abbrev pub whole : Bool → ℕ → Float
whole s n = round binary64 s n 1

-- Whether an integer is below zero.
abbrev pub below0 : ℤ → Bool
below0 (pos n) = false
below0 (negsuc n) = true

-- Whether two integers are equal; lib.Signed has the tests `lt_z` and `le_z`.
abbrev pub eq_z : ℤ → ℤ → Bool
eq_z (pos a) (pos b) = a == b
eq_z (pos a) (negsuc b) = false
eq_z (negsuc a) (pos b) = false
eq_z (negsuc a) (negsuc b) = a == b
