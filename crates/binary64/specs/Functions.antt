-- The small functions of f64 that the Rust calls as methods, and what each gives for a NaN and for zeros of either
-- sign. Rests on lib.Ieee. In code the functions are those of src/lib.rt.
use Rattle.std.specs.Prelude.{◌≡◌, ◌<◌, ◌≤◌, Bool, false, cond, ◌||◌, pos, is_nan}
use lib.Ieee.{Float, nan, inf, fin, binary64, lt, add, rem}
use Rattle.binary64.specs.Units.{Finite, mag, negative, plus, minus}
use Rattle.binary64.specs.Constants.{zero64}

-- `x.abs()`: the sign bit cleared. A NaN stays a NaN.
abbrev pub absolute : Float → Float
absolute nan = nan
absolute (inf s) = inf false
absolute (fin s m e) = fin false m e

-- ±1
abbrev pub unit : Bool → Float
unit s = fin s 1 (pos 0)

-- `x.signum()`: 1 or -1 by the sign bit, so -1 for -0. A NaN, which has none, gives a NaN.
abbrev pub signum_of : Float → Float
signum_of nan = nan
signum_of (inf s) = unit s
signum_of (fin s m e) = unit s

-- The clamp of exclusive areas: x where it is above zero; a NaN, a zero of either sign and a number below zero give +0.
abbrev pub clamp_to_zero : Float → Float
clamp_to_zero x = cond (lt zero64 x) x zero64

-- `x.max(y)` and `x.min(y)`: of a NaN and a number the number; of two numbers that compare equal, +0 and -0 among them,
-- the first.
abbrev pub larger_of : Float → Float → Float
larger_of x y = cond (is_nan x || lt x y) y x

abbrev pub smaller_of : Float → Float → Float
smaller_of x y = cond (is_nan x || lt y x) y x

-- `x.rem_euclid(m)`: the float remainder, plus m if that is below 0. A zero m and an infinite x give a NaN.
abbrev pub rem_euclid : Float → Float → Float
rem_euclid x m = let r = rem binary64 x m in cond (lt r zero64) (add binary64 r m) r

-- z is finite and lies from 0 to m, a -0 included.
pub record FromZeroTo (z m : Float) : Type 0 where
  pub finite : Finite z
  pub above : minus z ≡ 0
  pub below : plus z ≤ plus m

-- x and m are finite, without the sign bit, and m is no zero.
pub record Reducible (x m : Float) : Type 0 where
  pub number : Finite x
  pub unsigned : negative x ≡ false
  pub by : Finite m
  pub by_unsigned : negative m ≡ false
  pub by_nonzero : 0 < mag m
