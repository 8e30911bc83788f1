-- A finite f64 as a whole number of units of 2^-1074, the smallest positive f64, with its sign: every law of this crate
-- speaks of a float so. Rests on lib.Ieee, whose `fin s m e` is the number m * 2 ^ e with the sign s.
use Rattle.std.specs.Prelude.{◌≡◌, ℕ, ◌*◌, ◌/◌, ◌^◌, ◌<◌, Bool, false, cond, T, pos, Float}
use Rattle.std.specs.Float.{nan, inf, fin, binary64}
use Rattle.std.specs.Float.Ieee.{up, down, fits, round}
use Rattle.std.specs.Float.Ieee.Scale as kit

-- 2 ^ k, kept shut: `omega` reads no numeral past 2 ^ 128, and takes `pow2 1074` for one unknown.
unfoldable pub pow2 : ℕ → ℕ
pow2 k = 2 ^ k

-- The number 1 is so many units.
abbrev pub one : ℕ
one = pow2 1074

-- The first number of units past every finite f64: the number 2 ^ 1024 is so many units.
abbrev pub limit : ℕ
limit = pow2 2098

-- x is a number that binary64 holds: neither a NaN nor an infinity. What a program holds always fits.
pub record Finite (x : Float) : Type 0 where
  pub fit : T (fits binary64 x)
  pub number : T (kit.finite x)

-- |x| in units; 0 for a NaN and for an infinity.
unfoldable pub mag : Float → ℕ
mag nan = 0
mag (inf s) = 0
mag (fin s m e) = m * up e * one / down e

-- The sign bit: true for -0 too. A NaN has none.
abbrev pub negative : Float → Bool
negative nan = false
negative (inf s) = s
negative (fin s m e) = s

-- x is plus x - minus x units, and one of the two is 0.
unfoldable pub plus : Float → ℕ
plus x = cond (negative x) 0 (mag x)

unfoldable pub minus : Float → ℕ
minus x = cond (negative x) (mag x) 0

-- The float with the sign s that is nearest to n units; ±n units itself, where binary64 holds that.
abbrev pub of_units : Bool → ℕ → Float
of_units s n = round binary64 s n one

-- The zero with the sign s.
abbrev pub signed_zero : Bool → Float
signed_zero s = fin s 0 (pos 0)

-- n has at most 53 binary digits before its closing zeros. Below `limit`, these are the magnitudes of the finite
-- floats.
pub record Digits53 (n : ℕ) : Type 0 where
  pub digits : ℕ
  pub zeros : ℕ
  pub few : digits < 2 ^ 53
  pub is : n ≡ digits * 2 ^ zeros
