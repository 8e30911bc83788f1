-- Document 01: "Root: IEEE 754 square root, rounded to nearest, ties to even, for every finite number not below zero;
-- compared over whole numbers by squares", +0 outside that domain; and hypot. Rests on the units of binary64: the
-- number 1 is `one` = 2 ^ 1074 of them.
use Rattle.std.specs.Prelude.{ℕ, zero, suc, ◌+◌, ◌-◌, ◌*◌, ◌/◌, ◌^◌, true, false, cond, nat_le, Float}
use Rattle.std.specs.Float.{nan, inf, fin, binary64}
use Rattle.std.specs.Float.Ieee.{size, add, mul}
use Rattle.binary64.specs.Constants.{zero64}
use Rattle.binary64.specs.Units.{mag, of_units}

-- The whole part of the root of n, for n below 4 ^ k: twice that of n / 4, or one more.
unfoldable pub whole_root : ℕ → ℕ → ℕ
whole_root zero n = 0
whole_root (suc k) n = let r = 2 * whole_root k (n / 4) in cond (nat_le ((r + 1) * (r + 1)) n) (r + 1) r

-- The whole number nearest to the root of n, for n below 4 ^ k: past r * r + r the root is past the middle of r and r +
-- 1.
unfoldable pub nearest_root : ℕ → ℕ → ℕ
unfolding whole_root
nearest_root k n = let r = whole_root k n in cond (nat_le n (r * r + r)) r (r + 1)

-- The root of n units, in units, to 53 digits. It is the root of n * one, and n * one = X * (2 ^ (485 + h)) ^ 2 for X =
-- n * 2 ^ 104 / 4 ^ h. This h gives X 105 or 106 binary digits, so its root has 53.
unfoldable pub root_units : ℕ → ℕ
unfolding nearest_root size
root_units n = let h = (size n - 1) / 2 in nearest_root 53 (n * 2 ^ 104 / 4 ^ h) * 2 ^ (485 + h)

-- The root of a float: the zeros are their own roots; what is no number, infinite or below zero has +0.
unfoldable pub root : Float → Float
unfolding root_units mag
root nan = zero64
root (inf s) = zero64
root (fin s zero e) = fin s zero e
root (fin true (suc m) e) = zero64
root (fin false (suc m) e) = of_units false (root_units (mag (fin false (suc m) e)))

-- Document 01: "`hypot(a,b)` is root(a×a + b×b), each step rounded."
unfoldable pub hypot : Float → Float → Float
unfolding root
hypot a b = root (add binary64 (mul binary64 a a) (mul binary64 b b))
