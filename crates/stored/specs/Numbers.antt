-- When a number of ours has the bits that a list has.
use Rattle.std.specs.Prelude.{ℕ, Bool, Float, ◌&&◌, eqb}
use Rattle.std.specs.Float.Ieee.{binary64, eq, to_bits}

abbrev pub same : Float → ℕ → Bool
same x bits = eq x x && eqb (to_bits binary64 x) bits
