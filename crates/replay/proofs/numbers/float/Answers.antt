-- A pattern whose exponent's field is not all ones is no NaN's.
use Rattle.std.proofs.Common.{ℕ, ◌/◌, ◌%◌, ◌^◌, ◌<◌, not, T, arith, ne_eqb}
use Rattle.std.specs.Float.Ieee.{binary64, nan_bits}
use Rattle.replay.proofs.numbers.float.Goals as goal

no_nan : (b : ℕ) → b / 2 ^ 52 % 2048 < 2047 → T (not (nan_bits binary64 b))
unfolding nan_bits
no_nan b h = rw (ne_eqb (b % 2 ^ 63 / 2 ^ 52) 2047 (λ e. omega (arith, h, e))) tt

pub float_from_bits-result : goal.float_from_bits-result
float_from_bits-result c = no_nan c.args.bits c.if-bits-lt2047.true
