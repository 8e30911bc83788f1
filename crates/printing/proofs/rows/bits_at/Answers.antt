-- `rows::bits_at` meets its contract. What is no number has the bits of the one NaN.
use Rattle.std.proofs.Common.{◌≡◌, ◌≤◌, length, get_or, true, refl, rules}
use lib.Ieee.{Float, nan, inf, fin, is_nan, binary64, to_bits}
use lib.ListN.{get_or-eq_default}
use Rattle.printing.proofs.rows.bits_at.Goals as goal

bits_of_nan : (x : Float) → is_nan x ≡ true → 9221120237041090560 ≡ to_bits binary64 x
unfolding is_nan to_bits
bits_of_nan nan e = refl
bits_of_nan (inf s) e = cc
bits_of_nan (fin s m p) e = cc

pub returns-in_default : goal.returns-in_default
returns-in_default c =
    let none : is_nan (get_or c.args.numbers.now c.args.s nan) ≡ true = search rules in bits_of_nan _ none

pub returns-in_default-2 : goal.returns-in_default-2
unfolding is_nan
returns-in_default-2 c =
    let past : length c.args.numbers.now ≤ c.args.s = search rules in
    rw (get_or-eq_default c.args.numbers.now nan past) (bits_of_nan nan refl)
