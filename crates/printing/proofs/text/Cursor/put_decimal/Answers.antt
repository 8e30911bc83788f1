-- `text::Cursor::put_decimal` meets its contract.
use native.Mathlib.Omega.{arith}
use Rattle.printing.proofs.Digits.{places_of_power}
use Rattle.printing.proofs.text.Cursor.put_decimal.Goals as goal

pub returns : goal.returns
returns c =
    let top = c.ilog10.ensures in
    let all = places_of_power 19 c.args.n c.ilog10.result (omega (arith, top.bound)) (omega (arith, top.power_le, c.max.ensures)) (omega (arith, top.next_power_gt, c.max.ensures)) in
    rw all c.put_digits.ensures
