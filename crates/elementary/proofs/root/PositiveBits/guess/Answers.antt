-- `PositiveBits::guess` meets its contract: the patterns that it makes are no NaN's.
use Rattle.std.proofs.Common.{arith}
use Rattle.elementary.proofs.root.Cases.{number_bits}
use Rattle.elementary.proofs.root.PositiveBits.guess.Goals as goal

pub float_from_bits-x : goal.float_from_bits-x
float_from_bits-x c = number_bits _ c.args.self.finite

pub float_from_bits-r : goal.float_from_bits-r
float_from_bits-r c = number_bits _ (omega arith)
