-- `PositiveBits::split` meets its contract: subnormal numbers by their leading zeros, normal ones by their fields.
use Rattle.std.proofs.Common.{arith}
use Rattle.elementary.proofs.root.Leading.{zeros_range, leading_subnormal, leading_normal}
use Rattle.elementary.proofs.root.PositiveBits.split.Goals as goal

pub overflow_sub-result : goal.overflow_sub-result
overflow_sub-result c = (zeros_range c.args.self.bits c.args.self.above (omega arith)).0

pub returns-then-field-eq0 : goal.returns-then-field-eq0
returns-then-field-eq0 c = rw c.from.ensures (leading_subnormal c.args.self.bits c.args.self.above (omega arith))

pub returns-else-field-eq0 : goal.returns-else-field-eq0
returns-else-field-eq0 c = leading_normal c.args.self.bits (omega arith) c.args.self.finite
