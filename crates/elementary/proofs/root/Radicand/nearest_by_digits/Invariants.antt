-- Each turn takes one pair of digits.
use Rattle.std.proofs.Common.{◌-◌}
use Rattle.elementary.proofs.root.Digits.{Taken}
use Rattle.elementary.proofs.root.Radicand.nearest_by_digits.Given as goal

abbrev pub invariant-loop : goal.invariant-loop
invariant-loop l = Taken l.fn.self.m l.digits l.root l.rest (53 - l.counter)
