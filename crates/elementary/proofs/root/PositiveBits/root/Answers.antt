-- `PositiveBits::root` meets its contract: proofs/root/Leading.antt.
use Rattle.std.proofs.Common.{arith}
use Rattle.elementary.proofs.root.Leading.{radicand_digits, root_bits_fit, root_bits_number, root_bits}
use Rattle.elementary.proofs.root.PositiveBits.root.Goals as goal

pub invariant_of-radicand : goal.invariant_of-radicand
invariant_of-radicand c =
    let p = c.split-digits in
    let r = radicand_digits p.result.digits p.result.lead p.ensures.least p.ensures.most in
    record { least = omega (arith, r); below = omega (arith, r) }

pub overflow_add-result-2 : goal.overflow_add-result-2
overflow_add-result-2 c =
    let p = c.split-digits in
    let s = c in
    omega (
      arith,
      root_bits_fit s.args.self.bits p.result.digits p.result.lead s.args.self.finite p.ensures c.nearest-digits.result
          c.nearest-digits.ensures,
    )

pub float_from_bits-result : goal.float_from_bits-result
float_from_bits-result c =
    let p = c.split-digits in
    let s = c in
    root_bits_number s.args.self.bits p.result.digits p.result.lead s.args.self.finite p.ensures c.nearest-digits.result
    c.nearest-digits.ensures

pub returns : goal.returns
returns c =
    let p = c.split-digits in
    let s = c in
    root_bits s.args.self.bits p.result.digits p.result.lead s.args.self.finite p.ensures c.nearest-digits.result
    c.nearest-digits.ensures
