-- `binary64::signum` meets its contract, by the sign bit.
use Rattle.std.proofs.Common.{true, false, sym, ap, ◌∙◌}
use lib.Ieee.{of_bits, neg}
use Rattle.binary64.specs.Functions.{signum_of}
use Rattle.binary64.proofs.Functions.{nan_is, sign_is, signum_of_number}
use Rattle.binary64.proofs.signum.Goals as goal

pub returns-then-is_nan : goal.returns-then-is_nan
returns-then-is_nan c = let e = nan_is c.args.x (sym c.if-is_nan.ensures.value) in e ∙ sym (ap signum_of e)

pub returns-then-is_sign_negative : goal.returns-then-is_sign_negative
unfolding of_bits neg
returns-then-is_sign_negative c =
    sym (signum_of_number c.args.x true (sym c.if-is_nan.ensures.value)
    (sym (sign_is c.args.x) ∙ sym c.if-is_sign_negative.ensures))

pub returns-else-is_sign_negative : goal.returns-else-is_sign_negative
unfolding of_bits
returns-else-is_sign_negative c =
    sym (signum_of_number c.args.x false (sym c.if-is_nan.ensures.value)
    (sym (sign_is c.args.x) ∙ sym c.if-is_sign_negative.ensures))
