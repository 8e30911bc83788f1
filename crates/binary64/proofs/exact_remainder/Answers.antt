-- `binary64::exact_remainder` is the remainder of any two floats: of no number or by nothing a NaN, by an infinity x
-- itself, and otherwise by sizes.
use Rattle.std.proofs.Common.{◌≡◌, refl, sym, ap, ap₂, ◌∙◌, subst, rules}
use lib.Ieee.{Float, nan, binary64, of_bits, lt, rem}
use Rattle.binary64.specs.Constants.{zero64}
use Rattle.binary64.specs.Functions.{absolute, Reducible}
use Rattle.binary64.proofs.Reducing.{by_no_number, by_nothing, by_infinity, sizes_reducible, signed_rest, unsigned_rest}
use Rattle.binary64.proofs.exact_remainder.Goals as goal
use Rattle.binary64.proofs.exact_remainder.Goals.{then-not-is_finite-via-then-not-is_finite}
use Rattle.binary64.proofs.exact_remainder.Goals.{then-not-is_finite-via-else-not-is_finite+then-not-by}

nan_is : of_bits binary64 9221120237041090560 ≡ nan
unfolding of_bits
nan_is = refl

pub returns-then-not-is_finite : goal.returns-then-not-is_finite
returns-then-not-is_finite c =
    elim c.then-not-is_finite.branch [
      | then-not-is_finite-via-then-not-is_finite w ↦
          nan_is ∙ by_no_number c.args.x c.args.m (sym c.is_finite.ensures.value ∙ w.if-not-is_finite.true)
      | then-not-is_finite-via-else-not-is_finite+then-not-by w ↦
          nan_is ∙ by_nothing c.args.x c.args.m (search rules)
          (ap (lt zero64) (sym c.abs-by.ensures) ∙ w.if-not-by.true)
    ]

pub returns-then-not-is_finite-2 : goal.returns-then-not-is_finite-2
returns-then-not-is_finite-2 c =
    by_infinity c.args.x c.args.m (sym c.is_finite.ensures.value ∙ c.if-not-is_finite.false)
    (ap (lt zero64) (sym c.abs-by.ensures) ∙ c.if-not-by.false)
    (sym c.is_finite-2.ensures.value ∙ c.if-not-is_finite-2.true)

pub reduced-rest-requires : goal.reduced-rest-requires
reduced-rest-requires c =
    subst (λ (y : Float). Reducible y c.abs-by.result) (sym c.abs.ensures)
    (subst (λ (y : Float). Reducible (absolute c.args.x) y) (sym c.abs-by.ensures)
    (sizes_reducible c.args.x c.args.m (search rules) (search rules)
    (sym c.is_finite.ensures.value ∙ c.if-not-is_finite.false)
    (sym c.is_finite-2.ensures.value ∙ c.if-not-is_finite-2.false)
    (ap (lt zero64) (sym c.abs-by.ensures) ∙ c.if-not-by.false)))

pub returns-then-is_sign_negative : goal.returns-then-is_sign_negative
returns-then-is_sign_negative c =
    signed_rest c.args.x c.args.m (search rules) (search rules)
    (sym c.is_finite.ensures.value ∙ c.if-not-is_finite.false)
    (sym c.is_finite-2.ensures.value ∙ c.if-not-is_finite-2.false)
    (ap (lt zero64) (sym c.abs-by.ensures) ∙ c.if-not-by.false)
    c.reduced-rest.result (sym c.is_sign_negative.ensures ∙ c.if-is_sign_negative.true)
    (c.reduced-rest.ensures ∙ ap₂ (rem binary64) c.abs.ensures c.abs-by.ensures)

pub returns-else-is_sign_negative : goal.returns-else-is_sign_negative
returns-else-is_sign_negative c =
    unsigned_rest c.args.x c.args.m (search rules) (search rules)
    (sym c.is_finite.ensures.value ∙ c.if-not-is_finite.false)
    (sym c.is_finite-2.ensures.value ∙ c.if-not-is_finite-2.false)
    (ap (lt zero64) (sym c.abs-by.ensures) ∙ c.if-not-by.false)
    c.reduced-rest.result (sym c.is_sign_negative.ensures ∙ c.if-is_sign_negative.false)
    (c.reduced-rest.ensures ∙ ap₂ (rem binary64) c.abs.ensures c.abs-by.ensures)
