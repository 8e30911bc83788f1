-- `binary64::reduced` is the remainder, and ends since m doubles.
use Rattle.std.proofs.Common.{◌∙◌, arith}
use Rattle.binary64.proofs.Reducing.{twice_mag, twice_within, reducible_twice}
use Rattle.binary64.proofs.Reducing.{rest_by_twice, rest_is_x, rest_less, rest_same}
use Rattle.binary64.proofs.+reduced.Goals as goal
use Rattle.binary64.proofs.+reduced.Goals.{then-twice-x, else-twice-x}

pub reduced-rest-requires : goal.reduced-rest-requires
reduced-rest-requires t c =
    let d = twice_mag c.requires c.if-twice-x.true in
    let w = twice_within c.requires c.if-twice-x.true in
    (omega (arith, c.decreases, d, w, c.requires.by_nonzero), reducible_twice c.requires c.if-twice-x.true)

pub returns-then-m-rest : goal.returns-then-m-rest
returns-then-m-rest t c =
    elim c.if-twice-x.branch [
      | then-twice-x w ↦
          rest_less c.requires (rest_by_twice c.requires _ w.if-twice-x.true (w.rest-is ∙ w.reduced-rest.ensures))
          c.if-m-rest.true
      | else-twice-x w ↦ rest_less c.requires (w.rest-is ∙ rest_is_x c.requires w.if-twice-x.false) c.if-m-rest.true
    ]

pub returns-else-m-rest : goal.returns-else-m-rest
returns-else-m-rest t c =
    elim c.if-twice-x.branch [
      | then-twice-x w ↦
          rest_same c.requires (rest_by_twice c.requires _ w.if-twice-x.true (w.rest-is ∙ w.reduced-rest.ensures))
          c.if-m-rest.false
      | else-twice-x w ↦ rest_same c.requires (w.rest-is ∙ rest_is_x c.requires w.if-twice-x.false) c.if-m-rest.false
    ]
