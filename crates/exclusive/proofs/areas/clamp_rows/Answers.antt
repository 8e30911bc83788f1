-- `areas::clamp_rows` meets its contract. The invariant: the rows below s are clamped, the others are as they were.
use mathlib.Core.Path.{ap, ◌∙◌}
use mathlib.Core.Bool.{cond}
use mathlib.Core.List.{List}
use native.Mathlib.Nat.{le_refl}
use native.Mathlib.Omega.{arith}
use lib.Ieee.{Float, nan}
use lib.ListN.{get_or, set}
use Rattle.lists.proofs.Writing.{written_none, written_past, write_next}
use Rattle.masks.specs.Presence.{stands}
use Rattle.binary64.specs.Constants.{zero64}
use Rattle.binary64.specs.Functions.{clamp_to_zero}
use Rattle.exclusive.proofs.areas.clamp_rows.Invariants.{row}
use Rattle.exclusive.proofs.areas.clamp_rows.Goals as goal

pub loop-s-init : goal.loop-s-init
loop-s-init c = written_none (row c.args.present.now.bytes.now c.args.numbers.now) c.args.numbers.now

pub loop-s-preserved : goal.loop-s-preserved
loop-s-preserved c =
    let l = c.loop-s in let bytes = c.args.present.now.bytes.now in let first = c.args.numbers.now in
    let f = row bytes first in
    let old = ap (λ (t : List Float). get_or t l.s nan) l.invariant ∙ written_past f l.s l.s first nan (le_refl l.s) in
    ap (λ (t : List Float). set t l.s c.clamped.result) l.invariant
    ∙ write_next f l.s first c.clamped.result nan (omega arith)
    (c.clamped.ensures ∙ ap (λ (x : Float). cond (stands bytes l.s) (clamp_to_zero x) zero64) old)
