-- `fast::write_rows`: one row more is written, or stays.
use mathlib.Core.Path.{sym, ap, ◌∙◌}
use Prim.Native.Nat.{ℕ, ◌<◌}
use native.Mathlib.Omega.{arith}
use borrow.Author.Tests.{eq-eqb, ne_eqb}
use lib.ListN.{length, get_or}
use lib.Ieee.{Float, nan}
use mathlib.Core.Bool.{Bool, cond}
use Rattle.lists.proofs.Writing.{written_none, write_next, written_keep}
use Rattle.masks.specs.Presence.{stands}
use Rattle.sums.specs.Rows.{number_at}
use Rattle.sums.proofs.fast.write_rows.Goals as goal
use Rattle.sums.proofs.fast.write_rows.Goals.{then-byte-eq1, else-byte-eq1}

pub loop-mask-init : goal.loop-mask-init
loop-mask-init g c = written_none _ _

pub loop-mask-preserved : goal.loop-mask-preserved
loop-mask-preserved g c =
    let l = c.loop-mask in
    let a = c.args in
    let room : l.mask < length a.areas.now = omega (arith, c.requires.places, c.loop-mask-test.true) in
    let area : ℕ → Float = g.R.Areas.given a.rows.now in
    let f = number_at (stands a.wanted.now) area a.areas.now in
    let choice : Bool → Float = λ b. cond b (area l.mask) (get_or a.areas.now l.mask nan) in
    elim c.if-byte-eq1.branch [
      | then-byte-eq1 w ↦ w.areas-is ∙ rw l.invariant (write_next f l.mask a.areas.now _ nan room
          (w.area.ensures ∙ sym (ap choice (eq-eqb _ 1 w.if-byte-eq1.true))))
      | else-byte-eq1 w ↦ w.areas-is ∙ l.invariant ∙ written_keep f l.mask a.areas.now nan room
          (ap choice (ne_eqb _ 1 w.if-byte-eq1.false))
    ]
