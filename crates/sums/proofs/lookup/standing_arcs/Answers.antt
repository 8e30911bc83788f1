-- `lookup::standing_arcs`: the number of the next mark, or of the next whole circle, is listed.
use mathlib.Core.Path.{◌≡◌, ap, ◌∙◌}
use Prim.Native.Nat.{◌<◌}
use native.Mathlib.Omega.{arith}
use lib.ListN.{length}
use Rattle.std.proofs.Math.Nat.{mod-eq_of_lt}
use Rattle.sums.specs.Walk.{marks_of}
use Rattle.sums.proofs.Held.{held_many, marks_few}
use Rattle.sums.proofs.Filling.{below_next, below_past, below_all, mark_stands, marks_past, heads_past, whole_past}
use Rattle.sums.proofs.Filling.{whole_stands, whole_stands_not, marks_counted, head_few}
use Rattle.sums.proofs.lookup.standing_arcs.Goals as goal
use Rattle.sums.proofs.lookup.standing_arcs.Goals.{then-pass-j-eq1, else-pass-j-eq1}

pub loop-mark-preserved : goal.loop-mark-preserved
loop-mark-preserved c =
    let p = c.args.pass.now in
    let j = c.loop-j.j in
    let low : c.loop-j.j < 10 = head_few p c.deref-head-items.ensures.0 c.loop-j-test.true in
    let many = marks_counted p c.deref-head-items.ensures.0 c.head-item.is c.loop-j-test.true
    c.len-mark-end.ensures.value in
    let few = marks_few p c.loop-j.j in
    rw c.push.ensures.items
    (below_next c.loop-mark.invariant
    (c.number.ensures ∙ mod-eq_of_lt (omega (arith, low, many, few, c.loop-mark-test.true))) (omega arith)
    (omega (arith, low, many, few, c.loop-mark-test.true))
    (mark_stands p j c.loop-mark.mark low (omega (arith, many, c.loop-mark-test.true))))

pub loop-j-preserved : goal.loop-j-preserved
loop-j-preserved c =
    let p = c.args.pass.now in
    let j = c.loop-j.j in
    let low : c.loop-j.j < 10 = head_few p c.deref-head-items.ensures.0 c.loop-j-test.true in
    let many = marks_counted p c.deref-head-items.ensures.0 c.head-item.is c.loop-j-test.true
    c.len-mark-end.ensures.value in
    let few = marks_few p c.loop-j.j in
    let all : c.loop-mark.mark ≡ length (marks_of p.heads.now.items c.loop-j.j) =
    omega (arith, many, c.loop-mark-test.false, c.loop-mark.auto.mark-end) in
    below_past c.loop-mark.invariant (omega (arith, all, few)) (marks_past p j c.loop-mark.mark low all)

pub loop-j-2-init : goal.loop-j-2-init
loop-j-2-init c =
    let p = c.args.pass.now in
    let many = ap length c.deref-head-items.ensures.0 in
    let few = held_many p in
    below_past c.loop-j.invariant (omega (arith, c.loop-j.auto.j-end, many, few, p.ten))
    (λ q l u. heads_past p q (omega (arith, l, many, c.loop-j-test.false)) u)

pub loop-j-2-preserved : goal.loop-j-2-preserved
loop-j-2-preserved c =
    let p = c.args.pass.now in
    let l = c.loop-j-2 in
    elim c.if-pass-j-eq1.branch [
      | then-pass-j-eq1 w ↦ rw (w.places-is, w.push-then-pass-j-eq1.ensures.items)
          (below_next l.invariant
          (w.number-then-pass-j-eq1.ensures
          ∙ mod-eq_of_lt (omega (arith, p.ten, c.loop-j-2-test.true)))
          (omega arith) (omega (arith, p.ten, c.loop-j-2-test.true))
          (whole_stands p l.j w.if-pass-j-eq1.true))
      | else-pass-j-eq1 w ↦ rw w.places-is
          (below_past l.invariant (omega arith) (whole_stands_not p l.j w.if-pass-j-eq1.false))
    ]

pub returns : goal.returns
returns c =
    let p = c.args.pass.now in
    below_all (below_past c.loop-j-2.invariant
    (omega (arith, p.ten, c.loop-j-2.auto.j-end))
    (λ q l u. whole_past p q (omega (arith, l, c.loop-j-2-test.false)) u))
