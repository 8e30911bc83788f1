-- `members::angles_for`: the law of one point more is Counting's.
use mathlib.Core.Path.{refl, sym, ◌∙◌}
use native.Mathlib.Omega.{arith}
use native.Mathlib.Numerals.{add-one}
use lib.ListN.{take, get_or}
use lib.Seq.{take-suc, take_all}
use Rattle.intersections.specs.Members.{no_point}
use Rattle.boundary.proofs.Counting.{angles_with, angles_none, points_without}
use Rattle.boundary.proofs.members.angles_for.Goals as goal
use Rattle.boundary.proofs.members.angles_for.Goals.{then-counted_for, else-counted_for}

pub loop-q-init : goal.loop-q-init
loop-q-init c = c.new-list.ensures ∙ sym (angles_none c.args.member.circle c.args.mask c.args.member.head)

pub loop-q-preserved : goal.loop-q-preserved
loop-q-preserved c =
    let a = c.args in
    let l = c.loop-q in
    let q = get_or a.points.now l.q-index no_point in
    let counted = sym c.counted_for.ensures in
    rw (add-one l.q-index, take-suc a.points.now l.q-index no_point (omega arith))
    (elim c.if-counted_for.branch [
      | then-counted_for w ↦ rw (w.list-is, w.insert_angle.ensures, w.angle_about.ensures)
          (angles_with a.member.circle a.mask a.member.head (take l.q-index a.points.now) q _ _ (counted ∙ w.if-counted_for.true) refl l.invariant)
      | else-counted_for w ↦ rw (w.list-is, points_without a.mask a.member.head (take l.q-index a.points.now) q (counted ∙ w.if-counted_for.false)) l.invariant
    ])

pub returns : goal.returns
returns c =
    let all = take_all c.loop-q.q-index c.args.points.now (omega arith) in
    rw all at c.loop-q.invariant
