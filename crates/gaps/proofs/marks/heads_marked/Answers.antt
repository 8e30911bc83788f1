-- `marks::heads_marked`: a head more, marked or not.
use mathlib.Core.Path.{◌∙◌}
use Rattle.gaps.proofs.Marking.{heads_with, heads_without, unmarked_is}
use Rattle.gaps.proofs.marks.heads_marked.Goals as goal
use Rattle.gaps.proofs.marks.heads_marked.Goals.{then-needed-j-eq1, else-needed-j-eq1}

pub loop-j-preserved : goal.loop-j-preserved
loop-j-preserved c =
    let a = c.args in
    let d = c.default-marked.ensures in
    c.push.ensures.items
    ∙ elim c.if-needed-j-eq1.branch [
      | then-needed-j-eq1 w ↦ rw (w.marked-is, w.mark.ensures, c.loop-j.invariant)
          (heads_with c.first_ten-circles.result.now a.points.now a.needed c.loop-j.j w.if-needed-j-eq1.true)
      | else-needed-j-eq1 w ↦ rw (w.marked-is, unmarked_is d.0 d.1, c.loop-j.invariant)
          (heads_without c.first_ten-circles.result.now a.points.now a.needed c.loop-j.j w.if-needed-j-eq1.false)
    ]
