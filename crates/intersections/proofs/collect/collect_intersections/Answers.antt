-- `collect::collect_intersections`: held are the points of the heads below i, and those of head i with the heads below j.
use mathlib.Core.Path.{◌∙◌, ap}
use native.Mathlib.Omega.{arith}
use Rattle.intersections.specs.Points.{collected}
use Rattle.intersections.proofs.Collecting.{rows_none, row_room, row_start, row_on, row_end, rows_end}
use Rattle.intersections.proofs.collect.collect_intersections.Goals as goal

pub loop-i-init : goal.loop-i-init
loop-i-init c = rows_none _ c.new-found.ensures

pub loop-j-init : goal.loop-j-init
loop-j-init c = row_start _ _ c.loop-i.invariant

pub push_points-requires : goal.push_points-requires
push_points-requires c =
    rw c.loop-j.invariant (row_room c.first_ten-heads.result.now c.loop-i.i c.loop-j.j c.first_ten-heads.ensures.most
    (omega arith) (omega arith))

pub loop-j-preserved : goal.loop-j-preserved
loop-j-preserved c =
    let pair = c.new.ensures in
    let pushed = rw (pair.0, pair.1, pair.2) at c.push_points.ensures in
    row_on _ _ c.loop-j.j (omega arith) pushed c.loop-j.invariant

pub loop-i-preserved : goal.loop-i-preserved
loop-i-preserved c = row_end _ _ c.loop-j.j (omega arith) c.loop-j.invariant

pub returns : goal.returns
returns c =
    rows_end _ c.loop-i.i (omega arith) (omega arith) c.loop-i.invariant ∙ ap collected c.first_ten-heads.ensures.value
