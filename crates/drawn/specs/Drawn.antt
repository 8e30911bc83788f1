-- A plan drawn: the circles of its heads and its box, whole centimetres as f64 (`x as f64`). What rows are worked out
-- from.
use Rattle.std.specs.Prelude.{List, map, take}
use Rattle.std.specs.Float.{binary64}
use Rattle.std.specs.Float.Ieee.{of_int}
use Rattle.plan.specs.declared.Ground.{Ground}
use Rattle.plan.specs.declared.Plan.{Plan}
use Rattle.geometry.specs.Point.{at}
use Rattle.geometry.specs.Rectangle.{around}
use Rattle.geometry.specs.declared.circle.Circle.{Circle}
use Rattle.geometry.specs.declared.rectangle.Rectangle.{Rectangle}
use Rattle.exact.specs.Circle.{circle_of}

-- the circles of a plan's heads
unfoldable pub plan_circles : Plan → List Circle
plan_circles p = take p.n (map circle_of p.heads)

-- the box of a plan's ground, by its centre
unfoldable pub box_of : Ground → Rectangle
box_of g = around (at (of_int binary64 g.x) (of_int binary64 g.y)) (of_int binary64 g.width) (of_int binary64 g.height)
