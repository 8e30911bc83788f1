-- A head as a circle: its centre and its radius, whole centimetres, as f64 (`x as f64`).
use Rattle.std.specs.Float.{binary64}
use Rattle.std.specs.Float.Ieee.{of_int}
use Rattle.heads.specs.declared.Head.{Head}
use Rattle.geometry.specs.declared.circle.Circle.{Circle}
use Rattle.geometry.specs.Circle.{around}
use Rattle.geometry.specs.Point.{at}

-- The circle of a head.
abbrev pub circle_of : Head → Circle
circle_of h = around (at (of_int binary64 h.x) (of_int binary64 h.y)) (of_int binary64 h.radius)
