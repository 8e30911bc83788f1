-- Points and their distance (point.rs). Rests on hypot of elementary, of which only the name is used.
use Rattle.std.specs.Prelude.{Float}
use Rattle.elementary.specs.Root.{hypot}
use Rattle.binary64.specs.Floats.{◌+ᶠ◌, ◌-ᶠ◌, ◌*ᶠ◌}
use Rattle.geometry.specs.declared.point.Point.{Point}

-- The point with these coordinates.
abbrev pub at : Float → Float → Point
at x y = record { x = x; y = y }

-- Document 01's `distance`: hypot of the differences.
abbrev pub distance : Point → Point → Float
distance p q = hypot (p.x -ᶠ q.x) (p.y -ᶠ q.y)

-- its square before the root is taken, as rounded
unfoldable pub squared_distance : Point → Point → Float
squared_distance p q = let dx = p.x -ᶠ q.x in let dy = p.y -ᶠ q.y in dx *ᶠ dx +ᶠ dy *ᶠ dy
