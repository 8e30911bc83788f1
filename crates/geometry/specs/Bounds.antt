-- The extents of a box along each axis (bounds.rs).
use Rattle.std.specs.Prelude.{Float}
use Rattle.geometry.specs.declared.bounds.Bounds.{Bounds}

-- The box from x_min to x_max and from y_min to y_max.
abbrev pub extents : Float → Float → Float → Float → Bounds
extents a b c d = record { x_min = a; x_max = b; y_min = c; y_max = d }
