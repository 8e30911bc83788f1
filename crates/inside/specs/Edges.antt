-- The four edges of the box, counterclockwise from the bottom, and what is read of each.
use Rattle.std.specs.Prelude.{ℕ, Bool, true, false, List, [], ◌∷◌, Float}
use Rattle.std.specs.Float.Ieee.{neg}
use Rattle.binary64.specs.Floats.{◌-ᶠ◌}
use Rattle.geometry.specs.declared.bounds.Bounds.{Bounds}
use Rattle.geometry.specs.declared.circle.Circle.{Circle}
use Rattle.inside.specs.Span.{Interval, horizontal_span, vertical_span}
use Rattle.inside.specs.declared.edges.BoxEdge.{BoxEdge}
use Rattle.inside.specs.declared.edges.BoxEdge.TheVariants.{Bottom, Right, Top, Left}

-- the edges in their order
abbrev pub box_edges : List BoxEdge
box_edges = Bottom ∷ Right ∷ Top ∷ Left ∷ []

-- the number of an edge
abbrev pub edge_number : BoxEdge → ℕ
edge_number Bottom = 0
edge_number Right = 1
edge_number Top = 2
edge_number Left = 3

-- the vertical edges
abbrev pub is_upright : BoxEdge → Bool
is_upright Bottom = false
is_upright Right = true
is_upright Top = false
is_upright Left = true

-- the edges whose outward side is that of greater x or y
abbrev pub is_outward : BoxEdge → Bool
is_outward Bottom = false
is_outward Right = true
is_outward Top = true
is_outward Left = false

-- the x of a vertical edge, the y of a horizontal one
abbrev pub line_of : Bounds → BoxEdge → Float
line_of box Bottom = box.y_min
line_of box Right = box.x_max
line_of box Top = box.y_max
line_of box Left = box.x_min

-- where an edge begins
abbrev pub from_of : Bounds → BoxEdge → Float
from_of box Bottom = box.x_min
from_of box Right = box.y_min
from_of box Top = box.x_min
from_of box Left = box.y_min

-- where it ends
abbrev pub to_of : Bounds → BoxEdge → Float
to_of box Bottom = box.x_max
to_of box Right = box.y_max
to_of box Top = box.x_max
to_of box Left = box.y_max

-- the factor of an edge's length in the area
abbrev pub factor_of : Bounds → BoxEdge → Float
factor_of box Bottom = neg box.y_min
factor_of box Right = box.x_max
factor_of box Top = box.y_max
factor_of box Left = neg box.x_min

-- how far the box reaches across an edge's line
abbrev pub across_of : Bounds → BoxEdge → Float
across_of box Bottom = box.y_max -ᶠ box.y_min
across_of box Right = box.x_max -ᶠ box.x_min
across_of box Top = box.y_max -ᶠ box.y_min
across_of box Left = box.x_max -ᶠ box.x_min

-- the span of an edge
abbrev pub edge_span : Bounds → BoxEdge → List Circle → List Interval
edge_span box Bottom = horizontal_span box.y_min box.x_min box.x_max
edge_span box Right = vertical_span box.x_max box.y_min box.y_max
edge_span box Top = horizontal_span box.y_max box.x_min box.x_max
edge_span box Left = vertical_span box.x_min box.y_min box.y_max
