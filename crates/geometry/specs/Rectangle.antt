-- A box by its centre and its sides (rectangle.rs): its area and its bounds.
use Rattle.std.specs.Prelude.{Float}
use Rattle.binary64.specs.Constants.{two64}
use Rattle.binary64.specs.Floats.{◌+ᶠ◌, ◌-ᶠ◌, ◌*ᶠ◌, ◌/ᶠ◌}
use Rattle.geometry.specs.Bounds.{extents}
use Rattle.geometry.specs.declared.bounds.Bounds.{Bounds}
use Rattle.geometry.specs.declared.point.Point.{Point}
use Rattle.geometry.specs.declared.rectangle.Rectangle.{Rectangle}

-- The box with this centre, width and height.
abbrev pub around : Point → Float → Float → Rectangle
around c w h = record { center = c; width = w; height = h }

-- Width times height.
abbrev pub area : Rectangle → Float
area b = b.width *ᶠ b.height

-- Half a side each way from the centre.
abbrev pub bounds : Rectangle → Bounds
bounds b =
    let half_width = b.width /ᶠ two64 in
    let half_height = b.height /ᶠ two64 in
    extents (b.center.x -ᶠ half_width) (b.center.x +ᶠ half_width) (b.center.y -ᶠ half_height) (b.center.y +ᶠ half_height)
