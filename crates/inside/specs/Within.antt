-- What the test that saves a point says: numbers up to r from another stay near a side of the box, rounded too.
use Rattle.std.specs.Prelude.{true, ◌≡◌, Float}
use Rattle.binary64.specs.Floats.{◌+ᶠ◌, ◌*ᶠ◌}
use Rattle.binary64.specs.Magnitude.{Most}
use Rattle.inside.specs.Parts.{near_side}

-- v and a share of r, a whole one at most, on either side of it
abbrev pub StaysNear : Float → Float → Float → Float → Type 0
StaysNear low high v r = (d : Float) → Most 1 1074 d → near_side low high (v +ᶠ r *ᶠ d) ≡ true
