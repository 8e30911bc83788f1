-- Points whose coordinates are finite and bounded, and points that are not a given one.
use Rattle.std.specs.Prelude.{List, [], ◌∷◌, ◌⊎◌, ◌<◌}
use Rattle.binary64.specs.Floats.{◌-ᶠ◌}
use Rattle.binary64.specs.Magnitude.{Most}
use Rattle.binary64.specs.Units.{mag}
use Rattle.geometry.specs.declared.point.Point.{Point}

-- Both coordinates are finite and at most 80000 from zero.
pub record Placed (p : Point) : Type 0 where
  pub x : Most 80000 1074 p.x
  pub y : Most 80000 1074 p.y

-- Each point of a list is so placed.
abbrev pub AllPlaced : List Point → Type 0
AllPlaced [] = Unit {0}
AllPlaced (p ∷ rest) = Placed p × AllPlaced rest

-- p is not the point c: one of the differences of their coordinates, which atan2 is handed for the angle of p about c,
-- is not a zero
abbrev pub Off : Point → Point → Type 0
Off c p = (0 < mag (p.x -ᶠ c.x)) ⊎ (0 < mag (p.y -ᶠ c.y))

-- No point of a list is c.
abbrev pub AllOff : Point → List Point → Type 0
AllOff c [] = Unit {0}
AllOff c (p ∷ rest) = Off c p × AllOff c rest
