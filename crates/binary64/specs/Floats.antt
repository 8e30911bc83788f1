-- The operations and comparisons of f64 as infix names. Rests on lib.Ieee.
use Rattle.std.specs.Prelude.{Bool}
use lib.Ieee.{Float, binary64, add, sub, mul, div, lt, le, eq}

infixl 6 ◌+ᶠ◌ ◌-ᶠ◌
infixl 7 ◌*ᶠ◌ ◌/ᶠ◌
infix 4 ◌<ᶠ◌ ◌≤ᶠ◌ ◌=ᶠ◌
abbrev pub ◌+ᶠ◌ : Float → Float → Float
x +ᶠ y = add binary64 x y

abbrev pub ◌-ᶠ◌ : Float → Float → Float
x -ᶠ y = sub binary64 x y

abbrev pub ◌*ᶠ◌ : Float → Float → Float
x *ᶠ y = mul binary64 x y

abbrev pub ◌/ᶠ◌ : Float → Float → Float
x /ᶠ y = div binary64 x y

abbrev pub ◌<ᶠ◌ : Float → Float → Bool
x <ᶠ y = lt x y

abbrev pub ◌≤ᶠ◌ : Float → Float → Bool
x ≤ᶠ y = le x y

-- Equal as floats are: +0 equals -0, and a NaN equals nothing.
abbrev pub ◌=ᶠ◌ : Float → Float → Bool
x =ᶠ y = eq x y
