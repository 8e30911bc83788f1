-- Rounding to binary64 over natural numbers alone: the fraction a / c, in units, kept to 53 binary digits. Rests on
-- lib.Ieee.{Nearest, Order}, whose `closest` rounds a fraction to the nearest whole number, a tie to the even one.
use Rattle.std.specs.Prelude.{◌≡◌, ℕ, ◌+◌, ◌-◌, ◌*◌, ◌^◌, ◌<◌, ◌≤◌, Bool, true, false}
use lib.Ieee.{Float, binary64, round}
use Rattle.std.specs.Float.Ieee.Order.{drop, kept}
use Rattle.binary64.specs.Units.{one, plus, minus}

-- Of the whole part of a / c all but 53 leading digits are dropped; the rest is rounded to the nearest.
unfoldable pub rnd : ℕ → ℕ → ℕ
rnd a c = kept 53 a c * 2 ^ drop 53 a c

-- z is (p - n) / c units, rounded.
pub record Rounded (z : Float) (p n c : ℕ) : Type 0 where
  pub up : plus z ≡ rnd (p - n) c
  pub down : minus z ≡ rnd (n - p) c

-- z is within h units of (p - n) / c. Both sides are multiplied by c, so that the bounds are linear in the units of z.
pub record Near (z : Float) (p n c h : ℕ) : Type 0 where
  pub over : plus z * c + n ≤ minus z * c + p + h * c
  pub under : minus z * c + p ≤ plus z * c + n + h * c

-- z is what binary64 makes of (p - n) / c units, a NaN excepted: finite, or an infinity. Its sign is `minus?`, and |p -
-- n| is `size`; `top` / `bottom` is the fraction size / c in numbers, not in units, which was handed to `round`.
pub record Result (z : Float) (p n c : ℕ) : Type 0 where
  pub minus? : Bool
  pub size : ℕ
  pub top : ℕ
  pub bottom : ℕ
  pub rounds : z ≡ round binary64 minus? top bottom
  pub proper : 0 < bottom
  pub scaled : top * one * c ≡ size * bottom
  pub above : minus? ≡ false → p ≡ n + size
  pub below : minus? ≡ true → n ≡ p + size
