-- What `contains` of a range answers at floats: two comparisons.
use Rattle.std.proofs.Common.{◌≡◌, refl, Bool, true, false, ◌||◌, cond, Some, None, Float}
use Rattle.std.specs.Ordering.{partial_le, float_partial_cmp, is_some_and, is_le}
use Rattle.std.specs.declared.cmp.Ordering.TheVariants.{Less, Equal, Greater}
use lib.Ieee.{lt, eq, le}
use Rattle.binary64.specs.Floats.{◌≤ᶠ◌}

pub at_most : (x y : Float) → partial_le float_partial_cmp x y ≡ (x ≤ᶠ y)
unfolding le
at_most x y = by (lt x y) (eq x y) (lt y x)
  where
    by : (less equal greater : Bool)
        → is_some_and is_le (cond less (Some Less) (cond equal (Some Equal) (cond greater (Some Greater) None)))
        ≡ (less || equal)
    by true equal greater = refl
    by false true greater = refl
    by false false true = refl
    by false false false = refl
