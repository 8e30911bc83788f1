-- Identical heads, of which no two have a meeting point. Document 01: "containment still makes the row, and the lower index owns the arc." What is
-- claimed of their outline, and proved in proofs/Identical.antt.
use Rattle.std.specs.Prelude.{◌≡◌, List, [], ◌∷◌, ◌++◌, ℕ, suc, ◌+◌, ◌≤◌, ℤ, pos, nat_abs, length}
use Rattle.std.specs.Float.{binary64}
use Rattle.std.specs.Float.Ieee.{of_int}
use Rattle.geometry.specs.Circle.{around}
use Rattle.geometry.specs.Point.{at}
use Rattle.geometry.specs.declared.circle.Circle.{Circle}
use Rattle.intersections.specs.Members.{Member}
use Rattle.boundary.specs.NoArc.{NoneOf}
use Rattle.boundary.specs.Outline.{full_circle, outline}

-- the circle of a head: whole centimetres as f64 (`circle_of` of `exact`)
abbrev pub whole_circle : ℤ → ℤ → ℕ → Circle
whole_circle x y r = around (at (of_int binary64 x) (of_int binary64 y)) (of_int binary64 (pos r))

-- a member with no point counted for it
abbrev pub unmet : Circle → Member
unmet c = record { circle = c; points = [] }

-- Of two heads within the limits, not closed, that are identical:
pub record Identical (c : Circle) : Type 0 where
  -- the outline of the pair alone, without points, is the full circle of the lower one;
  pub pair : outline (unmet c ∷ unmet c ∷ []) ≡ full_circle 0 c ∷ []
  -- in any set that has both, the higher one gets no arc where no point is counted for it, whatever points the lower one, l, has.
  pub higher : (before between after : List Member) (l : Member) → l.circle ≡ c
      → NoneOf (length before + suc (length between)) (outline (before ++ (l ∷ (between ++ (unmet c ∷ after)))))

abbrev pub LowerOwns : Type 0
LowerOwns = (x y : ℤ) (r : ℕ) → nat_abs x ≤ 20000 → nat_abs y ≤ 20000 → 1 ≤ r → r ≤ 20000 → Identical (whole_circle x y r)
