-- The root of a float against any number of at most 53 digits, by squares, and that it is monotone: what the geometry
-- cites.
use Rattle.std.proofs.Common.{◌≡◌, ℕ, ◌+◌, ◌*◌, ◌^◌, ◌≤◌, true, leb, sym, ◌∙◌, subst, subst₂, arith, le→leb}
use lib.Ieee.{Float, le}
use lib.Ieee.Bits.{is_true}
use Rattle.binary64.specs.Units.{pow2, one, mag, plus, minus, Finite, Digits53}
use Rattle.binary64.specs.Magnitude.{Most, Least}
use Rattle.binary64.proofs.Units.{pow2_is, digits53, mag_digits, plus_minus, le_units}
use Rattle.elementary.specs.Root.{root}
use Rattle.elementary.proofs.root.Neighbours.{root_le, root_ge, root_mono}
use Rattle.elementary.proofs.root.Values.{root_finite, root_minus, root_mag}

module _ {x : Float} (f : Finite x) (m : minus x ≡ 0) where
  -- Where x is at most the square of v, its root is at most v;
  pub at_most : (v : ℕ) → Digits53 v → mag x * one ≤ v * v → mag (root x) ≤ v
  at_most v d h = subst (λ (r : ℕ). r ≤ v) (sym (root_mag f m)) (root_le (mag x) v (mag_digits f) d h)

  -- where it is at least the square of v, its root is at least v.
  pub at_least : (v : ℕ) → Digits53 v → v * v ≤ mag x * one → v ≤ mag (root x)
  at_least v d h = subst (λ (r : ℕ). v ≤ r) (sym (root_mag f m)) (root_ge (mag x) v (mag_digits f) d h)

  -- The same for v = c * 2 ^ a units.
  module _ (c a : ℕ) (l : c ≤ 2 ^ 53) where
    grid : Digits53 (c * pow2 a)
    grid = subst (λ (p : ℕ). Digits53 (c * p)) (sym (pow2_is a)) (digits53 c a l)

    pub root_most : mag x * one ≤ c * pow2 a * (c * pow2 a) → Most c a (root x)
    root_most h = record { finite = root_finite x f.fit; bound = at_most (c * pow2 a) grid h }

    pub root_least : c * pow2 a * (c * pow2 a) ≤ mag x * one → Least c a (root x)
    root_least h = record { finite = root_finite x f.fit; bound = at_least (c * pow2 a) grid h }

-- floats not below zero are ordered as their magnitudes
ordered : {x y : Float} → Finite x → Finite y → minus x ≡ 0 → minus y ≡ 0 → mag x ≤ mag y → le x y ≡ true
ordered {x} {y} f g m n h =
    le_units f g
    ∙ is_true (leb (plus x + minus y) (plus y + minus x))
    (le→leb (plus x + minus y) (plus y + minus x) (omega (arith, plus_minus x, plus_minus y)))

-- The same as comparisons of floats not below zero.
module _ {x y : Float} (f : Finite x) (g : Finite y) (m : minus x ≡ 0) (n : minus y ≡ 0) where
  pub root_le_float : mag x * one ≤ mag y * mag y → le (root x) y ≡ true
  root_le_float h = ordered (root_finite x f.fit) g (root_minus x f.fit) n (at_most f m (mag y) (mag_digits g) h)

  pub root_ge_float : mag y * mag y ≤ mag x * one → le y (root x) ≡ true
  root_ge_float h = ordered g (root_finite x f.fit) n (root_minus x f.fit) (at_least f m (mag y) (mag_digits g) h)

-- A larger number has no smaller root.
pub monotone : {x y : Float} → Finite x → Finite y → minus x ≡ 0 → minus y ≡ 0 → mag x ≤ mag y
    → mag (root x) ≤ mag (root y)
monotone {x} {y} f g m n h =
    subst₂ (λ (a b : ℕ). a ≤ b) (sym (root_mag f m)) (sym (root_mag g n))
    (root_mono (mag x) (mag y) (mag_digits f) (mag_digits g) h)
