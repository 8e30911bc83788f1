-- The angle as a float: within 2048 units of 2^-62 of the whole number of units, and at most PI. Rests on
-- proofs/fixed/Exit.antt.
use Rattle.std.proofs.Common.{◌≡◌, ℕ, ◌*◌, ◌^◌, ◌≤◌, pos, sym, refl}
use Rattle.std.proofs.Common.{ap, ◌∙◌, le_trans, le_of_eq, mul-le-mul_right, arith, lit<, lit≤, leb→le}
use lib.Ieee.{Float, binary64, of_bits, fits, mul, of_int, size}
use Rattle.binary64.specs.Units.{pow2, one, mag}
use Rattle.binary64.specs.Rounding.{rnd}
use Rattle.binary64.specs.Constants.{pi}
use Rattle.binary64.proofs.Units.{one_pos, mag_digits}
use Rattle.binary64.proofs.Rounding.{rnd_le, rnd_mono}
use Rattle.cells.specs.Arc.{half_turn}
use Rattle.elementary.specs.Arctangent.{angle_scale}
use Rattle.elementary.proofs.fixed.Literal.{Literal}
use Rattle.elementary.proofs.fixed.Exit.{Made, made}

-- 2^-62 in units
abbrev pub grain : ℕ
grain = pow2 1012

scale : Literal grain angle_scale
unfolding of_bits fits mag pow2
scale = record { finite = record { fit = tt; number = tt }; sign = refl; size = refl }

-- PI and the rounded half turn
pub pi_units : Literal (14488038916154245120 * grain) pi
unfolding of_bits fits mag pow2
pi_units = record { finite = record { fit = tt; number = tt }; sign = refl; size = refl }

half_turn_rounded : rnd (half_turn * one) 1 ≡ 14488038916154245120 * one
unfolding rnd pow2 size
half_turn_rounded = refl

-- the angle a × 2^-62, as a float
abbrev pub angle_of : ℕ → Float
angle_of a = mul binary64 (of_int binary64 (pos a)) angle_scale

module _ (a : ℕ) (small : a ≤ half_turn) where
  -- two roundings, each 1024 × 2^-62 at most
  pub angle_made : Made 10 1012 a (angle_of a)
  angle_made = made 10 1012 scale (lit≤ tt) (lit≤ tt) a (le_trans small (leb→le half_turn (2 ^ 64) tt))

  -- at most PI, since the rounded half turn is
  pub angle_most : mag (angle_of a) ≤ mag pi
  angle_most =
      le_trans (le_of_eq angle_made.size)
      (rnd_le (rnd (a * one) 1 * grain) one one_pos (mag_digits pi_units.finite)
      (le_trans
      (mul-le-mul_right grain
      (le_trans
      (rnd_mono (a * one) 1 (half_turn * one) 1 (lit< tt) (lit< tt) (mul-le-mul_right 1 (mul-le-mul_right one small)))
      (le_of_eq half_turn_rounded)))
      (le_of_eq ((omega arith) ∙ ap (λ (m : ℕ). m * one) (sym pi_units.size)))))
