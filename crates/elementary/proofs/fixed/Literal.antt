-- The constants of the recipes: numbers without the sign bit, in units of 2^-1074; and the test |x| ≤ y against such a
-- number.
use Rattle.std.proofs.Common.{◌≡◌, ℕ, ◌*◌, true, false, T, leb, sym, ap, ◌∙◌, subst, le→leb, leb→le}
use lib.Ieee.{Float, binary64, fits, le}
use lib.Ieee.Bits.{is_true}
use Rattle.binary64.specs.Units.{one, Finite, mag, negative}
use Rattle.binary64.specs.Functions.{absolute}
use Rattle.binary64.specs.Magnitude.{Most}
use Rattle.binary64.proofs.Functions.{absolute_number, absolute_test}

-- x is n units. With `unfolding of_bits fits mag pow2` all three parts compute.
pub record Literal (n : ℕ) (x : Float) : Type 0 where
  pub finite : Finite x
  pub sign : negative x ≡ false
  pub size : mag x ≡ n

-- |x| ≤ j, by the test and in units
module _ (j : ℕ) {y : Float} (l : Literal (j * one) y) {x : Float} where
  test_units : Finite x → le (absolute x) y ≡ leb (mag x) (j * one)
  test_units f = absolute_test f l.finite l.sign ∙ ap (leb (mag x)) l.size

  pub most_of_test : T (fits binary64 x) → le (absolute x) y ≡ true → Most j 1074 x
  most_of_test t e =
      let f = absolute_number x y t l.finite e in
      record { finite = f; bound = leb→le (mag x) (j * one) (subst T (sym e ∙ test_units f) tt) }

  pub test_of_most : Most j 1074 x → le (absolute x) y ≡ true
  test_of_most m = test_units m.finite ∙ is_true (leb (mag x) (j * one)) (le→leb (mag x) (j * one) m.bound)
