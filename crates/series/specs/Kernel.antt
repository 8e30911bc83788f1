-- The fixed-point part of the recipe of sine and cosine. An angle is a whole number of units of 2^-59, a sine one of
-- units of 2^-61. Method: the angle is taken to the first quarter turn, where the sine is n times an alternating
-- polynomial in n², by Horner's rule with 11 coefficients, each product cut to its upper 64 bits. Error, against the
-- 40-term sums: below 2^-51 (measured 2^-53.9).
use Rattle.std.specs.Prelude.{ℕ, ◌-◌, ◌*◌, ◌/◌, ◌%◌, ◌^◌, min, List, [], ◌∷◌, Bool, cond, eqb}

-- A quarter turn, PI / 2 in units of 2^-59, rounded.
abbrev pub quarter : ℕ
quarter = 905502432259640355

-- The upper 64 of the 128 bits of a product.
abbrev pub mulhi : ℕ → ℕ → ℕ
mulhi a b = a * b / 2 ^ 64

-- 4^i / (2i+1)! in units of 2^-62, rounded, for i = 0 and for i from 1 to 10.
abbrev pub first_coefficient : ℕ
first_coefficient = 4611686018427387904

abbrev pub coefficients : List ℕ
coefficients =
    3074457345618258603 ∷ 614891469123651721 ∷ 58561092297490640 ∷ 3253394016527258 ∷ 118305236964628
    ∷ 3033467614478 ∷ 57780335514 ∷ 849710816 ∷ 9938138 ∷ 94649 ∷ []

-- c - z (c1 - z (c2 - ..)), each product cut
unfoldable pub horner : ℕ → List ℕ → ℕ → ℕ
horner c [] z = c
horner c (d ∷ cs) z = c - mulhi z (horner d cs z)

-- The sine of an angle n of the first quarter turn, before the cap; z is n² in units of 2^-62.
unfoldable pub raw_sine : ℕ → ℕ
unfolding horner
raw_sine n = mulhi (16 * n) (horner first_coefficient coefficients (mulhi (16 * n) (16 * n)))

-- No sine exceeds 1.
unfoldable pub quarter_sine : ℕ → ℕ
unfolding raw_sine
quarter_sine n = min (raw_sine n) (2 ^ 61)

-- The angle of the first quarter turn that has the sine of w up to sign: what w has beyond its quarter turns, taken
-- backward in every other one.
unfoldable pub reduced : ℕ → ℕ
reduced w = cond (eqb (w / quarter % 2) 0) (w % quarter) (quarter - w % quarter)

-- The sine of w is negative in every other half turn.
unfoldable pub half_turned : ℕ → Bool
half_turned w = eqb (w / quarter / 2 % 2) 1
