-- The fixed-point part of the recipe of atan2: the angle from 0 to an eighth of a turn that has a given tangent. A
-- tangent is a whole number of units of 2^-64, an angle one of units of 2^-62. Method: the angle is the tangent times
-- an alternating polynomial in its square, by Horner's rule with 22 coefficients, each product cut to its upper 64
-- bits. Error, as the residual sin - tangent × cos of the 40-term sums: below 2^-45 (measured 2^-52).
use Rattle.std.specs.Prelude.{◌≡◌, refl, ℕ, ◌+◌, ◌*◌, ◌/◌, ◌^◌, List, [], ◌∷◌}
use Rattle.series.specs.Kernel.{mulhi, horner}

-- The coefficients in units of 2^-63, about 1 / (2i+1), chosen for the least error from 0 to 1: the first, the twelfth,
-- those after each.
abbrev pub first_arc : ℕ
first_arc = 9223372036854775800

abbrev pub middle_arc : ℕ
middle_arc = 395024533151515007

abbrev pub later_arcs : List ℕ
later_arcs =
    351685421057711726 ∷ 301061589416868444 ∷ 239319809187185614 ∷ 169588636552604808 ∷ 102582479098485043
    ∷ 50588156996915501 ∷ 19282690888461833 ∷ 5283079048034907 ∷ 920345952552169 ∷ 76258801422460 ∷ []

abbrev pub arcs : List ℕ
arcs =
    3074457345618250711 ∷ 1844674407369678347 ∷ 1317624576611095641 ∷ 1024819112371996894 ∷ 838488306982283515
    ∷ 709489302659419780 ∷ 614882812031894717 ∷ 542486206537835675 ∷ 485066708308610664 ∷ 437529649618516332
    ∷ middle_arc ∷ later_arcs

-- The angle whose tangent is n / 2^64.
unfoldable pub arc : ℕ → ℕ
unfolding horner
arc n = mulhi n (horner first_arc arcs (mulhi n n)) / 2

-- A quarter turn and a half turn, PI / 2 and PI in units of 2^-62, rounded to the nearest.
abbrev pub quarter_turn : ℕ
quarter_turn = 7244019458077122842

abbrev pub half_turn : ℕ
half_turn = 14488038916154245685

-- From the decimal of PI.
pub turns_are :
    (quarter_turn ≡ (314159265358979323846264338327950288 * 2 ^ 62 + 10 ^ 35) / (2 * 10 ^ 35))
    × (half_turn ≡ (314159265358979323846264338327950288 * 2 ^ 63 + 10 ^ 35) / (2 * 10 ^ 35))
turns_are = (refl, refl)
