-- The computed tests: the 40-term sums, shifted by quarter turns, against plus or minus the polynomial that the recipe
-- evaluates.
use mathlib.Core.Path.{◌≡◌}
use mathlib.Core.List.{List, [], ◌∷◌}
use mathlib.Core.Bool.{Bool, true, ◌&&◌}
use Prim.Native.Nat.{ℕ, zero, suc, ◌+◌, ◌*◌, ◌^◌, ◌<◌}
use native.Mathlib.Nat.{mul-zero, add-zero, le_of_suc-le-suc}
use native.Mathlib.Omega.{arith}
use lib.Ieee.Fits.{and_l, and_r}
use lib.ListN.{replicate}
use lib.Dec.{T, leb}
use lib.IntN.{ℤ, pos}
use Rattle.series.specs.Kernel.{quarter, first_coefficient, coefficients}
use Rattle.series.specs.Taylor.{factorial, sign}
use Rattle.series.proofs.Integers.{dist}
use Rattle.series.proofs.Polynomial.{nval, shift, dists, sizes, slope, finer}
use Rattle.series.proofs.Alternating.{negated, alternating}
use Rattle.series.proofs.Sums.{rising, sin_from, cos_from, sin79, cos79}

-- The sums over angles in units of 2^-59, 79! 2^4720 times as large.
unfoldable pub sine : List ℤ
unfolding finer sin79
sine = finer (2 ^ 59) sin79

unfoldable pub cosine : List ℤ
unfolding finer cos79
cosine = finer (2 ^ 59) cos79

-- 2^-61 in that scale, and the scale of the last coefficient
unfoldable pub grain : ℕ
unfolding factorial
grain = factorial 79 * 2 ^ 3399

unfoldable pub unit : ℕ
unfolding grain
unit = grain * 2 ^ 60 * (2 ^ 120) ^ 10

-- The polynomial of the recipe, exact, in the same scale: the angle times an alternating polynomial in its square.
unfoldable pub alternating_part : List ℤ
unfolding alternating grain
alternating_part = alternating grain (2 ^ 120) (replicate 57 (pos 0)) (first_coefficient ∷ coefficients)

unfoldable pub recipe : List ℤ
recipe = pos 0 ∷ alternating_part

-- No sine exceeds 1: a quarter turn on, the sine is 2^61 - t² (..), with the coefficients 4^i / (2i)! of the cosine in
-- units of 2^-61, rounded.
abbrev pub summit_first : ℕ
summit_first = 4611686018427387904

abbrev pub summit_coefficients : List ℕ
summit_coefficients =
    1537228672809129301 ∷ 204963823041217240 ∷ 14640273074372660 ∷ 650678803305452 ∷ 19717539494105
    ∷ 433352516354 ∷ 7222541939 ∷ 94412313 ∷ 993814 ∷ []

unfoldable pub summit_rest : List ℤ
unfolding alternating grain
summit_rest = alternating (grain * 2 ^ 60) (2 ^ 120) (replicate 58 (pos 0)) (summit_first ∷ summit_coefficients)

unfoldable pub summit : List ℤ
unfolding negated
summit = pos (2 ^ 61 * unit) ∷ pos 0 ∷ negated summit_rest

-- (-1)^h q
unfoldable pub turned : ℕ → List ℤ → List ℤ
unfolding negated
turned zero q = q
turned (suc h) q = negated (turned h q)

-- b quarter turns on, p is near q: for every angle up to a quarter turn either way, within 128 units of 2^-61
unfoldable pub near : List ℤ → ℕ → List ℤ → Bool
unfolding nval dists shift unit
near p b q = leb (nval (dists (shift p (b * quarter)) q) quarter 1) (128 * unit)

-- n of these tests: b, b + 2, .. quarter turns on, with alternate signs from (-1)^h on
unfoldable pub nears : List ℤ → ℕ → ℕ → ℕ → Bool
unfolding near turned recipe
nears p b h zero = true
nears p b h (suc n) = near p b (turned h recipe) && nears p (b + 2) (suc h) n

pub sine_nears : T (nears sine 0 0 6)
unfolding nears near recipe alternating_part turned sine rising factorial sign sin_from sin79 finer negated alternating
    dist
sine_nears = tt

pub cosine_nears : T (nears cosine 1 1 6)
unfolding nears near recipe alternating_part turned cosine rising factorial sign cos_from cos79 finer negated
    alternating dist
cosine_nears = tt

pub sine_summit : T (near sine 1 summit)
unfolding near summit summit_rest sine rising factorial sign sin_from sin79 finer negated alternating dist
sine_summit = tt

pub recipe_slope : T (leb (slope (sizes recipe) quarter 1) (16 * unit))
unfolding recipe alternating_part slope sizes nval unit grain factorial negated alternating
recipe_slope = tt

-- one of them
pub nears_at : (p : List ℤ) (b h n i : ℕ) → T (nears p b h n) → i < n → T (near p (b + 2 * i) (turned (h + i) recipe))
unfolding nears
nears_at p b h zero i t l = absurd (omega arith)
nears_at p b h (suc n) zero t l =
    simp (mul-zero, add-zero) (and_l (near p b (turned h recipe)) (nears p (b + 2) (suc h) n) t)
nears_at p b h (suc n) (suc i) t l =
    rw (two_more b i, one_more h i)
    (nears_at p (b + 2) (suc h) n i (and_r (near p b (turned h recipe)) (nears p (b + 2) (suc h) n) t)
    (le_of_suc-le-suc l))
  where
    two_more : (b i : ℕ) → b + 2 * suc i ≡ b + 2 + 2 * i
    two_more b i = omega arith

    one_more : (h i : ℕ) → h + suc i ≡ suc h + i
    one_more h i = omega arith
