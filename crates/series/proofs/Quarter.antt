-- What the recipe's fixed-point sine is worth at every angle: its distance from the sums' polynomials is at most 442
-- units of 2^-61 (128 between the polynomials, 16 for the cut of the angle, 21 for the cut products, 277 for the cap).
-- Rests on Turns and Cap.
use mathlib.Core.Path.{◌≡◌, refl, sym, ap, ◌∙◌, subst}
use mathlib.Core.List.{List}
use mathlib.Core.Bool.{Bool, true, false, cond}
use Prim.Native.Nat.{ℕ, zero, suc, ◌+◌, ◌-◌, ◌*◌, ◌/◌, ◌%◌, ◌^◌, ◌≤◌, ◌<◌, min}
use native.Mathlib.Nat.{le_trans, le_of_lt, mul-le-mul_left, mul-le-mul_right, sub-le, div-add-mod', mod-lt}
use native.Mathlib.Omega.{arith}
use lib.ListN.{length}
use lib.Dec.{T, eqb, leb→le, eqb→eq}
use lib.IntN.{ℤ, pos, neg_ℤ-neg_ℤ}
use Rattle.series.specs.Kernel.{quarter, raw_sine, quarter_sine, reduced, half_turned}
use Rattle.series.specs.Fraction.{signed}
use Rattle.series.proofs.Integers.{neg-pos-⊖, pos-⊖, dist, dist-⊖, dist_trans}
use Rattle.series.proofs.Polynomial.{hval}
use Rattle.series.proofs.Alternating.{Stands}
use Rattle.series.proofs.Tests.{unit}
use Rattle.series.proofs.Exact.{exact_sine, raw_stands}
use Rattle.series.proofs.Turns.{flip, beyond, short, Waves}
use Rattle.series.proofs.Cap.{raw_cap}

-- ---- the recipe's angle

-- plus or minus, by the number of half turns
flip_signed : (j v : ℕ) → flip j (pos v) ≡ signed (eqb (j % 2) 1) v
unfolding flip
flip_signed zero v = refl
flip_signed (suc zero) v = refl
flip_signed (suc (suc j)) v =
    neg_ℤ-neg_ℤ (flip j (pos v)) ∙ flip_signed j v ∙ ap (λ (m : ℕ). signed (eqb m 1) v) (omega arith)

module _ (p : List ℤ) (p-length : length p ≡ 80) (o : ℕ) (waves : Waves p o) (w f y : ℕ) (w-small : w ≤ 2 ^ 63)
    (f-small : f ≤ y) where
  -- k quarter turns and r more, with o added
  by_parity : (k r : ℕ) → w + o * quarter ≡ k * quarter + r → r < quarter → (even : Bool) → eqb (k % 2) 0 ≡ even →
      dist (hval p (pos (w * y + f)) y) (flip (k / 2) (pos (y ^ 80 * exact_sine (cond even r (quarter - r))))) ≤ y ^ 80
      * (144 * unit)
  by_parity k r e l true t =
      beyond p p-length (k - o) r w f y f-small (k / 2)
      (waves (k - o) (k / 2) (base k o r w (eqb→eq (k % 2) 0 (subst T (sym t) tt)) e l) (few k o r w e w-small))
      (rest k o r w e l) l
    where
      base : (k o r w : ℕ) → k % 2 ≡ 0 → w + o * quarter ≡ k * quarter + r → r < quarter → k - o + o ≡ 2 * (k / 2)
      base k o r w h e l = omega arith

      few : (k o r w : ℕ) → w + o * quarter ≡ k * quarter + r → w ≤ 2 ^ 63 → k - o ≤ 11
      few k o r w e h = omega arith

      rest : (k o r w : ℕ) → w + o * quarter ≡ k * quarter + r → r < quarter → w ≡ (k - o) * quarter + r
      rest k o r w e l = omega arith
  by_parity k r e l false t =
      short p p-length (suc k - o) (quarter - r) w f y f-small (k / 2)
      (waves (suc k - o) (suc (k / 2)) (base k o r w (odd k t) e l) (few k o r w e w-small)) (rest k o r w e l)
      (above r l) (sub-le quarter r)
    where
      one_left : (m : ℕ) → m < 2 → eqb m 0 ≡ false → m ≡ 1
      one_left zero l t = absurd (subst T t tt)
      one_left (suc zero) l t = refl
      one_left (suc (suc m)) l t = omega arith

      odd : (k : ℕ) → eqb (k % 2) 0 ≡ false → k % 2 ≡ 1
      odd k t = one_left (k % 2) (omega arith) t

      base : (k o r w : ℕ) → k % 2 ≡ 1 → w + o * quarter ≡ k * quarter + r → r < quarter
          → suc k - o + o ≡ 2 * suc (k / 2)
      base k o r w h e l = omega arith

      few : (k o r w : ℕ) → w + o * quarter ≡ k * quarter + r → w ≤ 2 ^ 63 → suc k - o ≤ 11
      few k o r w e h = omega arith

      rest : (k o r w : ℕ) → w + o * quarter ≡ k * quarter + r → r < quarter → w + (quarter - r) ≡ (suc k - o) * quarter
      rest k o r w e l = omega arith

      above : (r : ℕ) → r < quarter → 0 < quarter - r
      above r l = omega arith

  -- what the recipe reduces the angle to, and its sign
  angle_near : dist (hval p (pos (w * y + f)) y)
      (signed (half_turned (w + o * quarter)) (y ^ 80 * exact_sine (reduced (w + o * quarter)))) ≤ y ^ 80 * (144 * unit)
  unfolding half_turned reduced
  angle_near =
      subst (λ (z : ℤ). dist (hval p (pos (w * y + f)) y) z ≤ y ^ 80 * (144 * unit))
      (flip_signed (W / quarter / 2)
      (y ^ 80 * exact_sine (cond (eqb (W / quarter % 2) 0) (W % quarter) (quarter - W % quarter))))
      (by_parity (W / quarter) (W % quarter) (sym (div-add-mod' W quarter)) (mod-lt W (leb→le 1 quarter tt))
      (eqb (W / quarter % 2) 0) refl)
    where
      W : ℕ
      W = w + o * quarter

-- the capped sine, against the exact polynomial: 298 units
capped_stands : (n : ℕ) → n ≤ quarter → Stands (quarter_sine n) (exact_sine n) unit 298
unfolding quarter_sine
capped_stands n l = record {
  above =
      le_trans (mul-le-mul_right unit (omega arith))
      (up (raw_sine n * unit) (exact_sine n) unit (raw_stands n l).above);
  below = omega (arith, (raw_stands n l).below, mul-le-mul_right unit (more (raw_sine n) (raw_cap n l)));
}
  where
    more : (r : ℕ) → r ≤ 2 ^ 61 + 277 → r ≤ min r (2 ^ 61) + 277
    more r h = omega arith

    up : (a E U : ℕ) → a ≤ E + 21 * U → a ≤ E + 298 * U
    up a E U h = omega arith

reduced_small : (w : ℕ) → reduced w ≤ quarter
unfolding reduced
reduced_small w = go (eqb (w / quarter % 2) 0) (w % quarter) (mod-lt w (leb→le 1 quarter tt))
  where
    go : (t : Bool) (r : ℕ) → r < quarter → cond t r (quarter - r) ≤ quarter
    go true r l = le_of_lt l
    go false r l = sub-le quarter r

-- signed numbers are as far apart as the numbers
pub dist_signed : (s : Bool) (a b e : ℕ) → a ≤ b + e → b ≤ a + e → dist (signed s a) (signed s b) ≤ e
dist_signed true a b e h k = simp (neg-pos-⊖, dist-⊖) (omega arith)
dist_signed false a b e h k = simp (pos-⊖, dist-⊖) (omega arith)

-- The recipe's fixed-point sine at the angle X / y, in units of 2^-59, against the polynomial: 442 units of 2^-61.
pub recipe_near : (p : List ℤ) → length p ≡ 80 → (o : ℕ) → Waves p o → (w f y : ℕ) → w ≤ 2 ^ 63 → f ≤ y →
    dist (hval p (pos (w * y + f)) y)
    (signed (half_turned (w + o * quarter)) (y ^ 80 * (quarter_sine (reduced (w + o * quarter)) * unit))) ≤ y ^ 80 *
    (442 * unit)
recipe_near p p-length o waves w f y h k =
    le_trans
    (dist_trans (hval p (pos (w * y + f)) y) (signed s (y ^ 80 * exact_sine n))
    (signed s (y ^ 80 * (quarter_sine n * unit))))
    (omega (
      arith,
      angle_near p p-length o waves w f y h k,
      dist_signed s (y ^ 80 * exact_sine n)
          (y ^ 80 * (quarter_sine n * unit)) (y ^ 80 * (298 * unit))
          (spread (y ^ 80) (exact_sine n) (quarter_sine n * unit) (298 * unit) stands.below)
          (spread (y ^ 80) (quarter_sine n * unit) (exact_sine n) (298 * unit) stands.above),
    ))
  where
    n : ℕ
    n = reduced (w + o * quarter)

    s : Bool
    s = half_turned (w + o * quarter)

    stands : Stands (quarter_sine n) (exact_sine n) unit 298
    stands = capped_stands n (reduced_small (w + o * quarter))

    spread : (Y a b c : ℕ) → a ≤ b + c → Y * a ≤ Y * b + Y * c
    spread Y a b c h = omega (arith, mul-le-mul_left Y h)
