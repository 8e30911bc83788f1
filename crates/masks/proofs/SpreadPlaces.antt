-- Where things go when heads are left out (specs/SpreadPlaces.antt).
use mathlib.Core.Path.{◌≡◌, refl, sym, ap, ap₂, ◌∙◌}
use mathlib.Core.Bool.{Bool, true, false, true≢false}
use mathlib.Core.List.{List}
use mathlib.Core.Logic.{◌⊎◌, inl, inr, ⊎_elim}
use Prim.Native.Nat.{ℕ, zero, suc, ◌+◌, ◌*◌, ◌/◌, ◌%◌, ◌^◌, ◌<◌}
use native.Mathlib.Nat.{eq-or-lt_of_le, le_of_suc-le-suc, mul_assoc}
use native.Mathlib.Omega.{arith}
use Rattle.lists.specs.Kept.{kept, all_but, place, kept_below}
use Rattle.lists.proofs.Kept.{all_but_place}
use Rattle.masks.specs.Gather.{gather_lt, gather_unique}
use Rattle.masks.specs.Mask.{in_set, gather}
use Rattle.masks.specs.Spread.{spread}
use Rattle.masks.proofs.Spread.{gather_kept}
use Rattle.masks.specs.SpreadPlaces.{OnePlace, OneBit, NamesLeftOut, IsSpread, EveryRow}

pub one_place : OnePlace
one_place = all_but_place

doubled : (k b : ℕ) → 2 ^ suc k * b ≡ 2 * (2 ^ k * b)
doubled k b = let p : 2 ^ suc k ≡ 2 * 2 ^ k = omega arith in ap (λ (n : ℕ). n * b) p ∙ mul_assoc 2 (2 ^ k) b

pub one_bit : OneBit
unfolding spread
one_bit zero low high h = omega arith
one_bit (suc k) low high h =
    let P = 2 ^ k * high in
    let even : 2 ^ suc k * high ≡ 2 * P = doubled k high in
    let first : (low + 2 ^ suc k * high) % 2 ≡ low % 2 = omega (arith, even) in
    let rest : (low + 2 ^ suc k * high) / 2 ≡ low / 2 + 2 ^ k * high = omega (arith, even) in
    ap₂ (λ (b T : ℕ). b + 2 * spread (all_but k) T) first rest
    ∙ ap (λ (r : ℕ). low % 2 + 2 * r) (one_bit k (low / 2) high (omega arith))
    ∙ omega (arith, doubled k high, doubled (suc k) high)

-- among the first n heads one is left out and named, or none is
some_named : (keeps : List Bool) (S n : ℕ)
    → NamesLeftOut keeps n S ⊎ ((i : ℕ) → i < n → kept keeps i ≡ false → in_set S i ≡ false)
some_named keeps S zero = inr (λ i h e. absurd (omega arith))
some_named keeps S (suc n) = by (some_named keeps S n) (kept keeps n) (in_set S n) refl refl
  where
    by : NamesLeftOut keeps n S ⊎ ((i : ℕ) → i < n → kept keeps i ≡ false → in_set S i ≡ false)
        → (a b : Bool) → kept keeps n ≡ a → in_set S n ≡ b
        → NamesLeftOut keeps (suc n) S ⊎ ((i : ℕ) → i < suc n → kept keeps i ≡ false → in_set S i ≡ false)
    by (inl r) a b e f =
        inl (record { head = r.head; below = omega (arith, r.below); left_out = r.left_out; named = r.named })
    by (inr none) false true e f = inl (record { head = n; below = omega arith; left_out = e; named = f })
    by (inr none) true b e f =
        inr (λ i h o. ⊎_elim (λ s. absurd (true≢false (sym e ∙ ap (kept keeps) (sym s) ∙ o))) (λ l. none i l o)
        (eq-or-lt_of_le (le_of_suc-le-suc h)))
    by (inr none) false false e f =
        inr (λ i h o. ⊎_elim (λ s. ap (in_set S) s ∙ f) (λ l. none i l o) (eq-or-lt_of_le (le_of_suc-le-suc h)))

pub every_row : EveryRow
every_row keeps n S h = by (some_named keeps S n)
  where
    by : NamesLeftOut keeps n S ⊎ ((i : ℕ) → i < n → kept keeps i ≡ false → in_set S i ≡ false)
        → IsSpread keeps n S ⊎ NamesLeftOut keeps n S
    by (inl r) = inr r
    by (inr none) =
        inl (record {
          mask = gather (kept_below keeps n) (λ j. in_set S (place keeps j));
          below = gather_lt (kept_below keeps n) (λ j. in_set S (place keeps j));
          same = gather_unique n S (in_set S) h (λ i l. refl) ∙ gather_kept keeps n (in_set S) none;
        })
