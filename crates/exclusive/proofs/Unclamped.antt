-- Document 01's sentence on exclusive areas as an equation: from the area of a row the unclamped exclusives of its
-- present strict supersets. And a row below 2^n looks at presence and areas below 2^n only.
use mathlib.Core.Path.{◌≡◌, refl, sym, ap, ap₂, ◌∙◌, fun_ext}
use mathlib.Core.Bool.{Bool, cond}
use mathlib.Core.List.{List, [], ◌∷◌}
use Prim.Native.Nat.{ℕ, zero, suc, ◌+◌, ◌^◌, ◌≤◌, ◌<◌}
use native.Mathlib.Omega.{arith}
use lib.Count.{ones, ones-le}
use lib.Ieee.{Float}
use Rattle.lists.specs.Lists.{keep}
use Rattle.lists.proofs.Lists.{up_to_cong}
use Rattle.lists.specs.Every.{Every, every_kept}
use Rattle.masks.specs.Mask.{strict_subset}
use Rattle.masks.specs.Size.{strict_more}
use Rattle.binary64.specs.Constants.{zero64}
use Rattle.binary64.specs.Functions.{clamp_to_zero}
use Rattle.binary64.specs.Floats.{◌+ᶠ◌, ◌-ᶠ◌}
use Rattle.exclusive.specs.RowOrder.{rows_of, row_order}
use Rattle.exclusive.specs.Exclusive.{sum_onto, above, subtracted, unclamped, exclusive_row, UnclampedIs}
use Rattle.exclusive.proofs.RowOrder.{every_row}

-- a sum over rows at which two functions agree
pub sum_same : (f g : ℕ → Float) (sum : Float) (l : List ℕ) → Every (λ T. f T ≡ g T) l
    → sum_onto f sum l ≡ sum_onto g sum l
unfolding sum_onto
sum_same f g sum [] e = refl
sum_same f g sum (T ∷ l) e = ap (λ (x : Float). sum_onto f (sum +ᶠ x) l) e.0 ∙ sum_same f g (sum +ᶠ g T) l e.1

none : (l : List ℕ) → Every (λ T. ⊥) l → l ≡ []
none [] e = refl
none (T ∷ l) e = absurd e.0

module _ (n : ℕ) (present : ℕ → Bool) where
  -- a row above S is a mask of the table with more heads
  pub above_every : (S : ℕ) → S < 2 ^ n → (Q : ℕ → Type 0) → ((T : ℕ) → T < 2 ^ n → ones S < ones T → Q T)
      → Every Q (above n present S)
  unfolding above
  above_every S hs Q h =
      every_kept (λ T. T < 2 ^ n) Q (strict_subset n S) (row_order present n)
      (every_row present (λ T. T < 2 ^ n) n (λ T k p. k))
      (λ T k e. h T k (strict_more n S T hs e))

  -- as many levels as there are supersets of more and more heads are enough
  nothing_above : (S : ℕ) → S < 2 ^ n → n ≤ ones S → above n present S ≡ []
  nothing_above S hs h = none (above n present S) (above_every S hs (λ T. ⊥) (λ T l m. omega (arith, ones-le n T l)))

  module _ (area : ℕ → Float) where
    deep : (d e S : ℕ) → S < 2 ^ n → n ≤ d + ones S → n ≤ e + ones S
        → subtracted n present area d S ≡ subtracted n present area e S
    unfolding subtracted sum_onto
    deep zero zero S hs h k = refl
    deep zero (suc e) S hs h k =
        sym (ap (sum_onto (λ T. area T -ᶠ subtracted n present area e T) zero64) (nothing_above S hs (omega arith)))
    deep (suc d) zero S hs h k =
        ap (sum_onto (λ T. area T -ᶠ subtracted n present area d T) zero64) (nothing_above S hs (omega arith))
    deep (suc d) (suc e) S hs h k =
        sum_same (λ T. area T -ᶠ subtracted n present area d T) (λ T. area T -ᶠ subtracted n present area e T) zero64
        (above n present S)
        (above_every S hs (λ T. area T -ᶠ subtracted n present area d T ≡ area T -ᶠ subtracted n present area e T)
        (λ T l m. ap (λ (x : Float). area T -ᶠ x) (deep d e T l (omega arith) (omega arith))))

  module _ (f g : ℕ → Float) (same : (T : ℕ) → T < 2 ^ n → f T ≡ g T) where
    subtracted_cong : (d S : ℕ) → S < 2 ^ n → subtracted n present f d S ≡ subtracted n present g d S
    unfolding subtracted
    subtracted_cong zero S hs = refl
    subtracted_cong (suc d) S hs =
        sum_same (λ T. f T -ᶠ subtracted n present f d T) (λ T. g T -ᶠ subtracted n present g d T) zero64
        (above n present S)
        (above_every S hs (λ T. f T -ᶠ subtracted n present f d T ≡ g T -ᶠ subtracted n present g d T)
        (λ T l m. ap₂ ◌-ᶠ◌ (same T l) (subtracted_cong d T l)))

    pub unclamped_cong : (S : ℕ) → S < 2 ^ n → unclamped n present f S ≡ unclamped n present g S
    unfolding unclamped
    unclamped_cong S hs = ap₂ ◌-ᶠ◌ (same S hs) (subtracted_cong n S hs)

module _ (n : ℕ) (present present' : ℕ → Bool) (same : (S : ℕ) → S < 2 ^ n → present S ≡ present' S) where
  order_same : row_order present n ≡ row_order present' n
  unfolding row_order rows_of
  order_same = up_to_cong _ _ (suc n) (λ c h. up_to_cong _ _ (2 ^ n) (λ S k. rw (same S k)))

  above_same : (S : ℕ) → above n present S ≡ above n present' S
  unfolding above
  above_same S = ap (keep (strict_subset n S)) order_same

  subtracted_same : (area : ℕ → Float) (d S : ℕ) → subtracted n present area d S ≡ subtracted n present' area d S
  unfolding subtracted
  subtracted_same area zero S = refl
  subtracted_same area (suc d) S =
      ap₂ (λ (f : ℕ → Float) (rows : List ℕ). sum_onto f zero64 rows)
      (fun_ext (λ T. ap (λ (x : Float). area T -ᶠ x) (subtracted_same area d T))) (above_same S)

  unclamped_same : (area : ℕ → Float) (S : ℕ) → unclamped n present area S ≡ unclamped n present' area S
  unfolding unclamped
  unclamped_same area S = ap (λ (x : Float). area S -ᶠ x) (subtracted_same area n S)

  module _ (f g : ℕ → Float) (alike : (S : ℕ) → S < 2 ^ n → f S ≡ g S) (S : ℕ) (h : S < 2 ^ n) where
    pub unclamped_alike : unclamped n present f S ≡ unclamped n present' g S
    unclamped_alike = unclamped_cong n present f g alike S h ∙ unclamped_same g S

    pub exclusive_alike : exclusive_row n present f S ≡ exclusive_row n present' g S
    exclusive_alike = ap₂ (λ (b : Bool) (x : Float). cond b (clamp_to_zero x) zero64) (same S h) unclamped_alike

pub unclamped_is : UnclampedIs
unfolding unclamped subtracted
unclamped_is n present area S hs =
    ap (λ (x : Float). area S -ᶠ x) (deep n present area n (suc n) S hs (omega arith) (omega arith))
