-- The last pass of the gradient form: rows that are absent or below zero become +0, in the areas and in the gradients;
-- and from there to the table of exclusives with their gradients.
use mathlib.Core.Path.{◌≡◌, refl, sym, ap, ap₂, ◌∙◌}
use mathlib.Core.Bool.{Bool, true, false, cond, not, ◌&&◌}
use mathlib.Core.List.{List, ◌++◌}
use Prim.Native.Nat.{ℕ, suc, ◌+◌, ◌*◌, ◌/◌, ◌%◌, ◌^◌, ◌≤◌, ◌<◌}
use native.Mathlib.Nat.{mod-lt, div-add-mod'}
use native.Mathlib.Omega.{arith}
use lib.Ieee.{Float, nan, lt}
use lib.ListN.{length, get_or, set, take, drop, replicate}
use Rattle.lists.specs.Written.{written}
use Rattle.lists.proofs.Writing.{written_none, write_next, written_keep, written_on, written_cong}
use Rattle.masks.specs.Presence.{stands}
use Rattle.binary64.specs.Constants.{zero64}
use Rattle.exclusive.specs.Exclusive.{unclamped}
use Rattle.exclusive.specs.Entries.{entry, Subtracted}
use Rattle.exclusive_gradients.specs.Gradient.{exclusive_with_gradient, gradient_entry, kept_row}
use Rattle.exclusive.proofs.TableRows.{row_of_place, place, fill_written}
use Rattle.exclusive.proofs.Closing.{subtracted_row, subtracted_one, rest_one}

-- ---- all rows, one after another

module _ (bytes : List ℕ) (areas gradients : List Float) (width : ℕ) where
  abbrev pub area_left : ℕ → Float
  area_left S = cond (kept_row bytes areas S) (get_or areas S nan) zero64

  abbrev pub number_left : ℕ → Float
  number_left x = cond (kept_row bytes areas (x / width)) (get_or gradients x nan) zero64

  kept : (S : ℕ) (x : Float) → kept_row bytes areas S ≡ true → cond (kept_row bytes areas S) x zero64 ≡ x
  kept S x e = ap (λ (b : Bool). cond b x zero64) e

  lost : (S : ℕ) (x : Float) → kept_row bytes areas S ≡ false → cond (kept_row bytes areas S) x zero64 ≡ zero64
  lost S x e = ap (λ (b : Bool). cond b x zero64) e

  pub start : (areas ≡ written area_left 0 areas) × (gradients ≡ written number_left (0 * width) gradients)
  start =
      let e : 0 ≡ 0 * width = omega arith in (
        written_none area_left areas,
        written_none number_left gradients
            ∙ ap (λ (m : ℕ). written number_left m gradients) e,
      )

  module _ (s : ℕ) (inside : s < length areas) (room : suc s * width ≤ length gradients) where
    pub keep_area : kept_row bytes areas s ≡ true → written area_left s areas ≡ written area_left (s + 1) areas
    keep_area e = written_keep area_left s areas nan inside (kept s (get_or areas s nan) e)

    pub zero_area : kept_row bytes areas s ≡ false
        → set (written area_left s areas) s zero64 ≡ written area_left (s + 1) areas
    zero_area e = write_next area_left s areas zero64 nan inside (sym (lost s (get_or areas s nan) e))

    here : (x : ℕ) → s * width ≤ x → x < suc s * width → kept_row bytes areas (x / width) ≡ kept_row bytes areas s
    here x h k = ap (kept_row bytes areas) (row_of_place width s x h k)

    pub keep_numbers : kept_row bytes areas s ≡ true
        → written number_left (s * width) gradients ≡ written number_left ((s + 1) * width) gradients
    keep_numbers e =
        written_on number_left (s * width) ((s + 1) * width) gradients nan (omega arith) (omega arith)
        (λ x h k. kept (x / width) (get_or gradients x nan) (here x h (omega arith) ∙ e))

    -- the row filled with +0
    pub zero_numbers : (now filled : List Float) → kept_row bytes areas s ≡ false
        → now ≡ written number_left (s * width) gradients
        → filled ≡ replicate width zero64
        → take (s * width) now ++ (filled ++ drop width (drop (s * width) now))
        ≡ written number_left ((s + 1) * width) gradients
    zero_numbers now filled e w f =
        ap (λ (t : List Float). take (s * width) now ++ (t ++ drop width (drop (s * width) now))) f
        ∙ fill_written number_left (s * width) width zero64 gradients now
        (λ x h k. lost (x / width) (get_or gradients x nan) (here x h (omega arith) ∙ e)) w
        ∙ ap (λ (m : ℕ). written number_left m gradients) (omega arith)

-- ---- the tables of exclusives

-- kept or +0, in either order of asking
unless : (p q : Bool) (x : Float) → cond (p && not q) x zero64 ≡ cond p (cond q zero64 x) zero64
unless true true x = refl
unless true false x = refl
unless false q x = refl

-- of an absent row neither area nor number is looked at
if_both : (p : Bool) (a b x y : Float) → (p ≡ true → a ≡ b) → (p ≡ true → x ≡ y)
    → cond (p && not (lt a zero64)) x zero64 ≡ cond p (cond (lt b zero64) zero64 y) zero64
if_both true a b x y e f =
    unless true (lt a zero64) x ∙ ap₂ (λ (c z : Float). cond (lt c zero64) zero64 z) (e refl) (f refl)
if_both false a b x y e f = refl

module _ (n width : ℕ) (bytes : List ℕ) (areas gradients areas' gradients' : List Float)
    (one : Subtracted n (stands bytes) 1 areas areas') (more : Subtracted n (stands bytes) width gradients gradients')
  where
    area_is : (S : ℕ) → S < 2 ^ n → stands bytes S ≡ true
        → get_or areas' S nan ≡ unclamped n (stands bytes) (λ T. get_or areas T nan) S
    area_is S h p = subtracted_one n (stands bytes) areas areas' S one h p

    pub areas_are : written (area_left bytes areas' gradients' width) (2 ^ n) areas'
        ≡ written (exclusive_with_gradient n (stands bytes) (λ S. get_or areas S nan)) (2 ^ n) areas
    areas_are =
        written_cong _ _ (2 ^ n) areas' areas (λ S h. if_both (stands bytes S) _ _ _ _ (area_is S h) (area_is S h))
        (rest_one n (stands bytes) areas areas' one)

    -- the number at a place
    number_is : (x : ℕ) → x < 2 ^ n * width → stands bytes (x / width) ≡ true
        → get_or gradients' x nan ≡ unclamped n (stands bytes) (entry width gradients (x % width)) (x / width)
    number_is x h p =
        ap (λ (y : ℕ). get_or gradients' y nan) (sym (div-add-mod' x width))
        ∙ subtracted_row n (stands bytes) gradients gradients' width (x % width) (x / width) more
        (mod-lt x (place x (2 ^ n) width h).0) (place x (2 ^ n) width h).1 p

    pub gradients_are : written (number_left bytes areas' gradients' width) (2 ^ n * width) gradients'
        ≡ written (gradient_entry n width bytes areas gradients) (2 ^ n * width) gradients
    gradients_are =
        written_cong _ _ (2 ^ n * width) gradients' gradients
        (λ x h. if_both (stands bytes (x / width)) _ _ _ _ (λ p. area_is (x / width) (place x (2 ^ n) width h).1 p)
        (number_is x h)) more.rest
