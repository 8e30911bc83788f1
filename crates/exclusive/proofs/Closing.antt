-- From the subtracted table to the table of exclusives: present rows are clamped, absent rows are +0, and what is
-- beyond stays.
use mathlib.Core.Path.{◌≡◌, refl, sym, ap, ◌∙◌, subst}
use mathlib.Core.Bool.{Bool, true, false, cond}
use mathlib.Core.List.{List}
use Prim.Native.Nat.{ℕ, ◌*◌, ◌^◌, ◌<◌}
use native.Mathlib.Nat.{le_refl}
use native.Mathlib.Omega.{arith}
use lib.Ieee.{Float, nan}
use lib.ListN.{get_or, drop}
use Rattle.lists.specs.Written.{written}
use Rattle.lists.proofs.Writing.{written_before, written_cong, drop_written}
use Rattle.masks.specs.Presence.{stands}
use Rattle.binary64.specs.Constants.{zero64}
use Rattle.binary64.specs.Functions.{clamp_to_zero}
use Rattle.exclusive.specs.Exclusive.{unclamped, exclusive_row}
use Rattle.exclusive.specs.Entries.{entry, Subtracted}
use Rattle.exclusive.proofs.RowOrder.{row_of}
use Rattle.exclusive.proofs.Entries.{one_wide}
use Rattle.exclusive.proofs.Unclamped.{unclamped_cong, exclusive_alike}

-- of an absent row the number is not looked at
pub if_present : (f : Float → Float) (x y : Float) (b : Bool) → (b ≡ true → x ≡ y)
    → cond b (f x) zero64 ≡ cond b (f y) zero64
if_present f x y true e = ap f (e refl)
if_present f x y false e = refl

module _ (n : ℕ) (present : ℕ → Bool) (before after : List Float) where
  -- number k of a present row
  pub subtracted_row : (width k S : ℕ) → Subtracted n present width before after → k < width → S < 2 ^ n
      → present S ≡ true
      → entry width after k S ≡ unclamped n present (entry width before k) S
  subtracted_row width k S s hk hs p =
      row_of present (λ T. entry width after k T ≡ unclamped n present (entry width before k) T) n S hs p (s.rows k hk)

  pub subtracted_one : (S : ℕ) → Subtracted n present 1 before after → S < 2 ^ n → present S ≡ true
      → get_or after S nan ≡ unclamped n present (λ T. get_or before T nan) S
  subtracted_one S s hs p =
      sym (one_wide S after) ∙ subtracted_row 1 0 S s (omega arith) hs p
      ∙ unclamped_cong n present (entry 1 before 0) (λ T. get_or before T nan) (λ T h. one_wide T before) S hs

  pub rest_one : Subtracted n present 1 before after → drop (2 ^ n) after ≡ drop (2 ^ n) before
  rest_one s = let e : 2 ^ n * 1 ≡ 2 ^ n = omega arith in subst (λ (m : ℕ). drop m after ≡ drop m before) e s.rest

-- the supersets subtracted, the rows clamped
pub clamped_is : (n : ℕ) (bytes : List ℕ) (areas after : List Float) → Subtracted n (stands bytes) 1 areas after
    → written (λ S. cond (stands bytes S) (clamp_to_zero (get_or after S nan)) zero64) (2 ^ n) after
    ≡ written (exclusive_row n (stands bytes) (λ S. get_or areas S nan)) (2 ^ n) areas
clamped_is n bytes areas after s =
    written_cong (λ S. cond (stands bytes S) (clamp_to_zero (get_or after S nan)) zero64)
    (exclusive_row n (stands bytes) (λ S. get_or areas S nan)) (2 ^ n) after areas
    (λ S h. if_present clamp_to_zero (get_or after S nan) (unclamped n (stands bytes) (λ T. get_or areas T nan) S)
    (stands bytes S)
    (subtracted_one n (stands bytes) areas after S s h))
    (rest_one n (stands bytes) areas after s)

-- of areas that were copied
pub copied_is : (n : ℕ) (bytes : List ℕ) (areas first copied : List Float)
    → copied ≡ written (λ S. get_or areas S nan) (2 ^ n) first
    → written (exclusive_row n (stands bytes) (λ S. get_or copied S nan)) (2 ^ n) copied
    ≡ written (exclusive_row n (stands bytes) (λ S. get_or areas S nan)) (2 ^ n) first
copied_is n bytes areas first copied e =
    written_cong (exclusive_row n (stands bytes) (λ S. get_or copied S nan))
    (exclusive_row n (stands bytes) (λ S. get_or areas S nan)) (2 ^ n) copied first
    (exclusive_alike n (stands bytes) (stands bytes) (λ S h. refl) (λ S. get_or copied S nan) (λ S. get_or areas S nan)
    old)
    (ap (drop (2 ^ n)) e ∙ drop_written (λ S. get_or areas S nan) (2 ^ n) (2 ^ n) first (le_refl (2 ^ n)))
  where
    old : (T : ℕ) → T < 2 ^ n → get_or copied T nan ≡ get_or areas T nan
    old T h = ap (λ (l : List Float). get_or l T nan) e ∙ written_before (λ S. get_or areas S nan) (2 ^ n) T first nan h
