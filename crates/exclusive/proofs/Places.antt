-- There are no more rows than masks, so that an array of 1024 has a place for each: for the loops that list the rows.
use mathlib.Core.Path.{◌≡◌, refl, sym, ap, ap₂, ◌∙◌}
use mathlib.Core.Bool.{Bool, true, false, cond, ◌&&◌}
use mathlib.Core.List.{List, [], ◌∷◌, ◌++◌, append-nil}
use Prim.Native.Nat.{ℕ, zero, suc, ◌+◌, ◌-◌, ◌^◌, ◌≤◌, ◌<◌}
use native.Mathlib.Decide.{ℕ_discrete}
use native.Mathlib.Nat.{lt_of_lt_of_le}
use native.Mathlib.Numerals.{add-one}
use native.Mathlib.Omega.{arith}
use borrow.Author.Tests.{ne_eqb}
use lib.Count.{ones}
use lib.Dec.{eqb}
use lib.ListN.{length, take, set, length-append}
use lib.Pow.{pow_mono}
use lib.Seq.{take-suc-set}
use Rattle.lists.specs.Lists.{up_to, keep}
use Rattle.lists.specs.Written.{tab}
use Rattle.lists.proofs.Lists.{keep_append, keep_push, keep_length}
use Rattle.masks.specs.Mask.{strict_subset}
use Rattle.exclusive.specs.RowOrder.{rows_of, row_order}
use Rattle.exclusive.specs.Exclusive.{above}
use Rattle.exclusive.proofs.RowOrder.{row}

-- a mask of n heads is below 1024, and there are no more than 1024 of them
pub row_lt : (n S : ℕ) → n ≤ 10 → S < 2 ^ n → S < 1024
row_lt n S h k = lt_of_lt_of_le k (pow_mono {i = n} {j = 10} h)

pub masks_le : (n : ℕ) → n ≤ 10 → 2 ^ n ≤ 1024
masks_le n h = pow_mono {i = n} {j = 10} h

module _ (present : ℕ → Bool) where
  -- the rows below m of fewer than C heads
  abbrev rows : ℕ → ℕ → List ℕ
  rows m C = up_to (λ c. rows_of present c m) C

  at_most_one : (b : Bool) (S : ℕ) → length (cond b (S ∷ []) []) ≤ 1
  at_most_one true S = omega arith
  at_most_one false S = omega arith

  not_its : (c S : ℕ) → (ones S ≡ c → ⊥) → (b : Bool) → (b && eqb (ones S) c) ≡ false
  not_its c S h true = ne_eqb (ones S) c h
  not_its c S h false = refl

  -- mask m is a row of one number of heads at most
  its : (c m : ℕ) → length (row present c m) ≤ 1 - (suc (ones m) - suc c) - (1 - (suc (ones m) - c))
  its c m = go (ℕ_discrete (ones m) c)
    where
      go : Dec (ones m ≡ c) → length (row present c m) ≤ 1 - (suc (ones m) - suc c) - (1 - (suc (ones m) - c))
      go (yes e) = omega (arith, at_most_one (present m && eqb (ones m) c) m)
      go (no h) = omega (arith, ap (λ (b : Bool). length (cond b (m ∷ []) [])) (not_its c m h (present m)))

  more : (m C : ℕ) → length (rows (suc m) C) ≤ length (rows m C) + (1 - (suc (ones m) - C))
  unfolding up_to rows_of
  more m zero = omega arith
  more m (suc C) =
      omega (
        arith,
        more m C,
        length-append (rows (suc m) C) (rows_of present C m ++ row present C m),
        length-append (rows_of present C m) (row present C m),
        length-append (rows m C) (rows_of present C m),
        its C m,
      )

  no_rows : (C : ℕ) → length (rows 0 C) ≡ 0
  unfolding up_to rows_of
  no_rows zero = refl
  no_rows (suc C) = length-append (rows 0 C) [] ∙ omega (arith, no_rows C)

  pub few_rows : (m C : ℕ) → length (rows m C) ≤ m
  few_rows zero C = omega (arith, no_rows C)
  few_rows (suc m) C = omega (arith, more m C, few_rows m C)

  pub order_few : (n : ℕ) → length (row_order present n) ≤ 2 ^ n
  unfolding row_order
  order_few n = few_rows (2 ^ n) (suc n)

  pub above_few : (n S : ℕ) → length (above n present S) ≤ 2 ^ n
  unfolding above
  above_few n S = omega (arith, keep_length (strict_subset n S) (row_order present n), order_few n)

  -- ---- as the loops go on

  -- one mask more
  pub level_next : (c s : ℕ) → rows_of present c (s + 1) ≡ rows_of present c s ++ row present c s
  unfolding up_to rows_of
  level_next c s = ap (rows_of present c) (add-one s)

  -- one number of heads more
  pub rows_next : (m c : ℕ) → rows m (c + 1) ≡ rows m c ++ rows_of present c m
  unfolding up_to
  rows_next m c = ap (rows m) (add-one c)

-- ---- the present rows by mask

-- of a row or none, one of c heads
one_kept : (c S : ℕ) (b : Bool)
    → keep (λ T. eqb (ones T) c) (cond b (S ∷ []) []) ≡ cond (b && eqb (ones S) c) (S ∷ []) []
unfolding keep
one_kept c S true = refl
one_kept c S false = refl

module _ (present : ℕ → Bool) where
  -- the present rows below m
  abbrev pub rows_below : ℕ → List ℕ
  rows_below m = keep present (tab (λ S. S) m)

  -- those of c heads
  pub level_kept : (c m : ℕ) → keep (λ S. eqb (ones S) c) (rows_below m) ≡ rows_of present c m
  unfolding up_to keep tab rows_of
  level_kept c zero = refl
  level_kept c (suc m) =
      ap (keep (λ S. eqb (ones S) c)) (keep_push present (tab (λ S. S) m) m)
      ∙ keep_append (λ S. eqb (ones S) c) (rows_below m) (cond (present m) (m ∷ []) [])
      ∙ ap₂ ◌++◌ (level_kept c m) (one_kept c m (present m))

  below_next : (s : ℕ) (b : Bool) → present s ≡ b → rows_below s ++ cond b (s ∷ []) [] ≡ rows_below (s + 1)
  unfolding tab
  below_next s b e =
      ap (λ (b : Bool). rows_below s ++ cond b (s ∷ []) []) (sym e)
      ∙ sym (ap rows_below (add-one s) ∙ keep_push present (tab (λ S. S) s) s)

  -- one mask more
  pub below_with : (s : ℕ) → present s ≡ true → rows_below s ++ (s ∷ []) ≡ rows_below (s + 1)
  below_with s e = below_next s true e

  pub below_without : (s : ℕ) → present s ≡ false → rows_below s ≡ rows_below (s + 1)
  below_without s e = sym (append-nil (rows_below s)) ∙ below_next s false e

-- the write of one row
pub put : (all R : List ℕ) (k s : ℕ) → k < length all → take k all ≡ R → take (k + 1) (set all k s) ≡ R ++ (s ∷ [])
put all R k s h e =
    ap (λ (n : ℕ). take n (set all k s)) (add-one k) ∙ take-suc-set all k s h ∙ ap (λ (l : List ℕ). l ++ (s ∷ [])) e
