-- Sums over a list of rows and the supersets of a row, as the loops go on; and the strict supersets of a row all come
-- after it.
use mathlib.Core.Path.{◌≡◌, refl, sym, ap, ap₂, ◌∙◌, subst}
use mathlib.Core.Bool.{Bool, true, false, not, cond, ◌&&◌, and-true}
use mathlib.Core.List.{List, [], ◌∷◌, ◌++◌, append_assoc}
use Prim.Native.Nat.{ℕ, zero, suc, ◌+◌, ◌-◌, ◌^◌, ◌≤◌, ◌<◌}
use native.Mathlib.Numerals.{add-one}
use native.Mathlib.Omega.{arith}
use borrow.Author.Tests.{ne_eqb}
use lib.Count.{ones}
use lib.Ieee.{Float}
use lib.ListN.{length, get_or, take, drop, drop_of_length-le}
use lib.Seq.{drop-cons, drop-drop, split_at}
use Rattle.lists.specs.Lists.{keep}
use Rattle.lists.specs.Every.{Every, every_map}
use Rattle.lists.proofs.Lists.{keep_append, keep_none}
use Rattle.masks.specs.Mask.{subset, strict_subset}
use Rattle.masks.specs.Subset.{and_test}
use Rattle.masks.specs.Size.{strict_more}
use Rattle.binary64.specs.Floats.{◌+ᶠ◌}
use Rattle.exclusive.specs.RowOrder.{Ordered}
use Rattle.exclusive.specs.Exclusive.{sum_onto}
use Rattle.exclusive.proofs.RowOrder.{all_earlier, all_later, earlier_heads, earlier_other}

pub from_here : (l : List ℕ) (j : ℕ) → j < length l → drop j l ≡ get_or l j 0 ∷ drop (j + 1) l
from_here l j h = rw (add-one j) (drop-cons l j 0 h)

-- ---- a sum, one row after another

module _ (f : ℕ → Float) (sum : Float) (l : List ℕ) (j : ℕ) where
  pub sum_next : j < length l → sum_onto f (sum +ᶠ f (get_or l j 0)) (drop (j + 1) l) ≡ sum_onto f sum (drop j l)
  unfolding sum_onto
  sum_next h = sym (ap (sum_onto f sum) (from_here l j h))

  pub sum_end : length l ≤ j → sum_onto f sum (drop j l) ≡ sum
  unfolding sum_onto
  sum_end h = ap (sum_onto f sum) (drop_of_length-le l h)

-- ---- the rows that pass, one after another

module _ (p : ℕ → Bool) (found l : List ℕ) (j : ℕ) where
  kept : j < length l
      → keep p (drop j l) ≡ cond (p (get_or l j 0)) (get_or l j 0 ∷ keep p (drop (j + 1) l)) (keep p (drop (j + 1) l))
  unfolding keep
  kept h = ap (keep p) (from_here l j h)

  pub kept_with : j < length l → p (get_or l j 0) ≡ true
      → (found ++ (get_or l j 0 ∷ [])) ++ keep p (drop (j + 1) l) ≡ found ++ keep p (drop j l)
  kept_with h e =
      append_assoc found (get_or l j 0 ∷ []) (keep p (drop (j + 1) l))
      ∙ sym (ap (λ (r : List ℕ). found ++ r)
      (kept h ∙ ap (λ (b : Bool). cond b (get_or l j 0 ∷ keep p (drop (j + 1) l)) (keep p (drop (j + 1) l))) e))

  pub kept_without : j < length l → p (get_or l j 0) ≡ false
      → found ++ keep p (drop (j + 1) l) ≡ found ++ keep p (drop j l)
  kept_without h e =
      sym (ap (λ (r : List ℕ). found ++ r)
      (kept h ∙ ap (λ (b : Bool). cond b (get_or l j 0 ∷ keep p (drop (j + 1) l)) (keep p (drop (j + 1) l))) e))

pub kept_end : (p : ℕ → Bool) (l : List ℕ) (j : ℕ) → length l ≤ j → keep p (drop j l) ≡ []
unfolding keep
kept_end p l j h = ap (keep p) (drop_of_length-le l h)

-- ---- the strict supersets of a row

-- a row with no more heads is no strict superset
not_strict : (n S T : ℕ) → S < 2 ^ n → ones T ≤ ones S → strict_subset n S T ≡ false
not_strict n S T hs h = go (strict_subset n S T) refl
  where
    go : (b : Bool) → strict_subset n S T ≡ b → strict_subset n S T ≡ false
    go true e = absurd (omega (arith, strict_more n S T hs e))
    go false e = e

every_drop : (P : ℕ → Type 0) (m : ℕ) (l : List ℕ) → Every P l → Every P (drop m l)
every_drop P zero l e = e
every_drop P (suc m) [] e = tt
every_drop P (suc m) (x ∷ l) e = every_drop P m l e.1

keep_same : (p q : ℕ → Bool) (l : List ℕ) → Every (λ x. p x ≡ q x) l → keep p l ≡ keep q l
unfolding keep
keep_same p q [] e = refl
keep_same p q (x ∷ l) e =
    ap₂ (λ (b : Bool) (r : List ℕ). cond b (x ∷ r) r) e.0 (keep_same p q l e.1)

module _ (l : List ℕ) (i U : ℕ) (inside : i < length l) (here : get_or l i 0 ≡ U) where
  pub cut : l ≡ take i l ++ U ∷ drop (suc i) l
  cut = split_at l i 0 inside ∙ ap (λ (x : ℕ). take i l ++ x ∷ drop (suc i) l) here

  -- the strict supersets of a row S come after each row U that has no more heads
  pub later : (n S : ℕ) → S < 2 ^ n → ones U ≤ ones S → Ordered l
      → keep (strict_subset n S) l ≡ keep (strict_subset n S) (drop (i + 1) l)
  unfolding keep
  later n S hs few ordered =
      ap (keep (strict_subset n S)) cut ∙ keep_append (strict_subset n S) (take i l) (U ∷ drop (suc i) l)
      ∙ ap₂ ◌++◌
      (keep_none (strict_subset n S) (take i l)
      (every_map (take i l) (λ T e. not_strict n S T hs (omega (arith, earlier_heads T U e)))
      (all_earlier (take i l) (drop (suc i) l) U (subst Ordered cut ordered))))
      (ap (λ (t : Bool). cond t (U ∷ keep (strict_subset n S) (drop (suc i) l))
      (keep (strict_subset n S) (drop (suc i) l))) (not_strict n S U hs few))
      ∙ ap (λ (k : ℕ). keep (strict_subset n S) (drop k l)) (sym (add-one i))

  -- the supersets of a row from a later place on are strict
  pub supersets_after : (k n : ℕ) → U < 2 ^ n → U < 2 ^ 64 → i < k → Ordered l
      → keep (subset 64 U) (drop k l) ≡ keep (strict_subset n U) (drop k l)
  supersets_after k n hu wide h ordered =
      let e : suc i + (k - suc i) ≡ k = omega arith in
      keep_same (subset 64 U) (strict_subset n U) (drop k l)
      (subst (Every (λ T. subset 64 U T ≡ strict_subset n U T))
      (drop-drop (k - suc i) (suc i) l ∙ ap (λ (j : ℕ). drop j l) e)
      (every_drop (λ T. subset 64 U T ≡ strict_subset n U T) (k - suc i) (drop (suc i) l)
      (every_map (drop (suc i) l) (λ T o. strict T (earlier_other U T o))
      (all_later (take i l) (drop (suc i) l) U (subst Ordered cut ordered)))))
    where
      -- the test does not depend on the width
      strict : (T : ℕ) → (U ≡ T → ⊥) → subset 64 U T ≡ strict_subset n U T
      strict T o =
          sym (and_test 64 U T wide) ∙ and_test n U T hu
          ∙ sym (ap (λ (b : Bool). subset n U T && not b) (ne_eqb U T o) ∙ and-true (subset n U T))
