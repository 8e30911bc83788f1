-- Writing one number of a lent table of rows, and the rows' sums as the loop over a row's numbers goes on.
use mathlib.Core.Path.{◌≡◌, refl, sym, ap, ap₂, ◌∙◌, subst}
use mathlib.Core.List.{List}
use mathlib.Core.Logic.{⊎_elim}
use Prim.Native.Nat.{ℕ, suc, ◌+◌, ◌*◌, ◌/◌, ◌%◌, ◌≤◌, ◌<◌}
use native.Mathlib.Nat.{eq-or-lt_of_le, le_of_suc-le-suc, le_refl}
use native.Mathlib.Numerals.{add-one}
use native.Mathlib.Omega.{arith}
use lib.Arith.{digits_div, digits_mod}
use lib.Ieee.{Float, nan}
use lib.ListN.{length, get_or, set, length-set}
use lib.Seq.{get_or-set_same, get_or-set_other, drop-set-lt}
use Rattle.lists.specs.Every.{Every, every_map}
use Rattle.binary64.specs.Constants.{zero64}
use Rattle.binary64.specs.Floats.{◌-ᶠ◌}
use Rattle.exclusive.specs.Entries.{entry, row_sums, RowSubtracted}
use Rattle.exclusive.proofs.Unclamped.{sum_same}

-- a place has one row and one number in it
pub same_row : (w S T : ℕ) {j k : ℕ} → j < w → k < w → T * w + j ≡ S * w + k → T ≡ S
same_row w S T hj hk e = sym (digits_div T hj) ∙ ap (λ (x : ℕ). x / w) e ∙ digits_div S hk

pub same_number : (w S T : ℕ) {j k : ℕ} → j < w → k < w → T * w + j ≡ S * w + k → j ≡ k
same_number w S T hj hk e = sym (digits_mod T hj) ∙ ap (λ (x : ℕ). x % w) e ∙ digits_mod S hk

-- a table of one number a row
pub one_wide : (S : ℕ) (l : List Float) → entry 1 l 0 S ≡ get_or l S nan
one_wide S l = let e : S * 1 + 0 ≡ S = omega arith in ap (λ (x : ℕ). get_or l x nan) e

module _ (w S : ℕ) (sums : ℕ → Float) (before after : List Float) where
  -- nothing is subtracted yet
  pub row_start : RowSubtracted w S sums 0 before before
  row_start =
      record { own = λ j h. absurd (omega arith); others = λ T j h k. refl; rest = λ m h. refl; many = refl }

  -- the next number
  pub row_next : (k : ℕ) (sum : Float) → k < w → suc S * w ≤ length before → sum ≡ sums k
      → RowSubtracted w S sums k before after
      → RowSubtracted w S sums (k + 1) before (set after (S * w + k) (entry w after k S -ᶠ sum))
  row_next k sum hk room e r =
      record {
        own = λ j h. ⊎_elim (λ (f : j ≡ k). subst (λ (i : ℕ). entry w new i S ≡ goal i) (sym f) here)
            (λ l. stays S j (λ f. same_number w S S (omega arith) hk f) l ∙ r.own j l)
            (eq-or-lt_of_le (le_of_suc-le-suc (subst (λ (x : ℕ). j < x) (add-one k) h)));
        others = λ T j h hj. get_or-set_other after (S * w + k) (T * w + j) (entry w after k S -ᶠ sum) nan
            (λ f. omega (arith, h (same_row w S T hj hk f), same_number w S T hj hk f))
            ∙ r.others T j (λ f. omega (arith, h f)) hj;
        rest = λ m h. drop-set-lt m after (S * w + k) (entry w after k S -ᶠ sum) (omega arith) ∙ r.rest m h;
        many = length-set after (S * w + k) (entry w after k S -ᶠ sum) ∙ r.many;
      }
    where
      new : List Float
      new = set after (S * w + k) (entry w after k S -ᶠ sum)

      goal : ℕ → Float
      goal i = entry w before i S -ᶠ sums i

      stays : (T j : ℕ) → (T * w + j ≡ S * w + k → j ≡ k) → j < k → entry w new j T ≡ entry w after j T
      stays T j h l =
          get_or-set_other after (S * w + k) (T * w + j) (entry w after k S -ᶠ sum) nan (λ f. omega (arith, h f))

      here : entry w new k S ≡ goal k
      here =
          get_or-set_same after (S * w + k) (entry w after k S -ᶠ sum) nan (omega (arith, r.many))
          ∙ ap₂ ◌-ᶠ◌ (r.others S k (λ f. le_refl k) hk) e

  -- the sums of other rows are not touched
  pub sums_stay : (rows : List ℕ) (k j : ℕ) → j < w → Every (λ T. T ≡ S → ⊥) rows
      → RowSubtracted w S sums k before after → row_sums w after rows j ≡ row_sums w before rows j
  sums_stay rows k j hj other r =
      sum_same (entry w after j) (entry w before j) zero64 rows
      (every_map rows (λ T h. r.others T j (λ f. absurd (h f)) hj) other)
