-- A mask gathered by a test, seen from a set; the heads of a mask.
use mathlib.Core.Path.{◌≡◌, refl, sym, ◌∙◌}
use mathlib.Core.Bool.{Bool, true, false, not, ◌||◌, true≢false}
use Prim.Native.Nat.{ℕ, ◌<◌, ◌^◌}
use lib.Dec.{ltb}
use borrow.Author.Tests.{ltb-true, ltb-false}
use Rattle.masks.specs.Mask.{in_set, gather, subset}
use Rattle.masks.specs.Operations.{in_beyond}
use Rattle.masks.specs.Gather.{gather_lt, in_gather}
use Rattle.masks.specs.Subset.{every_cong}

-- whether S lies in a mask that is gathered by a test looks at the heads of S alone
pub subset_alike : (w n S : ℕ) (p p' : ℕ → Bool) → ((l : ℕ) → in_set S l ≡ true → p l ≡ p' l) → subset w S (gather n p) ≡ subset w S (gather n p')
subset_alike w n S p p' e = every_cong w _ _ (λ l h. at l (in_set S l) refl)
  where
    gathered : (l : ℕ) → p l ≡ p' l → (b : Bool) → ltb l n ≡ b → in_set (gather n p) l ≡ in_set (gather n p') l
    gathered l q true b = let h = ltb-true l n b in in_gather n p l h ∙ q ∙ sym (in_gather n p' l h)
    gathered l q false b =
        let h = ltb-false l n b in
        in_beyond n (gather n p) l (gather_lt n p) h ∙ sym (in_beyond n (gather n p') l (gather_lt n p') h)

    at : (l : ℕ) (b : Bool) → in_set S l ≡ b → (not b || in_set (gather n p) l) ≡ (not b || in_set (gather n p') l)
    at l true i = gathered l (e l i) (ltb l n) refl
    at l false i = refl

-- the heads of a mask below 2 ^ n are below n
pub head_below : (S n l : ℕ) → S < 2 ^ n → in_set S l ≡ true → l < n
head_below S n l h i = at (ltb l n) refl
  where
    at : (b : Bool) → ltb l n ≡ b → l < n
    at true e = ltb-true l n e
    at false e = absurd (true≢false (sym i ∙ in_beyond n S l h (ltb-false l n e)))
