-- Laws of a fold: one element more of a list, or of a list gone through from its start; a bound along it; two folds
-- that stay related.
use mathlib.Core.Path.{◌≡◌, refl, sym, subst}
use mathlib.Core.List.{List, [], ◌∷◌, map, foldl, foldl-append}
use Prim.Native.Nat.{ℕ, suc, ◌+◌, ◌≤◌, ◌<◌}
use native.Mathlib.Numerals.{add-one}
use native.Mathlib.Omega.{arith}
use lib.ListN.{length, get_or, take, drop, length-drop}
use lib.Seq.{take-suc, drop-cons}
use Rattle.lists.specs.Lists.{over_pairs}
use Rattle.lists.specs.Every.{Every}

-- ---- one more

module _ {A S : Type 0} (f : S → A → S) (s : S) where
  -- one element more of the first so many
  pub fold_suc : (l : List A) (i : ℕ) (d : A) → i < length l
      → f (foldl f s (take i l)) (get_or l i d) ≡ foldl f s (take (i + 1) l)
  fold_suc l i d h = rw (add-one i, take-suc l i d h) (sym (foldl-append f s (take i l) (get_or l i d ∷ [])))

module _ {A S : Type 0} (f : S → A → A → S) (s : S) (l : List A) (i : ℕ) where
  -- one pair more, the rest to come
  pub pairs_on : (d : A) → i + 1 < length l
      → over_pairs f (f s (get_or l i d) (get_or l (i + 1) d)) (drop (i + 1) l) ≡ over_pairs f s (drop i l)
  unfolding over_pairs
  pairs_on d h =
      let h₀ : i < length l = omega arith in
      let h₁ : suc i < length l = omega arith in
      rw (add-one i, drop-cons l i d h₀, drop-cons l (suc i) d h₁)

  short : (k : List A) → length k ≤ 1 → over_pairs f s k ≡ s
  unfolding over_pairs
  short [] h = refl
  short (a ∷ []) h = refl
  short (a ∷ (b ∷ rest)) h = absurd (omega arith)

  -- the last pair is past
  pub pairs_end : length l ≤ i + 1 → over_pairs f s (drop i l) ≡ s
  pairs_end h = short (drop i l) (rw (length-drop) (omega arith))

-- ---- a bound: what holds of a number of steps holds after one step more, so at the end of as many as the list has
-- elements

module _ {A S : Type 0} (After : ℕ → S → Type 0) (P : A → Type 0) (f : S → A → S) (most : ℕ)
    (step : (m : ℕ) (s : S) (a : A) → m < most → After m s → P a → After (suc m) (f s a)) where
  pub fold_after : (l : List A) (m : ℕ) (s : S) → After m s → Every P l → m + length l ≤ most
      → After (m + length l) (foldl f s l)
  fold_after [] m s h e room = let same : m ≡ m + 0 = omega arith in subst (λ n. After n s) same h
  fold_after (a ∷ l) m s h e room =
      let same : suc m + length l ≡ m + suc (length l) = omega arith in
      subst (λ n. After n (foldl f (f s a) l)) same
      (fold_after l (suc m) (f s a) (step m s a (omega arith) h e.0) e.1 (omega arith))

-- over the pairs of neighbours, which are no more than the elements
module _ {A S : Type 0} (After : ℕ → S → Type 0) (P : A → Type 0) (f : S → A → A → S) (most : ℕ)
    (loosen : (m : ℕ) (s : S) → After m s → After (suc m) s)
    (step : (m : ℕ) (s : S) (a b : A) → m < most → After m s → P a → P b → After (suc m) (f s a b)) where
  pub pairs_after : (l : List A) (m : ℕ) (s : S) → After m s → Every P l → m + length l ≤ most
      → After (m + length l) (over_pairs f s l)
  unfolding over_pairs
  pairs_after [] m s h e room = let same : m ≡ m + 0 = omega arith in subst (λ n. After n s) same h
  pairs_after (a ∷ []) m s h e room =
      let same : suc m ≡ m + 1 = omega arith in subst (λ n. After n s) same (loosen m s h)
  pairs_after (a ∷ (b ∷ rest)) m s h e room =
      let same : suc m + length (b ∷ rest) ≡ m + length (a ∷ (b ∷ rest)) = omega arith in
      subst (λ n. After n (over_pairs f (f s a b) (b ∷ rest))) same
      (pairs_after (b ∷ rest) (suc m) (f s a b) (step m s a b (omega arith) h e.0 e.1.0) e.1 (omega arith))

-- ---- a relation: two folds stay related if each step keeps them so

-- one over a mapped list
pub fold_related : {A B X Y : Type 0} (R : A → B → Type 0) (P : X → Type 0) (num : X → Y) (f : A → X → A) (f' : B → Y
    → B)
    → ((a : A) (b : B) (x : X) → P x → R a b → R (f a x) (f' b (num x)))
    → (l : List X) → Every P l → (a : A) (b : B) → R a b → R (foldl f a l) (foldl f' b (map num l))
fold_related R P num f f' step [] h a b r = r
fold_related R P num f f' step (x ∷ l) h a b r =
    fold_related R P num f f' step l h.1 (f a x) (f' b (num x)) (step a b x h.0 r)

pub pairs_related : {A S T : Type 0} (R : S → T → Type 0) (f : S → A → A → S) (f' : T → A → A → T)
    → ((s : S) (t : T) (a b : A) → R s t → R (f s a b) (f' t a b))
    → (l : List A) (s : S) (t : T) → R s t → R (over_pairs f s l) (over_pairs f' t l)
unfolding over_pairs
pairs_related R f f' step [] s t r = r
pairs_related R f f' step (a ∷ []) s t r = r
pairs_related R f f' step (a ∷ (b ∷ l)) s t r = pairs_related R f f' step (b ∷ l) (f s a b) (f' t a b) (step s t a b r)
