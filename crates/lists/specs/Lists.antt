-- A loop that appends, the elements that pass a test, and a fold over pairs of neighbours.
use Rattle.std.specs.Prelude.{ℕ, zero, suc, Bool, cond, List, [], ◌∷◌, ◌++◌}

-- f 0 ++ f 1 ++ .. ++ f (m - 1): a loop that appends
unfoldable pub up_to : {A : Type 0} → (ℕ → List A) → ℕ → List A
up_to f zero = []
up_to f (suc m) = up_to f m ++ f m

-- the elements that pass
unfoldable pub keep : {A : Type 0} → (A → Bool) → List A → List A
keep p [] = []
keep p (x ∷ xs) = cond (p x) (x ∷ keep p xs) (keep p xs)

-- a fold over the pairs of neighbours of a list: the Rust's windows(2)
unfoldable pub over_pairs : {A S : Type 0} → (S → A → A → S) → S → List A → S
over_pairs f s [] = s
over_pairs f s (a ∷ []) = s
over_pairs f s (a ∷ (b ∷ rest)) = over_pairs f (f s a b) (b ∷ rest)
