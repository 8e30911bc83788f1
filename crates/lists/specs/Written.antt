-- A list made by its index, and a list of which the first so many are written in place: what stands beyond them stays.
use Rattle.std.specs.Prelude.{ℕ, zero, suc, List, [], ◌∷◌, ◌++◌, drop}

-- f 0, f 1, .., f (m - 1)
unfoldable pub tab : {A : Type 0} → (ℕ → A) → ℕ → List A
tab f zero = []
tab f (suc m) = tab f m ++ (f m ∷ [])

-- the first m are f's, the others as they were
abbrev pub written : {A : Type 0} → (ℕ → A) → ℕ → List A → List A
written f m l = tab f m ++ drop m l
