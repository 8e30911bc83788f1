-- Some elements of a list left out: a list of truth values says which places are kept, one a place, and past its end
-- all are. Those that are kept close up: each has a number among those kept, and a place among all.
use Rattle.std.specs.Prelude.{ℕ, zero, suc, Bool, true, false, cond, List, [], ◌∷◌, ◌++◌, get_or, replicate}

-- place i is kept
abbrev pub kept : List Bool → ℕ → Bool
kept keeps i = get_or keeps i true

-- all places but place k
abbrev pub all_but : ℕ → List Bool
all_but k = replicate k true ++ (false ∷ [])

-- the elements at the places kept
unfoldable pub remaining : {A : Type 0} → List Bool → List A → List A
remaining [] l = l
remaining (b ∷ keeps) [] = []
remaining (b ∷ keeps) (x ∷ l) = cond b (x ∷ remaining keeps l) (remaining keeps l)

-- the place of number j of those kept
unfoldable pub place : List Bool → ℕ → ℕ
place [] j = j
place (true ∷ keeps) zero = 0
place (true ∷ keeps) (suc j) = suc (place keeps j)
place (false ∷ keeps) j = suc (place keeps j)

-- how many of the first n places are kept: the number, among those kept, of place n
unfoldable pub kept_below : List Bool → ℕ → ℕ
kept_below [] n = n
kept_below (b ∷ keeps) zero = 0
kept_below (true ∷ keeps) (suc n) = suc (kept_below keeps n)
kept_below (false ∷ keeps) (suc n) = kept_below keeps n
