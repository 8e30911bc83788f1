-- "Rows are ordered by number of heads, then by mask": the present rows of a table as a list, and the claim that the
-- list is so ordered, which proofs/RowOrder.antt proves: `rows_ordered`.
use Rattle.std.specs.Prelude.{ℕ, suc, ◌<◌, ◌^◌, Bool, cond, ◌&&◌, List, [], ◌∷◌, ◌⊎◌, ◌≡◌, eqb}
use Rattle.std.specs.Int.Count.{ones}
use Rattle.lists.specs.Lists.{up_to}
use Rattle.lists.specs.Every.{Every}

-- the present rows of c heads below row m, by mask
unfoldable pub rows_of : (ℕ → Bool) → ℕ → ℕ → List ℕ
unfolding up_to
rows_of present c m = up_to (λ S. cond (present S && eqb (ones S) c) (S ∷ []) []) m

-- the present rows of a table of n heads, in row order
unfoldable pub row_order : (ℕ → Bool) → ℕ → List ℕ
unfolding up_to rows_of
row_order present n = up_to (λ c. rows_of present c (2 ^ n)) (suc n)

-- row S comes before row T
abbrev pub Earlier : ℕ → ℕ → Type 0
Earlier S T = (ones S < ones T) ⊎ ((ones S ≡ ones T) × (S < T))

-- each row comes before all that follow it
abbrev pub Ordered : List ℕ → Type 0
Ordered [] = Unit
Ordered (S ∷ l) = Every (Earlier S) l × Ordered l

abbrev pub RowsOrdered : Type 0
RowsOrdered = (present : ℕ → Bool) (n : ℕ) → Ordered (row_order present n)
