-- Laws of row order: what holds of every present mask of the table holds of every row and the other way; rows come by
-- number of heads, then by mask, so no row comes twice.
use mathlib.Core.Path.{◌≡◌, refl, ap, ap₂, subst}
use mathlib.Core.Bool.{Bool, true, false, cond, ◌&&◌}
use mathlib.Core.List.{List, [], ◌∷◌, ◌++◌}
use mathlib.Core.Logic.{inl, inr, ⊎_elim}
use Prim.Native.Nat.{ℕ, zero, suc, ◌^◌, ◌≤◌, ◌<◌}
use native.Mathlib.Omega.{arith}
use borrow.Author.Tests.{eqb-true, eq-eqb}
use lib.Count.{ones, ones-le}
use lib.Dec.{eqb}
use Rattle.lists.specs.Lists.{up_to}
use Rattle.lists.specs.Every.{Every, every_append, every_map, every_up_to, every_part}
use Rattle.masks.specs.Subset.{and_both}
use Rattle.exclusive.specs.RowOrder.{rows_of, row_order, Earlier, Ordered, RowsOrdered}

-- ---- every row

module _ (present : ℕ → Bool) where
  -- one row or none
  abbrev pub row : ℕ → ℕ → List ℕ
  row c S = cond (present S && eqb (ones S) c) (S ∷ []) []

  one : (P : ℕ → Type 0) (c S : ℕ) → (present S ≡ true → ones S ≡ c → P S) → Every P (row c S)
  one P c S h = go (present S && eqb (ones S) c) refl
    where
      go : (b : Bool) → (present S && eqb (ones S) c) ≡ b → Every P (cond b (S ∷ []) [])
      go true e = let t = and_both (present S) (eqb (ones S) c) e in (h t.0 (eqb-true (ones S) c t.1), tt)
      go false e = tt

  -- what holds of each present row holds along the order
  every_level : (P : ℕ → Type 0) (c m : ℕ) → ((S : ℕ) → S < m → present S ≡ true → ones S ≡ c → P S)
      → Every P (rows_of present c m)
  unfolding rows_of
  every_level P c m h = every_up_to P (row c) m (λ S k. one P c S (h S k))

  pub every_row : (P : ℕ → Type 0) (n : ℕ) → ((S : ℕ) → S < 2 ^ n → present S ≡ true → P S)
      → Every P (row_order present n)
  unfolding row_order
  every_row P n h =
      every_up_to P (λ c. rows_of present c (2 ^ n)) (suc n) (λ c k. every_level P c (2 ^ n) (λ S l p e. h S l p))

  -- and the other way
  pub row_of : (P : ℕ → Type 0) (n S : ℕ) → S < 2 ^ n → present S ≡ true → Every P (row_order present n) → P S
  unfolding row_order rows_of
  row_of P n S h p e =
      let level = every_part P (λ c. rows_of present c (2 ^ n)) (suc n) (ones S) (omega (arith, ones-le n S h)) e in
      let it = every_part P (row (ones S)) (2 ^ n) S h level in
      (subst (λ (b : Bool). Every P (cond b (S ∷ []) [])) (ap₂ ◌&&◌ p (eq-eqb (ones S) (ones S) refl)) it).0

-- ---- in order

ordered_append : (a b : List ℕ) → Ordered a → Ordered b → Every (λ S. Every (Earlier S) b) a → Ordered (a ++ b)
ordered_append [] b ha hb h = hb
ordered_append (S ∷ a) b ha hb h = (every_append (Earlier S) a b ha.0 h.0, ordered_append a b ha.1 hb h.1)

-- lists one after another, each in order, whose elements are told apart by P
ordered_up_to : (P : ℕ → ℕ → Type 0) (f : ℕ → List ℕ) (m : ℕ) → ((i : ℕ) → Ordered (f i))
    → ((i : ℕ) → Every (P i) (f i))
    → ((i j S T : ℕ) → i < j → P i S → P j T → Earlier S T) → Ordered (up_to f m)
unfolding up_to
ordered_up_to P f zero each own before = tt
ordered_up_to P f (suc m) each own before =
    ordered_append (up_to f m) (f m) (ordered_up_to P f m each own before) (each m)
    (every_up_to (λ S. Every (Earlier S) (f m)) f m
    (λ i h. every_map (f i) (λ S p. every_map (f m) (λ T q. before i m S T h p q) (own m)) (own i)))

ordered_one : (b : Bool) (S : ℕ) → Ordered (cond b (S ∷ []) [])
ordered_one true S = (tt, tt)
ordered_one false S = tt

module _ (present : ℕ → Bool) where
  ordered_level : (c m : ℕ) → Ordered (rows_of present c m)
  unfolding rows_of
  ordered_level c m =
      ordered_up_to (λ i S. (S ≡ i) × (ones S ≡ c)) (row present c) m (λ S. ordered_one (present S && eqb (ones S) c) S)
      (λ S. one present (λ T. (T ≡ S) × (ones T ≡ c)) c S (λ p e. (refl, e)))
      (λ i j S T h p q. inr (omega arith, omega arith))

pub rows_ordered : RowsOrdered
unfolding row_order
rows_ordered present n =
    ordered_up_to (λ c S. ones S ≡ c) (λ c. rows_of present c (2 ^ n)) (suc n) (λ c. ordered_level present c (2 ^ n))
    (λ c. every_level present (λ S. ones S ≡ c) c (2 ^ n) (λ S l p e. e)) (λ i j S T h p q. inl (omega arith))

-- before a row come only earlier ones
pub all_earlier : (a b : List ℕ) (S : ℕ) → Ordered (a ++ S ∷ b) → Every (λ T. Earlier T S) a
all_earlier [] b S h = tt
all_earlier (T ∷ a) b S h = (at a h.0, all_earlier a b S h.1)
  where
    at : (a : List ℕ) → Every (Earlier T) (a ++ S ∷ b) → Earlier T S
    at [] e = e.0
    at (U ∷ a) e = at a e.1

-- and after it only later ones
pub all_later : (a b : List ℕ) (S : ℕ) → Ordered (a ++ S ∷ b) → Every (Earlier S) b
all_later [] b S h = h.0
all_later (T ∷ a) b S h = all_later a b S h.1

-- an earlier row has no more heads, and is another
pub earlier_heads : (S T : ℕ) → Earlier S T → ones S ≤ ones T
earlier_heads S T e = ⊎_elim (λ h. omega arith) (λ h. omega (arith, h.0)) e

pub earlier_other : (S T : ℕ) → Earlier S T → S ≡ T → ⊥
earlier_other S T e same = ⊎_elim (λ h. omega (arith, ap ones same)) (λ h. omega (arith, h.1)) e
