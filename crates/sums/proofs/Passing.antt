-- All rows of a pass: the heads of the wanted rows, and what is held for these serves each such row.
use mathlib.Core.Path.{◌≡◌, sym, ◌∙◌}
use mathlib.Core.Bool.{true, false, true≢false}
use mathlib.Core.List.{List}
use mathlib.Core.Logic.{⊎_elim}
use Prim.Native.Nat.{ℕ, ◌+◌, ◌^◌, ◌<◌}
use native.Mathlib.Nat.{eq-or-lt_of_le, le_of_suc-le-suc}
use native.Mathlib.Numerals.{add-one}
use native.Mathlib.Omega.{arith}
use lib.Bits.{bit_or}
use Rattle.masks.specs.Mask.{Subset}
use Rattle.masks.specs.Operations.{bit-or, bit_beyond, below_pow}
use Rattle.masks.specs.Presence.{stands}
use Rattle.masks.specs.Subset.{subset_trans, or_subset_left, or_subset_right}
use Rattle.sums.specs.Fast.{WantedBelow}

-- ---- the heads of the wanted rows

-- the next row too
pub wanted_next : (wanted : List ℕ) (P : ℕ → Type 0) (m : ℕ) → WantedBelow wanted m P
    → (stands wanted m ≡ true → P m) → WantedBelow wanted (m + 1) P
wanted_next wanted P m held here S h is =
    ⊎_elim (λ (e : S ≡ m). new S e is) (λ k. held S k is) (eq-or-lt_of_le (le_of_suc-le-suc (rw (add-one m) at h)))
  where
    new : (S : ℕ) → S ≡ m → stands wanted S ≡ true → P S
    new S e is = rw e (here (rw e at is))

-- its heads are added
pub wanted_with : (wanted : List ℕ) (heads m : ℕ) → WantedBelow wanted m (λ S. Subset S heads)
    → WantedBelow wanted (m + 1) (λ S. Subset S (bit_or heads m))
wanted_with wanted heads m held =
    wanted_next wanted (λ S. Subset S (bit_or heads m)) m
    (λ S h is. subset_trans S heads (bit_or heads m) (held S h is) (or_subset_left heads m))
    (λ is. or_subset_right heads m)

-- it is not wanted
pub wanted_without : (wanted : List ℕ) (heads m : ℕ) → stands wanted m ≡ false
    → WantedBelow wanted m (λ S. Subset S heads) → WantedBelow wanted (m + 1) (λ S. Subset S heads)
wanted_without wanted heads m none held =
    wanted_next wanted (λ S. Subset S heads) m held (λ is. absurd (true≢false (sym is ∙ none)))

-- heads below n stay so
pub or_below : (n S T : ℕ) → S < 2 ^ n → T < 2 ^ n → bit_or S T < 2 ^ n
or_below n S T h k =
    below_pow n (bit_or S T) (λ i l. omega (arith, bit-or S T i, bit_beyond n S i h l, bit_beyond n T i k l))
