-- What holds of the rows of a pass.
use Rattle.std.specs.Prelude.{ℕ, ◌<◌, ◌≡◌, true, List, length}
use Rattle.masks.specs.Presence.{stands}

-- P holds of every row below count that is wanted by these bytes
abbrev pub WantedBelow : List ℕ → ℕ → (ℕ → Type 0) → Type 0
WantedBelow bytes count P = (S : ℕ) → S < count → stands bytes S ≡ true → P S

-- and of every row that has a byte
abbrev pub OfWanted : List ℕ → (ℕ → Type 0) → Type 0
OfWanted bytes P = WantedBelow bytes (length bytes) P
