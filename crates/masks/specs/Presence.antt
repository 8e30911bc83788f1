-- Presence bytes: "a presence byte (0 or 1)" for each mask, the byte of mask S at index S.
use Rattle.std.specs.Prelude.{ℕ, Bool, true, false, cond, List, ◌≡◌, refl, eqb, get_or}

abbrev pub byte : Bool → ℕ
byte b = cond b 1 0

-- the mask S is present
abbrev pub stands : List ℕ → ℕ → Bool
stands l S = eqb (get_or l S 0) 1

-- a byte says what it stands for
pub byte_stands : (b : Bool) → eqb (byte b) 1 ≡ b
byte_stands true = refl
byte_stands false = refl
