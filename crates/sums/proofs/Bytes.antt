-- Whether a row is there, as the code asks it; of the list of sets a row looks at its own.
use mathlib.Core.Path.{◌≡◌, refl}
use mathlib.Core.Bool.{Bool}
use Prim.Native.Nat.{ℕ, zero, suc}
use Rattle.sums.specs.Presence.{among}

module _ (has_box : Bool) where
  pub among_own : (sets : ℕ → Bool) (S : ℕ) → among has_box (λ T. sets S) S ≡ among has_box sets S
  among_own sets zero = refl
  among_own sets (suc S) = refl
