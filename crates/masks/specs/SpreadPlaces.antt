-- Where things go when heads are left out, in plain numbers; and that nothing is forgotten: every row of all heads is
-- that of a row of those kept, or names a head left out. Proved in proofs/SpreadPlaces.antt.
use Rattle.std.specs.Prelude.{ℕ, suc, ◌+◌, ◌*◌, ◌^◌, ◌<◌, Bool, true, false, cond, List, ◌⊎◌, ◌≡◌, ltb}
use Rattle.lists.specs.Kept.{kept, all_but, place, kept_below}
use Rattle.masks.specs.Mask.{in_set}
use Rattle.masks.specs.Spread.{spread}

-- one head left out: the numbers below k stay, those from k on are one higher
abbrev pub OnePlace : Type 0
OnePlace = (k j : ℕ) → place (all_but k) j ≡ cond (ltb j k) j (suc j)

-- and of a mask the bits below k stay, those from k on stand one place higher
abbrev pub OneBit : Type 0
OneBit = (k low high : ℕ) → low < 2 ^ k → spread (all_but k) (low + 2 ^ k * high) ≡ low + 2 ^ suc k * high

-- the mask S names one of the n heads that is left out
pub record NamesLeftOut (keeps : List Bool) (n S : ℕ) : Type 0 where
  pub head : ℕ
  pub below : head < n
  pub left_out : kept keeps head ≡ false
  pub named : in_set S head ≡ true

-- the mask S is a mask of those kept, spread
pub record IsSpread (keeps : List Bool) (n S : ℕ) : Type 0 where
  pub mask : ℕ
  pub below : mask < 2 ^ kept_below keeps n
  pub same : S ≡ spread keeps mask

abbrev pub EveryRow : Type 0
EveryRow = (keeps : List Bool) (n S : ℕ) → S < 2 ^ n → IsSpread keeps n S ⊎ NamesLeftOut keeps n S
