-- The passes of this crate over slices with room for every row of n heads.
use mathlib.Core.Path.{◌≡◌, ap, ◌∙◌}
use mathlib.Core.Bool.{Bool, cond}
use mathlib.Core.List.{List}
use Prim.Native.Nat.{ℕ, ◌^◌, ◌≤◌, ◌<◌}
use lib.Ieee.{Float, nan}
use lib.ListN.{get_or, length, drop}
use Rattle.binary64.specs.Constants.{zero64}
use Rattle.lists.specs.Written.{written}
use Rattle.lists.proofs.Writing.{written_cong}
use Rattle.masks.specs.Presence.{byte}
use Rattle.sums.specs.Rows.{number_at, areas_written}
use Rattle.sums.specs.Presence.{bytes_written, absent_cleared}
use Rattle.sums.proofs.Counts.{rows_all}

module _ (n : ℕ) (few : n ≤ 10) where
  pub areas_all : (wanted : ℕ → Bool) (area : ℕ → Float) (l : List Float) → 2 ^ n ≤ length l
      → areas_written n wanted area l ≡ written (number_at wanted area l) (2 ^ n) l
  areas_all wanted area l h = ap (λ (m : ℕ). written (number_at wanted area l) m l) (rows_all n (length l) few h)

  pub bytes_all : (there : ℕ → Bool) (l : List ℕ) → 2 ^ n ≤ length l
      → bytes_written n there l ≡ written (λ S. byte (there S)) (2 ^ n) l
  bytes_all there l h = ap (λ (m : ℕ). written (λ S. byte (there S)) m l) (rows_all n (length l) few h)

  -- numbers that beyond the rows are those of l, each row by what f says of it
  pub cleared_all : (there : ℕ → Bool) (k l : List Float) (f : ℕ → Float) → 2 ^ n ≤ length k
      → drop (2 ^ n) k ≡ drop (2 ^ n) l
      → ((S : ℕ) → S < 2 ^ n → cond (there S) (get_or k S nan) zero64 ≡ f S)
      → absent_cleared n there k ≡ written f (2 ^ n) l
  cleared_all there k l f h rest row =
      ap (λ (m : ℕ). written (λ S. cond (there S) (get_or k S nan) zero64) m k) (rows_all n (length k) few h)
      ∙ written_cong _ f (2 ^ n) k l row rest
