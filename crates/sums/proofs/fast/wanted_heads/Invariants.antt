-- `fast::wanted_heads`: the heads of the wanted sets below mask.
use Prim.Native.Nat.{ℕ, ◌^◌, ◌≤◌, ◌<◌}
use lib.ListN.{length}
use Rattle.masks.specs.Mask.{Subset}
use Rattle.sums.specs.Fast.{WantedBelow}
use Rattle.sums.proofs.fast.wanted_heads.Given as goal

abbrev pub invariant-loop-mask : goal.invariant-loop-mask
invariant-loop-mask l =
    WantedBelow l.wanted l.mask (λ S. Subset S l.heads) × ((n : ℕ) → length l.wanted ≤ 2 ^ n → l.heads < 2 ^ n)
