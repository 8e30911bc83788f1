-- `shares::add_shares`: the shares before this one are added.
use mathlib.Core.Path.{◌≡◌}
use lib.ListN.{take}
use Rattle.sums.specs.Slopes.{add_shares}
use Rattle.sums.proofs.shares.add_shares.Given as goal

abbrev pub invariant-loop-share : goal.invariant-loop-share
invariant-loop-share l = l.grad ≡ add_shares l.place.at (take l.share-index l.shares) l.initial.grad
