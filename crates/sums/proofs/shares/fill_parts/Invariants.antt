-- `shares::fill_parts`: what is held is right.
use mathlib.Core.Path.{◌≡◌}
use lib.ListN.{length}
use Rattle.sums.specs.Slopes.{PartsValued}
use Rattle.sums.proofs.shares.fill_parts.Given as goal

abbrev pub invariant-loop-place : goal.invariant-loop-place
invariant-loop-place l =
    (length l.parts.along ≡ 330)
    × PartsValued l.bounds l.pass.circles.now l.pass.heads.now.items l.parts.shares.items l.parts.along
