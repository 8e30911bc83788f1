-- The coefficients so far give h, and h is no more than the next one.
use Rattle.std.proofs.Common.{◌≡◌, ◌≤◌, ◌<◌, length, take, get_or}
use Rattle.elementary.specs.FixedSteps.{from_last}
use Rattle.elementary.proofs.fixed.horner.Given as goal

abbrev pub invariant-loop-c : goal.invariant-loop-c
invariant-loop-c g l = record {
  value : l.h ≡ from_last (take l.c-index l.coefficients) l.z;
  room : l.c-index < length l.coefficients → l.h ≤ get_or l.coefficients l.c-index 0;
}
