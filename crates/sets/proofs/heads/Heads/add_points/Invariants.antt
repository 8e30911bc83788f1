-- `Heads::add_points`: the adopter masks of the points so far are marked, with their parts, and the masks of the heads
-- have the parents of these points.
use Rattle.std.proofs.Common.{◌≡◌, length, take}
use Rattle.sets.specs.Regions.{meets_at}
use Rattle.sets.specs.Steps.{MasksSay}
use Rattle.sets.proofs.Taken.{adopters_to}
use Rattle.sets.proofs.heads.Heads.add_points.Given as goal

abbrev pub invariant-loop-q : goal.invariant-loop-q
invariant-loop-q l = record {
  ten : length l.meeting ≡ 10;
  noted : MasksSay l.meeting (meets_at (take l.q-index l.points));
  marks : l.found ≡ adopters_to l.fn.self.n l.points l.q-index l.initial.found;
}
