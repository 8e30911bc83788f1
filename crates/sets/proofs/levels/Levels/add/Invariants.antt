-- `Levels::add`: the masks so far of their levels are marked as found, and in `level` what joins from those masks.
use Rattle.std.proofs.Common.{◌≡◌}
use Rattle.masks.specs.Presence.{stands}
use Rattle.sets.specs.Steps.{mask_of}
use Rattle.sets.proofs.LevelStep.{joined_to, joining_to}
use Rattle.sets.proofs.levels.Levels.add.Given as goal

abbrev pub invariant-loop-mask : goal.invariant-loop-mask
invariant-loop-mask l =
    let levels = l.fn.self in
    let n = levels.heads.n in
    let f = stands l.initial.found in
    let o = mask_of levels.overlapping.now in
    let c = mask_of levels.containing.now in
    record {
      marks : l.found ≡ joined_to n f o c l.mask l.initial.found;
      joining : l.level ≡ joining_to n f o c l.mask l.initial.level;
    }
