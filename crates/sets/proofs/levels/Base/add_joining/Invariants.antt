-- `Base::add_joining`: the mask with each head below i that it lacks is marked, where it joins.
use Rattle.std.proofs.Common.{◌≡◌}
use Rattle.masks.specs.Mask.{with_head}
use Rattle.masks.specs.Presence.{stands}
use Rattle.sets.specs.Steps.{mask_of}
use Rattle.sets.proofs.Marks.{marks_to}
use Rattle.sets.proofs.LevelStep.{joins_by}
use Rattle.sets.proofs.levels.Base.add_joining.Given as goal

abbrev pub invariant-loop-i : goal.invariant-loop-i
invariant-loop-i l =
    let levels = l.self.levels in
    let n = levels.heads.n in
    let o = mask_of levels.overlapping.now in
    let c = mask_of levels.containing.now in
    l.level ≡ marks_to (with_head n l.self.mask) (joins_by n (stands l.found) o c l.self.mask) l.i l.initial.level
