-- `Levels::add`: byte `mask` of the level says whether the mask is in its level.
use Rattle.std.proofs.Common.{◌≡◌, ◌<◌, ◌^◌, true, sym, ◌∙◌, arith}
use Rattle.std.proofs.lemmas.Bool.Decides.{nat_tests}
use borrow.Author.Tests.{eq-eqb}
use Rattle.masks.specs.Presence.{stands}
use Rattle.sets.specs.Sets.{joined}
use Rattle.sets.specs.Steps.{mask_of}
use Rattle.sets.proofs.Masks.{count_at}
use Rattle.sets.proofs.LevelStep.{passing, two_heads}
use Rattle.sets.proofs.Overlapping.{level_says, level_pairs}
use Rattle.sets.proofs.levels.Levels.add.Goals as goal

pub invariant_of-base : goal.invariant_of-base
invariant_of-base c =
    let levels = c.args.self.now in
    let n = levels.heads.n in
    let f = stands c.args.found.now in
    let o = mask_of levels.overlapping.now in
    let d = mask_of levels.containing.now in
    let s = c.loop-mask.mask in
    let room : s < 2 ^ n = omega (arith, count_at n levels.heads.few) in
    let its : joined n f o d s ≡ true =
    sym (level_says n f o c.requires d s levels.heads.few room c.loop-mask.invariant.joining c.add_pairs.ensures)
    ∙ eq-eqb _ 1 c.if-level-mask-eq1.true in
    record {
      within = room;
      two = two_heads n f o d s its;
      overlap = level_pairs n f o c.requires d s room its;
    }

pub loop-mask-preserved : goal.loop-mask-preserved
loop-mask-preserved c =
    let levels = c.args.self.now in
    let n = levels.heads.n in
    let s = c.loop-mask.mask in
    let room : s < 2 ^ n = omega (arith, count_at n levels.heads.few) in
    let says = level_says n (stands c.args.found.now) (mask_of levels.overlapping.now) c.requires
    (mask_of levels.containing.now) s levels.heads.few room c.loop-mask.invariant.joining c.add_pairs.ensures in
    record { marks = grind (arith, nat_tests, says, passing); joining = grind (arith, nat_tests, says, passing) }
