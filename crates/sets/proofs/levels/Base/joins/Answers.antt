-- `Base::joins`: the tests of code are those of specs/Steps.antt.
use Rattle.std.proofs.Common.{◌≡◌, ℕ, ◌<◌, ◌^◌, Bool, false, not, ◌&&◌, eqb, arith}
use Rattle.std.proofs.lemmas.Bool.Decides.{nat_tests}
use Rattle.std.specs.Int.Bits.{bit_and}
use Rattle.masks.specs.Mask.{in_set, with_head, subset}
use Rattle.masks.specs.Gather.{gather_lt}
use Rattle.masks.specs.Presence.{stands}
use Rattle.sets.specs.Sets.{one_in_all}
use Rattle.sets.specs.Steps.{mask_of, joins}
use Rattle.sets.specs.declared.levels.Base.{Base}
use Rattle.sets.proofs.Masks.{count_most, ones_more, subset_at}
use Rattle.sets.proofs.Overlapping.{pairs_with}
use Rattle.sets.proofs.TwiceContained.{one_in_all_not}
use Rattle.sets.proofs.levels.Base.joins.Goals as goal

-- the four tests of code
tests_are : (base : Base) (f : ℕ → Bool) (i t : ℕ)
    → let levels = base.levels in
    let n = levels.heads.n in
    let o = mask_of levels.overlapping.now in
    let c = mask_of levels.containing.now in
    (i < n) × (in_set base.mask i ≡ false) × (t ≡ with_head n base.mask i)
    → joins n f o c t
    ≡ (not (f t)
    && (not (eqb (bit_and t levels.twice_contained) 0) && (subset 64 base.mask (o i) && one_in_all n c t)))
tests_are base f i t h =
    let levels = base.levels in
    let n = levels.heads.n in
    let o = mask_of levels.overlapping.now in
    grind (
      arith,
      nat_tests,
      h.2,
      levels.twice_is,
      base.two,
      pairs_with n o levels.turned base.mask i h.0 h.1 base.overlap,
      subset_at n base.mask (o i) levels.heads.few base.within,
      one_in_all_not n (mask_of levels.containing.now) (with_head n base.mask i) (gather_lt n _),
      ones_more n base.mask i base.within h.0 h.1,
    )

pub bounds-found-more : goal.bounds-found-more
bounds-found-more c =
    let heads = c.args.self.now.levels.heads in
    let small : c.args.more < 2 ^ heads.n = rw c.requires.2 (gather_lt heads.n _) in
    omega (arith, count_most heads.n heads.few)

pub one_in_all-requires : goal.one_in_all-requires
one_in_all-requires c = rw c.requires.2 (gather_lt c.args.self.now.levels.heads.n _)

pub returns-then-is_subset : goal.returns-then-is_subset
returns-then-is_subset c =
    grind (
      arith,
      nat_tests,
      c.if-is_subset.true,
      tests_are c.args.self.now (stands c.args.found.now) c.args.i c.args.more c.requires,
    )

pub returns-else-is_subset : goal.returns-else-is_subset
returns-else-is_subset c =
    grind (
      arith,
      nat_tests,
      c.if-is_subset.false,
      tests_are c.args.self.now (stands c.args.found.now) c.args.i c.args.more c.requires,
    )
