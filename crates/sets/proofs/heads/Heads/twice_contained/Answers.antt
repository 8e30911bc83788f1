-- `Heads::twice_contained`: the other heads that contain one, counted.
use Rattle.std.proofs.Common.{leb, rules, tests}
use Rattle.std.specs.Int.Count.{ones}
use Rattle.masks.specs.Mask.{without_head}
use Rattle.sets.specs.Steps.{mask_of}
use Rattle.sets.proofs.Masks.{without_at}
use Rattle.sets.proofs.heads.Heads.twice_contained.Goals as goal

pub returns : goal.returns
returns c =
    let n = c.args.self.n in
    let masks = c.args.containing.now in
    c.mask.ensures (λ i. leb 2 (ones (without_head n (mask_of masks i) i)))
    (λ i b h post. rw (← without_at n (mask_of masks i) i c.args.self.few (c.requires i h) h) (search (rules, tests)))
