-- `Heads::overlapping_heads`: `1 << i | 1 << j` is the pair.
use Rattle.std.proofs.Common.{rules, tests}
use Rattle.masks.specs.Presence.{stands}
use Rattle.sets.specs.Sets.{pair}
use Rattle.sets.proofs.Masks.{pair_at}
use Rattle.sets.proofs.heads.Heads.overlapping_heads.Goals as goal

pub returns : goal.returns
returns c =
    let a = c.args in
    c.masks.ensures (λ i j. stands a.found.now (pair a.self.n i j))
    (λ i j b hi hj post. rw (← pair_at a.self.n i j a.self.few hi hj) (search (rules, tests)))
