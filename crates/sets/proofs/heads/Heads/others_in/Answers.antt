-- `Heads::others_in`: the test of the head, and the test of a subset for the others.
use Rattle.std.proofs.Common.{arith}
use Rattle.masks.specs.Gather.{gather_lt}
use Rattle.sets.proofs.Masks.{without_at, has_at, subset_at}
use Rattle.sets.proofs.heads.Heads.others_in.Goals as goal

pub returns-then-mask-i-ne0 : goal.returns-then-mask-i-ne0
returns-then-mask-i-ne0 c =
    let a = c.args in
    rw (
      has_at a.mask a.i (omega arith) c.if-mask-i-ne0.true,
      c.is_subset.ensures,
      without_at a.self.n a.mask a.i a.self.few c.requires.0 c.requires.1,
    )
    (subset_at a.self.n _ a.heads a.self.few (gather_lt a.self.n _))
