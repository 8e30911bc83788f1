-- `Heads::mask`: the mask has the heads below i that pass the test.
use Rattle.std.proofs.Common.{◌≡◌, Bool, ℕ}
use Rattle.masks.specs.Mask.{gather}
use Rattle.sets.specs.Steps.{AnswersAs}
use Rattle.sets.proofs.heads.Heads.mask.Given as goal

abbrev pub invariant-loop-i : goal.invariant-loop-i
invariant-loop-i g l = (p : ℕ → Bool) → AnswersAs l.fn.self.n (goal.F-post g l.test) p → l.mask ≡ gather l.i p
