-- `Heads::masks`: the heads below i have their mask.
use Rattle.std.proofs.Common.{◌≡◌, Bool, ℕ, ◌<◌, length}
use Rattle.masks.specs.Mask.{gather}
use Rattle.sets.specs.Steps.{mask_of, AnswersBothAs}
use Rattle.sets.proofs.heads.Heads.masks.Given as goal

abbrev pub invariant-loop-i : goal.invariant-loop-i
invariant-loop-i g l = record {
  ten : length l.masks ≡ 10;
  filled : (p : ℕ → ℕ → Bool) → AnswersBothAs l.fn.self.n (goal.F-post g l.test) p
      → (k : ℕ) → k < l.i-counter → mask_of l.masks k ≡ gather l.fn.self.n (p k);
}
