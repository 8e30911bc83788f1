-- `Radicand::nearest_by_digits` meets its contract: each turn takes one pair of digits.
use Rattle.std.proofs.Common.{ℕ, ◌≡◌, ◌+◌, ◌-◌, ◌<◌, ◌≤◌, arith}
use Rattle.elementary.proofs.root.Digits.{taken_one, taken_zero, taken_down, taken_up}
use Rattle.elementary.proofs.root.Radicand.nearest_by_digits.Goals as goal
use Rattle.elementary.proofs.root.Radicand.nearest_by_digits.Goals.{then-square-rest, else-square-rest}

pub loop-preserved : goal.loop-preserved
loop-preserved c =
    let l = c.loop in
    let left : ℕ = 53 - l.counter in
    let more : 0 < left = omega arith in
    let next : 53 - (l.counter + 1) ≡ left - 1 = omega arith in
    elim c.if-square-rest.branch [
      | then-square-rest w ↦
          rw (w.root-is, w.rest-is, next)
          (taken_one _ l.digits l.root l.rest left l.invariant more w.if-square-rest.true)
      | else-square-rest w ↦
          rw (w.root-is, w.rest-is, next)
          (taken_zero _ l.digits l.root l.rest left l.invariant more w.if-square-rest.false)
    ]

pub returns-then-rest-root : goal.returns-then-rest-root
returns-then-rest-root c =
    let l = c.loop in
    let end : 53 - l.counter ≤ 0 = omega arith in
    taken_down c.args.self.m l.digits l.root l.rest (53 - l.counter) c.args.self.least c.args.self.below l.invariant end
    c.if-rest-root.true

pub returns-else-rest-root : goal.returns-else-rest-root
returns-else-rest-root c =
    let l = c.loop in
    let end : 53 - l.counter ≤ 0 = omega arith in
    taken_up c.args.self.m l.digits l.root l.rest (53 - l.counter) c.args.self.least c.args.self.below l.invariant end
    c.if-rest-root.false
