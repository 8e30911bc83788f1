-- `walk::HeadOfSet::list_gap`: what the number of the gap says of the list.
use mathlib.Core.Path.{sym, ◌∙◌}
use mathlib.Core.List.{append-nil}
use native.Mathlib.Omega.{arith}
use Rattle.sums.proofs.Walking.{pass_gap_listed}
use Rattle.sums.proofs.walk.HeadOfSet.list_gap.Goals as goal

pub returns-in-Some : goal.returns-in-Some
returns-in-Some c =
    let h = c.args.self.now in
    let below = c.requires.marks in
    record {
      count = omega (arith, c.push.ensures.len);
      added = rw c.push.ensures.items
          (pass_gap_listed h.pass h.mask h.within h.j h.head h.has c.args.a c.args.b below.0 below.1
          (sym c.in-Some.is ∙ c.gap_number.ensures) c.as_slice-marks.ensures.value c.head.ensures c.args.list.now.items);
    }

pub returns-in_default-clause-added : goal.returns-in_default-clause-added
returns-in_default-clause-added c =
    let h = c.args.self.now in
    let below = c.requires.marks in
    rw (append-nil c.args.list.now.items) at
    (pass_gap_listed h.pass h.mask h.within h.j h.head h.has c.args.a c.args.b below.0 below.1
    (sym c.in_default.is ∙ c.gap_number.ensures) c.as_slice-marks.ensures.value c.head.ensures c.args.list.now.items)
