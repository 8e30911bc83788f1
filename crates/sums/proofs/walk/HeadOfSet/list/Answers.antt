-- `walk::HeadOfSet::list`: the whole circle, or one gap more.
use mathlib.Core.Path.{sym, ap, ◌∙◌}
use Prim.Native.Nat.{◌<◌}
use native.Mathlib.Omega.{arith}
use lib.ListN.{length, get_or}
use Rattle.std.proofs.Math.Nat.{mod-eq_of_lt}
use Rattle.std.specs.List.{position}
use Rattle.masks.specs.Mask.{subset}
use Rattle.boundary.specs.Marks.{no_mark}
use Rattle.gaps.specs.Marks.{adopted_by}
use Rattle.sums.specs.Walk.{marks_of}
use Rattle.sums.proofs.Walking.{no_angle, whole_yes, whole_no, round_start, round_next, round_skips, round_end}
use Rattle.sums.proofs.walk.HeadOfSet.list.Goals as goal
use Rattle.sums.proofs.walk.HeadOfSet.list.Goals.{then-is_subset-2, else-is_subset-2}

pub returns-then-is_subset-clause-added : goal.returns-then-is_subset-clause-added
returns-then-is_subset-clause-added c =
    let h = c.args.self.now in
    let marks = c.as_slice-marks.ensures.value ∙ ap (λ h. h.marks.items) c.head-head.ensures in
    let none = no_angle h.mask (marks_of h.pass.heads.now.items h.j)
    (sym c.in_default.is ∙ c.first_in.ensures ∙ ap (position (adopted_by h.mask)) marks) in
    rw (c.push.ensures.items, c.number.ensures ∙ mod-eq_of_lt (omega (arith, h.head, h.pass.ten)))
    (whole_yes h.pass h.mask h.within h.j h.head h.has none c.args.list.now.items
    (ap (λ t. subset 64 h.mask t.owners) (sym c.head-head.ensures) ∙ sym c.is_subset.ensures ∙ c.if-is_subset.true))

pub returns-else-is_subset-clause-added : goal.returns-else-is_subset-clause-added
returns-else-is_subset-clause-added c =
    let h = c.args.self.now in
    let marks = c.as_slice-marks.ensures.value ∙ ap (λ h. h.marks.items) c.head-head.ensures in
    let none = no_angle h.mask (marks_of h.pass.heads.now.items h.j)
    (sym c.in_default.is ∙ c.first_in.ensures ∙ ap (position (adopted_by h.mask)) marks) in
    whole_no h.pass h.mask h.within h.j h.head h.has none c.args.list.now.items
    (ap (λ t. subset 64 h.mask t.owners) (sym c.head-head.ensures) ∙ sym c.is_subset.ensures ∙ c.if-is_subset.false)

pub loop-b-init : goal.loop-b-init
loop-b-init c =
    let h = c.args.self.now in
    let marks = c.as_slice-marks.ensures.value ∙ ap (λ h. h.marks.items) c.head-head.ensures in
    round_start h.pass h.mask h.j c.in-Some.first c.args.list.now.items
    (sym c.in-Some.is ∙ c.first_in.ensures ∙ ap (position (adopted_by h.mask)) marks) c.requires.room

pub loop-b-preserved : goal.loop-b-preserved
unfolding adopted_by
loop-b-preserved c =
    let h = c.args.self.now in
    let l = c.loop-b in
    let marks = c.as_slice-marks.ensures.value ∙ ap (λ h. h.marks.items) c.head-head.ensures in
    let below : l.b < length (marks_of h.pass.heads.now.items h.j) =
    omega (arith, c.loop-b-test.true, ap length marks) in
    let tested = ap (λ t. adopted_by h.mask (get_or t l.b no_mark)) (sym marks) ∙ sym c.is_subset-in-loop-b.ensures in
    elim c.if-is_subset-2.branch [
      | then-is_subset-2 w ↦ rw (w.list-is, w.last-is)
          (round_next h.pass h.mask h.j _ l.invariant below (tested ∙ w.if-is_subset-2.true)
          w.list_gap.ensures.count w.list_gap.ensures.added)
      | else-is_subset-2 w ↦ rw (w.list-is, w.last-is)
          (round_skips h.pass h.mask h.j _ l.invariant below (tested ∙ w.if-is_subset-2.false))
    ]

pub returns : goal.returns
returns c =
    let h = c.args.self.now in
    let w = c.loop-b.invariant in
    let last = c.list_gap-2.ensures in
    let marks = c.as_slice-marks.ensures.value ∙ ap (λ h. h.marks.items) c.head-head.ensures in
    record {
      count = omega (arith, last.count, w.room, w.last_below, ap length marks, c.as_slice-marks.ensures.fits);
      added = round_end h.pass h.mask h.j _ w (omega (arith, c.loop-b-test.false, ap length marks)) last.added;
    }
