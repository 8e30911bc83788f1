-- `walk::walk`: the whole circle of a single; else the arcs of one head more.
use mathlib.Core.Path.{◌≡◌, sym, ◌∙◌}
use mathlib.Core.List.{[]}
use Prim.Native.Nat.{◌<◌}
use native.Mathlib.Omega.{arith}
use borrow.Author.Tests.{eq-eqb, ne_eqb}
use lib.ListN.{length}
use lib.Count.{count_trailing_zeros}
use Rattle.std.proofs.Math.Nat.{mod-eq_of_lt}
use Rattle.masks.specs.Operations.{in_by_shift}
use Rattle.masks.specs.Subset.{subset_head}
use Rattle.sums.proofs.Members.{pass_arcs}
use Rattle.sums.proofs.Walking.{set_below, single_below, single_in, whole_placed, heads_none, heads_more, heads_same}
use Rattle.sums.proofs.Walking.{arcs_many, arcs_one, added_none}
use Rattle.sums.proofs.walk.walk.Goals as goal
use Rattle.sums.proofs.walk.walk.Goals.{then-mask-j-eq1, else-mask-j-eq1}

pub returns-then-mask-eq1 : goal.returns-then-mask-eq1
returns-then-mask-eq1 c =
    let a = c.args in
    let p = a.pass.now in
    let n = set_below p a.mask c.requires in
    let one = c.if-mask-eq1.true in
    let head = single_below _ a.mask p.ten n one in
    let low : count_trailing_zeros 64 a.mask < 10 = omega (arith, head, p.ten) in
    rw (c.push.ensures.items, c.clear.ensures, c.number.ensures ∙ mod-eq_of_lt (omega (arith, low)))
    (record {
      said = arcs_one p.circles.now p.heads.now.items a.mask one low ∙ pass_arcs p a.mask c.requires;
      placed = (
        whole_placed p.heads.now.items p.needed (count_trailing_zeros 64 a.mask) low
            (subset_head a.mask p.needed c.requires (count_trailing_zeros 64 a.mask) (single_in _ a.mask p.ten n one)),
        tt,
      );
    })

pub loop-j-init : goal.loop-j-init
loop-j-init c =
    let a = c.args in
    let p = a.pass.now in
    rw c.clear.ensures (
      omega arith,
      added_none p.circles.now p.needed p.heads.now.items [] (sym (heads_none p.circles.now p.heads.now.items a.mask)),
    )

pub invariant_of-head : goal.invariant_of-head
invariant_of-head c =
    record {
      within = c.requires;
      head = omega (arith, c.loop-j-test.true);
      has = sym (in_by_shift _ _) ∙ eq-eqb _ _ c.if-mask-j-eq1.true;
    }

pub loop-j-preserved : goal.loop-j-preserved
loop-j-preserved c =
    let l = c.loop-j in
    let S = c.args.mask in
    let p = c.args.pass.now in
    elim c.if-mask-j-eq1.branch [
      | then-mask-j-eq1 w ↦ rw w.list-is (
        omega (arith, w.list.ensures.count),
        heads_more p S l.j (sym (in_by_shift S l.j) ∙ eq-eqb _ _ w.if-mask-j-eq1.true) l.invariant.1
            w.list.ensures.added,
      )
      | else-mask-j-eq1 w ↦ rw w.list-is (
        omega (arith, l.invariant.0),
        heads_same p S l.j (sym (in_by_shift S l.j) ∙ ne_eqb _ _ w.if-mask-j-eq1.false) l.invariant.1,
      )
    ]

pub returns : goal.returns
returns c =
    let l = c.loop-j in
    let a = c.args in
    let p = a.pass.now in
    let all : l.j ≡ length p.circles.now =
    omega (arith, c.loop-j-test.false, l.auto.j-end) in
    record {
      said = arcs_many p.circles.now p.heads.now.items a.mask c.if-mask-eq1.false
          (rw all at l.invariant.1.said) ∙ pass_arcs p a.mask c.requires;
      placed = l.invariant.1.placed tt;
    }
