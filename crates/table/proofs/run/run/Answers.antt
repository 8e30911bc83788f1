use mathlib.Core.Path.{◌≡◌, refl, sym, ap, ◌∙◌, subst}
use native.Mathlib.Omega.{arith}
use mathlib.Core.List.{List, ◌++◌, map, append-nil}
use Prim.Native.Nat.{ℕ, ◌<◌, ◌≤◌}
use lib.ListN.{length, take, drop, length-set, length-take, drop_of_length-le}
use Rattle.lists.specs.Run as Run
use Rattle.lists.specs.Written.{tab}
use Rattle.lists.proofs.Writing.{length_tab}
use Rattle.plan.specs.declared.Edit.{Edit}
use Rattle.plan.specs.Table.{answer_number}
use Rattle.regions.specs.Run.{edit_at, edit_count, slices_after, answers_after, answers_written, SlicesEnd}
use Rattle.regions.specs.Slices.{PlanSlices}
use Rattle.regions.proofs.Run.{slices_next, answers_next, run_ends}
use Rattle.table.specs.Method.{clipped_table}
use Rattle.table.specs.Tables.{plan_tables}
use Rattle.table.proofs.Calls.{same_self, same_then}
use Rattle.table.proofs.run.run.Goals as goal

-- the answers of a whole list of edits, and what stands beyond them
all_numbered : (start : PlanSlices) (es : List Edit) (n : ℕ) (out : List ℕ) → length es ≡ n → n ≤ length out
    → answers_written clipped_table start es (take n out) ++ drop n out ≡ answers_written clipped_table start es out
all_numbered start es n out e h =
    let numbers = map answer_number (answers_after clipped_table start es) in
    ap (λ t. (numbers ++ t) ++ drop n out)
    (drop_of_length-le (take n out) {i = length es} (omega (arith, length-take n out, e, h)))
    ∙ ap (λ t. t ++ drop n out) (append-nil numbers)
    ∙ ap (λ k. numbers ++ drop k out) (sym e)

pub loop-i-init : goal.loop-i-init
unfolding tab Run.after Run.answers
loop-i-init c = record {
  tried = record { slices = refl; answers = refl; many = refl };
  same_slices = same_self _;
}

pub loop-i-preserved : goal.loop-i-preserved
loop-i-preserved c =
    let l = c.loop-i in
    let a = c.args in
    let start : PlanSlices = plan_tables a.plan a.tables.now in
    let f = edit_at a.edits.head.now a.edits.x.now a.edits.y.now a.edits.radius.now in
    let so_far = l.invariant.tried in
    let room = take c.min-count.result a.answers.now in
    let within : l.i < length room = omega (arith, c.loop-i-test.true) in
    let next = c.at in
    let tried = c.edit-booked in
    let now = plan_tables l.left l.tables in record {
      tried = record {
        slices = slices_next clipped_table start f l.i now _ next.result tried.result.answer so_far.slices
            next.ensures tried.ensures.step;
        answers = answers_next clipped_table start f l.i now _ next.result tried.result.answer so_far.slices
            next.ensures tried.ensures.step room l.answer-items _ so_far.answers within c.answer_number.ensures;
        many = length-set l.answer-items l.i _ ∙ so_far.many;
      };
      same_slices = same_then l.invariant.same_slices tried.ensures.same_slices;
    }

pub returns : goal.returns
returns c =
    let l = c.loop-i in
    let a = c.args in
    let start : PlanSlices = plan_tables a.plan a.tables.now in
    let f = edit_at a.edits.head.now a.edits.x.now a.edits.y.now a.edits.radius.now in
    let count = edit_count a.edits.head.now a.edits.x.now a.edits.y.now a.edits.radius.now a.answers.now in
    let es = tab f count in
    let tried : c.min-count.result ≡ count = omega (arith, c.min-count.ensures, c.count.ensures) in
    let n = c.min-count.result in
    let room : n ≤ length a.answers.now = omega (arith, c.min-count.ensures) in
    let at_end : l.i ≡ n =
    omega (arith, c.loop-i-test.false, l.auto.i-end, length-take n a.answers.now, room) in
    let all = at_end ∙ tried in
    let left = l.invariant.tried.slices ∙ ap (λ n. slices_after clipped_table start (tab f n)) all in record {
      ran = record {
        tried = tried;
        folded = left;
        numbered = ap (λ t. t ++ drop n a.answers.now)
            (l.invariant.tried.answers
            ∙ ap (λ k. answers_written clipped_table start (tab f k) (take n a.answers.now)) all)
            ∙ all_numbered start es n a.answers.now (length_tab f count ∙ sym tried) room;
        ends = λ fresh.
            subst (λ d. SlicesEnd clipped_table start es d (answers_after clipped_table start es)) (sym left)
            (run_ends clipped_table start es fresh);
      };
      same_slices = l.invariant.same_slices;
    }
