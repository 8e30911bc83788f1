-- `sort::insert`: at the place that is found the list stays in order.
use borrow.Author.Tests.{lt-ltb, eqb-false}
use mathlib.Core.Path.{◌≡◌, sym, ◌∙◌}
use mathlib.Core.Bool.{true}
use native.Mathlib.Omega.{arith}
use lib.Dec.{ltb}
use lib.ListN.{length}
use Rattle.boundary.proofs.Sorting.{insert_is, moved_on}
use Rattle.boundary.proofs.sort.insert.Goals as goal

pub returns-then-not-is_full : goal.returns-then-not-is_full
returns-then-not-is_full g c =
    let f = g.T.Angled.angle_of in
    let x = c.args.x in
    let l = c.args.list.now.items in
    let some = eqb-false _ _ (sym c.if-not-is_full.ensures.value) in
    let room : ltb (length l) 32 ≡ true = lt-ltb _ _ (omega (arith, some, c.is_full.ensures.fits)) in
    c.push.ensures.items
    ∙ rw (room, c.deref_mut.ensures.value)
    (moved_on x c.carry_in-last.result l c.carry_in-last.new.part c.place-first.result
    (rw c.deref.ensures.0 at c.place-first.ensures.most) (rw c.deref_mut.ensures.value at c.carry_in-last.ensures)
    ∙ rw (c.place-first.ensures.first, c.deref.ensures.0) (insert_is f x l))
