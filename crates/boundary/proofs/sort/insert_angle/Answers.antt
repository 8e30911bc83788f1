-- `sort::insert_angle`: at the place that is found the list stays in order.
use mathlib.Core.Path.{◌≡◌, refl, ap, ◌∙◌}
use mathlib.Core.Bool.{Bool, true, false, cond}
use mathlib.Core.List.{List}
use Prim.Native.Nat.{◌≤◌, ◌<◌}
use borrow.Author.Tests.{ltb-true, ltb-false}
use lib.Dec.{ltb}
use lib.Ieee.{Float}
use lib.ListN.{length}
use Rattle.boundary.specs.Sort.{insert}
use Rattle.boundary.proofs.Sorting.{insert_is}
use Rattle.boundary.proofs.sort.insert_angle.Goals as goal

pub returns : goal.returns
returns c =
    let x = c.args.x in
    let l = c.args.list.now.items in
    by x l _
    (λ room. c.insert.ensures.items room ∙ rw (c.place-first.ensures.first, c.deref.ensures.0) (insert_is (λ y. y) x l))
    (λ full. ap (λ s. s.items) (c.insert.ensures.full full)) (ltb (length l) 32) refl
  where
    by : (x : Float) (l after : List Float) → (length l < 32 → after ≡ insert x l) → (32 ≤ length l → after ≡ l)
        → (b : Bool) → ltb (length l) 32 ≡ b → after ≡ cond b (insert x l) l
    by x l after put stays true e = put (ltb-true _ _ e)
    by x l after put stays false e = stays (ltb-false _ _ e)
