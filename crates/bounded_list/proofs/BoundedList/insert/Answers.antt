-- `BoundedList::insert`: those from its place on have moved up.
use mathlib.Core.Path.{◌≡◌, refl, sym, ap, ◌∙◌}
use native.Mathlib.Omega.{arith}
use Prim.Native.Nat.{min}
use lib.ListN.{length, take}
use Rattle.std.specs.List.{insert}
use Rattle.std.proofs.lemmas.List.{length-take-le}
use Rattle.bounded_list.proofs.Moving.{put_in, at_the_end}
use Rattle.bounded_list.proofs.BoundedList.insert.Goals as goal

pub returns-then-len-clause-items : goal.returns-then-len-clause-items
returns-then-len-clause-items g c room =
    let a = c.args in
    let inside = c.self.inside in
    let many : length (take inside.len inside.places) ≡ inside.len =
    length-take-le inside.len inside.places (omega (arith, c.self.invariant)) in
    put_in inside.places c.carry_in-last.new.part c.min-first.result inside.len a.x c.carry_in-last.result
    (omega (arith, c.min-first.ensures)) (omega (arith, c.self.told, c.if-len.true)) c.carry_in-last.ensures
    ∙ ap (λ k. insert (take inside.len inside.places) k a.x) (c.min-first.ensures ∙ ap (min a.at) (sym many))
    ∙ at_the_end (take inside.len inside.places) a.at a.x
    ∙ rw (← c.self.view_is) refl
