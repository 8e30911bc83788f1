-- `sort::insert_among`: at the place that is found among the n, what stands from there on having moved up.
use native.Mathlib.Omega.{arith}
use mathlib.Core.Path.{◌≡◌}
use Prim.Native.Nat.{◌+◌, ◌-◌}
use Rattle.boundary.proofs.Sorting.{insert_among_is}
use Rattle.boundary.proofs.sort.insert_among.Goals as goal

pub returns-then-end-all : goal.returns-then-end-all
returns-then-end-all g c =
    let a = c.args in
    let f = g.T.Angled.angle_of in
    let below = c.if-end-all.true in
    let end : c.saturating_add-end.result ≡ a.at + a.n = omega (arith, c.saturating_add-end.ensures, below) in
    let some : c.saturating_add-end.result - a.at ≡ a.n = omega (arith, end) in
    rw (c.copy_within.ensures.after, c.place.ensures.first, some, end)
    (insert_among_is f a.x a.all.now a.at a.n (omega (arith, end, below)))
