-- `BoxRowsWithGradients::add_parts_at`: as its parts are held, or worked out.
use mathlib.Core.Path.{◌≡◌, sym}
use Prim.Native.Nat.{◌*◌}
use native.Mathlib.Omega.{arith}
use Rattle.sums.specs.Walk.{head_of}
use Rattle.sums.proofs.Held.{placed_ten}
use Rattle.sums.proofs.Sloping.{full_is, held_is}
use Rattle.sums.proofs.row.BoxRowsWithGradients.add_parts_at.Goals as goal

pub returns-in-Some : goal.returns-in-Some
returns-in-Some c =
    let r = c.args.self.now in
    let at : c.after.result.at ≡ head_of c.args.place * 3 =
    omega (arith, c.after.ensures, c.head.ensures.value, placed_ten c.args.self.now.pass c.args.place c.requires) in
    held_is (r.valued c.args.place c.in-Some.along (sym c.in-Some.ensures)) c.args.total c.args.grad.now
    (rw (at, c.deref.ensures.0) at c.add_shares.ensures)

pub returns : goal.returns
returns c =
    let p = c.args.self.now.pass in
    full_is c.args.self.now.bounds p.circles.now p.heads.now.items c.args.place c.circle.ensures c.arc.ensures
    (placed_ten p c.args.place c.requires) c.args.total c.args.grad.now c.head_arc_integral_with_gradient.ensures
