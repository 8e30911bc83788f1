-- `subtract::add_numbers` meets its contract. The invariant: the first q sums have their numbers.
use mathlib.Core.Path.{ap, ◌∙◌}
use mathlib.Core.List.{List}
use Prim.Native.Nat.{ℕ, ◌+◌}
use native.Mathlib.Omega.{arith}
use lib.Ieee.{Float, nan}
use lib.ListN.{get_or, set}
use Rattle.lists.proofs.Writing.{written_none, write_next, written_past}
use Rattle.binary64.specs.Floats.{◌+ᶠ◌}
use Rattle.exclusive_gradients.proofs.subtract.add_numbers.Goals as goal

pub loop-q-init : goal.loop-q-init
loop-q-init g c =
    written_none (λ q. get_or c.args.sums.now q nan +ᶠ get_or c.args.numbers.now (c.args.at + q) nan) c.args.sums.now

pub loop-q-preserved : goal.loop-q-preserved
loop-q-preserved g c =
    let l = c.loop-q in let a = c.args in
    let f : ℕ → Float = λ q. get_or a.sums.now q nan +ᶠ get_or a.numbers.now (a.at + q) nan in
    let v = get_or l.sums l.q nan +ᶠ get_or a.numbers.now (a.at + l.q) nan in
    ap (λ (t : List Float). set t l.q v) l.invariant
    ∙ write_next f l.q a.sums.now v nan (omega arith)
    (ap (λ (x : Float). x +ᶠ get_or a.numbers.now (a.at + l.q) nan)
    (ap (λ (t : List Float). get_or t l.q nan) l.invariant ∙ written_past f l.q l.q a.sums.now nan (omega arith)))
