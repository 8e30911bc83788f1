-- `copying::copy_first`: one item more is written.
use mathlib.Core.Path.{◌≡◌, ap, ◌∙◌}
use mathlib.Core.List.{◌++◌}
use Prim.Native.Nat.{ℕ, min}
use native.Mathlib.Omega.{arith}
use lib.ListN.{length, set, take, drop}
use Rattle.exclusive.proofs.FirstItems.{copied_on}
use Rattle.exclusive.proofs.copying.copy_first.Goals as goal

pub loop-s-preserved : goal.loop-s-preserved
loop-s-preserved g c =
    let l = c.loop-s in
    let v = c.index-from-s.result in
    ap (λ t. set t l.s v) l.invariant
    ∙ copied_on c.args.from.now c.args.to.now l.s v
    (omega (arith, c.loop-s-test.true, c.min-count.ensures, c.min.ensures))
    (omega (arith, c.loop-s-test.true, c.min-count.ensures, c.min.ensures)) c.index-from-s.is

pub returns : goal.returns
returns g c =
    let l = c.loop-s in
    let a = c.args in
    let e : l.s ≡ min a.n (min (length a.from.now) (length a.to.now)) =
    omega (arith, l.auto.s-end, c.loop-s-test.false, c.min-count.ensures, c.min.ensures) in
    l.invariant ∙ ap (λ (m : ℕ). take m a.from.now ++ drop m a.to.now) e
