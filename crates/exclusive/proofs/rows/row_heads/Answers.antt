-- `rows::row_heads` meets its contract. The invariant: the heads of the rows before place i are counted.
use mathlib.Core.Path.{refl, ap, ◌∙◌}
use mathlib.Core.List.{List}
use Prim.Native.Nat.{ℕ}
use native.Mathlib.Omega.{arith}
use lib.Count.{ones}
use lib.ListN.{get_or, set, replicate, length-replicate}
use Rattle.lists.proofs.Writing.{written_none, write_next}
use Rattle.exclusive.proofs.rows.row_heads.Goals as goal

pub loop-i-init : goal.loop-i-init
loop-i-init c = written_none (λ i. ones (get_or c.args.rows.now i 0)) (replicate 1024 0)

pub loop-i-preserved : goal.loop-i-preserved
loop-i-preserved c =
    let l = c.loop-i in let R = c.args.rows.now in
    let v = ones (get_or R l.i 0) in
    ap (λ (t : List ℕ). set t l.i v) l.invariant
    ∙ write_next (λ i. ones (get_or R i 0)) l.i (replicate 1024 0) v 0 (omega (arith, length-replicate {A = ℕ} 1024 0))
    refl
