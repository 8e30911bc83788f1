-- The invariant: the bytes below mask are written, the others 0.
use mathlib.Core.Path.{◌≡◌, ap, ◌∙◌}
use mathlib.Core.List.{List, ◌++◌, append-nil}
use native.Mathlib.Omega.{arith}
use Prim.Native.Nat.{ℕ, ◌<◌, ◌≤◌}
use lib.ListN.{length, take, drop, replicate, length-take, length-replicate, drop_of_length-le}
use Rattle.lists.specs.Written.{tab, written}
use Rattle.lists.proofs.Writing.{written_none, write_next}
use Rattle.masks.specs.Presence.{byte, stands}
use Rattle.table.specs.Rows.{worked_out}
use Rattle.table.proofs.Writing.{worked_own, number_is_byte}
use Rattle.table.proofs.rows.Update.rows_worked_out.Goals as goal

abbrev zeros : List ℕ
zeros = replicate 1024 0

-- the first n written, and the rest of a list
part_written : (f : ℕ → ℕ) (i n : ℕ) (l : List ℕ) → i ≡ n → n ≤ length l
    → written f i (take n l) ++ drop n l ≡ written f n l
part_written f i n l e h =
    rw e
    (ap (λ t. (tab f n ++ t) ++ drop n l) (drop_of_length-le (take n l) {i = n} (omega (arith, length-take n l)))
    ∙ ap (λ t. t ++ drop n l) (append-nil (tab f n)))

pub loop-mask-init : goal.loop-mask-init
loop-mask-init c =
    let a = c.args.self in
    written_none (λ S. byte (worked_out a.change (stands a.earlier.now) (stands a.later.now) S))
    (take c.args.count zeros)

pub loop-mask-preserved : goal.loop-mask-preserved
loop-mask-preserved c =
    let l = c.loop-mask in
    let a = c.args in
    let was = stands a.self.earlier.now in
    let is = stands a.self.later.now in
    let row : ℕ → ℕ = λ S. byte (worked_out a.self.change was is S) in
    let many = length-take a.count zeros in
    let place : l.mask < length (take a.count zeros) =
    omega (arith, c.loop-mask-test.true, many, length-replicate {A = ℕ} 1024 0, c.requires) in
    rw l.invariant
    (write_next row l.mask (take a.count zeros) c.from.result 0 place
    (c.from.ensures ∙ number_is_byte c.works_out.result
    ∙ ap byte (c.works_out.ensures ∙ worked_own a.self.change was is l.mask)))

pub returns : goal.returns
returns c =
    let l = c.loop-mask in
    let a = c.args in
    let row : ℕ → ℕ = λ S. byte (worked_out a.self.change (stands a.self.earlier.now) (stands a.self.later.now) S) in
    rw l.invariant
    (part_written row l.mask a.count zeros
    (omega (
      arith,
      c.loop-mask-test.false,
      l.auto.mask-end,
      length-take a.count zeros,
      length-replicate {A = ℕ} 1024 0,
      c.requires,
    ))
    (omega (arith, length-replicate {A = ℕ} 1024 0, c.requires)))
