-- `rows::print_rows` meets its contract. The invariant: the lines of the rows of fewer than c heads are put.
use mathlib.Core.Path.{◌≡◌, refl, sym}
use Prim.Native.Nat.{◌+◌}
use native.Mathlib.Omega.{arith}
use Rattle.std.proofs.Common.{rules}
use Rattle.masks.specs.Operations.{shifted_is}
use Rattle.exclusive.proofs.Places.{masks_le}
use Rattle.printing.proofs.Putting.{put_nothing, advance_none, printed_by}
use Rattle.printing.proofs.Lines.{none_below, level_put, lines_all, lines_none, levels_few}
use Rattle.printing.proofs.rows.print_rows.Goals as goal
use Rattle.printing.proofs.rows.print_rows.Goals.{else-loop-c-test, then-loop-c-test+else-c-n}

pub returns-then-n-gt10 : goal.returns-then-n-gt10
returns-then-n-gt10 c =
    let none = lines_none c.args.n c.args.presence.now c.args.numbers.now c.if-n-gt10.true in
    rw none (record { counted = refl; bytes = sym (put_nothing _ 0) })

pub loop-c-init : goal.loop-c-init
loop-c-init c = rw none_below (advance_none _)

pub put_level-requires : goal.put_level-requires
put_level-requires c =
    let a = c.args in
    omega (
      arith,
      levels_few a.n a.presence.now a.numbers.now c.loop-c.c,
      masks_le a.n (omega arith),
      shifted_is 64 a.n (omega arith),
    )

pub loop-c-preserved : goal.loop-c-preserved
loop-c-preserved c =
    let a = c.args in
    level_put a.n a.presence.now a.numbers.now c.loop-c.c _ (shifted_is 64 a.n (omega arith)) c.loop-c.invariant c.put_level.ensures

pub returns : goal.returns
returns c =
    let a = c.args in
    elim c.loop-c-test.branch [
      | else-loop-c-test w ↦ absurd (omega arith)
      | then-loop-c-test+else-c-n w ↦
          let last : c.loop-c.c + 1 ≡ a.n + 1 = omega arith in
          let all = level_put a.n a.presence.now a.numbers.now c.loop-c.c _ (shifted_is 64 a.n (omega arith)) c.loop-c.invariant w.put_level.ensures in
          let every = lines_all a.n a.presence.now a.numbers.now (omega arith) in
          let whole = rw (last, every) at all in
          rw w.text-is (printed_by _ refl (search rules) whole)
    ]
