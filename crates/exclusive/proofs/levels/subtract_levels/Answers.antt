-- `levels::subtract_levels` meets its contract. The invariants: the rows from place hi on, and in the inner loop from
-- place i on, have their unclamped exclusives, those before it are as they were; and the sums of the rows before the
-- level have not begun.
use mathlib.Core.Path.{◌≡◌, refl, sym, ap, ◌∙◌, subst}
use mathlib.Core.List.{List}
use Prim.Native.Nat.{ℕ, ◌+◌, ◌-◌, ◌^◌, ◌<◌}
use native.Mathlib.Omega.{arith}
use lib.Ieee.{nan}
use lib.ListN.{length, get_or, get_or-replicate}
use Rattle.lists.specs.Every.{Every}
use Rattle.masks.specs.Presence.{stands}
use Rattle.binary64.specs.Constants.{zero64}
use Rattle.exclusive.specs.declared.presence.Presence.{Presence}
use Rattle.exclusive.specs.RowOrder.{row_order}
use Rattle.exclusive.proofs.RowOrder.{every_row}
use Rattle.exclusive.proofs.Places.{row_lt}
use Rattle.exclusive.proofs.Passing.{Pass, pass_start}
use Rattle.exclusive.proofs.LevelSums.{row_at, level_sums, level_next}
use Rattle.exclusive.proofs.levels.subtract_levels.Goals as goal

-- place i of the rows has a row of the table
place : (P : Presence) (rows : List ℕ) (i : ℕ) → rows ≡ row_order (stands P.bytes.now) P.n → i < length rows
    → (get_or rows i 0 < 2 ^ P.n) × (get_or rows i 0 < 1024)
place P rows i e h = let s = (row_at P.n (stands P.bytes.now) rows i e h).2 in (s, row_lt P.n _ P.few s)

pub loop-hi-init : goal.loop-hi-init
loop-hi-init c =
    let P = c.args.present.now in let rows = c.as_slice-rows.result.now in let e = c.as_slice-rows.ensures in record {
      within = omega arith;
      room = refl;
      pass = pass_start P.n (stands P.bytes.now) 1 (length rows) c.args.areas.now
          (omega (arith, ap length (e.value ∙ c.row_order-order.ensures)));
      unbegun = λ i h. get_or-replicate 1024 i zero64 nan (omega (arith, e.fits));
    }

pub add_rows_after-requires : goal.add_rows_after-requires
add_rows_after-requires c =
    let P = c.args.present.now in let A = c.loop-hi.areas in
    subst (Every (λ T. T < length A)) (sym (c.as_slice-rows.ensures.value ∙ c.row_order-order.ensures))
    (every_row (stands P.bytes.now) (λ T. T < length A) P.n (λ T h p. omega arith))

pub offset_bounds-areas-s : goal.offset_bounds-areas-s
offset_bounds-areas-s c =
    omega (
      arith,
      (place c.args.present.now _ (c.loop-i.i - 1) (c.as_slice-rows.ensures.value ∙ c.row_order-order.ensures)
          (omega (arith, c.loop-hi.invariant.within))).1,
    )

pub bounds-areas-s : goal.bounds-areas-s
bounds-areas-s c =
    omega (
      arith,
      (place c.args.present.now _ (c.loop-i.i - 1) (c.as_slice-rows.ensures.value ∙ c.row_order-order.ensures)
          (omega (arith, c.loop-hi.invariant.within))).0,
    )

pub bounds-areas-s-in-loop-i : goal.bounds-areas-s-in-loop-i
bounds-areas-s-in-loop-i c =
    omega (
      arith,
      (place c.args.present.now _ (c.loop-i.i - 1) (c.as_slice-rows.ensures.value ∙ c.row_order-order.ensures)
          (omega (arith, c.loop-hi.invariant.within))).0,
    )

pub loop-i-preserved : goal.loop-i-preserved
loop-i-preserved c =
    let P = c.args.present.now in let rows = c.as_slice-rows.result.now in
    let e = c.as_slice-rows.ensures.value ∙ c.row_order-order.ensures in
    let m = c.loop-hi in let l = c.loop-i in let i = l.i - 1 in let before = c.args.areas.now in
    let z : l.i ≡ i + 1 = omega arith in
    let due = level_sums P.n (stands P.bytes.now) rows e before m.areas c.level_start-lo.result m.hi m.sums _ P.few
    m.invariant.within
    m.invariant.pass m.invariant.unbegun c.level_start-lo.ensures.as_many_heads c.add_rows_after.ensures i (omega arith)
    (omega arith) in record {
      low = omega arith;
      pass =
          level_next P.n (stands P.bytes.now) rows e before l.areas i _ (omega (arith, m.invariant.within))
          (omega arith) due
          (subst (λ (j : ℕ). Pass P.n (stands P.bytes.now) 1 j before l.areas) z l.invariant.pass);
    }
