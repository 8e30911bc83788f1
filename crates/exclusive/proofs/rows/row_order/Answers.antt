-- `rows::row_order` meets its contract. The invariants: the rows of fewer than c heads are listed, and in the inner
-- loop, with those of c heads among the rows left, the rows of c heads at most.
use mathlib.Core.Path.{◌≡◌, sym, ap, ap₂, ◌∙◌}
use mathlib.Core.List.{List, [], ◌∷◌, ◌++◌, append-nil}
use Prim.Native.Nat.{ℕ, suc, ◌+◌, ◌^◌, ◌≤◌, ◌<◌}
use native.Mathlib.Omega.{arith}
use borrow.Author.Tests.{eq-eqb, ne_eqb}
use lib.Count.{ones}
use lib.ListN.{length, get_or, take, drop, replicate, length-append}
use Rattle.lists.specs.Lists.{up_to, keep}
use Rattle.lists.specs.Written.{written}
use Rattle.lists.proofs.Writing.{written_before}
use Rattle.masks.specs.Presence.{stands}
use Rattle.exclusive.specs.RowOrder.{row_order}
use Rattle.exclusive.proofs.Places.{few_rows, rows_next, level_kept, masks_le}
use Rattle.exclusive.proofs.Sums.{kept_with, kept_without, kept_end}
use Rattle.exclusive.proofs.rows.row_order.Invariants.{Before, Has}
use Rattle.exclusive.proofs.rows.row_order.Goals as goal
use Rattle.exclusive.proofs.rows.row_order.Goals.{then-heads-i, else-heads-i}

-- the heads of row i of those found, as they were counted
counted : (found heads : List ℕ) (i : ℕ) → i < length found
    → heads ≡ written (λ j. ones (get_or found j 0)) (length found) (replicate 1024 0)
    → get_or heads i 0 ≡ ones (get_or found i 0)
counted found heads i h e =
    ap (λ (t : List ℕ). get_or t i 0) e
    ∙ written_before (λ j. ones (get_or found j 0)) (length found) i (replicate 1024 0) 0 h

-- a list of rows before those of c heads that are left has a place for one more
room : (bytes rows rest : List ℕ) (n c S : ℕ) → n ≤ 10 → (rows ++ (S ∷ [])) ++ rest ≡ Before bytes n c
    → length rows < 1024
room bytes rows rest n c S few e =
    omega (
      arith,
      ap length e,
      length-append (rows ++ (S ∷ [])) rest,
      length-append rows (S ∷ []),
      few_rows (stands bytes) (2 ^ n) c,
      masks_le n few,
    )

-- no rows are left
level_end : (bytes rows masks : List ℕ) (n c i : ℕ) → length masks ≤ i
    → rows ++ keep (Has c) (drop i masks) ≡ Before bytes n (c + 1)
    → rows ≡ Before bytes n (c + 1)
level_end bytes rows masks n c i h e =
    sym (append-nil rows) ∙ ap (λ (t : List ℕ). rows ++ t) (sym (kept_end (Has c) masks i h)) ∙ e

pub loop-c-init : goal.loop-c-init
unfolding up_to
loop-c-init c = c.new-rows.ensures

pub loop-i-init : goal.loop-i-init
loop-i-init c =
    let P = c.args.present.now in let k = c.loop-c.c in
    ap₂ (λ (R F : List ℕ). R ++ keep (Has k) F) c.loop-c.invariant c.collect_present-count.ensures.value
    ∙ ap (λ (t : List ℕ). Before P.bytes.now P.n k ++ t) (level_kept (stands P.bytes.now) k (2 ^ P.n))
    ∙ sym (rows_next (stands P.bytes.now) (2 ^ P.n) k)

pub loop-i-preserved : goal.loop-i-preserved
loop-i-preserved c =
    let l = c.loop-i in let P = c.args.present.now in
    let found = take c.collect_present-count.result c.collect_present-count.new.masks in let k = c.loop-c.c in
    let inside = c.loop-i-test.true in
    let heads = counted found _ l.i inside c.row_heads-heads.ensures in
    elim c.if-heads-i.branch [
      | then-heads-i w ↦
          let next = kept_with (Has k) l.rows.items found l.i inside (eq-eqb _ k (sym heads ∙ w.if-heads-i.true)) in
          let pushed = w.push.ensures.items (room P.bytes.now l.rows.items _ P.n (k + 1) _ P.few (next ∙ l.invariant)) in
          rw (w.rows-is, pushed) (next ∙ l.invariant)
      | else-heads-i w ↦ rw w.rows-is
          (kept_without (Has k) l.rows.items found l.i inside (ne_eqb _ k (λ e. w.if-heads-i.false (heads ∙ e)))
          ∙ l.invariant)
    ]

pub loop-c-preserved : goal.loop-c-preserved
loop-c-preserved c =
    let found = take c.collect_present-count.result c.collect_present-count.new.masks in
    level_end _ _ found _ c.loop-c.c c.loop-i.i c.loop-i-test.false c.loop-i.invariant

pub returns-2 : goal.returns-2
unfolding row_order
returns-2 c =
    let P = c.args.present.now in
    let found = take c.collect_present-count.result c.collect_present-count.new.masks in
    let last : c.loop-c.c + 1 ≡ suc P.n = omega arith in
    level_end P.bytes.now _ found P.n c.loop-c.c c.loop-i.i c.loop-i-test.false c.loop-i.invariant
    ∙ ap (Before P.bytes.now P.n) last
