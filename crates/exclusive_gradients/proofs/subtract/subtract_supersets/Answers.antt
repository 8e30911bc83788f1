-- `subtract::subtract_supersets` meets its contract. The invariant: the rows from place i on have their unclamped
-- exclusives, those before it are as they were.
use mathlib.Core.Path.{◌≡◌, sym, ap, ◌∙◌, subst}
use mathlib.Core.List.{List}
use Prim.Native.Nat.{ℕ, suc, ◌+◌, ◌*◌, ◌-◌, ◌^◌, ◌≤◌, ◌<◌}
use native.Mathlib.Nat.{le_refl, mul-le-mul_right}
use native.Mathlib.Omega.{arith}
use lib.Count.{ones}
use lib.Ieee.{Float}
use lib.ListN.{length, get_or, take, drop}
use Rattle.std.proofs.lemmas.Slice.{between_to_end}
use Rattle.lists.specs.Lists.{keep}
use Rattle.lists.specs.Every.{Every}
use Rattle.masks.specs.Mask.{subset, strict_subset}
use Rattle.masks.specs.Presence.{stands}
use Rattle.exclusive.specs.declared.presence.Presence.{Presence}
use Rattle.exclusive.specs.RowOrder.{row_order}
use Rattle.exclusive.specs.Exclusive.{above}
use Rattle.exclusive.specs.Entries.{row_sums, RowSubtracted}
use Rattle.exclusive.proofs.RowOrder.{rows_ordered}
use Rattle.exclusive.proofs.Places.{row_lt}
use Rattle.exclusive.proofs.Unclamped.{above_every}
use Rattle.exclusive.proofs.Sums.{supersets_after}
use Rattle.exclusive.proofs.Passing.{Pass, pass_next, pass_end, all_above, sums_due}
use Rattle.exclusive.proofs.LevelSums.{row_at}
use Rattle.exclusive_gradients.proofs.subtract.subtract_supersets.Goals as goal

-- row i of the rows, and what is collected from those after it
module _ (P : Presence) (rows : List ℕ) (e : rows ≡ row_order (stands P.bytes.now) P.n) (i : ℕ) (h : i < length rows)
    (supersets : List ℕ)
    (found : supersets ≡ keep (subset 64 (get_or rows i 0)) (take (length rows - (i + 1)) (drop (i + 1) rows))) where
  abbrev S : ℕ
  S = get_or rows i 0

  at : (i < length (row_order (stands P.bytes.now) P.n)) × (get_or (row_order (stands P.bytes.now) P.n) i 0 ≡ S)
      × (S < 2 ^ P.n)
  at = row_at P.n (stands P.bytes.now) rows i e h

  strict : supersets ≡ keep (strict_subset P.n S) (drop (i + 1) (row_order (stands P.bytes.now) P.n))
  strict =
      found
      ∙ ap (keep (subset 64 S))
      (between_to_end rows (i + 1) (length rows) (le_refl (length rows)) ∙ ap (drop (i + 1)) e)
      ∙ supersets_after (row_order (stands P.bytes.now) P.n) i S at.0 at.1 (i + 1) P.n at.2
      (omega (arith, row_lt P.n S P.few at.2)) (omega arith)
      (rows_ordered (stands P.bytes.now) P.n)

  all : supersets ≡ above P.n (stands P.bytes.now) S
  all = strict ∙ all_above P.n (stands P.bytes.now) 0 i S at.2 at.0 at.1

  -- every one of them has its place in the table, and is another row
  fits : (width many : ℕ) → 2 ^ P.n * width ≤ many
      → (suc S * width ≤ many) × Every (λ T. suc T * width ≤ many) supersets
  fits width many k = (
    omega (arith, mul-le-mul_right width at.2),
    subst (Every (λ T. suc T * width ≤ many)) (sym all)
        (above_every P.n (stands P.bytes.now) S at.2 (λ T. suc T * width ≤ many)
        (λ T t o. omega (arith, mul-le-mul_right width t))),
  )

  apart : Every (λ T. T ≡ S → ⊥) supersets
  apart =
      subst (Every (λ T. T ≡ S → ⊥)) (sym all)
      (above_every P.n (stands P.bytes.now) S at.2 (λ T. T ≡ S → ⊥) (λ T t o same. omega (arith, ap ones same)))

  next : (width : ℕ) (before mid after : List Float) → Pass P.n (stands P.bytes.now) width (i + 1) before mid
      → RowSubtracted width S (row_sums width mid supersets) width mid after
      → Pass P.n (stands P.bytes.now) width i before after
  next width before mid after p r =
      pass_next P.n (stands P.bytes.now) width i S at.2 at.0 at.1 before mid after (row_sums width mid supersets)
      (sums_due P.n (stands P.bytes.now) width i S at.2 at.0 at.1 before mid supersets strict p) p r

pub subtract_row-requires : goal.subtract_row-requires
subtract_row-requires c =
    let P = c.args.present.now in let rows = c.as_slice-rows.result.now in let i = c.loop-i.i - 1 in
    let e = c.as_slice-rows.ensures.value ∙ c.row_order-order.ensures in
    let found = c.collect_supersets-found.ensures.supersets_after in
    let h : i < length rows = omega arith in
    let f = fits P rows e i h _ found c.args.width (length c.loop-i.numbers)
    (omega (arith, c.loop-i.invariant.pass.many)) in
    (f.0, f.1, apart P rows e i h _ found)

pub loop-i-preserved : goal.loop-i-preserved
loop-i-preserved c =
    let P = c.args.present.now in let rows = c.as_slice-rows.result.now in let l = c.loop-i in let i = l.i - 1 in
    let e = c.as_slice-rows.ensures.value ∙ c.row_order-order.ensures in
    let h : i < length rows = omega arith in
    let z : l.i ≡ i + 1 = omega arith in record {
      room = c.collect_supersets-found.array_long;
      pass =
          next P rows e i h _ c.collect_supersets-found.ensures.supersets_after c.args.width c.args.numbers.now
          l.numbers _
          (subst (λ (j : ℕ). Pass P.n (stands P.bytes.now) c.args.width j c.args.numbers.now l.numbers) z
          l.invariant.pass)
          c.subtract_row.ensures;
    }

pub returns : goal.returns
returns c =
    let P = c.args.present.now in let l = c.loop-i in
    let z : l.i ≡ 0 = omega arith in
    pass_end P.n (stands P.bytes.now) c.args.width c.args.numbers.now l.numbers
    (subst (λ (j : ℕ). Pass P.n (stands P.bytes.now) c.args.width j c.args.numbers.now l.numbers) z l.invariant.pass)
