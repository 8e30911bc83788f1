use mathlib.Core.Path.{◌≡◌, refl, ap, ◌∙◌, subst, sym}
use mathlib.Core.Bool.{Bool, cond}
use mathlib.Core.List.{List}
use native.Mathlib.Nat.{le_refl}
use native.Mathlib.Omega.{arith}
use Prim.Native.Nat.{ℕ, ◌^◌, ◌<◌, ◌≤◌}
use lib.Dec.{eqb}
use lib.Ieee.{Float, nan}
use lib.ListN.{drop, get_or, length, replicate}
use Rattle.std.specs.Option.{is_some}
use Rattle.binary64.specs.Constants.{zero64}
use Rattle.lists.specs.Written.{written}
use Rattle.lists.proofs.Writing.{written_before, written_cong, drop_written}
use Rattle.masks.specs.Presence.{byte, stands, byte_stands}
use Rattle.intersections.proofs.Few.{few_read}
use Rattle.sums.specs.Rows.{number_at}
use Rattle.sums.specs.Presence.{among}
use Rattle.sums.proofs.Passes.{areas_all, bytes_all, cleared_all}
use Rattle.table.specs.Ready.{heads_in, area_of}
use Rattle.table.specs.Rows.{rows_written, worked_out}
use Rattle.table.proofs.Writing.{rows_count, byte_left, number_left}
use Rattle.table.proofs.rows.write_rows.Goals as goal

-- the bytes of the rows to be worked out say so
wanted-say : (wanted : List ℕ) (worked-out : ℕ → Bool) (count : ℕ)
    → wanted ≡ written (λ T. byte (worked-out T)) count (replicate 1024 0) → (S : ℕ) → S < count
    → stands wanted S ≡ worked-out S
wanted-say wanted worked-out count e S h =
    ap (λ l. stands l S) e
    ∙ ap (λ b. eqb b 1) (written_before (λ T. byte (worked-out T)) count S (replicate 1024 0) 0 h)
    ∙ byte_stands (worked-out S)

pub returns : goal.returns
unfolding area_of
returns c =
    let a = c.args in
    let r = a.ready.now in
    let n = heads_in r in
    let few : n ≤ 10 = rw c.len-n.ensures.value at c.len-n.ensures.fits in
    let box = is_some r.bounds in
    let earlier = stands a.update.earlier.now in
    let later = stands a.update.later.now in
    let there = among box later in
    let row_of = rows_written r a.update.change a.update.earlier.now a.update.later.now a.presence.now a.rows.now in
    let wanted = stands c.rows_worked_out-wanted.result in
    let number = number_at wanted (area_of r) a.rows.now in
    let many : c.rows_needed.result ≡ 2 ^ n = rows_count n _ few (rw c.len-n.ensures.value at c.rows_needed.ensures) in
    let room : 2 ^ n ≤ length a.rows.now = c.requires.1 in
    let worked : List Float = c.write_areas.new.areas in
    let areas : worked ≡ written number (2 ^ n) a.rows.now =
    rw (c.write_areas.ensures, few_read _ c.deref.ensures.1, c.deref.ensures.0, c.deref-2.ensures.0)
    (areas_all n few wanted (area_of r) a.rows.now room) in
    let row : (S : ℕ) → S < 2 ^ n → cond (there S) (get_or worked S nan) zero64 ≡ (row_of S).number =
    λ S h. rw (areas, written_before number (2 ^ n) S a.rows.now nan h)
    (number_left box a.update.change (area_of r) earlier later a.presence.now a.rows.now wanted S
    (wanted-say _ (worked_out a.update.change earlier later) c.rows_needed.result c.rows_worked_out-wanted.ensures S
    (subst (λ m. S < m) (sym many) h))) in record {
      presence_after =
          rw (c.write_presence.ensures, c.len-n.ensures.value, c.is_some-has_box.ensures)
          (bytes_all n few there a.presence.now c.requires.0
          ∙ written_cong _ (λ S. (row_of S).byte) (2 ^ n) a.presence.now a.presence.now
          (λ S h. byte_left box a.update.change (area_of r) earlier later a.presence.now a.rows.now S) refl);
      rows_after =
          rw (c.clear_absent.ensures, c.len-n.ensures.value, c.is_some-has_box.ensures)
          (cleared_all n few there worked a.rows.now (λ S. (row_of S).number)
          (omega (arith, c.write_areas.auto.areas, room))
          (ap (drop (2 ^ n)) areas ∙ drop_written _ (2 ^ n) (2 ^ n) a.rows.now (le_refl (2 ^ n))) row);
    }
