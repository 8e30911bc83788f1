-- Rows with gradients written one after another: the next one is worked out, or stays as it stands.
use mathlib.Core.Path.{◌≡◌, refl, sym, ap, ap₂, ◌∙◌, subst}
use mathlib.Core.Bool.{Bool, true, false, cond}
use mathlib.Core.List.{List}
use Prim.Native.Nat.{ℕ, zero, suc, ◌+◌, ◌-◌, ◌*◌, ◌/◌, ◌%◌, ◌^◌, ◌≤◌, ◌<◌}
use native.Mathlib.Nat.{mul-le-mul_right, le-div_iff_mul-le}
use native.Mathlib.Omega.{arith}
use borrow.Rule.Slice.PartMut.{mid_of, put_mid, mid_len}
use lib.Dec.{eqb-suc-zero}
use lib.Arith.{digits_div, digits_mod}
use lib.Pow.{pow_mono}
use lib.ListN.{length, get_or, set, take, drop, replicate, length-take, length-drop}
use lib.Seq.{get_or-take, get_or-drop, ext_get_or}
use lib.Ieee.{Float, nan}
use Rattle.std.proofs.lemmas.List.{replicate_more}
use Rattle.lists.specs.Written.{tab, written}
use Rattle.lists.proofs.Writing.{written_none, length_written, written_before, write_next, written_keep}
use Rattle.lists.proofs.Writing.{written_on, written_cong}
use Rattle.exclusive.proofs.TableRows.{by_row, row_written, place}
use Rattle.masks.specs.Presence.{stands}
use Rattle.geometry.specs.declared.circle.Circle.{Circle}
use Rattle.clip.specs.Gradient.{WithGradient, with_gradient}
use Rattle.sums.specs.Rows.{number_at}
use Rattle.sums.specs.Gradients.{rows_held, rows_in, row_at, row_after, areas_to, rows_to}
use Rattle.sums.proofs.Counts.{rows_all, stands_take, bytes_many, areas_counted}

module _ (wanted : ℕ → Bool) (row : ℕ → WithGradient) (width : ℕ) (areas gradients : List Float) (S : ℕ) where
  abbrev after : ℕ → List Float
  after = row_after wanted row width gradients

  -- it is not wanted
  pub area_kept : S < length areas → wanted S ≡ false → areas_to wanted row S areas ≡ areas_to wanted row (S + 1) areas
  area_kept room none =
      written_keep (number_at wanted (λ T. (row T).sum) areas) S areas nan room
      (ap (λ (b : Bool). cond b (row S).sum (get_or areas S nan)) none)

  same_number : wanted S ≡ false → (r : ℕ) → r < width
      → by_row width nan after (S * width + r) ≡ get_or gradients (S * width + r) nan
  same_number none r h =
      ap₂ (λ (q m : ℕ). get_or (after q) m nan) (digits_div S h) (digits_mod S h)
      ∙ ap (λ (b : Bool). get_or (cond b (row S).grad (row_at width gradients S)) r nan) none
      ∙ get_or-take width (drop (S * width) gradients) r nan h
      ∙ get_or-drop (S * width) gradients r nan

  pub row_kept : suc S * width ≤ length gradients → wanted S ≡ false
      → rows_to wanted row width S gradients ≡ rows_to wanted row width (S + 1) gradients
  row_kept room none =
      written_on (by_row width nan after) (S * width) ((S + 1) * width) gradients nan
      (omega arith) (omega (arith, room)) number
    where
      number : (i : ℕ) → S * width ≤ i → i < (S + 1) * width → by_row width nan after i ≡ get_or gradients i nan
      number i h k =
          let e : S * width + (i - S * width) ≡ i = omega arith in
          ap (by_row width nan after) (sym e) ∙ same_number none (i - S * width) (omega arith)
          ∙ ap (λ (j : ℕ). get_or gradients j nan) e

  -- it is worked out
  module _ {area : Float} {grad : List Float} (er : with_gradient area grad ≡ row S) (is : wanted S ≡ true) where
    pub area_put : S < length areas → (l : List Float) → l ≡ areas_to wanted row S areas
        → set l S area ≡ areas_to wanted row (S + 1) areas
    area_put room l el =
        ap (λ (t : List Float). set t S area) el
        ∙ write_next (number_at wanted (λ T. (row T).sum) areas) S areas area nan room
        (ap (λ (w : WithGradient). w.sum) er ∙ sym (ap (λ (b : Bool). cond b (row S).sum (get_or areas S nan)) is))

    -- it comes back in the place of the part that was lent
    pub row_laid : suc S * width ≤ length gradients → length grad ≡ width → (l now : List Float)
        → l ≡ rows_to wanted row width S gradients
        → now ≡ put_mid (S * width) ((S * width + width) - S * width) l grad
        → now ≡ rows_to wanted row width (S + 1) gradients
    row_laid room many l now el e =
        let wide : (S * width + width) - S * width ≡ width = omega arith in
        e ∙ ap₂ (λ (k : ℕ) (t : List Float). put_mid (S * width) k l t) wide own
        ∙ row_written width S nan after gradients l room (sym (ap length own) ∙ many) el
      where
        own : grad ≡ after S
        own =
            ap (λ (w : WithGradient). w.grad) er
            ∙ sym (ap (λ (b : Bool). cond b (row S).grad (row_at width gradients S)) is)

-- the part of a slice that is row S has width numbers
pub part_many : (S width : ℕ) (l : List Float) → suc S * width ≤ length l
    → length (mid_of (S * width) ((S * width + width) - S * width) l) ≡ width
part_many S width l room = mid_len (S * width) (S * width + width) l (omega (arith, room)) ∙ omega arith

-- no row yet
pub none_laid : (wanted : ℕ → Bool) (row : ℕ → WithGradient) (width : ℕ) (areas gradients : List Float)
    → (areas ≡ areas_to wanted row 0 areas) × (gradients ≡ rows_to wanted row width 0 gradients)
none_laid wanted row width areas gradients =
    let z : 0 ≡ 0 * width = omega arith in
    let F = by_row width nan (row_after wanted row width gradients) in
    (written_none _ areas, written_none F gradients ∙ ap (λ (m : ℕ). written F m gradients) z)

-- ---- a row read again

-- row S of rows written up to m is the one that was written
pub row_read : (width : ℕ) (row : ℕ → List Float) (m : ℕ) (l : List Float) (S : ℕ) → S < m → m * width ≤ length l
    → length (row S) ≡ width
    → take width (drop (S * width) (written (by_row width nan row) (m * width) l)) ≡ row S
row_read width row m l S h room many =
    let end = mul-le-mul_right {m = suc S} {n = m} width h in
    ext_get_or nan (take width (drop (S * width) now)) (row S)
    (omega (
      arith,
      length-take width (drop (S * width) now),
      length-drop (S * width) now,
      length_written (by_row width nan row) (m * width) l room,
      end,
      room,
      many,
    ))
    (λ i k. number i (omega (arith, k, length-take width (drop (S * width) now))))
  where
    now : List Float
    now = written (by_row width nan row) (m * width) l

    number : (i : ℕ) → i < width → get_or (take width (drop (S * width) now)) i nan ≡ get_or (row S) i nan
    number i k =
        let end = mul-le-mul_right {m = suc S} {n = m} width h in
        get_or-take width (drop (S * width) now) i nan k ∙ get_or-drop (S * width) now i nan
        ∙ written_before (by_row width nan row) (m * width) (S * width + i) l nan (omega (arith, end, k))
        ∙ ap₂ (λ (q r : ℕ). get_or (row q) r nan) (digits_div S k) (digits_mod S k)

-- ---- rows counted in two slices

-- a row of some numbers: as many as they divide
held_some : (w places : ℕ) → rows_held (suc w) places ≡ places / suc w
held_some w places = ap (λ (b : Bool). cond b 1024 (places / suc w)) (eqb-suc-zero w)

-- where there is room, all rows are counted
held_all : (width places count : ℕ) → count ≤ 1024 → count * width ≤ places → count ≤ rows_held width places
held_all zero places count most h = most
held_all (suc w) places count most h =
    subst (λ (m : ℕ). count ≤ m) (sym (held_some w places))
    ((le-div_iff_mul-le {k = suc w} {x = count} {y = places} (omega arith)).1 h)

pub rows_in_all : (n width : ℕ) (areas gradients : List Float) → n ≤ 10 → 2 ^ n ≤ length areas
    → 2 ^ n * width ≤ length gradients
    → rows_in n width areas gradients ≡ 2 ^ n
rows_in_all n width areas gradients few ha hg =
    let most = pow_mono {i = n} {j = 10} few in
    let held = held_all width (length gradients) (2 ^ n) (omega (arith, most)) hg in
    omega (arith, rows_all n (length areas) few ha, held)

-- of as many bytes as are counted
pub rows_counted : (bytes : List ℕ) (n : ℕ) (row : ℕ → WithGradient) (width : ℕ) (l : List Float) → n ≤ length bytes
    → rows_to (stands (take n bytes)) row width (length (take n bytes)) l ≡ rows_to (stands bytes) row width n l
rows_counted bytes n row width l h =
    let before = by_row width nan (row_after (stands (take n bytes)) row width l) in
    let after = by_row width nan (row_after (stands bytes) row width l) in
    ap (λ (m : ℕ). rows_to (stands (take n bytes)) row width m l) (bytes_many bytes n h)
    ∙ written_cong before after (n * width) l l
    (λ i k. ap (λ (b : Bool). get_or (cond b (row (i / width)).grad (row_at width l (i / width))) (i % width) nan)
    (stands_take bytes n (i / width) (place i n width k).1)) refl

-- the rows of a pass over the circles `read`, of which n count, are those of the circles `ten` in the whole slices
pub both_read : (bytes : List ℕ) (n : ℕ) (row : List Circle → ℕ → WithGradient) (width : ℕ)
    (areas gradients : List Float) {read ten : List Circle} → n ≤ length bytes
    → n ≡ rows_in (length read) width areas gradients → read ≡ ten
    → {a g : List Float} → a ≡ areas_to (stands (take n bytes)) (row read) (length (take n bytes)) areas
    → g ≡ rows_to (stands (take n bytes)) (row read) width (length (take n bytes)) gradients
    → (a ≡ areas_to (stands bytes) (row ten) (rows_in (length ten) width areas gradients) areas)
    × (g ≡ rows_to (stands bytes) (row ten) width (rows_in (length ten) width areas gradients) gradients)
both_read bytes n row width areas gradients {read = read} h count same ea eg =
    let many = λ (cs : List Circle). rows_in (length cs) width areas gradients in (
      ea ∙ areas_counted bytes n (λ S. (row read S).sum) areas h
          ∙ ap (λ (m : ℕ). areas_to (stands bytes) (row read) m areas) count
          ∙ ap (λ cs. areas_to (stands bytes) (row cs) (many cs) areas) same,
      eg ∙ rows_counted bytes n (row read) width gradients h
          ∙ ap (λ (m : ℕ). rows_to (stands bytes) (row read) width m gradients) count
          ∙ ap (λ cs. rows_to (stands bytes) (row cs) width (many cs) gradients) same,
    )

-- ---- numbers all alike

pub tab_alike : {A : Type 0} (x : A) (m : ℕ) → tab (λ i. x) m ≡ replicate m x
unfolding tab
tab_alike x zero = refl
tab_alike x (suc m) = grind (arith, tab_alike x m, replicate_more)
