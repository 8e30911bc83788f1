-- Rows laid in lent slices: a pass writes those of the sets, row 0 is put, absent rows are +0.
use mathlib.Core.Path.{◌≡◌, refl, sym, ap, ap₂, ◌∙◌}
use mathlib.Core.Bool.{Bool, true, false, cond}
use mathlib.Core.List.{List, ◌++◌}
use Prim.Native.Nat.{ℕ, zero, suc, ◌+◌, ◌*◌, ◌/◌, ◌%◌, ◌^◌, ◌≤◌, ◌<◌}
use native.Mathlib.Nat.{le_refl, le-div_iff_mul-le, mod-lt, mul-le-mul_right, div-add-mod'}
use native.Mathlib.Omega.{arith}
use Rattle.std.specs.Prelude.{Option, Some, None, is_some}
use lib.Ieee.{Float, nan}
use lib.ListN.{get_or, length, replicate, take, drop, length-take, get_or-replicate}
use lib.Seq.{get_or-take, get_or-drop}
use Rattle.binary64.specs.Constants.{zero64}
use Rattle.lists.specs.Written.{tab, written}
use Rattle.lists.proofs.Writing.{length_written, written_none, written_before, written_on, drop_written}
use Rattle.exclusive.proofs.TableRows.{by_row, row_written, place}
use Rattle.clip.specs.Gradient.{WithGradient}
use Rattle.sums.specs.Gradients.{row_at, row_after, rows_to}
use Rattle.sums.proofs.Laid.{tab_alike}
use Rattle.masks.specs.Mask.{shifted}
use Rattle.masks.specs.Operations.{shifted_is}
use Rattle.geometry.specs.declared.circle.Circle.{Circle}
use Rattle.geometry.specs.declared.rectangle.Rectangle.{Rectangle}
use Rattle.intersections.specs.Heads.{first_ten}
use Rattle.intersections.proofs.Few.{few_read}
use Rattle.diagram.specs.Rows.{in_row}
use Rattle.diagram.specs.Drawing.{box_row_in}

-- no more than ten circles: all of them are read
pub all_read : (circles : List Circle) → length circles ≤ 10 → length (first_ten circles) ≡ length circles
all_read circles few = ap length (few_read circles few)

-- ---- gradients: all +0, then those of the sets written, then that of row 0

-- what row 0 of a box gets is +0 throughout where there is none
pub box_first : (container : Option Rectangle) (n width : ℕ)
    → box_row_in container n width ≡ cond (is_some container) (box_row_in container n width) (replicate width zero64)
box_first None n width = refl
box_first (Some box) n width = refl

-- the first m rows all +0, where the code has filled 2^n
pub all_cleared : (n m width : ℕ) (l cleared : List Float) → n ≤ 10 → m ≡ 2 ^ n → m * width ≤ length l
    → cleared ≡ replicate (length (take (shifted 64 n * width) l)) zero64
    → cleared ++ drop (shifted 64 n * width) l ≡ written (λ i. zero64) (m * width) l
all_cleared n m width l cleared few many room e =
    let end : shifted 64 n * width ≡ m * width = ap (λ (j : ℕ). j * width) (shifted_is 64 n (omega arith) ∙ sym many) in
    let long : length (take (m * width) l) ≡ m * width = omega (arith, length-take (m * width) l) in
    ap₂ (λ (t : List Float) (i : ℕ). t ++ drop i l) (e ∙ ap (λ (i : ℕ). replicate (length (take i l)) zero64) end) end
    ∙ ap (λ (i : ℕ). replicate i zero64 ++ drop (m * width) l) long
    ∙ ap (λ (t : List Float). t ++ drop (m * width) l) (sym (tab_alike zero64 (m * width)))

module _ (has_box : Bool) (sets : ℕ → Bool) (box : List Float) (row : ℕ → WithGradient) (width m : ℕ)
    (l k : List Float) (room : m * width ≤ length l)
    (written-sets : k ≡ rows_to sets row width m (written (λ i. zero64) (m * width) l)) where
  abbrev none : List Float
  none = written (λ i. zero64) (m * width) l

  abbrev row_of : ℕ → List Float
  row_of = in_row has_box sets box (λ S. (row S).grad) (replicate width zero64)

  -- number r of row q, which is not row 0
  number : (q r : ℕ) → 0 < q → r < width → q * width + r < m * width
      → get_or (row_of q) r nan ≡ get_or (row_after sets row width none q) r nan
  number zero r some h below = absurd (omega arith)
  number (suc q) r some h below = by (row (suc q)).grad (sets (suc q))
    where
      by : (g : List Float) (b : Bool)
          → get_or (cond b g (replicate width zero64)) r nan ≡ get_or (cond b g (row_at width none (suc q))) r nan
      by g true = refl
      by g false =
          get_or-replicate width r zero64 nan h
          ∙ sym (get_or-take width (drop (suc q * width) none) r nan h ∙ get_or-drop (suc q * width) none r nan
          ∙ written_before (λ i. zero64) (m * width) (suc q * width + r) l nan below)

  -- all numbers past row 0 are those of the rows
  past_first : (i : ℕ) → (0 + 1) * width ≤ i → i < m * width → by_row width nan row_of i ≡ get_or k i nan
  past_first i h below =
      let p = place i m width below in
      let some = (le-div_iff_mul-le {k = width} {x = 1} {y = i} p.0).1 h in
      number (i / width) (i % width) some (mod-lt i p.0) (omega (arith, div-add-mod' i width))
      ∙ sym (ap (λ (t : List Float). get_or t i nan) written-sets
      ∙ written_before (by_row width nan (row_after sets row width none)) (m * width) i none nan below)

  same_length : length k ≡ length l
  same_length =
      let e = length_written (λ i. zero64) (m * width) l room in
      ap length written-sets
      ∙ length_written (by_row width nan (row_after sets row width none)) (m * width) none (omega (arith, e)) ∙ e

  same_rest : drop (m * width) k ≡ drop (m * width) l
  same_rest =
      ap (drop (m * width)) written-sets
      ∙ drop_written (by_row width nan (row_after sets row width none)) (m * width) (m * width) none (le_refl _)
      ∙ drop_written (λ i. zero64) (m * width) (m * width) l (le_refl _)

  pub rows_laid : (x : List Float) → 0 < m → x ≡ row_of 0 → length x ≡ width
      → x ++ drop width k ≡ written (by_row width nan row_of) (m * width) l
  rows_laid x some first wide =
      let F = by_row width nan row_of in
      let z : 0 ≡ 0 * width = omega arith in
      let least = mul-le-mul_right {m = 1} {n = m} width some in
      ap (λ (t : List Float). t ++ drop width k) first
      ∙ ap (λ (s : ℕ). take s k ++ (row_of 0 ++ drop width (drop s k))) z
      ∙ row_written width 0 nan row_of k k (omega (arith, least, room, same_length)) (sym (ap length first) ∙ wide)
      (written_none F k ∙ ap (λ (s : ℕ). written F s k) z)
      ∙ written_on F ((0 + 1) * width) (m * width) k nan (omega (arith, least)) (omega (arith, room, same_length))
      past_first
      ∙ ap (λ (t : List Float). tab F (m * width) ++ t) same_rest
