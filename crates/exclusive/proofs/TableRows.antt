-- A table of rows of so many numbers each, as one list: which row a place is in, and the rows written one after
-- another.
use mathlib.Core.Path.{◌≡◌, sym, ap, ap₂, ◌∙◌}
use mathlib.Core.List.{List, [], ◌∷◌, ◌++◌, append_assoc, append-nil}
use Prim.Native.Nat.{ℕ, zero, suc, ◌+◌, ◌*◌, ◌/◌, ◌%◌, ◌-◌, ◌≤◌, ◌<◌}
use native.Mathlib.Nat.{div-lt_iff_lt-mul}
use native.Mathlib.Omega.{arith}
use lib.Arith.{digits_div, digits_mod}
use lib.ListN.{length, get_or, take, drop, replicate, length-replicate, get_or-replicate}
use lib.Seq.{take_at, drop-drop, ext_get_or}
use Rattle.lists.specs.Written.{tab, written}
use Rattle.lists.proofs.Writing.{length_tab, get_d_tab, take_tab, tab_cong, drop_written}

-- the row of a place
pub row_of_place : (width s x : ℕ) → s * width ≤ x → x < suc s * width → x / width ≡ s
row_of_place width s x h k =
    let e : s * width + (x - s * width) ≡ x = omega arith in
    ap (λ (y : ℕ). y / width) (sym e) ∙ digits_div s {m = width} (omega arith)

-- a place of m rows has its row among them
pub place : (x m width : ℕ) → x < m * width → (0 < width) × (x / width < m)
place x m zero h = absurd (omega arith)
place x m (suc w) h = (omega arith, (div-lt_iff_lt-mul {k = suc w} {x = x} {y = m} (omega arith)).1 h)

-- ---- rows one after another

module _ {A : Type 0} where
  tab_add : (f : ℕ → A) (m k : ℕ) → tab f (m + k) ≡ tab f m ++ tab (λ i. f (m + i)) k
  unfolding tab
  tab_add f m zero = let e : m + 0 ≡ m = omega arith in ap (tab f) e ∙ sym (append-nil (tab f m))
  tab_add f m (suc k) =
      let e : m + suc k ≡ suc (m + k) = omega arith in
      ap (tab f) e ∙ ap (λ (l : List A). l ++ (f (m + k) ∷ [])) (tab_add f m k)
      ∙ append_assoc (tab f m) (tab (λ i. f (m + i)) k) (f (m + k) ∷ [])

  -- a list by its places
  pub tab_of : (l : List A) (d : A) → l ≡ tab (λ i. get_or l i d) (length l)
  tab_of l d =
      ext_get_or d l (tab (λ i. get_or l i d) (length l)) (sym (length_tab (λ i. get_or l i d) (length l)))
      (λ i h. sym (get_d_tab (λ i. get_or l i d) (length l) i d h))

  -- and its first m
  pub take_by_place : (l : List A) (d : A) (m : ℕ) → m ≤ length l → take m l ≡ tab (λ i. get_or l i d) m
  take_by_place l d m h = ap (take m) (tab_of l d) ∙ take_tab (λ i. get_or l i d) (length l) m h

  -- one element, over and over
  replicate_tab : (f : ℕ → A) (v : A) (m : ℕ) → ((i : ℕ) → i < m → f i ≡ v) → replicate m v ≡ tab f m
  replicate_tab f v m e =
      ext_get_or v (replicate m v) (tab f m) (length-replicate m v ∙ sym (length_tab f m))
      (λ i h.
      let inside : i < m = omega (arith, length-replicate m v) in
      get_or-replicate m i v v inside ∙ sym (get_d_tab f m i v inside ∙ e i inside))

  -- a part laid after what is written before it
  pub part_written : (f : ℕ → A) (at width : ℕ) (part l now : List A) → part ≡ tab (λ i. f (at + i)) width
      → now ≡ written f at l
      → take at now ++ (part ++ drop width (drop at now)) ≡ written f (at + width) l
  part_written f at width part l now own e =
      ap₂ (λ (a b : List A). a ++ b) before (ap₂ (λ (a b : List A). a ++ b) own beyond)
      ∙ sym (append_assoc (tab f at) (tab (λ i. f (at + i)) width) (drop (at + width) l))
      ∙ ap (λ (a : List A). a ++ drop (at + width) l) (sym (tab_add f at width))
    where
      before : take at now ≡ tab f at
      before = ap (take at) e ∙ take_at (tab f at) (drop at l) at (length_tab f at)

      beyond : drop width (drop at now) ≡ drop (at + width) l
      beyond = drop-drop width at now ∙ ap (drop (at + width)) e ∙ drop_written f at (at + width) l (omega arith)

  -- a part that holds one element throughout
  pub fill_written : (f : ℕ → A) (at width : ℕ) (v : A) (l now : List A) → ((x : ℕ) → at ≤ x → x < at + width → f x ≡ v)
      → now ≡ written f at l
      → take at now ++ (replicate width v ++ drop width (drop at now)) ≡ written f (at + width) l
  fill_written f at width v l now same e =
      part_written f at width (replicate width v) l now
      (replicate_tab (λ i. f (at + i)) v width (λ i h. same (at + i) (omega arith) (omega arith))) e

  -- number x of the rows is number x % width of row x / width
  abbrev pub by_row : ℕ → A → (ℕ → List A) → ℕ → A
  by_row width d row x = get_or (row (x / width)) (x % width) d

  -- row s laid after those before it
  pub row_written : (width s : ℕ) (d : A) (row : ℕ → List A) (l now : List A) → suc s * width ≤ length l
      → length (row s) ≡ width
      → now ≡ written (by_row width d row) (s * width) l
      → take (s * width) now ++ (row s ++ drop width (drop (s * width) now))
      ≡ written (by_row width d row) ((s + 1) * width) l
  row_written width s d row l now room many e =
      let end : s * width + width ≡ (s + 1) * width = omega arith in
      part_written F (s * width) width (row s) l now own e ∙ ap (λ (m : ℕ). written F m l) end
    where
      F : ℕ → A
      F = by_row width d row

      own : row s ≡ tab (λ i. F (s * width + i)) width
      own =
          tab_of (row s) d ∙ ap (tab (λ i. get_or (row s) i d)) many
          ∙ tab_cong (λ i. get_or (row s) i d) (λ i. F (s * width + i)) width
          (λ i h. sym (ap₂ (λ (q r : ℕ). get_or (row q) r d) (digits_div s h) (digits_mod s h)))
