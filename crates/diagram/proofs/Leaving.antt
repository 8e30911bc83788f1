-- From the rows laid in lent slices to the exclusives that take their place.
use mathlib.Core.Path.{◌≡◌, refl, sym, ap, ap₂, ◌∙◌}
use mathlib.Core.Bool.{Bool, true, false, cond}
use mathlib.Core.List.{List}
use Prim.Native.Nat.{ℕ, zero, suc, min, ◌+◌, ◌*◌, ◌/◌, ◌%◌, ◌^◌, ◌≤◌, ◌<◌}
use native.Mathlib.Nat.{le_refl, mod-lt}
use native.Mathlib.Omega.{arith}
use Rattle.std.proofs.Common.{Ok}
use lib.Arith.{digits_div, digits_mod, digits_lt}
use lib.Dec.{eqb}
use lib.Ieee.{Float, nan}
use lib.ListN.{length, get_or, drop}
use Rattle.lists.specs.Written.{written}
use Rattle.lists.proofs.Writing.{length_written, written_before, written_cong, drop_written}
use Rattle.masks.specs.Presence.{byte, stands, byte_stands}
use Rattle.binary64.specs.Constants.{zero64}
use Rattle.exclusive.specs.Exclusive.{rows_check, rows_number, exclusive_row, exclusives_in_place}
use Rattle.exclusive.specs.Entries.{entry}
use Rattle.exclusive.proofs.Answers.{taken}
use Rattle.exclusive.proofs.TableRows.{by_row, place}
use Rattle.exclusive.proofs.Unclamped.{exclusive_alike}
use Rattle.exclusive_gradients.specs.Gradient.{width_check, exclusive_with_gradient, gradient_entry}
use Rattle.exclusive_gradients.specs.Gradient.{exclusive_areas, exclusive_gradients}
use Rattle.exclusive_gradients.proofs.Answers.{all_taken}
use Rattle.sums.specs.Rows.{number_at, areas_written as areas_worked}
use Rattle.sums.proofs.Passes.{areas_all}
use Rattle.diagram.specs.Rows.{Rows, Slopes, in_row, is_there, area_at, slopes_at}
use Rattle.diagram.specs.Rows.{presence_written, exclusives_written, areas_written, slopes_written}
use Rattle.diagram.specs.Diagram.{check, exclusives_left}
use Rattle.diagram.specs.Diagram.{check_with, areas_left, gradients_left}
use Rattle.diagram.proofs.Alike.{Alike, unless_alike}

-- ---- rows laid in lent slices: the areas of the sets worked out (k), then the other rows (b, a)

module _ (n : ℕ) (r : Rows) (bytes : List ℕ) (numbers k : List Float) (b : List ℕ) (a : List Float)
    (ek : k ≡ written (number_at r.sets r.area numbers) (2 ^ n) numbers) (eb : b ≡ presence_written n r bytes)
    (ea : a ≡ written (in_row r.has_box r.sets r.box_area (λ S. get_or k S nan) zero64) (2 ^ n) k) where
  there : Alike n (stands b) (is_there r)
  there S h =
      ap (λ (l : List ℕ). stands l S) eb
      ∙ ap (λ (x : ℕ). eqb x 1) (written_before (λ T. byte (is_there r T)) (2 ^ n) S bytes 0 h)
      ∙ byte_stands (is_there r S)

  read : Alike n (in_row r.has_box r.sets r.box_area (λ S. get_or k S nan) zero64) (area_at r)
  read zero h = refl
  read (suc S) h = by (r.sets (suc S)) refl
    where
      by : (x : Bool) → r.sets (suc S) ≡ x → cond x (get_or k (suc S) nan) zero64 ≡ cond x (r.area (suc S)) zero64
      by true is =
          ap (λ (l : List Float). get_or l (suc S) nan) ek
          ∙ written_before (number_at r.sets r.area numbers) (2 ^ n) (suc S) numbers nan h
          ∙ ap (λ (x : Bool). cond x (r.area (suc S)) (get_or numbers (suc S) nan)) is
      by false is = refl

  laid : Alike n (λ S. get_or a S nan) (area_at r)
  laid S h = ap (λ (l : List Float). get_or l S nan) ea ∙ written_before _ (2 ^ n) S k nan h ∙ read S h

  rest : drop (2 ^ n) a ≡ drop (2 ^ n) numbers
  rest =
      ap (drop (2 ^ n)) ea ∙ drop_written _ (2 ^ n) (2 ^ n) k (le_refl (2 ^ n))
      ∙ ap (drop (2 ^ n)) ek ∙ drop_written _ (2 ^ n) (2 ^ n) numbers (le_refl (2 ^ n))

  same_rows : 2 ^ n ≤ min (length bytes) (length numbers)
      → min (length b) (length a) ≡ min (length bytes) (length numbers)
  same_rows room =
      let long = ap length ek ∙ length_written (number_at r.sets r.area numbers) (2 ^ n) numbers (omega arith) in
      ap₂ min (ap length eb ∙ length_written (λ S. byte (is_there r S)) (2 ^ n) bytes (omega arith))
      (ap length ea ∙ length_written _ (2 ^ n) k (omega (arith, long)) ∙ long)

  exclusives_are : written (exclusive_row n (stands b) (λ S. get_or a S nan)) (2 ^ n) a ≡ exclusives_written n r numbers
  exclusives_are = written_cong _ _ (2 ^ n) a numbers (exclusive_alike n _ _ there _ _ laid) rest

-- and their gradients (s)
module _ (n : ℕ) (g : Slopes) (bytes : List ℕ) (numbers gradients k : List Float) (b : List ℕ) (a s : List Float)
    (ek : k ≡ written (number_at g.rows.sets g.rows.area numbers) (2 ^ n) numbers)
    (eb : b ≡ presence_written n g.rows bytes)
    (ea : a ≡ written (in_row g.rows.has_box g.rows.sets g.rows.box_area (λ S. get_or k S nan) zero64) (2 ^ n) k)
    (es : s ≡ written (by_row g.width nan (slopes_at g)) (2 ^ n * g.width) gradients) where
  present : Alike n (stands b) (is_there g.rows)
  present = there n g.rows bytes numbers k b a ek eb ea

  areas : Alike n (λ S. get_or a S nan) (area_at g.rows)
  areas = laid n g.rows bytes numbers k b a ek eb ea

  areas_are : written (exclusive_with_gradient n (stands b) (λ S. get_or a S nan)) (2 ^ n) a ≡ areas_written n g numbers
  areas_are =
      written_cong _ _ (2 ^ n) a numbers (unless_alike n _ _ present _ _ areas _ _ areas)
      (rest n g.rows bytes numbers k b a ek eb ea)

  -- number i of row S
  entry_of : (i : ℕ) → i < g.width → Alike n (entry g.width s i) (λ S. get_or (slopes_at g S) i nan)
  entry_of i hi S h =
      ap (λ (l : List Float). entry g.width l i S) es
      ∙ written_before (by_row g.width nan (slopes_at g)) (2 ^ n * g.width) (S * g.width + i) gradients nan
      (digits_lt h hi)
      ∙ ap₂ (λ (q j : ℕ). get_or (slopes_at g q) j nan) (digits_div S hi) (digits_mod S hi)

  slopes_are : written (gradient_entry n g.width b a s) (2 ^ n * g.width) s ≡ slopes_written n g gradients
  slopes_are =
      written_cong _ _ (2 ^ n * g.width) s gradients
      (λ x h.
      let p = place x (2 ^ n) g.width h in
      unless_alike n _ _ present _ _ areas _ _ (entry_of (x % g.width) (mod-lt x p.0)) (x / g.width) p.1)
      (ap (drop (2 ^ n * g.width)) es ∙ drop_written _ (2 ^ n * g.width) (2 ^ n * g.width) gradients (le_refl _))

-- ---- as the calls of `exclusive` leave them, where they are taken

pub left : (n : ℕ) (r : Rows) (bytes : List ℕ) (numbers : List Float) → Ok tt ≡ check n r bytes numbers
    → (k : List Float) (b : List ℕ) (a : List Float) → k ≡ areas_worked n r.sets r.area numbers
    → b ≡ presence_written n r bytes
    → a ≡ written (in_row r.has_box r.sets r.box_area (λ S. get_or k S nan) zero64) (2 ^ n) k
    → exclusives_in_place n b a ≡ exclusives_left n r bytes numbers
left n r bytes numbers ok k b a ek eb ea =
    let z = taken n (min (length bytes) (length numbers)) (sym (ap rows_number ok)) in
    let e = ek ∙ areas_all n z.0 r.sets r.area numbers (omega (arith, z.1)) in
    let same = same_rows n r bytes numbers k b a e eb ea z.1 in
    rw (sym (ok ∙ ap (rows_check n) (sym same)), sym ok) (exclusives_are n r bytes numbers k b a e eb ea)

pub left_with : (n : ℕ) (g : Slopes) (bytes : List ℕ) (numbers gradients : List Float)
    → Ok tt ≡ check_with n g bytes numbers gradients → (k : List Float) (b : List ℕ) (a s : List Float)
    → k ≡ written (number_at g.rows.sets g.rows.area numbers) (2 ^ n) numbers → b ≡ presence_written n g.rows bytes
    → a ≡ written (in_row g.rows.has_box g.rows.sets g.rows.box_area (λ S. get_or k S nan) zero64) (2 ^ n) k
    → s ≡ written (by_row g.width nan (slopes_at g)) (2 ^ n * g.width) gradients
    → (exclusive_areas n g.width b a s ≡ areas_left n g bytes numbers gradients)
    × (exclusive_gradients n g.width b a s ≡ gradients_left n g bytes numbers gradients)
left_with n g bytes numbers gradients ok k b a s ek eb ea es =
    let z = all_taken n g.width (min (length bytes) (length numbers)) (length gradients) (sym (ap rows_number ok)) in
    let many = ap length es ∙ length_written (by_row g.width nan (slopes_at g)) (2 ^ n * g.width) gradients z.2 in
    let same = same_rows n g.rows bytes numbers k b a ek eb ea z.1 in
    let now = ok ∙ ap₂ (width_check n g.width) (sym same) (sym many) in (
      rw (sym now, sym ok) (areas_are n g bytes numbers gradients k b a s ek eb ea es),
      rw (sym now, sym ok) (slopes_are n g bytes numbers gradients k b a s ek eb ea es),
    )
