-- Exclusives look at the rows below 2^n only: rows that agree there leave the same slices.
use mathlib.Core.Path.{◌≡◌, refl, ap, ap₂, ◌∙◌}
use mathlib.Core.Bool.{Bool, true, false, cond}
use mathlib.Core.List.{List}
use Prim.Native.Nat.{ℕ, zero, suc, ◌*◌, ◌/◌, ◌%◌, ◌^◌, ◌<◌}
use native.Mathlib.Omega.{arith}
use lib.Ieee.{Float, nan, lt}
use lib.ListN.{get_or, replicate}
use Rattle.lists.specs.Written.{written}
use Rattle.lists.proofs.Writing.{written_cong}
use Rattle.masks.specs.Presence.{byte}
use Rattle.binary64.specs.Constants.{zero64}
use Rattle.exclusive_gradients.specs.Gradient.{unless_replaced}
use Rattle.exclusive.proofs.TableRows.{place}
use Rattle.exclusive.proofs.Unclamped.{unclamped_alike}
use Rattle.diagram.specs.Rows.{Slopes, in_row, is_there, area_at, slopes_at}
use Rattle.diagram.specs.Rows.{presence_written, areas_written, slopes_written}

-- what agrees below 2^n
abbrev pub Alike : {A : Type 0} → ℕ → (ℕ → A) → (ℕ → A) → Type 0
Alike n f g = (S : ℕ) → S < 2 ^ n → f S ≡ g S

pub unless_alike : (n : ℕ) (p p' : ℕ → Bool) → Alike n p p' → (area area' : ℕ → Float) → Alike n area area'
    → (f f' : ℕ → Float) → Alike n f f' → Alike n (unless_replaced n p area f) (unless_replaced n p' area' f')
unless_alike n p p' same area area' areas f f' e S h =
    ap₂ (λ (b : Bool) (x : Float). cond b x zero64) (same S h)
    (ap₂ (λ (a x : Float). cond (lt a zero64) zero64 x) (unclamped_alike n p p' same area area' areas S h)
    (unclamped_alike n p p' same f f' e S h))

-- Rows with gradients that agree below 2^n: of the row of a mask that is no set nothing is asked.
pub record Agree (n : ℕ) (g h : Slopes) : Type 0 where
  pub has_box : g.rows.has_box ≡ h.rows.has_box
  pub width : g.width ≡ h.width
  pub sets : Alike n g.rows.sets h.rows.sets
  pub box_area : g.rows.box_area ≡ h.rows.box_area
  pub box_row : g.box_row ≡ h.box_row
  pub area : (S : ℕ) → 0 < S → h.rows.sets S ≡ true → g.rows.area S ≡ h.rows.area S
  pub row : (S : ℕ) → 0 < S → h.rows.sets S ≡ true → g.row S ≡ h.row S

module _ (n : ℕ) (g h : Slopes) (e : Agree n g h) where
  there : Alike n (is_there g.rows) (is_there h.rows)
  there zero k = e.has_box
  there (suc S) k = e.sets (suc S) k

  in_alike : {A : Type 0} (box box' : A) (row row' : ℕ → A) (absent : A) → box ≡ box'
      → ((S : ℕ) → 0 < S → h.rows.sets S ≡ true → row S ≡ row' S)
      → Alike n (in_row g.rows.has_box g.rows.sets box row absent) (in_row h.rows.has_box h.rows.sets box' row' absent)
  in_alike box box' row row' absent eb er zero k = ap₂ (λ (b : Bool) x. cond b x absent) e.has_box eb
  in_alike box box' row row' absent eb er (suc S) k =
      ap (λ (b : Bool). cond b (row (suc S)) absent) (e.sets (suc S) k) ∙ go (h.rows.sets (suc S)) refl
    where
      go : (b : Bool) → h.rows.sets (suc S) ≡ b → cond b (row (suc S)) absent ≡ cond b (row' (suc S)) absent
      go true is = er (suc S) (omega arith) is
      go false is = refl

  areas : Alike n (area_at g.rows) (area_at h.rows)
  areas = in_alike g.rows.box_area h.rows.box_area g.rows.area h.rows.area zero64 e.box_area e.area

  pub presence_alike : (l : List ℕ) → presence_written n g.rows l ≡ presence_written n h.rows l
  presence_alike l = written_cong _ _ (2 ^ n) l l (λ S k. ap byte (there S k)) refl

  pub areas_alike : (l : List Float) → areas_written n g l ≡ areas_written n h l
  areas_alike l = written_cong _ _ (2 ^ n) l l (unless_alike n _ _ there _ _ areas _ _ areas) refl

  pub slopes_alike : (l : List Float) → slopes_written n g l ≡ slopes_written n h l
  slopes_alike l =
      ap (λ (w : ℕ). written (number w) (2 ^ n * w) l) e.width
      ∙ written_cong _ _ (2 ^ n * h.width) l l
      (λ x k. unless_alike n _ _ there _ _ areas (λ S. get_or (row_of h.width S) (x % h.width) nan)
      (λ S. get_or (slopes_at h S) (x % h.width) nan)
      (λ S j. ap (λ (r : List Float). get_or r (x % h.width) nan)
      (in_alike g.box_row h.box_row g.row h.row (replicate h.width zero64) e.box_row e.row S j)) (x / h.width)
      (place x (2 ^ n) h.width k).1) refl
    where
      row_of : ℕ → ℕ → List Float
      row_of w = in_row g.rows.has_box g.rows.sets g.box_row g.row (replicate w zero64)

      number : ℕ → ℕ → Float
      number w x = unless_replaced n (is_there g.rows) (area_at g.rows) (λ S. get_or (row_of w S) (x % w) nan) (x / w)
