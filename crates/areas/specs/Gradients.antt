-- The gradient rows of a plan by head number, with and without its box, row 0 and absent rows included; and what scattering does in a box, as
-- `Scatters` says it without. proofs/Gradients.antt proves it: `scatters_clipped`, `clipped-gradients`, `open-gradients`.
use Rattle.std.specs.Prelude.{ℕ, zero, suc, ◌+◌, ◌*◌, ◌<◌, Bool, true, false, cond, ◌≡◌, List, [], ◌∷◌, length, get_or, replicate, Float}
use Rattle.std.specs.Float.{nan}
use Rattle.binary64.specs.Constants.{zero64}
use Rattle.masks.specs.Mask.{in_set}
use Rattle.geometry.specs.Rectangle.{area}
use Rattle.intersections.specs.Members.{heads_of}
use Rattle.intersections.specs.Points.{Rule, rule}
use Rattle.plan.specs.declared.Plan.{Plan}
use Rattle.areas.specs.Scatter.{scatter, scatter_clipped}
use Rattle.areas.specs.Open.{open_gradient_row_by, open_gradient_row}
use Rattle.drawn.specs.Drawn.{box_of}
use Rattle.areas.specs.Clipped.{clipped_gradient_row_by, clipped_gradient_row}

-- What `scatter_clipped` does to a gradient g of the heads of a set S among n, and of the box.
pub record ScattersClipped (n S : ℕ) (g : List Float) : Type 0 where
  -- three entries a head, and the box's four
  pub many : length (scatter_clipped (heads_of n S) n g) ≡ n * 3 + 4
  -- entry i of position k stands at entry i of its head
  pub own : (k i : ℕ) → k < length (heads_of n S) → i < 3
      → get_or (scatter_clipped (heads_of n S) n g) (get_or (heads_of n S) k 0 * 3 + i) nan ≡ get_or g (k * 3 + i) nan
  -- the box's entries, which come after those of the set, come after those of all heads
  pub box : (i : ℕ) → i < 4 → get_or (scatter_clipped (heads_of n S) n g) (n * 3 + i) nan ≡ get_or g (length (heads_of n S) * 3 + i) nan
  -- the entries of a head outside the set are +0
  pub elsewhere : (j i : ℕ) → j < n → i < 3 → in_set S j ≡ false → get_or (scatter_clipped (heads_of n S) n g) (j * 3 + i) nan ≡ zero64

-- ---- gradient rows by head number, for any list of sets

-- The gradient of row 0, the box's area w×h, by the box's centre x, centre y, ln(w·h) and ln(w/h): the Rust's [0, 0, w×h, 0].
abbrev pub box_slopes : Float → List Float
box_slopes a = zero64 ∷ (zero64 ∷ (a ∷ (zero64 ∷ [])))

module _ (r : Rule) where
  -- In the box: row 0 has the box's slopes and no head's, a set of the list its gradient by head, any other row +0
  -- throughout.
  unfoldable pub clipped_gradients_by : (Plan → ℕ → Bool) → Plan → ℕ → List Float
  unfolding scatter_clipped heads_of
  clipped_gradients_by sets p zero = scatter_clipped [] p.n (box_slopes (area (box_of p.ground)))
  clipped_gradients_by sets p (suc S) =
      cond (sets p (suc S)) (scatter_clipped (heads_of p.n (suc S)) p.n (clipped_gradient_row_by r p (suc S)).grad)
      (replicate (p.n * 3 + 4) zero64)

  -- Without a box: row 0 is absent.
  unfoldable pub open_gradients_by : (Plan → ℕ → Bool) → Plan → ℕ → List Float
  unfolding scatter heads_of
  open_gradients_by sets p zero = replicate (3 * p.n) zero64
  open_gradients_by sets p (suc S) =
      cond (sets p (suc S)) (scatter (heads_of p.n (suc S)) p.n (open_gradient_row_by r p (suc S)))
      (replicate (3 * p.n) zero64)

abbrev pub clipped_gradients : (Plan → ℕ → Bool) → Plan → ℕ → List Float
clipped_gradients = clipped_gradients_by rule

abbrev pub open_gradients : (Plan → ℕ → Bool) → Plan → ℕ → List Float
open_gradients = open_gradients_by rule

-- What these rows are, entry by entry: of the width of a row, whatever the row; row 0; absent rows; the rows of sets are scattered (`ScattersClipped`).
pub record ClippedGradients (sets : Plan → ℕ → Bool) (p : Plan) : Type 0 where
  pub many : (S : ℕ) → length (clipped_gradients sets p S) ≡ p.n * 3 + 4
  pub box : get_or (clipped_gradients sets p 0) (p.n * 3 + 2) nan ≡ area (box_of p.ground)
  pub no_more : (i : ℕ) → i < p.n * 3 + 4 → (i ≡ p.n * 3 + 2 → ⊥) → get_or (clipped_gradients sets p 0) i nan ≡ zero64
  pub absent : (S : ℕ) → 0 < S → sets p S ≡ false → clipped_gradients sets p S ≡ replicate (p.n * 3 + 4) zero64
  pub present : (S : ℕ) → 0 < S → sets p S ≡ true → clipped_gradients sets p S ≡ scatter_clipped (heads_of p.n S) p.n (clipped_gradient_row p S).grad

pub record OpenGradients (sets : Plan → ℕ → Bool) (p : Plan) : Type 0 where
  pub many : (S : ℕ) → length (open_gradients sets p S) ≡ 3 * p.n
  pub none : open_gradients sets p 0 ≡ replicate (3 * p.n) zero64
  pub absent : (S : ℕ) → 0 < S → sets p S ≡ false → open_gradients sets p S ≡ replicate (3 * p.n) zero64
  pub present : (S : ℕ) → 0 < S → sets p S ≡ true → open_gradients sets p S ≡ scatter (heads_of p.n S) p.n (open_gradient_row p S)
