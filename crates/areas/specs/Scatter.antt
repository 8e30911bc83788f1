-- Head numbers come in by a map at the end. A row and its gradient are worked out by position in the set; the Rust's functions over a
-- list of arcs name heads. Here is how a gradient by position becomes one by head, and the claim that the functions by head give what
-- those by position give, bit for bit. proofs/ByHead.antt proves it: `by_head`, and of the heads of a plan with nothing asked, `plan_by_head`.
use Rattle.std.specs.Prelude.{ℕ, ◌+◌, ◌*◌, ◌≤◌, ◌<◌, false, ◌≡◌, List, [], ◌∷◌, ◌++◌, map, length, get_or, set, replicate, Float}
use Rattle.std.specs.Float.{nan}
use Rattle.binary64.specs.Constants.{zero64}
use Rattle.masks.specs.Mask.{in_set}
use Rattle.geometry.specs.declared.bounds.Bounds.{Bounds}
use Rattle.geometry.specs.declared.circle.Circle.{Circle}
use Rattle.intersections.specs.declared.points.IntersectionPoint.{IntersectionPoint}
use Rattle.intersections.specs.Members.{circles_of, heads_of, circle_at, members_of}
use Rattle.boundary.specs.Outline.{outline}
use Rattle.outline.specs.Area.{area_of, add_gradient, open_area, open_gradient}
use Rattle.boundary.specs.Set.{arcs_held, region_arcs}
use Rattle.plan.specs.declared.Plan.{Plan}
use Rattle.intersections.specs.Points.{collected}
use Rattle.drawn.specs.Drawn.{plan_circles}
use Rattle.clip.specs.Area.{clipped_area_of, clipped_area}
use Rattle.clip.specs.Gradient.{with_gradient, clipped_with_gradient, clipped_onto, clipped_gradient}

-- ---- scattering

-- where the three entries of each head stand in a gradient by head
unfoldable pub entries_of : List ℕ → List ℕ
entries_of [] = []
entries_of (j ∷ js) = (j * 3) ∷ ((j * 3 + 1) ∷ ((j * 3 + 2) ∷ entries_of js))

-- where the box's four stand, after those of n heads
abbrev pub box_entries : ℕ → List ℕ
box_entries n = (n * 3) ∷ ((n * 3 + 1) ∷ ((n * 3 + 2) ∷ ((n * 3 + 3) ∷ [])))

-- the numbers of g, one after another, put at these places of a list
unfoldable pub put : List ℕ → List Float → List Float → List Float
put [] g out = out
put (p ∷ ps) [] out = out
put (p ∷ ps) (x ∷ g) out = put ps g (set out p x)

-- A gradient by position as one by head, among n heads: the three entries of position k stand at head heads[k], all others are +0.
unfoldable pub scatter : List ℕ → ℕ → List Float → List Float
unfolding entries_of put
scatter heads n g = put (entries_of heads) g (replicate (3 * n) zero64)

-- The same in a box: the box's four entries, which by position come after the set's, come after those of all n heads.
unfoldable pub scatter_clipped : List ℕ → ℕ → List Float → List Float
unfolding entries_of put
scatter_clipped heads n g = put (entries_of heads ++ box_entries n) g (replicate (n * 3 + 4) zero64)

-- What `scatter` does to a gradient g of the heads of a set S among n. proofs/Scattering.antt proves it: `scatters`.
pub record Scatters (n S : ℕ) (g : List Float) : Type 0 where
  -- three entries a head
  pub many : length (scatter (heads_of n S) n g) ≡ 3 * n
  -- entry i of position k stands at entry i of its head
  pub own : (k i : ℕ) → k < length (heads_of n S) → i < 3
      → get_or (scatter (heads_of n S) n g) (get_or (heads_of n S) k 0 * 3 + i) nan ≡ get_or g (k * 3 + i) nan
  -- the entries of a head outside the set are +0
  pub elsewhere : (j i : ℕ) → j < n → i < 3 → in_set S j ≡ false → get_or (scatter (heads_of n S) n g) (j * 3 + i) nan ≡ zero64

-- ---- what is claimed of a set S of circles and their meeting points

-- The outline fits the list that region_boundary_arcs makes. That of the collected points of at most ten circles does.
abbrev pub Fits : List Circle → List IntersectionPoint → ℕ → Type 0
Fits circles points S = length (outline (members_of circles points S)) ≤ arcs_held

-- the circles of a set's heads, as the code gathers them for the edges of the box
abbrev pub circles_in : List Circle → ℕ → List Circle
circles_in circles S = map (circle_at circles) (heads_of (length circles) S)

-- Each function over the arcs of region_boundary_arcs, `region_arcs`, gives what the one by position gives of the members.
pub record ByHead (circles : List Circle) (points : List IntersectionPoint) (S : ℕ) : Type 0 where
  -- area_from_boundary_arcs: the open area
  pub area : area_of circles (region_arcs circles points S) ≡ open_area (members_of circles points S)
  -- accumulate_region_overlap_gradient, from all +0: the scattered gradient
  pub gradient : add_gradient circles (replicate (3 * length circles) zero64) (region_arcs circles points S)
      ≡ scatter (heads_of (length circles) S) (length circles) (open_gradient (members_of circles points S))
  -- the same from any start: to add by head to what is scattered is to scatter what is added by position
  pub gradient_onto : (g out : List Float) → length g ≡ 3 * length (members_of circles points S) → 3 * length circles ≤ length out
      → add_gradient circles (put (entries_of (heads_of (length circles) S)) g out) (region_arcs circles points S)
      ≡ put (entries_of (heads_of (length circles) S)) (add_gradient (circles_of (members_of circles points S)) g (outline (members_of circles points S))) out
  -- area_from_clipped_arcs: the area in the box
  pub clipped-area : (box : Bounds)
      → clipped_area_of box circles (circles_in circles S) (region_arcs circles points S) ≡ clipped_area box (members_of circles points S)
  -- area_and_gradient_from_clipped_arcs, from all +0: the same area, and the scattered gradient
  pub clipped-gradient : (box : Bounds)
      → clipped_with_gradient box circles (circles_in circles S) (region_arcs circles points S) (replicate (length circles * 3 + 4) zero64)
      ≡ with_gradient
      (clipped_gradient box (members_of circles points S)).sum
      (scatter_clipped (heads_of (length circles) S) (length circles) (clipped_gradient box (members_of circles points S)).grad)
  -- the same from any start
  pub clipped_gradient_onto : (box : Bounds) (g out : List Float)
      → length g ≡ length (members_of circles points S) * 3 + 4 → length circles * 3 + 4 ≤ length out
      → clipped_with_gradient box circles (circles_in circles S) (region_arcs circles points S)
      (put (entries_of (heads_of (length circles) S) ++ box_entries (length circles)) g out)
      ≡ with_gradient
      (clipped_onto box (members_of circles points S) g).sum
      (put (entries_of (heads_of (length circles) S) ++ box_entries (length circles)) (clipped_onto box (members_of circles points S) g).grad out)

-- It holds of every set of at most ten heads.
abbrev pub PlanByHead : Type 0
PlanByHead = (p : Plan) (S : ℕ) → p.n ≤ 10 → ByHead (plan_circles p) (collected (plan_circles p)) S
