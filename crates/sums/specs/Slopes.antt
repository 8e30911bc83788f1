-- What each arc adds to the gradient of a set, by the arc's number: without a box three slopes, in the box the shares
-- of its parts. Those of an arc between neighbours and of a whole circle are the same for every set, and are held in
-- arrays.
use Rattle.std.specs.Prelude.{ℕ, ◌-◌, ◌*◌, ◌≤◌, ◌≡◌, Option, None, Some, List, get_or, length, take, drop, Float}
use mathlib.Core.List.{foldl, ◌++◌}
use Rattle.geometry.specs.declared.bounds.Bounds.{Bounds}
use Rattle.geometry.specs.declared.circle.Circle.{Circle}
use Rattle.intersections.specs.Members.{circle_at}
use Rattle.boundary.specs.declared.arcs.BoundaryArc.{BoundaryArc}
use Rattle.outline.specs.declared.terms.Triple.{Triple}
use Rattle.outline.specs.Terms.{terms_of, slopes_of, add_three_at}
use Rattle.clip.specs.Gradient.{WithGradient, with_gradient, onto}
use Rattle.clip.specs.Gradient.{clipped_arc_integral_with_gradient}
use Rattle.gaps.specs.declared.marks.HeadMarks.{HeadMarks}
use Rattle.sums.specs.declared.terms.TermsAndSlopes.{TermsAndSlopes}
use Rattle.sums.specs.declared.shares.Along.{Along}
use Rattle.sums.specs.Walk.{head_of, arc_at}
use Rattle.sums.specs.Values.{term_of}

-- ---- without a box

-- the terms of an arc and its slopes
unfoldable pub with_slopes : Circle → BoundaryArc → TermsAndSlopes
with_slopes c arc = record { terms = terms_of c arc; slopes = slopes_of c arc }

-- the slopes of the arc of a number, added to a gradient
abbrev pub add_slopes_at : List Circle → List HeadMarks → List Float → ℕ → List Float
add_slopes_at circles heads g p = add_three_at (head_of p * 3) (term_of slopes_of circles heads p) g

-- ---- in the box

-- the arc of a number, its integral added to a sum and the shares of its parts to a gradient
unfoldable pub add_parts_at : Bounds → List Circle → List HeadMarks → WithGradient → ℕ → WithGradient
unfolding head_of arc_at clipped_arc_integral_with_gradient
add_parts_at box circles heads s p =
    onto s.sum (clipped_arc_integral_with_gradient box (circle_at circles (head_of p)) (arc_at circles heads p) s.grad)

-- shares, one after another added to a gradient
abbrev pub add_shares : ℕ → List Triple → List Float → List Float
add_shares off shares g = foldl (λ g t. add_three_at off t g) g shares

-- The shares of the parts of an arc are put behind those before, and this is its integral.
pub record PartsPut (box : Bounds) (c : Circle) (arc : BoundaryArc) (before : List Triple) (sum : Float)
    (after : List Triple)
    : Type 0 where
  pub these : List Triple
  pub behind : after ≡ before ++ these
  pub here : (g : List Float)
      → with_gradient sum (add_shares (arc.circle * 3) these g) ≡ clipped_arc_integral_with_gradient box c arc g

-- those from a place of a list on, up to another
abbrev pub shares_between : ℕ → ℕ → List Triple → List Triple
shares_between from to shares = take (to - from) (drop from shares)

-- Of the arc of a number its integral is held, and the shares of its parts, from `from` up to `to`.
pub record PartsHeld (box : Bounds) (circles : List Circle) (heads : List HeadMarks) (shares : List Triple) (p : ℕ)
    (along : Along)
    : Type 0 where
  pub order : along.from ≤ along.to
  pub room : along.to ≤ length shares
  pub here : (g : List Float)
      → with_gradient along.sum (add_shares (head_of p * 3) (shares_between along.from along.to shares) g)
      ≡ clipped_arc_integral_with_gradient box (circle_at circles (head_of p)) (arc_at circles heads p) g

-- so of every arc of a number at which there is something
abbrev pub PartsValued : Bounds → List Circle → List HeadMarks → List Triple → List (Option Along) → Type 0
PartsValued box circles heads shares along =
    (p : ℕ) → (a : Along) → get_or along p None ≡ Some a → PartsHeld box circles heads shares p a
