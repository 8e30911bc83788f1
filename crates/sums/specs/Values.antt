-- What each arc adds to the sum of a set, by the arc's number: in the box one number, without it three, and three to a
-- gradient. Those of an arc between neighbours and of a whole circle are the same for every set, and held in arrays.
use Rattle.std.specs.Prelude.{ℕ, ◌<◌, ◌≡◌, true, List, get_or, Float}
use Rattle.std.specs.List.{Contains}
use mathlib.Core.List.{foldl}
use Rattle.lists.specs.Every.{Every}
use Rattle.binary64.specs.Constants.{zero64}
use Rattle.binary64.specs.Floats.{◌+ᶠ◌}
use Rattle.geometry.specs.declared.circle.Circle.{Circle}
use Rattle.intersections.specs.Members.{circle_at}
use Rattle.boundary.specs.declared.arcs.BoundaryArc.{BoundaryArc}
use Rattle.outline.specs.Terms.{terms_of, add_triple}
use Rattle.gaps.specs.declared.marks.HeadMarks.{HeadMarks}
use Rattle.sums.specs.Walk.{head_of, arc_at, standing}

-- a term of the arc of a number: the three that it adds without a box, or in the box the integral
unfoldable pub term_of : {A : Type 0} → (Circle → BoundaryArc → A) → List Circle → List HeadMarks → ℕ → A
unfolding head_of arc_at
term_of term circles heads p = term (circle_at circles (head_of p)) (arc_at circles heads p)

-- ---- the arcs of a list of numbers, added up

-- what each has, added in turn to a sum that begins at +0
abbrev pub sum_of : {A : Type 0} → (Float → A → Float) → (ℕ → A) → List ℕ → Float
sum_of added value list = foldl (λ total p. added total (value p)) zero64 list

-- in the box, and without it
abbrev pub add_one : (ℕ → Float) → Float → ℕ → Float
add_one f total p = total +ᶠ f p

abbrev pub add_terms : List Circle → List HeadMarks → Float → ℕ → Float
add_terms circles heads total p = add_triple total (term_of terms_of circles heads p)

-- ---- what the arrays hold

-- these are the numbers below 330 of the arcs of the heads of `needed`
pub record Standing (needed : ℕ) (heads : List HeadMarks) (list : List ℕ) : Type 0 where
  pub each : Every (λ p. (p < 330) × (standing needed heads p ≡ true)) list
  pub all : (p : ℕ) → p < 330 → standing needed heads p ≡ true → Contains list p

-- at the numbers of all such arcs these are their terms
abbrev pub Valued : {A : Type 0} → ℕ → List Circle → List HeadMarks → (Circle → BoundaryArc → A) → A → List A → Type 0
Valued needed circles heads term none value =
    (p : ℕ) → p < 330 → standing needed heads p ≡ true → get_or value p none ≡ term_of term circles heads p
