-- The arcs of a set's outline by head numbers, from the marks of its heads, and the numbers that stand for arcs.
use Rattle.std.specs.Prelude.{ℕ, ◌+◌, ◌-◌, ◌*◌, ◌/◌, ◌%◌, ◌≤◌, ◌<◌, ◌≡◌, Bool, true, eqb, ltb, length, get_or}
use Rattle.std.specs.Prelude.{Float}
use Rattle.std.proofs.Math.Bool.{cond}
use mathlib.Core.List.{List, [], ◌∷◌, ◌++◌, map}
use Rattle.std.specs.Int.Count.{ones, count_trailing_zeros}
use Rattle.masks.specs.Mask.{in_set}
use Rattle.lists.specs.Every.{Every}
use Rattle.lists.specs.Lists.{up_to}
use Rattle.geometry.specs.declared.circle.Circle.{Circle}
use Rattle.intersections.specs.declared.points.IntersectionPoint.{IntersectionPoint}
use Rattle.intersections.specs.Members.{heads_of, circle_at, members_of}
use Rattle.boundary.specs.declared.arcs.BoundaryArc.{BoundaryArc}
use Rattle.boundary.specs.declared.sort.Mark.{Mark}
use Rattle.boundary.specs.Outline.{gap, probe, between, full_circle, outline}
use Rattle.boundary.specs.Set.{numbered}
use Rattle.gaps.specs.declared.marks.HeadMarks.{HeadMarks}
use Rattle.gaps.specs.Gaps.{owned_in, is_arc}
use Rattle.gaps.specs.Marks.{angles_in, phi_at, unmarked}
use Rattle.sums.specs.declared.pass.Pass.{Pass}

-- ---- marks, as they are held

-- the marks of head j
abbrev pub marks_of : List HeadMarks → ℕ → List Mark
marks_of heads j = (get_or heads j unmarked).marks.items

-- the position of head j among the heads of S
abbrev pub rank : ℕ → ℕ → ℕ
rank S j = length (heads_of j S)

-- ---- the arcs of a set

module _ (circles : List Circle) (S j : ℕ) where
  -- the gap from a to b of head j, if it is an arc
  unfoldable pub gap_in : Float → Float → List BoundaryArc
  unfolding is_arc gap between
  gap_in a b = cond (is_arc circles S j a b) (between j (circle_at circles j) a (gap a b) ∷ []) []

  -- the whole circle, if the probe is j's own
  unfoldable pub whole_in : List BoundaryArc
  unfolding owned_in probe full_circle
  whole_in = let c = circle_at circles j in cond (owned_in circles S j (probe c)) (full_circle j c ∷ []) []

  -- the gaps from each angle of a list to the next, and last the one from its end to `first`
  unfoldable pub gaps_in : Float → List Float → List BoundaryArc
  unfolding gap_in
  gaps_in first [] = []
  gaps_in first (a ∷ []) = gap_in a first
  gaps_in first (a ∷ (b ∷ rest)) = gap_in a b ++ gaps_in first (b ∷ rest)

  -- the arcs of head j, of which these angles are counted for S
  unfoldable pub head_in : List Float → List BoundaryArc
  unfolding whole_in gaps_in
  head_in [] = whole_in
  head_in (a ∷ rest) = gaps_in a (a ∷ rest)

-- the arcs of head j in S, or none where it is no head of S
unfoldable pub part_in : List Circle → (ℕ → List Mark) → ℕ → ℕ → List BoundaryArc
unfolding head_in angles_in
part_in circles marks S j = cond (in_set S j) (head_in circles S j (angles_in S (marks j))) []

-- the arcs of the heads of S below n
unfoldable pub heads_in : List Circle → (ℕ → List Mark) → ℕ → ℕ → List BoundaryArc
unfolding up_to part_in
heads_in circles marks S n = up_to (part_in circles marks S) n

-- the arcs of S. Of a single: its full circle, whatever meets it.
unfoldable pub arcs_by : List Circle → (ℕ → List Mark) → ℕ → List BoundaryArc
unfolding full_circle heads_in
arcs_by circles marks S =
    let k = count_trailing_zeros 64 S in
    cond (eqb (ones S) 1) (full_circle k (circle_at circles k) ∷ []) (heads_in circles marks S (length circles))

-- the arcs of the outline of S, each with its head's number
abbrev pub outline_arcs : List Circle → List IntersectionPoint → ℕ → List BoundaryArc
outline_arcs circles points S = map (numbered (heads_of (length circles) S)) (outline (members_of circles points S))

-- ---- arcs by their places, of which each head has 32

-- the angle at a place
abbrev pub phi_of : List HeadMarks → ℕ → Float
phi_of heads p = phi_at (marks_of heads (p / 32)) (p % 32)

-- there is one
abbrev pub Angled : List HeadMarks → ℕ → Type 0
Angled heads p = p % 32 < length (marks_of heads (p / 32))

-- the place of the next angle of the same head, round the circle
unfoldable pub next_place : List HeadMarks → ℕ → ℕ
next_place heads p = p / 32 * 32 + (p % 32 + 1) % length (marks_of heads (p / 32))

-- the gap from the angle at place a to that at place b
unfoldable pub gap_arc : List Circle → List HeadMarks → ℕ → ℕ → BoundaryArc
unfolding gap between
gap_arc circles heads a b =
    let j = a / 32 in between j (circle_at circles j) (phi_of heads a) (gap (phi_of heads a) (phi_of heads b))

-- The arc that a number stands for. Below 320: the gap from the angle at that place to the next. 320 + j: the whole
-- circle of head j. 330 + 320 a + b: the gap from the angle at place a to that at place b, which are not neighbours.
unfoldable pub arc_at : List Circle → List HeadMarks → ℕ → BoundaryArc
unfolding next_place gap_arc full_circle
arc_at circles heads p =
    cond (ltb p 320)
    (gap_arc circles heads p (next_place heads p))
    (cond (ltb p 330) (full_circle (p - 320) (circle_at circles (p - 320)))
    (gap_arc circles heads ((p - 330) / 320) ((p - 330) % 320)))

-- the head of the arc of a number
unfoldable pub head_of : ℕ → ℕ
head_of p = cond (ltb p 320) (p / 32) (cond (ltb p 330) (p - 320) ((p - 330) / 320 / 32))

-- the number below 330 of an arc between neighbours, or of the whole circle of a head of `needed`; the other heads
-- have no mark
unfoldable pub standing : ℕ → List HeadMarks → ℕ → Bool
standing needed heads p = cond (ltb p 320) (ltb (p % 32) (length (marks_of heads (p / 32)))) (in_set needed (p - 320))

-- the number of an arc of a head of `needed`
pub record Placed (needed : ℕ) (heads : List HeadMarks) (p : ℕ) : Type 0 where
  pub near : p < 330 → standing needed heads p ≡ true
  pub start : 330 ≤ p → Angled heads ((p - 330) / 320)
  pub end : 330 ≤ p → Angled heads ((p - 330) % 320)
  pub same : 330 ≤ p → (p - 330) / 320 / 32 ≡ (p - 330) % 320 / 32

-- ---- a list of numbers

-- the arcs that they stand for
abbrev pub arcs_listed : List Circle → List HeadMarks → List ℕ → List BoundaryArc
arcs_listed circles heads list = map (arc_at circles heads) list

-- After those of `before` come numbers of these arcs, of heads of `needed`.
pub record AddedBy (circles : List Circle) (needed : ℕ) (heads : List HeadMarks) (arcs : List BoundaryArc)
    (before after : List ℕ)
    : Type 0 where
  pub said : arcs_listed circles heads after ≡ arcs_listed circles heads before ++ arcs
  pub placed : Every (Placed needed heads) before → Every (Placed needed heads) after

-- of a pass
abbrev pub Added : Pass → List BoundaryArc → List ℕ → List ℕ → Type 0
Added pass arcs before after = AddedBy pass.circles.now pass.needed pass.heads.now.items arcs before after

-- They are numbers of arcs of heads of `needed`, and stand for these arcs.
pub record Listing (circles : List Circle) (needed : ℕ) (heads : List HeadMarks) (arcs : List BoundaryArc)
    (list : List ℕ)
    : Type 0 where
  pub said : arcs_listed circles heads list ≡ arcs
  pub placed : Every (Placed needed heads) list
