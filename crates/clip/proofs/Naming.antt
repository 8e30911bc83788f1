-- An arc of a set's outline names a position of the set; under head numbers it names the head there, which has the same
-- circle. So a fold over the arcs that looks at their circles and angles is the same by position and by head.
use mathlib.Core.Path.{◌≡◌, refl}
use mathlib.Core.Bool.{true, not, ◌&&◌}
use mathlib.Core.List.{List, [], ◌∷◌, map}
use Prim.Native.Nat.{ℕ, suc, ◌+◌, ◌%◌, ◌≤◌, ◌<◌}
use native.Mathlib.Omega.{arith}
use borrow.Author.Tests.{lt-ltb}
use lib.Dec.{ltb}
use lib.ListN.{length, get_or, length-map}
use lib.Ieee.{Float, nan}
use Rattle.binary64.specs.Constants.{half64}
use Rattle.binary64.specs.Floats.{◌+ᶠ◌, ◌*ᶠ◌}
use Rattle.geometry.specs.declared.circle.Circle.{Circle}
use Rattle.boundary.specs.declared.arcs.BoundaryArc.{BoundaryArc}
use Rattle.lists.specs.Every.{Every, every_append, every_map, every_up_to, every_at, every_one}
use Rattle.lists.proofs.Lists.{get_d_mapped}
use Rattle.intersections.specs.Members.{Member, circles_of, no_circle, circle_at}
use Rattle.boundary.specs.Outline.{owned, point_at, probe, gap, collapsed, full_circle, between}
use Rattle.boundary.specs.Outline.{arc_from, arcs_at, angles_of, outline_from, outline}
use Rattle.boundary.specs.Set.{numbered}

-- ---- positions

-- an arc of position k
abbrev Of : ℕ → BoundaryArc → Type 0
Of k arc = arc.circle ≡ k

-- an arc of a position below n
abbrev pub Below : ℕ → BoundaryArc → Type 0
Below n arc = arc.circle < n

gap_named : (cs : List Circle) (k : ℕ) (c : Circle) (phis : List Float) (i : ℕ) → Every (Of k) (arc_from cs k c phis i)
unfolding arc_from between
gap_named cs k c phis i =
    let a = get_or phis i nan in
    let delta = gap a (get_or phis ((i + 1) % length phis) nan) in
    let kept = not (collapsed delta) && owned k (point_at c (a +ᶠ delta *ᶠ half64)) cs in
    every_one (Of k) kept (between k c a delta) refl

-- the arcs of the member at k name k
arcs_named : (cs : List Circle) (k : ℕ) (c : Circle) (phis : List Float) → Every (Of k) (arcs_at cs k c phis)
unfolding arcs_at full_circle
arcs_named cs k c [] = every_one (Of k) (owned k (probe c) cs) (full_circle k c) refl
arcs_named cs k c (phi ∷ phis) =
    every_up_to (Of k) (arc_from cs k c (phi ∷ phis)) (length (phi ∷ phis)) (λ i h. gap_named cs k c (phi ∷ phis) i)

rest_named : (cs : List Circle) (k n : ℕ) (ms : List Member) → k + length ms ≤ n
    → Every (Below n) (outline_from cs k ms)
unfolding outline_from
rest_named cs k n [] h = tt
rest_named cs k n (m ∷ ms) h =
    let arcs = arcs_at cs k m.circle (angles_of m) in
    every_append (Below n) arcs (outline_from cs (suc k) ms)
    (every_map arcs (λ arc e. omega (arith, e)) (arcs_named cs k m.circle (angles_of m)))
    (rest_named cs (suc k) n ms (omega arith))

-- Every arc of the outline of a set names one of its members.
pub outline_named : (ms : List Member) → Every (Below (length ms)) (outline ms)
unfolding outline full_circle
outline_named [] = tt
outline_named (m ∷ []) = (omega arith, tt)
outline_named (m ∷ (m' ∷ ms)) =
    let all = m ∷ (m' ∷ ms) in
    rest_named (circles_of all) 0 (length all) all (omega arith)

-- ---- heads

-- the circles of the heads, by position
abbrev pub own : List Circle → List ℕ → List Circle
own circles heads = map (circle_at circles) heads

module _ (circles : List Circle) (heads : List ℕ) (below : Every (λ j. j < length circles) heads)
    (arc : BoundaryArc) (at : arc.circle < length heads) where
  -- the circle by position
  pub has_own : ltb arc.circle (length (own circles heads)) ≡ true
  has_own = lt-ltb arc.circle (length (own circles heads)) (rw (length-map heads (circle_at circles)) at)

  -- the circle by head
  pub has_head : ltb (numbered heads arc).circle (length circles) ≡ true
  unfolding numbered
  has_head =
      lt-ltb (get_or heads arc.circle 0) (length circles)
      (every_at (λ j. j < length circles) heads arc.circle 0 at below)

  -- is the same
  pub same_circle : get_or (own circles heads) arc.circle no_circle
      ≡ get_or circles (numbered heads arc).circle no_circle
  unfolding numbered
  same_circle = get_d_mapped (circle_at circles) heads arc.circle 0 no_circle at
