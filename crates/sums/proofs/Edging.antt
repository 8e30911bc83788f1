-- The edges of the box for a set, as the plain form adds them, where the arrays hold the chords of its heads.
use mathlib.Core.Path.{◌≡◌, refl, ap, ◌∙◌}
use mathlib.Core.List.{List, [], ◌∷◌, map, foldl}
use Prim.Native.Nat.{ℕ, ◌^◌, ◌<◌, ◌≤◌}
use lib.ListN.{length}
use lib.Ieee.{Float}
use Rattle.geometry.specs.declared.bounds.Bounds.{Bounds}
use Rattle.geometry.specs.declared.circle.Circle.{Circle}
use Rattle.intersections.specs.Heads.{first_ten}
use Rattle.intersections.specs.Members.{heads_of, circle_at}
use Rattle.intersections.proofs.Few.{few_read}
use Rattle.inside.specs.Edges.{box_edges, factor_of, across_of}
use Rattle.clip.specs.Area.{add_span, add_edges}
use Rattle.clip.specs.Gradient.{WithGradient, add_span_with_gradient, add_edges_with_gradient}
use Rattle.chords.specs.declared.fill.Chords.{Chords}
use Rattle.chords.specs.Chords.{held_of, chords_of, Chorded}
use Rattle.chords.proofs.Ends.{filled_chorded}
use Rattle.chords.proofs.Spanning.{edge_is}
use Rattle.sums.specs.declared.pass.Pass.{Pass}
use Rattle.sums.specs.Edges.{edges_from, edges_with_gradient_from}

-- the circles of a pass are few enough to be read whole: each needed head of it has its chords
pub pass_chorded : (pass : Pass) (box : Bounds) (chords : Chords)
    → map held_of chords.edges ≡ map (chords_of box (first_ten pass.circles.now) pass.needed) box_edges
    → Chorded box pass.circles.now pass.needed chords
pass_chorded pass box chords filled =
    rw (few_read pass.circles.now pass.ten)
    at (filled_chorded box (first_ten pass.circles.now) pass.needed chords filled)

-- two folds of which each step does the same
fold_same : {S A : Type 0} (f g : S → A → S) → ((s : S) (a : A) → f s a ≡ g s a) → (l : List A) (s : S)
    → foldl f s l ≡ foldl g s l
fold_same f g e [] s = refl
fold_same f g e (a ∷ l) s = ap (λ t. foldl f t l) (e s a) ∙ fold_same f g e l (g s a)

module _ (box : Bounds) (circles : List Circle) (S : ℕ) (chords : Chords)
    (few : length circles ≤ 10) (below : S < 2 ^ length circles) (held : Chorded box circles S chords) where
  -- the four spans added one after another, and with a gradient
  pub edges_are : (total : Float)
      → edges_from box chords S total ≡ add_edges box (map (circle_at circles) (heads_of (length circles) S)) total
  unfolding add_edges
  edges_are =
      fold_same _ _ (λ sum e. ap (add_span (factor_of box e) sum) (edge_is box circles S chords few below held e))
      box_edges

  pub edges_with_are : (at : ℕ) (s : WithGradient)
      → edges_with_gradient_from box chords S at s
      ≡ add_edges_with_gradient box (map (circle_at circles) (heads_of (length circles) S)) at s
  unfolding add_edges_with_gradient
  edges_with_are at =
      fold_same _ _
      (λ so e. ap (add_span_with_gradient e (factor_of box e) (across_of box e) at so)
      (edge_is box circles S chords few below held e))
      box_edges
