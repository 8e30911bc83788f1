-- Sums over the arcs of a set, open and in the box: by head they are what they are by position.
use mathlib.Core.Path.{◌≡◌, refl}
use mathlib.Core.List.{List, map, foldl}
use Prim.Native.Nat.{ℕ, ◌<◌}
use lib.ListN.{length}
use lib.Ieee.{Float}
use Rattle.geometry.specs.declared.bounds.Bounds.{Bounds}
use Rattle.geometry.specs.declared.circle.Circle.{Circle}
use Rattle.boundary.specs.declared.arcs.BoundaryArc.{BoundaryArc}
use Rattle.lists.specs.Every.{Every}
use Rattle.outline.specs.Area.{arc_terms, add_arc, add_arcs}
use Rattle.boundary.specs.Set.{numbered}
use Rattle.inside.specs.Breaks.{breaks}
use Rattle.inside.specs.Parts.{clipped_arc_integral}
use Rattle.clip.specs.Area.{add_clipped_arc}
use Rattle.clip.proofs.Naming.{own, Below, has_own, has_head, same_circle}
use Rattle.lists.proofs.Folds.{fold_related}

module _ (circles : List Circle) (heads : List ℕ) (below : Every (λ j. j < length circles) heads) where
  add-arc : (total : Float) (arc : BoundaryArc) → Below (length heads) arc
      → add_arc (own circles heads) total arc ≡ add_arc circles total (numbered heads arc)
  unfolding add_arc arc_terms numbered
  add-arc total arc at =
      rw (
        has_own circles heads below arc at,
        has_head circles heads below arc at,
        same_circle circles heads below arc at,
      )

  pub arcs-sum : (arcs : List BoundaryArc) → Every (Below (length heads)) arcs → (total : Float)
      → add_arcs (own circles heads) total arcs ≡ add_arcs circles total (map (numbered heads) arcs)
  arcs-sum arcs h total =
      fold_related ◌≡◌ (Below (length heads)) (numbered heads) (add_arc (own circles heads)) (add_arc circles)
      (λ a b arc at e. rw e (add-arc b arc at)) arcs h total total refl

  add-clipped-arc : (box : Bounds) (total : Float) (arc : BoundaryArc) → Below (length heads) arc
      → add_clipped_arc box (own circles heads) total arc ≡ add_clipped_arc box circles total (numbered heads arc)
  unfolding add_clipped_arc clipped_arc_integral breaks numbered
  add-clipped-arc box total arc at =
      rw (
        has_own circles heads below arc at,
        has_head circles heads below arc at,
        same_circle circles heads below arc at,
      )

  pub clipped_sum : (box : Bounds) (arcs : List BoundaryArc) → Every (Below (length heads)) arcs → (total : Float)
      → foldl (add_clipped_arc box (own circles heads)) total arcs
      ≡ foldl (add_clipped_arc box circles) total (map (numbered heads) arcs)
  clipped_sum box arcs h total =
      fold_related ◌≡◌ (Below (length heads)) (numbered heads)
      (add_clipped_arc box (own circles heads)) (add_clipped_arc box circles)
      (λ a b arc at e. rw e (add-clipped-arc box b arc at)) arcs h total total refl
