-- Where every radius is above 0, the overlap is the former one.
use mathlib.Core.Path.{◌≡◌, refl, ap, ◌∙◌}
use mathlib.Core.Bool.{Bool, not, cond}
use mathlib.Core.List.{List, [], ◌∷◌}
use Prim.Native.Nat.{ℕ, ◌-◌, ◌^◌}
use lib.ListN.{length}
use Rattle.lists.specs.Every.{Every, every_at, every_by_index, every_map, every_mapped}
use Rattle.lists.specs.Lists.{keep}
use Rattle.geometry.proofs.AsBefore as before
use Rattle.geometry.specs.AsBefore.{RadiusAbove}
use Rattle.geometry.specs.declared.circle.Circle.{Circle}
use Rattle.outline.specs.Area.{open_area}
use Rattle.intersections.specs.declared.points.IntersectionPoint.{IntersectionPoint}
use Rattle.intersections.specs.Alike.{RadiiAbove}
use Rattle.intersections.specs.Counts.{heads_below}
use Rattle.intersections.specs.Members.{no_circle, circle_at, heads_of, members_of}
use Rattle.intersections.specs.Points.{outline_rule}
use Rattle.intersections.proofs.Alike.{collected_as_before}
use Rattle.overlaps.specs.Overlap.{together, of_all, of_all_by, outline_overlap, not_closed, overlap, chosen}
use Rattle.overlaps.specs.Overlap.{OverlapAsBefore}

-- all are kept
all_kept : (cs : List Circle) → Every RadiusAbove cs → not_closed cs ≡ cs
unfolding not_closed keep
all_kept [] e = refl
all_kept (c ∷ cs) e =
    ap (λ (b : Bool). cond (not b) (c ∷ not_closed cs) (not_closed cs)) (before.above_not_closed c e.0)
    ∙ ap (λ (l : List Circle). c ∷ l) (all_kept cs e.1)

of_all_as_before : (cs : List Circle) → RadiiAbove cs → of_all cs ≡ of_all_by outline_rule cs
of_all_as_before cs above =
    ap (λ (points : List IntersectionPoint). open_area (members_of cs points (2 ^ length cs - 1)))
    (collected_as_before cs above)

together_as_before : (cs : List Circle) → RadiiAbove cs → together cs ≡ outline_overlap cs
together_as_before [] above = of_all_as_before [] above
together_as_before (a ∷ []) above = refl
together_as_before (a ∷ b ∷ []) above = refl
together_as_before (a ∷ b ∷ c ∷ rest) above = of_all_as_before (a ∷ b ∷ c ∷ rest) above

all_as_before : (cs : List Circle) → RadiiAbove cs → overlap cs ≡ outline_overlap cs
all_as_before cs above =
    ap together (all_kept cs (every_by_index RadiusAbove cs no_circle above)) ∙ together_as_before cs above

-- and so are those of the circles chosen
above_chosen : (cs : List Circle) (S : ℕ) → RadiiAbove cs → RadiiAbove (chosen cs S)
above_chosen cs S above i h =
    every_at RadiusAbove (chosen cs S) i no_circle h
    (every_mapped RadiusAbove (circle_at cs) (heads_of (length cs) S)
    (every_map (heads_of (length cs) S) above (heads_below (length cs) S)))

pub overlap_as_before : (circles : List Circle) → RadiiAbove circles → OverlapAsBefore circles
overlap_as_before circles above = record {
  all = all_as_before circles above;
  some = λ S. all_as_before (chosen circles S) (above_chosen circles S above);
}
