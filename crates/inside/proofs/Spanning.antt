-- Laws of the span of an edge: circle by circle, and by the circles as the edge sees them.
use Rattle.std.proofs.Common.{◌≡◌, refl, ap, Bool, true, false, not, cond, List, [], ◌∷◌, map, map-id, Float}
use Rattle.std.proofs.Common.{drop_of_length-le}
use Rattle.std.proofs.lemmas.List.{drop_more}
use Rattle.binary64.specs.Floats.{◌+ᶠ◌, ◌-ᶠ◌, ◌<ᶠ◌}
use Rattle.geometry.specs.declared.circle.Circle.{Circle}
use Rattle.geometry.specs.declared.bounds.Bounds.{Bounds}
use Rattle.inside.specs.declared.edges.BoxEdge.{BoxEdge}
use Rattle.inside.specs.declared.edges.BoxEdge.TheVariants.{Bottom, Right, Top, Left}
use Rattle.inside.specs.Edges.{is_upright, line_of, from_of, to_of, edge_span}
use Rattle.inside.specs.Span.{between, misses, half_chord, missed, raised, lowered, low_end, high_end, open-between}
use Rattle.inside.specs.Span.{horizontal_span, seen, vertical_span}

-- two ends, or none
pub opened : (lo hi : Float) → open-between lo hi ≡ cond (not (lo <ᶠ hi)) [] (between lo hi ∷ [])
unfolding open-between
opened lo hi = refl

module _ (y lo hi : Float) where
  module _ (c : Circle) (cs : List Circle) where
    -- the first circle reaches the line: the ends move to its chord, and the rest go on
    pub span_on : misses y c ≡ false → horizontal_span y lo hi (c ∷ cs)
        ≡ horizontal_span y (raised lo (c.center.x -ᶠ half_chord y c)) (lowered hi (c.center.x +ᶠ half_chord y c)) cs
    unfolding horizontal_span missed low_end high_end
    span_on e = rw e

    -- it does not: there is no span
    pub span_none : misses y c ≡ true → horizontal_span y lo hi (c ∷ cs) ≡ []
    unfolding horizontal_span missed
    span_none e = rw e

  -- the last circle is past: the ends are compared
  pub span_end : horizontal_span y lo hi [] ≡ open-between lo hi
  unfolding horizontal_span missed low_end high_end
  span_end = refl

-- a horizontal edge sees the circles as they are
pub seen_level : (cs : List Circle) → map (seen false) cs ≡ cs
unfolding seen
seen_level cs = map-id cs

-- a vertical edge sees them with x and y swapped
pub seen_upright : (x lo hi : Float) (cs : List Circle)
    → horizontal_span x lo hi (map (seen true) cs) ≡ vertical_span x lo hi cs
unfolding seen vertical_span
seen_upright x lo hi cs = refl

-- the span of an edge, from the circles as it sees them
pub as_seen : (box : Bounds) (edge : BoxEdge) (cs : List Circle)
    → horizontal_span (line_of box edge) (from_of box edge) (to_of box edge) (map (seen (is_upright edge)) cs)
    ≡ edge_span box edge cs
as_seen box Bottom cs = ap (horizontal_span box.y_min box.x_min box.x_max) (seen_level cs)
as_seen box Right cs = seen_upright box.x_max box.y_min box.y_max cs
as_seen box Top cs = ap (horizontal_span box.y_max box.x_min box.x_max) (seen_level cs)
as_seen box Left cs = seen_upright box.x_min box.y_min box.y_max cs

-- for the loop over the heads of a set
pub ruleset heads_in_turn = (span_on, span_none, span_end, drop_more, drop_of_length-le, as_seen)
