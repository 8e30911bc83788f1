-- The four edges of the box for a set, added to a sum, from the chords that its heads cut from them.
use Rattle.std.specs.Prelude.{ℕ, Float}
use mathlib.Core.List.{foldl}
use Rattle.geometry.specs.declared.bounds.Bounds.{Bounds}
use Rattle.inside.specs.Edges.{box_edges, factor_of, across_of}
use Rattle.clip.specs.Area.{add_span}
use Rattle.clip.specs.Gradient.{WithGradient, add_span_with_gradient}
use Rattle.chords.specs.declared.fill.Chords.{Chords}
use Rattle.chords.specs.Chords.{edge_from}

-- the spans of a set, counterclockwise from the bottom, added
abbrev pub edges_from : Bounds → Chords → ℕ → Float → Float
edges_from box chords S total = foldl (λ sum e. add_span (factor_of box e) sum (edge_from chords S e)) total box_edges

-- the same with the box's entries of a gradient
abbrev pub edges_with_gradient_from : Bounds → Chords → ℕ → ℕ → WithGradient → WithGradient
edges_with_gradient_from box chords S at s =
    foldl (λ so e. add_span_with_gradient e (factor_of box e) (across_of box e) at so (edge_from chords S e)) s
    box_edges
