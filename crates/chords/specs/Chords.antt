-- The spans of the box's edges for a set, from the chords that each head cuts from each edge.
use Rattle.std.specs.Prelude.{ℕ, zero, suc, ◌<◌, true, not, cond, ◌≡◌, min, List, [], map, length, get_or, Float}
use Rattle.std.specs.Float.{nan}
use Rattle.lists.specs.Written.{tab, written}
use Rattle.masks.specs.Mask.{in_set, subset, gather}
use Rattle.binary64.specs.Constants.{zero64}
use Rattle.binary64.specs.Floats.{◌+ᶠ◌, ◌-ᶠ◌}
use Rattle.geometry.specs.declared.bounds.Bounds.{Bounds}
use Rattle.geometry.specs.declared.circle.Circle.{Circle}
use Rattle.intersections.specs.Members.{circle_at}
use Rattle.inside.specs.declared.edges.BoxEdge.{BoxEdge}
use Rattle.inside.specs.Edges.{edge_number, is_upright, line_of, from_of, to_of}
use Rattle.inside.specs.Span.{Interval, misses, half_chord, raised, lowered, open-between, seen}
use Rattle.chords.specs.declared.fill.Chord.{Chord}
use Rattle.chords.specs.declared.fill.EdgeChords.{EdgeChords}
use Rattle.chords.specs.declared.fill.Chords.{Chords}

-- the heads that reach an edge
abbrev pub reach_of : Bounds → List Circle → BoxEdge → ℕ
reach_of box circles edge =
    gather (length circles) (λ l. not (misses (line_of box edge) (seen (is_upright edge) (circle_at circles l))))

-- the chord that a circle, as an edge sees it, cuts from the edge's line
unfoldable pub chord_from : Float → Circle → Chord
unfolding half_chord
chord_from at c = let half = half_chord at c in record { low = c.center.x -ᶠ half; high = c.center.x +ᶠ half }

-- the chord that a circle cuts from an edge
abbrev pub chord_of : Bounds → Circle → BoxEdge → Chord
chord_of box circle edge = chord_from (line_of box edge) (seen (is_upright edge) circle)

-- the chord of a head with an edge, if the head is needed, else what stood for it
abbrev pub chord_at : Bounds → List Circle → ℕ → BoxEdge → Chord → ℕ → Chord
chord_at box circles needed edge stood l =
    cond (in_set needed l) (chord_of box (circle_at circles l) edge) stood

-- what no place holds
abbrev pub no_chord : Chord
no_chord = record { low = nan; high = nan }

-- A list of chords after those of the heads of `needed` are written into it, each at its head's place, for as many
-- heads as there are places. Every other place holds what it held.
abbrev pub chords_written : Bounds → List Circle → ℕ → BoxEdge → List Chord → List Chord
chords_written box circles needed edge chords =
    written
    (λ l. chord_at box circles needed edge (get_or chords l no_chord) l)
    (min (length circles) (length chords))
    chords

-- what stands for a head that is not needed: 0 for both ends
abbrev pub unneeded : Chord
unneeded = record { low = zero64; high = zero64 }

-- what is held of an edge: its ends, the heads that reach it and a chord for each head
pub record Held : Type 0 where
  pub from : Float
  pub to : Float
  pub reach : ℕ
  pub chords : List Chord

abbrev pub held_of : EdgeChords → Held
held_of e = record { from = e.from; to = e.to; reach = e.reach; chords = e.chords.items }

-- what an edge is to hold for the heads of `needed`
unfoldable pub chords_of : Bounds → List Circle → ℕ → BoxEdge → Held
unfolding gather misses seen chord_from tab
chords_of box circles needed edge =
    record {
      from = from_of box edge;
      to = to_of box edge;
      reach = reach_of box circles edge;
      chords = tab (chord_at box circles needed edge unneeded) (length circles);
    }

-- ---- the spans for a set

-- an end moved to those of the heads of S below n, in turn
unfoldable pub end_to : (Float → Float → Float) → (ℕ → Float) → ℕ → Float → ℕ → Float
end_to move ends S x zero = x
end_to move ends S x (suc l) = cond (in_set S l) (move (end_to move ends S x l) (ends l)) (end_to move ends S x l)

-- the low end raised to their low ends, and the high end lowered
abbrev pub low_to : (ℕ → Float) → ℕ → Float → ℕ → Float
low_to = end_to raised

abbrev pub high_to : (ℕ → Float) → ℕ → Float → ℕ → Float
high_to = end_to lowered

-- the span for S, from the mask of those that reach the edge and the ends of their chords
unfoldable pub span_from : ℕ → ℕ → (ℕ → Float) → (ℕ → Float) → ℕ → Float → Float → List Interval
unfolding end_to open-between
span_from n reach low high S from to =
    cond (subset 64 S reach) (open-between (low_to low S from n) (high_to high S to n)) []

-- what no edge holds
abbrev pub none_held : Held
none_held = record { from = nan; to = nan; reach = 0; chords = [] }

-- the ends of the chords with an edge
abbrev pub lows_of : Held → ℕ → Float
lows_of h l = (get_or h.chords l no_chord).low

abbrev pub highs_of : Held → ℕ → Float
highs_of h l = (get_or h.chords l no_chord).high

-- the span from what is held of an edge
abbrev pub held_span : Held → ℕ → List Interval
held_span h S = span_from (length h.chords) h.reach (lows_of h) (highs_of h) S h.from h.to

-- of an edge, from what is held of the four
abbrev pub edge_held : Chords → BoxEdge → Held
edge_held chords edge = get_or (map held_of chords.edges) (edge_number edge) none_held

abbrev pub edge_from : Chords → ℕ → BoxEdge → List Interval
edge_from chords S edge = held_span (edge_held chords edge) S

-- What is held for the heads of `needed`: of each edge its ends, the heads that reach it, and a chord for each head,
-- which is its own if it is needed.
pub record Chorded (box : Bounds) (circles : List Circle) (needed : ℕ) (chords : Chords) : Type 0 where
  pub starts : (edge : BoxEdge) → (edge_held chords edge).from ≡ from_of box edge
  pub stops : (edge : BoxEdge) → (edge_held chords edge).to ≡ to_of box edge
  pub reaches : (edge : BoxEdge) → (edge_held chords edge).reach ≡ reach_of box circles edge
  pub count : (edge : BoxEdge) → length (edge_held chords edge).chords ≡ length circles
  pub ends : (edge : BoxEdge) (l : ℕ) → l < length circles → in_set needed l ≡ true
      → get_or (edge_held chords edge).chords l no_chord ≡ chord_of box (circle_at circles l) edge
