-- The spans of the four edges of a box of the domain are short, and so is what they add to the area. Rests on the promise of
-- the root.
use mathlib.Core.Path.{◌≡◌, refl}
use mathlib.Core.Bool.{Bool, true, false, not, cond}
use mathlib.Core.List.{List, [], ◌∷◌, map}
use Prim.Native.Nat.{ℕ, ◌+◌, ◌^◌, ◌≤◌}
use native.Mathlib.Omega.{arith}
use lib.Dec.{lit≤}
use lib.Ieee.{Float}
use Rattle.binary64.specs.Magnitude.{Most}
use Rattle.binary64.proofs.Functions.{larger_most}
use Rattle.binary64.proofs.Magnitude.{most_weaken, most_either, most_zero, neg_most, add_most, sub_most, mul_most}
use Rattle.binary64.specs.Floats.{◌+ᶠ◌, ◌-ᶠ◌, ◌<ᶠ◌}
use Rattle.geometry.specs.declared.bounds.Bounds.{Bounds}
use Rattle.geometry.specs.declared.circle.Circle.{Circle}
use Rattle.lists.specs.Every.{Every, every_map, every_mapped}
use Rattle.inside.specs.Span.{Interval, between, half_chord, missed, raised, lowered, low_end, high_end, open-between, horizontal_span, swapped, vertical_span}
use Rattle.clip.specs.Area.{add_span, add_edges}
use Rattle.finite.specs.Open.{InDomain}
use Rattle.finite.specs.Clipped.{BoxInDomain}
use Rattle.finite.proofs.Root.{root_most}

-- ---- one span

-- half a chord is at most the root of 20000² + 60000²
module _ (y : Float) (hy : Most 40000 1074 y) where
  chord_most : (c : Circle) → InDomain c → Most 65536 1074 (half_chord y c)
  unfolding half_chord
  chord_most c d =
      let off = sub_most hy d.y (lit≤ tt) (lit≤ tt) in
      let own = mul_most d.r d.r 1074 refl (lit≤ tt) (lit≤ tt) in
      let away = mul_most off off 1074 refl (lit≤ tt) (lit≤ tt) in
      root_most _ (larger_most (sub_most own away (lit≤ tt) (lit≤ tt)) most_zero)

  low_most : (cs : List Circle) (lo : Float) → Most 85536 1074 lo → Every InDomain cs → Most 85536 1074 (low_end y lo cs)
  unfolding low_end raised
  low_most [] lo h e = h
  low_most (c ∷ cs) lo h e =
      let end = c.center.x -ᶠ half_chord y c in
      low_most cs (raised lo end) (most_either (lo <ᶠ end) (sub_most e.0.x (chord_most c e.0) (lit≤ tt) (lit≤ tt)) h) e.1

  high_most : (cs : List Circle) (hi : Float) → Most 85536 1074 hi → Every InDomain cs → Most 85536 1074 (high_end y hi cs)
  unfolding high_end lowered
  high_most [] hi h e = h
  high_most (c ∷ cs) hi h e =
      let end = c.center.x +ᶠ half_chord y c in
      high_most cs (lowered hi end) (most_either (end <ᶠ hi) (add_most e.0.x (chord_most c e.0) (lit≤ tt) (lit≤ tt)) h) e.1

-- at most one span, of a length of at most 171,072
unfoldable pub OneShort : List Interval → Type 0
OneShort [] = Unit
OneShort (i ∷ rest) = Most 171072 1074 (i.high -ᶠ i.low) × (rest ≡ [])

none_or_short : (t : Bool) (l : List Interval) → OneShort l → OneShort (cond t [] l)
unfolding OneShort
none_or_short true l h = tt
none_or_short false l h = h

module _ (y a b : Float) (hy : Most 40000 1074 y) (ha : Most 40000 1074 a) (hb : Most 40000 1074 b) where
  horizontal_short : (cs : List Circle) → Every InDomain cs → OneShort (horizontal_span y a b cs)
  unfolding horizontal_span open-between OneShort
  horizontal_short cs d =
      let lo = low_end y a cs in
      let hi = high_end y b cs in
      let low = low_most y hy cs a (most_weaken ha (lit≤ tt)) d in
      let high = high_most y hy cs b (most_weaken hb (lit≤ tt)) d in
      none_or_short (missed y cs) (open-between lo hi)
      (none_or_short (not (lo <ᶠ hi)) (between lo hi ∷ []) (sub_most high low (lit≤ tt) (lit≤ tt), refl))

  vertical_short : (cs : List Circle) → Every InDomain cs → OneShort (vertical_span y a b cs)
  unfolding vertical_span swapped
  vertical_short cs d =
      horizontal_short (map swapped cs)
      (every_mapped InDomain swapped cs (every_map cs (λ c m. record { x = m.y; y = m.x; r = m.r }) d))

-- ---- the four edges

-- the spans of the four edges, counterclockwise from the bottom
pub record EdgesShort (box : Bounds) (cs : List Circle) : Type 0 where
  pub bottom : OneShort (horizontal_span box.y_min box.x_min box.x_max cs)
  pub right : OneShort (vertical_span box.x_max box.y_min box.y_max cs)
  pub top : OneShort (horizontal_span box.y_max box.x_min box.x_max cs)
  pub left : OneShort (vertical_span box.x_min box.y_min box.y_max cs)

pub edges_short : (box : Bounds) (cs : List Circle) → BoxInDomain box → Every InDomain cs → EdgesShort box cs
edges_short box cs b d =
    record {
      bottom = horizontal_short box.y_min box.x_min box.x_max b.y-min b.x-min b.x-max cs d;
      right = vertical_short box.x_max box.y_min box.y_max b.x-max b.y-min b.y-max cs d;
      top = horizontal_short box.y_max box.x_min box.x_max b.y-max b.x-min b.x-max cs d;
      left = vertical_short box.x_min box.y_min box.y_max b.x-min b.y-min b.y-max cs d;
    }

-- a span adds at most 40,000 × 171,072
span_most : {factor total : Float} (j : ℕ) (l : List Interval) → Most 40000 1074 factor → Most j 1074 total → OneShort l → j + 6842880000 ≤ 2 ^ 53
    → Most (j + 6842880000) 1074 (add_span factor total l)
unfolding OneShort
span_most j [] hf ht h room = most_weaken ht (omega arith)
span_most j (i ∷ rest) hf ht h room = rw h.1 (add_most ht (mul_most hf h.0 1074 refl (lit≤ tt) (lit≤ tt)) room (lit≤ tt))

-- The spans of the four edges add at most 27,371,520,000.
pub edges_most : (box : Bounds) (cs : List Circle) (j : ℕ) (total : Float) → BoxInDomain box → Every InDomain cs → Most j 1074 total
    → j + 27371520000 ≤ 2 ^ 53 → Most (j + 27371520000) 1074 (add_edges box cs total)
unfolding add_edges
edges_most box cs j total b d ht room =
    let short = edges_short box cs b d in
    let bottom = span_most j _ (neg_most b.y-min) ht short.bottom (omega arith) in
    let right = span_most (j + 6842880000) _ b.x-max bottom short.right (omega arith) in
    let top = span_most (j + 6842880000 + 6842880000) _ b.y-max right short.top (omega arith) in
    most_weaken (span_most (j + 6842880000 + 6842880000 + 6842880000) _ (neg_most b.x-min) top short.left (omega arith)) (omega arith)
