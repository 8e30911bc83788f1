-- The span of an edge for a set, from the chords of its heads.
use Rattle.std.proofs.Common.{◌≡◌, refl, sym, ap, ◌∙◌, ℕ, zero, suc, ◌+◌, ◌<◌, ◌≤◌, ◌^◌, arith, add-one}
use Rattle.std.proofs.Common.{Bool, true, false, not, ◌&&◌, ◌||◌, cond, List, [], ◌∷◌, ◌++◌, map, length, Float}
use Rattle.std.proofs.Common.{pow_mono, lt_of_lt_of_le}
use Rattle.std.proofs.Math.Bool.{and-true, or-false}
use mathlib.Core.List.{map-append, map-map, foldl, foldl-append}
use Rattle.masks.specs.Mask.{in_set, every, subset, Subset}
use Rattle.masks.specs.Gather.{in_gather}
use Rattle.masks.specs.Subset.{and_test, subset_head, every_cong}
use Rattle.binary64.specs.Floats.{◌+ᶠ◌, ◌-ᶠ◌}
use Rattle.geometry.specs.declared.bounds.Bounds.{Bounds}
use Rattle.geometry.specs.declared.circle.Circle.{Circle}
use Rattle.lists.specs.Lists.{up_to}
use Rattle.intersections.specs.Members.{heads_of, circle_at}
use Rattle.inside.specs.declared.edges.BoxEdge.{BoxEdge}
use Rattle.inside.specs.declared.edges.BoxEdge.TheVariants.{Bottom, Right, Top, Left}
use Rattle.inside.specs.Edges.{is_upright, line_of, from_of, to_of, edge_span}
use Rattle.inside.specs.Span.{misses, missed, half_chord, raised, lowered, low_end, high_end, open-between}
use Rattle.inside.specs.Span.{horizontal_span, vertical_span, seen}
use Rattle.inside.proofs.Spanning.{as_seen}
use Rattle.chords.specs.declared.fill.Chords.{Chords}
use Rattle.chords.specs.Chords.{chord_from, Chorded}
use Rattle.chords.specs.Chords.{end_to, span_from, lows_of, highs_of, edge_held, edge_from}
use Rattle.chords.proofs.Heads.{heads_with, heads_without, shift_in, shift_out}

-- ---- the heads of a set one after another

module _ (y : Float) where
  abbrev low : Circle → Float
  low c = c.center.x -ᶠ half_chord y c

  abbrev high : Circle → Float
  high c = c.center.x +ᶠ half_chord y c

  low_folded : (lo : Float) (cs : List Circle) → low_end y lo cs ≡ foldl (λ x c. raised x (low c)) lo cs
  unfolding low_end
  low_folded lo [] = refl
  low_folded lo (c ∷ cs) = low_folded (raised lo (low c)) cs

  high_folded : (hi : Float) (cs : List Circle) → high_end y hi cs ≡ foldl (λ x c. lowered x (high c)) hi cs
  unfolding high_end
  high_folded hi [] = refl
  high_folded hi (c ∷ cs) = high_folded (lowered hi (high c)) cs

  -- one circle more
  reached_push : (cs : List Circle) (c : Circle)
      → not (missed y (cs ++ c ∷ [])) ≡ (not (missed y cs) && not (misses y c))
  unfolding missed
  reached_push [] c = ap not (or-false (misses y c))
  reached_push (d ∷ cs) c = by (misses y d) (reached_push cs c)
    where
      by : (t : Bool) → not (missed y (cs ++ c ∷ [])) ≡ (not (missed y cs) && not (misses y c))
          → not (t || missed y (cs ++ c ∷ [])) ≡ (not (t || missed y cs) && not (misses y c))
      by true r = refl
      by false r = r

module _ (circ : ℕ → Circle) (S : ℕ) where
  abbrev own : ℕ → List Circle
  own n = map circ (heads_of n S)

  next : (n : ℕ) → in_set S n ≡ true → own (suc n) ≡ own n ++ circ n ∷ []
  next n e = ap (map circ) (heads_with S n e) ∙ map-append circ (heads_of n S) (n ∷ [])

  skip : (n : ℕ) → in_set S n ≡ false → own (suc n) ≡ own n
  skip n e = ap (map circ) (heads_without S n e)

  -- the heads of S below n reach the line
  abbrev reach : Float → ℕ → Bool
  reach y n = every n (λ l. not (in_set S l) || not (misses y (circ l)))

  reached_heads : (y : Float) (n : ℕ) → not (missed y (own n)) ≡ reach y n
  unfolding every missed heads_of up_to
  reached_heads y zero = refl
  reached_heads y (suc n) = by (in_set S n) refl (reached_heads y n)
    where
      by : (b : Bool) → in_set S n ≡ b → not (missed y (own n)) ≡ reach y n
          → not (missed y (own (suc n))) ≡ (reach y n && (not b || not (misses y (circ n))))
      by true e r = rw (next n e, reached_push y (own n) (circ n), r)
      by false e r = rw (skip n e, r) (sym (and-true _))

  -- an end, from chords that are right for the heads of S
  module _ (move : Float → Float → Float) (at : Circle → Float) (ends : ℕ → Float) (x : Float) where
    abbrev moved : ℕ → Float
    moved n = foldl (λ x c. move x (at c)) x (own n)

    end_heads : (n : ℕ) → ((l : ℕ) → l < n → in_set S l ≡ true → ends l ≡ at (circ l))
        → moved n ≡ end_to move ends S x n
    unfolding end_to heads_of up_to
    end_heads zero h = refl
    end_heads (suc n) h = by (in_set S n) refl (end_heads n (λ l k. h l (omega arith)))
      where
        by : (b : Bool) → in_set S n ≡ b → moved n ≡ end_to move ends S x n
            → moved (suc n) ≡ cond b (move (end_to move ends S x n) (ends n)) (end_to move ends S x n)
        by true e r = rw (next n e, foldl-append (λ x c. move x (at c)) x (own n) (circ n ∷ []), r, h n (omega arith) e)
        by false e r = rw (skip n e) r

-- ---- the span of an edge, from what is held

module _ (box : Bounds) (circles : List Circle) (S : ℕ) (chords : Chords)
    (few : length circles ≤ 10) (below : S < 2 ^ length circles) (held : Chorded box circles S chords) where
  abbrev n : ℕ
  n = length circles

  abbrev heads : List Circle
  heads = map (circle_at circles) (heads_of (length circles) S)

  module _ (edge : BoxEdge) where
    abbrev y : Float
    y = line_of box edge

    abbrev circ : ℕ → Circle
    circ l = seen (is_upright edge) (circle_at circles l)

    reach_is : not (missed y (own circ S n)) ≡ subset 64 S (edge_held chords edge).reach
    reach_is =
        let wide = lt_of_lt_of_le below (pow_mono {i = n} {j = 64} (omega (arith, few))) in
        reached_heads circ S y n
        ∙ every_cong n _ _ (λ i k.
        ap (λ b. not (in_set S i) || b) (sym (in_gather n (λ l. not (misses y (circ l))) i k)))
        ∙ rw (← held.reaches edge) (sym (and_test n S _ below) ∙ and_test 64 S _ wide)

    chosen : {A : Type 0} (m : Bool) (a b : A) → cond m a b ≡ cond (not m) b a
    chosen true a b = refl
    chosen false a b = refl

    -- as the edge sees the circles of the set
    span_is : edge_from chords S edge
        ≡ horizontal_span y (from_of box edge) (to_of box edge) (map (seen (is_upright edge)) heads)
    unfolding horizontal_span span_from chord_from
    span_is =
        let cs = own circ S n in
        let lo = from_of box edge in
        let hi = to_of box edge in
        let h = edge_held chords edge in
        rw (held.count edge, held.starts edge, held.stops edge)
        (sym (rw (map-map (seen (is_upright edge)) (circle_at circles) (heads_of n S)) (chosen (missed y cs) [] _ ∙ rw (
          reach_is,
          low_folded y lo cs,
          high_folded y hi cs,
          end_heads circ S raised (low y) (lows_of h) lo n (λ l k i. ap (λ c. c.low) (held.ends edge l k i)),
          end_heads circ S lowered (high y) (highs_of h) hi n (λ l k i. ap (λ c. c.high) (held.ends edge l k i)),
        ))))

    -- it is the span of the plain form
    pub edge_is : edge_from chords S edge ≡ edge_span box edge heads
    edge_is = span_is ∙ as_seen box edge heads

  -- the four edges
  pub bottom : edge_from chords S Bottom ≡ horizontal_span box.y_min box.x_min box.x_max heads
  bottom = edge_is Bottom

  pub right : edge_from chords S Right ≡ vertical_span box.x_max box.y_min box.y_max heads
  right = edge_is Right

  pub top : edge_from chords S Top ≡ horizontal_span box.y_max box.x_min box.x_max heads
  top = edge_is Top

  pub left : edge_from chords S Left ≡ vertical_span box.x_min box.y_min box.y_max heads
  left = edge_is Left

-- ---- for the loop over the heads

module _ (move : Float → Float → Float) (ends : ℕ → Float) (S : ℕ) (x : Float) where
  pub ends_start : end_to move ends S x 0 ≡ x
  unfolding end_to
  ends_start = refl

  module _ (l : ℕ) where
    pub ends_in : in_set S l ≡ true → end_to move ends S x (l + 1) ≡ move (end_to move ends S x l) (ends l)
    unfolding end_to
    ends_in e = rw (add-one l, e)

    pub ends_out : in_set S l ≡ false → end_to move ends S x (l + 1) ≡ end_to move ends S x l
    unfolding end_to
    ends_out e = rw (add-one l, e)

-- the span
module _ (n reach : ℕ) (low high : ℕ → Float) (S : ℕ) (from to : Float) where
  pub span_open : subset 64 S reach ≡ true
      → span_from n reach low high S from to ≡ open-between (end_to raised low S from n) (end_to lowered high S to n)
  unfolding span_from
  span_open all = rw all

  pub span_missed : subset 64 S reach ≡ false → span_from n reach low high S from to ≡ []
  unfolding span_from
  span_missed e = rw e

pub ruleset heads_in_turn = (ends_start, ends_in, ends_out, span_open, span_missed, shift_in, shift_out)

-- fewer heads are asked for
pub chorded_less : {box : Bounds} {circles : List Circle} {needed : ℕ} {chords : Chords} (S : ℕ) → Subset S needed
    → Chorded box circles needed chords → Chorded box circles S chords
chorded_less {needed = needed} S within held =
    record {
      starts = held.starts;
      stops = held.stops;
      reaches = held.reaches;
      count = held.count;
      ends = λ edge l h i. held.ends edge l h (subset_head S needed within l i);
    }
