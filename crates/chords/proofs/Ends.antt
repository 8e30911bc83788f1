-- What `Chords::of` gives, edge by edge and head by head.
use Rattle.std.proofs.Common.{◌≡◌, refl, sym, ap, ◌∙◌, ℕ, ◌<◌, min, arith}
use Rattle.std.proofs.Common.{List, map, length, get_or, take, replicate}
use Rattle.std.proofs.lemmas.List.{length-take, length-replicate, get_or-take, get_or-replicate, take_at}
use Rattle.std.specs.List.{refill}
use Rattle.lists.specs.Written.{tab}
use Rattle.lists.proofs.Writing.{length_tab, get_d_tab, tab_cong, written_whole}
use Rattle.geometry.specs.declared.bounds.Bounds.{Bounds}
use Rattle.geometry.specs.declared.circle.Circle.{Circle}
use Rattle.inside.specs.declared.edges.BoxEdge.{BoxEdge}
use Rattle.inside.specs.declared.edges.BoxEdge.TheVariants.{Bottom, Right, Top, Left}
use Rattle.intersections.specs.Heads.{first_ten}
use Rattle.inside.specs.Edges.{box_edges, edge_number}
use Rattle.chords.specs.declared.fill.Chord.{Chord}
use Rattle.chords.specs.declared.fill.Chords.{Chords}
use Rattle.chords.specs.Chords.{Held, held_of, none_held, chord_at, unneeded, no_chord, chords_written, chords_of}
use Rattle.chords.specs.Chords.{edge_held, Chorded}

-- what is written over the chords of heads that are not needed, as many as circles are read
module _ (box : Bounds) (circles : List Circle) (needed : ℕ) (edge : BoxEdge) where
  abbrev fresh : List Chord
  fresh = take (length circles) (replicate 10 unneeded)

  abbrev own : ℕ → Chord
  own = chord_at box (first_ten circles) needed edge unneeded

  abbrev read : ℕ
  read = length (first_ten circles)

  read_is : read ≡ min 10 (length circles)
  read_is = length-take 10 circles

  fresh_read : length fresh ≡ read
  fresh_read =
      length-take (length circles) (replicate 10 unneeded)
      ∙ omega (arith, length-replicate 10 unneeded, read_is)

  fresh_at : (l : ℕ) → l < read → get_or fresh l no_chord ≡ unneeded
  fresh_at l h =
      get_or-take (length circles) (replicate 10 unneeded) l no_chord (omega (arith, read_is))
      ∙ get_or-replicate 10 l unneeded no_chord (omega (arith, read_is))

  fresh_written : chords_written box (first_ten circles) needed edge fresh ≡ tab own read
  fresh_written =
      written_whole _ _ read fresh (omega (arith, fresh_read)) fresh_read
      ∙ tab_cong _ _ read (λ l h. rw (fresh_at l h))

  -- in the list that lends them as a slice
  pub fresh_held : (items after : List Chord) → items ≡ fresh
      → after ≡ chords_written box (first_ten circles) needed edge items
      → refill (length items) items after ≡ tab own read
  fresh_held items after e w =
      rw (w, e, fresh_written) (take_at _ _ (length fresh) (length_tab own read ∙ sym fresh_read))

-- what stands at an edge's place
edge_of : {A : Type 0} (f : BoxEdge → A) (d : A) (edge : BoxEdge)
    → get_or (map f box_edges) (edge_number edge) d ≡ f edge
edge_of f d Bottom = refl
edge_of f d Right = refl
edge_of f d Top = refl
edge_of f d Left = refl

-- the heads that are needed have their chords
pub filled_chorded : (box : Bounds) (circles : List Circle) (needed : ℕ) (chords : Chords)
    → map held_of chords.edges ≡ map (chords_of box circles needed) box_edges → Chorded box circles needed chords
unfolding chords_of
filled_chorded box circles needed chords filled =
    record {
      starts = λ edge. ap (λ h. h.from) (held edge);
      stops = λ edge. ap (λ h. h.to) (held edge);
      reaches = λ edge. ap (λ h. h.reach) (held edge);
      count = λ edge. ap (λ h. length h.chords) (held edge)
          ∙ length_tab (chord_at box circles needed edge unneeded) (length circles);
      ends = λ edge l h i. ap (λ k. get_or k.chords l no_chord) (held edge)
          ∙ get_d_tab (chord_at box circles needed edge unneeded) (length circles) l no_chord h
          ∙ rw i;
    }
  where
    held : (edge : BoxEdge) → edge_held chords edge ≡ chords_of box circles needed edge
    held edge =
        ap (λ (l : List Held). get_or l (edge_number edge) none_held) filled
        ∙ edge_of (chords_of box circles needed) none_held edge
