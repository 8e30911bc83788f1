-- `spans::chord_span`: the ends after the heads below l.
use Rattle.std.proofs.Common.{◌≡◌}
use Rattle.chords.specs.Chords.{low_to, high_to, lows_of, highs_of, held_of}
use Rattle.chords.proofs.spans.chord_span.Given as goal

abbrev pub invariant-loop-l : goal.invariant-loop-l
invariant-loop-l l =
    let held = held_of l.held in
    (l.lo ≡ low_to (lows_of held) l.mask held.from l.l) × (l.hi ≡ high_to (highs_of held) l.mask held.to l.l)
