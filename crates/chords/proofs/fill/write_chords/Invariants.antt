-- `fill::write_chords`: the places below l are written or stay.
use Rattle.std.proofs.Common.{◌≡◌, get_or}
use Rattle.lists.specs.Written.{written}
use Rattle.intersections.specs.Heads.{first_ten}
use Rattle.chords.specs.Chords.{chord_at, no_chord}
use Rattle.chords.proofs.fill.write_chords.Given as goal

abbrev pub invariant-loop-l : goal.invariant-loop-l
invariant-loop-l l =
    let a = l.fn in
    let circles = first_ten a.circles in
    l.chords
    ≡ written (λ i. chord_at a.bounds circles a.needed a.edge (get_or a.chords i no_chord) i) l.l a.chords
