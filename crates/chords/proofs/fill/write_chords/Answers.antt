-- `fill::write_chords`: one place more is written, or stays.
use Rattle.std.proofs.Common.{◌∙◌, ◌<◌, arith, length, get_or, ℕ}
use Rattle.std.proofs.lemmas.List.{length-take, get_or-take}
use Rattle.lists.proofs.Writing.{written_none, write_next, written_keep}
use Rattle.intersections.specs.Heads.{first_ten}
use Rattle.intersections.specs.Members.{no_circle}
use Rattle.chords.specs.declared.fill.Chord.{Chord}
use Rattle.chords.specs.Chords.{chord_at, no_chord}
use Rattle.chords.proofs.Heads.{shift_in, shift_out}
use Rattle.chords.proofs.fill.write_chords.Goals as goal
use Rattle.chords.proofs.fill.write_chords.Goals.{then-needed-l-eq1, else-needed-l-eq1}

pub loop-l-init : goal.loop-l-init
loop-l-init c = written_none _ _

pub loop-l-preserved : goal.loop-l-preserved
loop-l-preserved c =
    let a = c.args in
    let l = c.loop-l.l in
    let n = c.min-count.result in
    let circles = first_ten a.circles.now in
    let stood = a.chords.now in
    let f : ℕ → Chord = λ i. chord_at a.bounds circles a.needed a.edge (get_or stood i no_chord) i in
    let below : c.loop-l.l < c.min-count.result =
    omega (arith, length-take c.min-count.result c.first_ten-circles.result.now, c.loop-l-test.true) in
    let room : c.loop-l.l < length c.args.chords.now = omega (arith, below, c.min-count.ensures) in
    elim c.if-needed-l-eq1.branch [
      | then-needed-l-eq1 w ↦ w.chords-is ∙ rw c.loop-l.invariant (write_next f l stood _ no_chord room
          (rw (
            shift_in a.needed l w.if-needed-l-eq1.true,
            w.chord_from.ensures,
            w.seen.ensures,
            c.line-at.ensures,
            c.is_upright-upright.ensures,
            c.first_ten-circles.ensures.value,
            get_or-take n circles l no_circle below,
          )))
      | else-needed-l-eq1 w ↦ w.chords-is ∙ c.loop-l.invariant
          ∙ written_keep f l stood no_chord room (rw (shift_out a.needed l w.if-needed-l-eq1.false))
    ]
