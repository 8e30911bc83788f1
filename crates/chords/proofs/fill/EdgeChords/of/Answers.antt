-- `fill::EdgeChords::of`: the chords are written over as many of heads that are not needed.
use Rattle.std.proofs.Common.{◌∙◌, ap, take, replicate}
use Rattle.chords.specs.Chords.{chords_of}
use Rattle.chords.proofs.Ends.{fresh_held}
use Rattle.chords.proofs.fill.EdgeChords.of.Goals as goal

pub returns : goal.returns
unfolding chords_of
returns c =
    let a = c.args in
    let d = c.default.ensures in
    rw (
      c.from.ensures,
      c.to.ensures,
      c.reach_of.ensures,
      fresh_held a.bounds a.circles.now a.needed a.edge c.truncate.new.self.items c.write_chords.new.chords
          (c.truncate.ensures.items
          ∙ ap (take _) (c.from-chords.ensures.0 ∙ ap (replicate 10) (rw (d.0, d.1))))
          (c.write_chords.ensures ∙ rw c.deref_mut.ensures.value),
    )
