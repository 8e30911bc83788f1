-- `witnessed::note_parents`: each parent is in the mask of the other.
use Rattle.sets.proofs.Pairing.{parents_in}
use Rattle.sets.proofs.witnessed.note_parents.Goals as goal

pub returns-then-b-lt10-clause-noted : goal.returns-then-b-lt10-clause-noted
returns-then-b-lt10-clause-noted c = λ i j h g.
    parents_in c.args.q.now i j c.args.meeting.now c.told-meeting c.if-a-lt10.true c.if-b-lt10.true
