-- `Heads::add_points`: the points so far, with one more.
use Rattle.std.proofs.Common.{sym, ◌∙◌, arith}
use Rattle.intersections.specs.Members.{no_point}
use Rattle.lists.proofs.Somes.{any_none, any_next}
use Rattle.sets.specs.Regions.{parents}
use Rattle.sets.proofs.Pairing.{empty_masks}
use Rattle.sets.proofs.Taken.{of_points}
use Rattle.sets.proofs.heads.Heads.add_points.Goals as goal

pub loop-q-init : goal.loop-q-init
loop-q-init c =
    record {
      ten = omega arith;
      noted = λ i j h g. empty_masks i j h ∙ sym (any_none (parents i j) c.args.points.now);
      marks = grind (arith, of_points);
    }

pub loop-q-preserved : goal.loop-q-preserved
loop-q-preserved c =
    record {
      ten = c.note_parents.ensures.length_kept;
      noted = λ i j h g. grind (
        arith,
        c.note_parents.ensures.noted i j h g,
        c.loop-q.invariant.noted i j h g,
        any_next (parents i j) c.args.points.now c.loop-q.q-index no_point (omega arith),
      );
      marks = grind (arith, of_points);
    }
