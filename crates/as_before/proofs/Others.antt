-- What a plan with closed heads answers: left out, they change nothing, and of the others each answer is the former
-- one.
use mathlib.Core.Path.{◌≡◌, ◌∙◌}
use lib.ListN.{length}
use Rattle.heads.specs.Cases.{at_least_one}
use Rattle.heads.specs.Pair.{radius_of}
use Rattle.plan.specs.declared.Plan.{Plan}
use Rattle.plan.specs.Checks.{plan_answer}
use Rattle.plan.specs.Limits.{Acceptable}
use Rattle.plan.specs.Table.{taken}
use Rattle.plan.specs.Without.{plan_not_closed, places_not_closed}
use Rattle.plan.proofs.Exactly.{plan_taken}
use Rattle.plan.proofs.Without.{not_closed_without}
use Rattle.regions.specs.Table.{head_at}
use Rattle.left_out.specs.Tables.{AsIfNotThere}
use Rattle.left_out.proofs.LeftOut.{all_left_out}
use Rattle.as_before.specs.Others.{OthersAbove, AllOthersStay}
use Rattle.as_before.proofs.Stays.{answers_stay}

module _ (p : Plan) (ten : length p.heads ≡ 10) (accepted : plan_answer p ≡ taken) where
  acceptable : Acceptable p
  acceptable = (plan_taken p ten).0 accepted

  left : AsIfNotThere (places_not_closed p) p (plan_not_closed p)
  left = all_left_out p ten acceptable

pub others_above : OthersAbove
others_above p ten accepted =
    let parts = not_closed_without p ten (acceptable p ten accepted).count in
    record {
      room = parts.without.ten;
      accepted = (left p ten accepted).answer;
      above = λ i h. at_least_one (radius_of (head_at (plan_not_closed p) i)) (parts.none_closed i h);
    }

pub others_stay : AllOthersStay
others_stay p ten accepted =
    let l = left p ten accepted in
    let a = answers_stay (plan_not_closed p) (others_above p ten accepted) in
    record {
      rows = λ S h. l.table.rows S h ∙ a.rows S;
      open_rows = λ S h. l.open_table.rows S h ∙ a.open_rows S;
      exclusives = λ S h. l.table.exclusives S h ∙ a.exclusives S;
      open_exclusives = λ S h. l.open_table.exclusives S h ∙ a.open_exclusives S;
      overlap = l.overlap ∙ a.overlap;
      overlap_of = λ S. l.overlap_of S ∙ a.overlap_of S;
    }
