-- A plan with closed heads answers what the plan of its other heads answered before a head could be closed, at masks
-- spread over their places: so that answers for radii above 0 do not move is said of every plan that is taken. It joins
-- `answers_stay` with `all_left_out` of crate left_out. proofs/Others.antt proves it: `others_above`, `others_stay`.
use Rattle.std.specs.Prelude.{ℕ, ◌^◌, ◌<◌, ◌≡◌, true, false, length}
use Rattle.masks.specs.Spread.{spread}
use Rattle.plan.specs.declared.Plan.{Plan}
use Rattle.plan.specs.Checks.{plan_answer}
use Rattle.plan.specs.Table.{taken}
use Rattle.plan.specs.Without.{plan_not_closed, places_not_closed}
use Rattle.drawn.specs.Drawn.{plan_circles}
use Rattle.overlaps.specs.Overlap.{overlap, overlap_of}
use Rattle.regions.specs.Table.{afresh}
use Rattle.areas.specs.Exclusives.{exclusive_rows}
use Rattle.table.specs.Method.{clipped_table, open_table}
use Rattle.as_before.specs.Former.{former_rows, former_exclusives, former_overlap, former_overlap_of}
use Rattle.as_before.specs.Stays.{AllAbove}

-- the plan of the other heads is taken, and its radii are above 0
abbrev pub OthersAbove : Type 0
OthersAbove = (p : Plan) → length p.heads ≡ 10 → plan_answer p ≡ taken → AllAbove (plan_not_closed p)

pub record OthersStay (p : Plan) : Type 0 where
  pub rows : (S : ℕ) → S < 2 ^ (plan_not_closed p).n
      → afresh clipped_table p (spread (places_not_closed p) S) ≡ former_rows true (plan_not_closed p) S
  pub open_rows : (S : ℕ) → S < 2 ^ (plan_not_closed p).n
      → afresh open_table p (spread (places_not_closed p) S) ≡ former_rows false (plan_not_closed p) S
  pub exclusives : (S : ℕ) → S < 2 ^ (plan_not_closed p).n
      → exclusive_rows p.n (afresh clipped_table p) (spread (places_not_closed p) S)
      ≡ former_exclusives true (plan_not_closed p) S
  pub open_exclusives : (S : ℕ) → S < 2 ^ (plan_not_closed p).n
      → exclusive_rows p.n (afresh open_table p) (spread (places_not_closed p) S)
      ≡ former_exclusives false (plan_not_closed p) S
  pub overlap : overlap (plan_circles p) ≡ former_overlap (plan_not_closed p)
  pub overlap_of : (S : ℕ)
      → overlap_of (plan_circles p) (spread (places_not_closed p) S) ≡ former_overlap_of (plan_not_closed p) S

abbrev pub AllOthersStay : Type 0
AllOthersStay = (p : Plan) → length p.heads ≡ 10 → plan_answer p ≡ taken → OthersStay p
