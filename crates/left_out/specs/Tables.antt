-- What it means that heads are left out of a plan as if they were not there: the tables, gradients and overlap of q,
-- a plan without them, are those of p, the plan with them, at the masks spread over the places kept.
use Rattle.std.specs.Prelude.{ℕ, ◌+◌, ◌*◌, ◌^◌, ◌<◌, Bool, false, List, ◌≡◌}
use Rattle.areas.specs.Sets.{plan_sets}
use Rattle.binary64.specs.Constants.{zero64}
use Rattle.diagram.specs.Rows.{Slopes, is_there, exclusive_with, exclusive_slope}
use Rattle.drawn.specs.Drawn.{plan_circles}
use Rattle.gradients.specs.Step.{clipped_plan, open_plan}
use Rattle.lists.specs.Kept.{place}
use Rattle.masks.specs.Spread.{spread}
use Rattle.overlaps.specs.Overlap.{overlap, overlap_of}
use Rattle.plan.specs.Checks.{plan_answer}
use Rattle.plan.specs.Limits.{Acceptable}
use Rattle.plan.specs.Table.{taken}
use Rattle.plan.specs.declared.Plan.{Plan}
use Rattle.regions.specs.Edit.{Row, absent}
use Rattle.regions.specs.Table.{Method, afresh}
use Rattle.masks.specs.SpreadPlaces.{NamesLeftOut}
use Rattle.table.specs.Method.{clipped_table, open_table}

-- the second table of a plan: the exclusives of its rows
abbrev pub exclusives_afresh : Method → Plan → ℕ → Row
exclusives_afresh m p S = (m.exclusives).of p.n (afresh m p) S

-- presence bytes and numbers of both tables
pub record SameTable (m : Method) (keeps : List Bool) (p q : Plan) : Type 0 where
  pub rows : (S : ℕ) → S < 2 ^ q.n → afresh m p (spread keeps S) ≡ afresh m q S
  pub exclusives : (S : ℕ) → S < 2 ^ q.n → exclusives_afresh m p (spread keeps S) ≡ exclusives_afresh m q S
  -- all other rows of p, which name a head left out (`EveryRow`), are absent
  pub absent_rows : (S : ℕ) → NamesLeftOut keeps p.n S → afresh m p S ≡ absent
  pub absent_exclusives : (S : ℕ) → NamesLeftOut keeps p.n S → exclusives_afresh m p S ≡ absent

-- What comes with gradients: presence bytes, exclusives, and the gradients. Each head kept has its three entries at its
-- place among all heads, and the box its four, where a row has them, after those of all heads.
pub record SameSlopes (slopes : Plan → Slopes) (keeps : List Bool) (p q : Plan) : Type 0 where
  pub present : (S : ℕ) → S < 2 ^ q.n → is_there (slopes p).rows (spread keeps S) ≡ is_there (slopes q).rows S
  pub areas : (S : ℕ) → S < 2 ^ q.n
      → exclusive_with p.n (slopes p) (spread keeps S) ≡ exclusive_with q.n (slopes q) S
  pub heads : (S j i : ℕ) → S < 2 ^ q.n → j < q.n → i < 3
      → exclusive_slope p.n (slopes p) (spread keeps S * (slopes p).width + (place keeps j * 3 + i))
      ≡ exclusive_slope q.n (slopes q) (S * (slopes q).width + (j * 3 + i))
  pub box : (S i : ℕ) → S < 2 ^ q.n → i < 4 → q.n * 3 + i < (slopes q).width
      → exclusive_slope p.n (slopes p) (spread keeps S * (slopes p).width + (p.n * 3 + i))
      ≡ exclusive_slope q.n (slopes q) (S * (slopes q).width + (q.n * 3 + i))
  -- all other rows of p are absent, and +0 throughout
  pub absent : (S : ℕ) → NamesLeftOut keeps p.n S → is_there (slopes p).rows S ≡ false
  pub absent_areas : (S : ℕ) → NamesLeftOut keeps p.n S → exclusive_with p.n (slopes p) S ≡ zero64
  pub absent_slopes : (S e : ℕ) → NamesLeftOut keeps p.n S → e < (slopes p).width
      → exclusive_slope p.n (slopes p) (S * (slopes p).width + e) ≡ zero64

-- all of it; and q is a plan that is taken
pub record AsIfNotThere (keeps : List Bool) (p q : Plan) : Type 0 where
  pub acceptable : Acceptable q
  pub answer : plan_answer q ≡ taken
  pub table : SameTable clipped_table keeps p q
  pub open_table : SameTable open_table keeps p q
  pub gradients : SameSlopes (clipped_plan plan_sets) keeps p q
  pub open_gradients : SameSlopes (open_plan plan_sets) keeps p q
  -- of all heads, and of those of a mask
  pub overlap : overlap (plan_circles p) ≡ overlap (plan_circles q)
  pub overlap_of : (S : ℕ) → overlap_of (plan_circles p) (spread keeps S) ≡ overlap_of (plan_circles q) S
