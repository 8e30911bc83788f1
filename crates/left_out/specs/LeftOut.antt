-- A closed head is as if it were not there: "such a plan is held against the Rust with its closed heads left out and
-- the masks spread back to their places". Proved in proofs/LeftOut.antt as `left_out`, `one_left_out` and
-- `all_left_out`.
use Rattle.std.specs.Prelude.{ℕ, ◌≤◌, ◌<◌, Bool, true, List, ◌≡◌, length}
use Rattle.heads.specs.Pair.{is_closed}
use Rattle.lists.specs.Kept.{all_but}
use Rattle.plan.specs.Limits.{Acceptable}
use Rattle.plan.specs.Without.{Without, OnlyClosed, lifted, plan_not_closed, places_not_closed}
use Rattle.plan.specs.declared.Plan.{Plan}
use Rattle.regions.specs.Table.{head_at}
use Rattle.left_out.specs.Tables.{AsIfNotThere}

-- any of p's heads, if each of them is closed; `keeps` says which stay
abbrev pub LeftOut : Type 0
LeftOut =
    (keeps : List Bool) (p q : Plan) → length keeps ≤ p.n → length p.heads ≡ 10 → Acceptable p → Without keeps p q
    → OnlyClosed keeps p → AsIfNotThere keeps p q

-- one closed head, at any place
abbrev pub OneLeftOut : Type 0
OneLeftOut =
    (p : Plan) (k : ℕ) → length p.heads ≡ 10 → Acceptable p → k < p.n → is_closed (head_at p k) ≡ true
    → AsIfNotThere (all_but k) p (lifted p k)

-- all closed heads at once
abbrev pub AllLeftOut : Type 0
AllLeftOut =
    (p : Plan) → length p.heads ≡ 10 → Acceptable p → AsIfNotThere (places_not_closed p) p (plan_not_closed p)
