-- A closed head of a plan: it is in no set, has no row, and its gradient entries are +0 in every row. Proved in
-- proofs/Closed.antt: `closed_in_no_set`; and over any list of sets in which no set has the head `no_row`,
-- `no_row_after`, `no_exclusive` and `no_slopes`. crates/demands/specs/Closed.antt says it of the calls.
use Rattle.std.specs.Prelude.{ℕ, ◌+◌, ◌*◌, ◌<◌, ◌≡◌, Bool, true, false, length, get_or}
use Rattle.std.specs.Float.{nan}
use Rattle.binary64.specs.Constants.{zero64}
use Rattle.heads.specs.Pair.{is_closed}
use Rattle.masks.specs.Mask.{in_set}
use Rattle.plan.specs.declared.Edit.{Edit}
use Rattle.plan.specs.declared.Plan.{Plan}
use Rattle.plan.specs.Book.{applied}
use Rattle.plan.specs.Limits.{Acceptable}
use Rattle.regions.specs.Edit.{Row, absent}
use Rattle.regions.specs.Table.{Method, head_at, afresh, edited}
use Rattle.areas.specs.Exclusives.{to_exclusives}
use Rattle.areas.specs.Gradients.{clipped_gradients, open_gradients}
use Rattle.areas.specs.Sets.{plan_sets}

-- no set of a list has head j
abbrev pub InNoSet : (ℕ → Bool) → ℕ → Type 0
InNoSet sets j = (S : ℕ) → in_set S j ≡ true → sets S ≡ false

-- A closed head is in no set of its plan, by any phase of discover_regions.
abbrev pub ClosedInNoSet : Type 0
ClosedInNoSet =
    (p : Plan) → length p.heads ≡ 10 → Acceptable p → (j : ℕ) → j < p.n → is_closed (head_at p j) ≡ true
    → InNoSet (plan_sets p) j

-- each row that names head j has byte 0 and +0
abbrev pub NoRowOf : (ℕ → Row) → ℕ → Type 0
NoRowOf rows j = (S : ℕ) → in_set S j ≡ true → rows S ≡ absent

-- Worked out afresh, by any method, a head that is in no set has no row,
abbrev pub NoRow : Type 0
NoRow = (m : Method) (p : Plan) (j : ℕ) → InNoSet (m.sets p) j → NoRowOf (afresh m p) j

-- nor has one that is in no set after an edit, whatever rows were handed in.
abbrev pub NoRowAfter : Type 0
NoRowAfter =
    (m : Method) (p : Plan) (e : Edit) (rows : ℕ → Row) (j : ℕ) → InNoSet (m.sets (applied p e)) j
    → NoRowOf (edited m p e rows) j

-- What has no row has no exclusive: byte 0 and +0 in the second table too.
abbrev pub NoExclusive : Type 0
NoExclusive = (n : ℕ) (rows : ℕ → Row) (S : ℕ) → rows S ≡ absent → to_exclusives.of n rows S ≡ absent

-- entry i of head j is +0, bit for bit, in row S, in the box and without it
pub record NoSlope (sets : Plan → ℕ → Bool) (p : Plan) (j i S : ℕ) : Type 0 where
  pub clipped : get_or (clipped_gradients sets p S) (j * 3 + i) nan ≡ zero64
  pub unboxed : get_or (open_gradients sets p S) (j * 3 + i) nan ≡ zero64

-- Of a head in no set the three entries are +0 in every row, row 0 too.
abbrev pub NoSlopes : Type 0
NoSlopes =
    (sets : Plan → ℕ → Bool) (p : Plan) (j i : ℕ) → j < p.n → i < 3 → InNoSet (sets p) j → (S : ℕ)
    → NoSlope sets p j i S
