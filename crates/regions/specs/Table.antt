-- The table of a plan, worked out afresh and edited: rows, and the exclusives worked out from them. A table is a row for each row number; a call
-- lends its first rows, so lengths enter by the checks alone.
use Rattle.std.specs.Prelude.{ℕ, ◌^◌, ◌<◌, ◌≡◌, Bool, cond, List, [], ◌∷◌, ltb, Float, get_or}
use Rattle.heads.specs.declared.Head.{Head}
use Rattle.plan.specs.declared.Edit.{Edit}
use Rattle.plan.specs.declared.Gradients.TheVariants.{None}
use Rattle.plan.specs.declared.Ground.{Ground}
use Rattle.plan.specs.declared.Lent.{Lent}
use Rattle.plan.specs.declared.Plan.{Plan}
use Rattle.plan.specs.Book.{Entry, head_of, applied, leaves}
use Rattle.plan.specs.Checks.{call_answer, edit_answer}
use Rattle.plan.specs.Limits.{no_head}
use Rattle.plan.specs.Table.{Answered, heads_over}
use Rattle.geometry.specs.declared.point.Point.{Point}
use Rattle.geometry.specs.declared.circle.Circle.{Circle}
use Rattle.drawn.specs.Drawn.{plan_circles}
use Rattle.intersections.specs.Members.{Member, members_of}
use Rattle.intersections.specs.Points.{Rule, rule, collected_by}
use Rattle.regions.specs.Edit.{Row, afresh_row, met, edited_row}
use Rattle.lists.specs.Run.{Step}

-- "Exclusives go to a second table, worked out from the first": how they follow from the rows of n heads. Exclusives 0 to 2^n - 1 look at no
-- other rows than these.
pub record Exclusives : Type 0 where
  pub of : ℕ → (ℕ → Row) → ℕ → Row
  pub below : (n : ℕ) (rows rows' : ℕ → Row) → ((S : ℕ) → S < 2 ^ n → rows S ≡ rows' S) → (S : ℕ) → S < 2 ^ n → of n rows S ≡ of n rows' S

-- How a plan's table is worked out from the members of its sets: the area of a list of members, whether the table is of rows in a box
-- and so has a row 0, the box's area, which masks are among a plan's sets, and how the exclusives follow from the rows.
pub record Method : Type 0 where
  pub area : Ground → List Member → Float
  -- "The outline of a single is its head's full circle, whatever meets it": of one member alone no point is looked at.
  pub alone : (g : Ground) (c : Circle) (ps qs : List Point) → area g (record { circle = c; points = ps } ∷ [])
      ≡ area g (record { circle = c; points = qs } ∷ [])
  pub has_box : Bool
  pub box_area : Ground → Float
  pub sets : Plan → ℕ → Bool
  pub exclusives : Exclusives

-- head i of a plan
abbrev pub head_at : Plan → ℕ → Head
head_at p i = get_or p.heads i no_head

-- By any rule of who meets and adopts, so that what stays as it was is said by the same words.
module _ (r : Rule) where
  -- the members of the set S of a plan's heads
  abbrev pub members_by : Plan → ℕ → List Member
  members_by p S = members_of (plan_circles p) (collected_by r (plan_circles p)) S

  -- the area of row S of a plan
  abbrev pub area_by : Method → Plan → ℕ → Float
  area_by m p S = m.area p.ground (members_by p S)

  -- the plan's afresh rows
  abbrev pub afresh_by : Method → Plan → ℕ → Row
  afresh_by m p S = afresh_row m.has_box (m.box_area p.ground) (area_by m p) (m.sets p) S

-- the members, the areas and the afresh rows: as the code gathers them
abbrev pub plan_members : Plan → ℕ → List Member
plan_members = members_by rule

abbrev pub area_at : Method → Plan → ℕ → Float
area_at = area_by rule

abbrev pub afresh : Method → Plan → ℕ → Row
afresh = afresh_by rule

-- the heads that head k, the edited one, meets before or after
abbrev pub met_by : Plan → Edit → ℕ
met_by p e = met (head_at p e.head ∷ head_of e ∷ []) (head_at p) p.n e.head

-- row S after a taken edit, from the rows handed in
unfoldable pub edited : Method → Plan → Edit → (ℕ → Row) → ℕ → Row
edited m p e rows S = edited_row m.has_box (2 ^ e.head) (met_by p e) (area_at m (applied p e)) (m.sets p) (m.sets (applied p e)) rows S

-- ---- the steps

-- a plan, its rows and their exclusives
pub record PlanTable : Type 0 where
  pub plan : Plan
  pub rows : ℕ → Row
  pub exclusives : ℕ → Row

-- rows 0 to `count` - 1 are new, and "bytes beyond stay"
abbrev pub overlaid : ℕ → (ℕ → Row) → (ℕ → Row) → ℕ → Row
overlaid count new old S = cond (ltb S count) (new S) (old S)

-- What a call leaves that writes `count` rows and comes to the plan p: the rows, and the exclusives worked out from them. What stands beyond stays in
-- both. How many rows a call writes is its own matter: today 2^n.
abbrev pub settled : Method → ℕ → Plan → (ℕ → Row) → PlanTable → PlanTable
settled m count p rows s = record {
  plan = p;
  rows = overlaid count rows s.rows;
  exclusives = overlaid count (m.exclusives.of p.n (overlaid count rows s.rows)) s.exclusives;
}

-- The afresh call on a plan, over whatever its tables hold: refused, all is as it was; taken, rows 0 to 2^n - 1 are the plan's and the exclusives theirs.
unfoldable pub afresh_step : Method → PlanTable → Lent → Step PlanTable Answered
afresh_step m s lent =
    let answer = call_answer s.plan None lent in
    record { left = leaves answer s (settled m (2 ^ s.plan.n) s.plan (afresh m s.plan) s); answer = answer }

-- how many rows an edit writes: those of the larger of the head counts before and after
abbrev pub rows_over : Plan → Edit → ℕ
rows_over p e = 2 ^ heads_over p e

-- One edit of a plan's table. The decision looks at the plan, the edit and the lengths, and the rows follow it.
unfoldable pub table_step : Method → PlanTable → Entry → Step PlanTable Answered
table_step m s e =
    let answer = edit_answer s.plan e.edit e.lent in
    record {
      left = leaves answer s (settled m (rows_over s.plan e.edit) (applied s.plan e.edit) (edited m s.plan e.edit s.rows) s);
      answer = answer;
    }
