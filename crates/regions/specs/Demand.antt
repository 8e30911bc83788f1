-- Demand 3 in two halves, over any way to work out a table (a `Method`): any area of members, any list of sets.
-- proofs/Demand.antt proves both: `list_ends_afresh`, `edit_reworks_exactly`; and what the afresh call leaves, `afresh_works`.
use Rattle.std.specs.Prelude.{ℕ, ◌≤◌, ◌<◌, ◌^◌, ◌≡◌, true, false, List, ◌⊎◌, length}
use Rattle.heads.specs.Pair.{meets_of}
use Rattle.masks.specs.Mask.{in_set}
use Rattle.plan.specs.Table as Table
use Rattle.plan.specs.Table.{Answered}
use Rattle.plan.specs.declared.Edit.{Edit}
use Rattle.plan.specs.declared.Lent.{Lent}
use Rattle.plan.specs.declared.Plan.{Plan}
use Rattle.plan.specs.Book.{Entry, AnyTaken, head_of, applied, book, answers}
use Rattle.plan.specs.Checks.{plan_answer}
use Rattle.intersections.specs.Members.{is_single}
use Rattle.regions.specs.Edit.{Row, present, absent, box_row}
use Rattle.lists.specs.Run as Run
use Rattle.regions.specs.Table.{Method, PlanTable, head_at, afresh, afresh_step, table_step}

-- rows 0 to 2^n - 1 of a table are the plan's afresh rows, in every byte and bit
abbrev pub AfreshRows : Method → Plan → (ℕ → Row) → Type 0
AfreshRows m p rows = (S : ℕ) → S < 2 ^ p.n → rows S ≡ afresh m p S

-- rows 0 to 2^n - 1 of the second table are the exclusives of these rows
abbrev pub ExclusivesOf : Method → ℕ → (ℕ → Row) → (ℕ → Row) → Type 0
ExclusivesOf m n rows exclusives = (S : ℕ) → S < 2 ^ n → exclusives S ≡ m.exclusives.of n rows S

-- rows from `count` on are as they were, in both tables
abbrev pub BeyondStays : ℕ → PlanTable → PlanTable → Type 0
BeyondStays count s left = (S : ℕ) → count ≤ S → (left.rows S ≡ s.rows S) × (left.exclusives S ≡ s.exclusives S)

-- a plan that the checks take, with its afresh rows
pub record Fresh (m : Method) (s : PlanTable) : Type 0 where
  pub room : length s.plan.heads ≡ 10
  pub taken : plan_answer s.plan ≡ Table.taken
  pub fresh : AfreshRows m s.plan s.rows

-- ---- the afresh call

-- Taken, it leaves the plan with its afresh rows and their exclusives, and what stands beyond; refused, all is as it was.
pub record WorksAfresh (m : Method) (s : PlanTable) (lent : Lent) : Type 0 where
  pub taken : (afresh_step m s lent).answer ≡ Table.taken
      → ((afresh_step m s lent).left.plan ≡ s.plan)
      × AfreshRows m s.plan (afresh_step m s lent).left.rows
      × ExclusivesOf m s.plan.n (afresh m s.plan) (afresh_step m s lent).left.exclusives
      × BeyondStays (2 ^ s.plan.n) s (afresh_step m s lent).left
  pub refused : ((afresh_step m s lent).answer ≡ Table.taken → ⊥) → (afresh_step m s lent).left ≡ s

abbrev pub AfreshWorks : Method → Type 0
AfreshWorks m = (s : PlanTable) (lent : Lent) → WorksAfresh m s lent

-- ---- a list of edits

-- What a list of edits of s leaves: each answer is the one the checks give on the book, the plan left is the book's, the rows are the book's
-- afresh rows. The exclusives are those of the afresh rows if an edit was taken; if none was, nothing has changed. So where both tables were the
-- plan's afresh ones, both are the book's. What stands beyond is as it was handed in.
pub record Ends (m : Method) (s : PlanTable) (es : List Entry) (left : PlanTable) (given : List Answered) : Type 0 where
  pub answered : given ≡ answers s.plan es
  pub planned : left.plan ≡ book s.plan es
  pub fresh : AfreshRows m (book s.plan es) left.rows
  pub exclusive : AnyTaken (answers s.plan es) → ExclusivesOf m (book s.plan es).n (afresh m (book s.plan es)) left.exclusives
  pub untouched : (AnyTaken (answers s.plan es) → ⊥) → left ≡ s
  pub both : ExclusivesOf m s.plan.n (afresh m s.plan) s.exclusives
      → ExclusivesOf m (book s.plan es).n (afresh m (book s.plan es)) left.exclusives
  pub beyond : BeyondStays (2 ^ s.plan.n) s left

-- Demand 3, first half: after any list of edits, refused ones included, each with the lengths lent for it, the table equals the
-- final plan's table worked out afresh. One claim about the whole list, from any accepted plan with its afresh rows.
abbrev pub ListEndsAfresh : Method → Type 0
ListEndsAfresh m = (s : PlanTable) → Fresh m s → (es : List Entry) → Ends m s es (Run.after (table_step m) s es) (Run.answers (table_step m) s es)

-- ---- one edit

-- Which row each row number has after a taken edit of the plan p, from the rows handed in, whatever they hold. "Still present" and
-- "newly present" compare the sets of the plans before and after.
pub record Reworks (m : Method) (p : Plan) (e : Edit) (rows rows' : ℕ → Row) : Type 0 where
  -- row 0, where there is a box, keeps the number handed in
  pub ground : rows' 0 ≡ box_row m.has_box (rows 0).number
  -- no set after the edit: absent
  pub gone : (S : ℕ) → 0 < S → S < 2 ^ p.n → m.sets (applied p e) S ≡ false → rows' S ≡ absent
  -- a set with the edited head is worked out
  pub own : (S : ℕ) → 0 < S → S < 2 ^ p.n → m.sets (applied p e) S ≡ true → in_set S e.head ≡ true
      → rows' S ≡ afresh m (applied p e) S
  -- A set newly present is worked out, even where the edited head meets nobody. Of heads (0,0,50), (30,0,50), (0,30,50), (0,0,1000),
  -- (0,0,2000) move the last to (9000,0): it meets none before or after, and yet the set of the first three becomes present, since
  -- their common points are then adopted by one large head and no more by two.
  pub newly : (S : ℕ) → 0 < S → S < 2 ^ p.n → m.sets (applied p e) S ≡ true → m.sets p S ≡ false
      → rows' S ≡ afresh m (applied p e) S
  -- a set of two heads or more with a head met before or after is worked out
  pub met : (S j : ℕ) → 0 < S → S < 2 ^ p.n → m.sets (applied p e) S ≡ true → is_single S ≡ false → in_set S j ≡ true → (j ≡ e.head → ⊥)
      → (meets_of (head_at p e.head) (head_at p j) ≡ true) ⊎ (meets_of (head_of e) (head_at p j) ≡ true)
      → rows' S ≡ afresh m (applied p e) S
  -- any other set still present keeps the number handed in, even a false one
  pub kept : (S : ℕ) → 0 < S → S < 2 ^ p.n → m.sets (applied p e) S ≡ true → m.sets p S ≡ true → in_set S e.head ≡ false
      → (is_single S ≡ true) ⊎ ((j : ℕ) → in_set S j ≡ true
      → (meets_of (head_at p e.head) (head_at p j) ≡ false) × (meets_of (head_of e) (head_at p j) ≡ false))
      → rows' S ≡ present (rows S).number
  -- rows beyond 2^n - 1 stay
  pub beyond : (S : ℕ) → 2 ^ p.n ≤ S → rows' S ≡ rows S

-- Demand 3, second half: each taken edit leaves the plan with its head changed, reworks exactly the rows it must and keeps every other
-- number it was handed; the exclusives are worked out from the rows that it leaves. It is about the same step as the first half, at any table.
abbrev pub EditReworksExactly : Method → Type 0
EditReworksExactly m =
    (s : PlanTable) (e : Entry) → (table_step m s e).answer ≡ Table.taken
    → ((table_step m s e).left.plan ≡ applied s.plan e.edit)
    × Reworks m s.plan e.edit s.rows (table_step m s e).left.rows
    × ExclusivesOf m s.plan.n (table_step m s e).left.rows (table_step m s e).left.exclusives
    × BeyondStays (2 ^ s.plan.n) s (table_step m s e).left

-- A refused edit leaves plan and tables as they were.
abbrev pub RefusedLeavesAll : Method → Type 0
RefusedLeavesAll m = (s : PlanTable) (e : Entry) → ((table_step m s e).answer ≡ Table.taken → ⊥) → (table_step m s e).left ≡ s

-- Demand 3 whole, of one way to work out a table. Every way has it: `demand_three` of proofs/Demand.antt.
pub record DemandThree (m : Method) : Type 0 where
  pub works : AfreshWorks m
  pub ends : ListEndsAfresh m
  pub reworks : EditReworksExactly m
  pub refused : RefusedLeavesAll m
