-- The numbers of the fields, in both directions: 4 is given exactly if the first thing outside its limits is an x or a
-- y, 5 if it is a side of the box, 11 if it is a radius (document 01's table and request 6: docs/SCOPE.md). Said by
-- what is checked, and once more by the values alone. Proved under the names in lower case, `proofs/Fields.antt`; of
-- files, `file/specs/Exactly.antt`.
use Rattle.std.specs.Prelude.{ℕ, ◌≤◌, ◌<◌, ◌≡◌, ◌↔◌, ◌⊎◌, List, ℤ, length, get_or}
use Rattle.heads.specs.declared.Head.{Head}
use Rattle.plan.specs.declared.Edit.{Edit}
use Rattle.plan.specs.declared.Gradients.{Gradients}
use Rattle.plan.specs.declared.Item.{Item}
use Rattle.plan.specs.declared.Item.TheVariants.{Coordinate, Side, Radius}
use Rattle.plan.specs.declared.Lent.{Lent}
use Rattle.plan.specs.declared.Plan.{Plan}
use Rattle.plan.specs.Table.{answer_number}
use Rattle.plan.specs.Checks.{field_items, plan_answer, call_answer, edit_answer}
use Rattle.plan.specs.Limits.{PositionWithin, SideWithin, RadiusWithin, HeadWithin, GroundWithin, no_head, Acceptable}
use Rattle.plan.specs.Exactly.{FirstUnsatisfied, Numbered, fields}

-- ---- the kinds of fields

-- By what is checked and not by a number. An x or a y, of the box, a head or an edit.
abbrev pub IsCoordinate : Item → Type 0
IsCoordinate item = (z : ℤ) × (item ≡ Coordinate z)

-- A side of the box.
abbrev pub IsSide : Item → Type 0
IsSide item = (z : ℤ) × (item ≡ Side z)

-- A radius, a head's or an edit's.
abbrev pub IsRadius : Item → Type 0
IsRadius item = (z : ℤ) × (item ≡ Radius z)

-- each kind of field has one number, and no other thing that is checked has it
pub record FieldNumbers : Type 0 where
  pub coordinate : (item : Item) → Numbered 4 item ↔ IsCoordinate item
  pub side : (item : Item) → Numbered 5 item ↔ IsSide item
  pub radius : (item : Item) → Numbered 11 item ↔ IsRadius item

-- ---- when each is given

-- The number k is given exactly if OfPlan holds of the plan or, to an edit, OfEdit holds of both: to a plan alone, to a
-- plan with lent tables, and to an edit.
pub record GivenExactly (k : ℕ) (OfPlan : Plan → Type 0) (OfEdit : Plan → Edit → Type 0) : Type 0 where
  pub plan : (p : Plan) → length p.heads ≡ 10 → (answer_number (plan_answer p) ≡ k) ↔ OfPlan p
  pub call : (p : Plan) (gradients : Gradients) (lent : Lent) → length p.heads ≡ 10
      → (answer_number (call_answer p gradients lent) ≡ k) ↔ OfPlan p
  pub edit : (p : Plan) (e : Edit) (lent : Lent) → length p.heads ≡ 10
      → (answer_number (edit_answer p e lent) ≡ k) ↔ (OfPlan p ⊎ OfEdit p e)

-- of a plan's fields in reading order the first outside its limits is one of those
abbrev pub FirstInPlan : (Item → Type 0) → Plan → Type 0
FirstInPlan Those p = (p.n ≤ 10) × FirstUnsatisfied Those (fields p)

-- the plan is within the limits and has the head, and of the edit's own fields the first outside its limits is one of
-- those
abbrev pub FirstInEdit : (Item → Type 0) → Plan → Edit → Type 0
FirstInEdit Those p e = Acceptable p × (e.head < p.n) × FirstUnsatisfied Those (field_items e.x e.y e.radius)

-- 4: it is an x or a y
abbrev pub FourExactly : Type 0
FourExactly = GivenExactly 4 (FirstInPlan IsCoordinate) (FirstInEdit IsCoordinate)

-- 5: it is a side of the box; an edit's own fields never give 5
abbrev pub FiveExactly : Type 0
FiveExactly = GivenExactly 5 (FirstInPlan IsSide) (λ p e. ⊥)

-- 11: it is a radius, a head's or the edit's (request 6)
abbrev pub ElevenExactly : Type 0
ElevenExactly = GivenExactly 11 (FirstInPlan IsRadius) (FirstInEdit IsRadius)

-- ---- 5 and 11 once more, by the values alone

-- the box's place is within the limits, and not both of its sides are
pub record SideFailsFirst (p : Plan) : Type 0 where
  pub count : p.n ≤ 10
  pub x : PositionWithin p.ground.x
  pub y : PositionWithin p.ground.y
  pub sides : ¬ (SideWithin p.ground.width × SideWithin p.ground.height)

-- of n heads the first that is not within the limits is head i, and its place is: so it is by its radius
pub record RadiusAt (n : ℕ) (heads : List Head) (i : ℕ) : Type 0 where
  pub below : i < n
  pub before : (j : ℕ) → j < i → HeadWithin (get_or heads j no_head)
  pub x : PositionWithin (get_or heads i no_head).x
  pub y : PositionWithin (get_or heads i no_head).y
  pub radius : ¬ RadiusWithin (get_or heads i no_head).radius

-- the box is within the limits, and of the heads the first that is not fails by its radius
pub record RadiusFailsFirst (p : Plan) : Type 0 where
  pub count : p.n ≤ 10
  pub ground : GroundWithin p.ground
  pub head : ℕ
  pub first : RadiusAt p.n p.heads head

-- the plan is within the limits, and so is all of the edit but its radius
pub record EditRadiusFailsFirst (p : Plan) (e : Edit) : Type 0 where
  pub plan : Acceptable p
  pub head : e.head < p.n
  pub x : PositionWithin e.x
  pub y : PositionWithin e.y
  pub radius : ¬ RadiusWithin e.radius

abbrev pub FiveByValues : Type 0
FiveByValues = GivenExactly 5 SideFailsFirst (λ p e. ⊥)

abbrev pub ElevenByValues : Type 0
ElevenByValues = GivenExactly 11 RadiusFailsFirst EditRadiusFailsFirst
