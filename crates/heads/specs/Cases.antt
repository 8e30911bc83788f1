-- The six cases of the relation of two heads as facts on numbers: exactly one of them holds, and it is the one that
-- `relation` gives. In each but the first neither head is closed. From them: which cases meet, meet in one point,
-- contain; and that the relation is symmetric in the radii.
use Rattle.std.specs.Prelude.{ℕ, ◌+◌, ◌-◌, ◌*◌, ◌≤◌, ◌≡◌, refl, Bool}
use Rattle.std.specs.Prelude.{true, false, cond, ◌&&◌, ◌||◌, ◌⊎◌, ◌↔◌, leb}
use Rattle.std.proofs.Common.{arith, sym, ap, ◌∙◌, inl, inr, leb-true, true≢false}
use Rattle.std.proofs.lemmas.Bool.Decides.{nat_tests}
use Rattle.std.proofs.Math.Bool.{and-false, or_comm}
use Rattle.heads.specs.declared.Relation.{Relation}
use Rattle.heads.specs.declared.Relation.TheVariants.{Apart, TouchingOutside, Crossing}
use Rattle.heads.specs.declared.Relation.TheVariants.{TouchingInside, Holding, Identical}
use Rattle.heads.specs.Relation.{closed, either_closed, gap, outlines_meet, outlines_meet_once, covers}
use Rattle.heads.specs.Relation.{outline_relation}
use Rattle.heads.specs.Relation.{meets, meets_once, contains, relation, points, meeting, touching, covering}
use Rattle.heads.specs.Outlines.{OutlineCase, outline_relation_is, outline_case_of, outline_relation_comm}
use Rattle.heads.specs.Outlines.{gap_of, reaches, outlines_meet_relation, outlines_meet_once_relation}
use Rattle.heads.specs.Outlines.{outlines_meet_facts}

-- what each case says of D and the radii
abbrev pub Case : Relation → ℕ → ℕ → ℕ → Type 0
Case Apart D a b = (either_closed a b ≡ true) ⊎ OutlineCase Apart D a b
Case TouchingOutside D a b = (either_closed a b ≡ false) × OutlineCase TouchingOutside D a b
Case Crossing D a b = (either_closed a b ≡ false) × OutlineCase Crossing D a b
Case TouchingInside D a b = (either_closed a b ≡ false) × OutlineCase TouchingInside D a b
Case Holding D a b = (either_closed a b ≡ false) × OutlineCase Holding D a b
Case Identical D a b = (either_closed a b ≡ false) × OutlineCase Identical D a b

-- ---- closed or not

-- a radius that is not closed is at least 1
pub at_least_one : (r : ℕ) → closed r ≡ false → 1 ≤ r
at_least_one r e = grind (arith, nat_tests, e)

-- and neither of two
pub neither_closed : (a b : ℕ) → either_closed a b ≡ false → (closed a ≡ false) × (closed b ≡ false)
neither_closed a b e = both (closed a) (closed b) e
  where
    both : (p q : Bool) → (p || q) ≡ false → (p ≡ false) × (q ≡ false)
    both false false e = (refl, refl)
    both false true e = absurd (true≢false e)
    both true q e = absurd (true≢false e)

either_comm : (a b : ℕ) → either_closed a b ≡ either_closed b a
either_comm a b = or_comm (closed a) (closed b)

-- where one is, t is s
pub gap_closed : (a b : ℕ) → either_closed a b ≡ true → gap a b ≡ a + b
unfolding gap
gap_closed a b e = by (closed a) (closed b) refl refl e
  where
    by : (p q : Bool) → closed a ≡ p → closed b ≡ q → (p || q) ≡ true → (a - b) + (b - a) ≡ a + b
    by true q f g h = grind (arith, nat_tests, f)
    by false true f g h = grind (arith, nat_tests, g)
    by false false f g h = absurd (true≢false (sym h))

-- where neither is, the heads lie as their outlines do
module _ (D a b : ℕ) (e : either_closed a b ≡ false) where
  pub relation_of_outlines : relation D a b ≡ outline_relation D a b
  unfolding relation
  relation_of_outlines = rw e refl

  pub meets_of_outlines : meets D a b ≡ outlines_meet D a b
  unfolding meets
  meets_of_outlines = rw e refl

  pub meets_once_of_outlines : meets_once D a b ≡ outlines_meet_once D a b
  unfolding meets_once
  meets_once_of_outlines = rw e refl

  pub contains_of_outlines : contains D a b ≡ covers D a b
  unfolding contains
  contains_of_outlines = rw e refl

-- where one is, they are apart, do not meet, and neither contains the other
module _ (D a b : ℕ) (e : either_closed a b ≡ true) where
  pub closed_apart : relation D a b ≡ Apart
  unfolding relation
  closed_apart = rw e refl

  pub closed_meets_none : meets D a b ≡ false
  unfolding meets
  closed_meets_none = rw e refl

  pub closed_meets_none_once : meets_once D a b ≡ false
  unfolding meets_once
  closed_meets_none_once = rw e refl

  pub closed_contains_none : contains D a b ≡ false
  unfolding contains
  closed_contains_none = rw e refl

-- ---- exactly one case

module _ (D a b : ℕ) where
  stands : (r : Relation) → either_closed a b ≡ false → OutlineCase r D a b → Case r D a b
  stands Apart e h = inr h
  stands TouchingOutside e h = (e, h)
  stands Crossing e h = (e, h)
  stands TouchingInside e h = (e, h)
  stands Holding e h = (e, h)
  stands Identical e h = (e, h)

  as_before : (r : Relation) → either_closed a b ≡ false → OutlineCase r D a b → relation D a b ≡ r
  as_before r e h = relation_of_outlines D a b e ∙ outline_relation_is r D a b h

  -- the fact of the case that `relation` gives holds
  pub case_of : Case (relation D a b) D a b
  case_of = go (either_closed a b) refl
    where
      go : (p : Bool) → either_closed a b ≡ p → Case (relation D a b) D a b
      go true e = rw (closed_apart D a b e) (inl e)
      go false e = rw (relation_of_outlines D a b e) (stands (outline_relation D a b) e (outline_case_of D a b))

  -- where a case's fact holds, the relation is that case
  pub relation_is : (r : Relation) → Case r D a b → relation D a b ≡ r
  relation_is Apart (inl e) = closed_apart D a b e
  relation_is Apart (inr h) = go (either_closed a b) refl
    where
      go : (p : Bool) → either_closed a b ≡ p → relation D a b ≡ Apart
      go true e = closed_apart D a b e
      go false e = as_before Apart e h
  relation_is TouchingOutside h = as_before TouchingOutside h.0 h.1
  relation_is Crossing h = as_before Crossing h.0 h.1
  relation_is TouchingInside h = as_before TouchingInside h.0 h.1
  relation_is Holding h = as_before Holding h.0 h.1
  relation_is Identical h = as_before Identical h.0 h.1

  -- exactly one case holds
  pub exactly_one : (r : Relation) × Case r D a b × ((q : Relation) → Case q D a b → q ≡ r)
  exactly_one = (relation D a b, case_of, λ q h. sym (relation_is q h))

  -- ---- meets, meets in one point, contains

  -- two heads meet exactly if the relation is touching outside, crossing or touching inside
  pub meets_relation : meets D a b ≡ meeting (relation D a b)
  meets_relation = go (either_closed a b) refl
    where
      go : (p : Bool) → either_closed a b ≡ p → meets D a b ≡ meeting (relation D a b)
      go true e = closed_meets_none D a b e ∙ ap meeting (sym (closed_apart D a b e))
      go false e =
          meets_of_outlines D a b e ∙ outlines_meet_relation D a b ∙ ap meeting (sym (relation_of_outlines D a b e))

  -- they meet in one point exactly if the relation is one of the two touches
  pub meets_once_relation : meets_once D a b ≡ touching (relation D a b)
  meets_once_relation = go (either_closed a b) refl
    where
      go : (p : Bool) → either_closed a b ≡ p → meets_once D a b ≡ touching (relation D a b)
      go true e = closed_meets_none_once D a b e ∙ ap touching (sym (closed_apart D a b e))
      go false e =
          meets_once_of_outlines D a b e ∙ outlines_meet_once_relation D a b
          ∙ ap touching (sym (relation_of_outlines D a b e))

  -- a contains b exactly if its radius is not the smaller and the relation is touching inside, holding or identical
  pub contains_relation : contains D a b ≡ (leb b a && covering (relation D a b))
  unfolding covers
  contains_relation = go (either_closed a b) refl
    where
      larger : (q : Bool) → leb b a ≡ q
          → (q && leb D ((a - b) * (a - b))) ≡ (q && covering (outline_relation D a b))
      larger true e = ap (λ (n : ℕ). leb D (n * n)) (sym (gap_of (leb-true b a e))) ∙ reaches D a b
      larger false e = refl

      go : (p : Bool) → either_closed a b ≡ p → contains D a b ≡ (leb b a && covering (relation D a b))
      go true e =
          closed_contains_none D a b e ∙ sym (and-false (leb b a))
          ∙ ap (λ (r : Relation). leb b a && covering r) (sym (closed_apart D a b e))
      go false e =
          contains_of_outlines D a b e ∙ larger (leb b a) refl
          ∙ ap (λ (r : Relation). leb b a && covering r) (sym (relation_of_outlines D a b e))

  -- the number of meeting points: none where two heads do not meet, one where they touch, otherwise two
  pub points_relation : points (relation D a b) ≡ cond (meets D a b) (cond (meets_once D a b) 1 2) 0
  points_relation = rw (meets_relation, meets_once_relation) (by_case (relation D a b))
    where
      by_case : (r : Relation) → points r ≡ cond (meeting r) (cond (touching r) 1 2) 0
      by_case Apart = refl
      by_case TouchingOutside = refl
      by_case Crossing = refl
      by_case TouchingInside = refl
      by_case Holding = refl
      by_case Identical = refl

-- ---- symmetric in the radii

-- the relation does not depend on which radius comes first
pub relation_comm : (D a b : ℕ) → relation D a b ≡ relation D b a
relation_comm D a b = go (either_closed a b) refl
  where
    go : (p : Bool) → either_closed a b ≡ p → relation D a b ≡ relation D b a
    go true e = closed_apart D a b e ∙ sym (closed_apart D b a (either_comm b a ∙ e))
    go false e =
        relation_of_outlines D a b e ∙ outline_relation_comm D a b
        ∙ sym (relation_of_outlines D b a (either_comm b a ∙ e))

-- nor does it matter to meeting
pub meets_comm : (D a b : ℕ) → meets D a b ≡ meets D b a
meets_comm D a b = meets_relation D a b ∙ ap meeting (relation_comm D a b) ∙ sym (meets_relation D b a)

pub meets_once_comm : (D a b : ℕ) → meets_once D a b ≡ meets_once D b a
meets_once_comm D a b = meets_once_relation D a b ∙ ap touching (relation_comm D a b) ∙ sym (meets_once_relation D b a)

-- ---- the same as facts on numbers

-- t² ≤ D ≤ s², and not identical
abbrev pub MeetFacts : ℕ → ℕ → ℕ → Type 0
MeetFacts D a b = (gap a b * gap a b ≤ D) × (D ≤ (a + b) * (a + b)) × (D ≡ 0 → a ≡ b → ⊥)

-- two heads meet exactly if neither is closed and their outlines do
pub meets_facts : (D a b : ℕ) → (meets D a b ≡ true) ↔ ((either_closed a b ≡ false) × MeetFacts D a b)
meets_facts D a b = (
  there (either_closed a b) refl,
  λ h. meets_of_outlines D a b h.0 ∙ (outlines_meet_facts D a b).1 h.1,
)
  where
    there : (p : Bool) → either_closed a b ≡ p → meets D a b ≡ true → (either_closed a b ≡ false) × MeetFacts D a b
    there true e m = absurd (true≢false (sym m ∙ closed_meets_none D a b e))
    there false e m = (e, (outlines_meet_facts D a b).0 (sym (meets_of_outlines D a b e) ∙ m))
