-- The outlines of two circles, whatever their radii: the six cases of their relation as facts on numbers, of which the
-- one that `outline_relation` gives holds. From them: which cases meet, meet in one point, cover; and that the relation
-- is symmetric in the radii. specs/Cases.antt says the same of heads, of which some may be closed.
use Rattle.std.specs.Prelude.{ℕ, zero, suc, ◌+◌, ◌-◌, ◌*◌, ◌≤◌, ◌<◌, ◌≡◌, refl, Bool}
use Rattle.std.specs.Prelude.{true, false, not, ◌&&◌, ◌⊎◌, ◌↔◌, T, ltb, leb, eqb}
use Rattle.std.proofs.Common.{mul-le-mul, le_antisymm, arith, sym, ap, ◌∙◌, subst, inl, inr}
use Rattle.std.proofs.Common.{leb→le, ltb-true, ltb-false, eqb-true, lt-ltb, le-ltb, le-leb, eq-eqb, ne_eqb}
use Rattle.std.proofs.Math.Bool.{and-false, or-true}
use Rattle.std.proofs.Math.Facts.{and_yes}
use Rattle.std.proofs.lemmas.Bool.{lt-leb}
use Rattle.heads.specs.declared.Relation.{Relation}
use Rattle.heads.specs.declared.Relation.TheVariants.{Apart, TouchingOutside, Crossing}
use Rattle.heads.specs.declared.Relation.TheVariants.{TouchingInside, Holding, Identical}
use Rattle.heads.specs.Relation.{gap, identical, outlines_meet, outlines_meet_once, covers}
use Rattle.heads.specs.Relation.{outline_relation, meeting, touching, covering}

-- what each case says of D and the radii of two outlines
abbrev pub OutlineCase : Relation → ℕ → ℕ → ℕ → Type 0
OutlineCase Apart D a b = (a + b) * (a + b) < D
OutlineCase TouchingOutside D a b = (gap a b * gap a b < D) × (D ≡ (a + b) * (a + b))
OutlineCase Crossing D a b = (gap a b * gap a b < D) × (D < (a + b) * (a + b))
OutlineCase TouchingInside D a b = (0 < gap a b) × (D ≡ gap a b * gap a b)
OutlineCase Holding D a b = D < gap a b * gap a b
OutlineCase Identical D a b = (D ≡ 0) × (a ≡ b)

-- ---- the difference of the radii

-- symmetric; at most the sum; zero exactly for equal radii
pub gap_comm : (a b : ℕ) → gap a b ≡ gap b a
unfolding gap
gap_comm a b = omega arith

pub gap_le : (a b : ℕ) → gap a b ≤ a + b
unfolding gap
gap_le a b = omega arith

pub gap_zero : (a b : ℕ) → gap a b ≡ 0 → a ≡ b
unfolding gap
gap_zero a b e = omega arith

-- of the larger and the smaller
pub gap_of : {a b : ℕ} → b ≤ a → gap a b ≡ a - b
unfolding gap
gap_of h = omega arith

pub gap_same : {a b : ℕ} → a ≡ b → gap a b ≡ 0
unfolding gap
gap_same e = omega arith

-- t² ≤ s²
pub gap_square_le : (a b : ℕ) → gap a b * gap a b ≤ (a + b) * (a + b)
gap_square_le a b = mul-le-mul (gap_le a b) (gap_le a b)

-- ---- tests and numbers

order : (a b : ℕ) → (a < b) ⊎ ((a ≡ b) ⊎ (b < a))
order a b = go (ltb a b) (ltb b a) refl refl
  where
    go : (p q : Bool) → ltb a b ≡ p → ltb b a ≡ q → (a < b) ⊎ ((a ≡ b) ⊎ (b < a))
    go true q e f = inl (ltb-true a b e)
    go false true e f = inr (inr (ltb-true b a f))
    go false false e f = inr (inl (le_antisymm (ltb-false b a f) (ltb-false a b e)))

pos_root : {D : ℕ} (n : ℕ) → D < n * n → 0 < n
pos_root zero h = omega arith
pos_root (suc n) h = omega arith

identical_no : (D a b : ℕ) → (D ≡ 0 → a ≡ b → ⊥) → identical D a b ≡ false
identical_no D a b h = go (eqb D 0) (eqb a b) refl refl
  where
    go : (p q : Bool) → eqb D 0 ≡ p → eqb a b ≡ q → (p && q) ≡ false
    go true true e f = absurd (h (eqb-true D 0 e) (eqb-true a b f))
    go true false e f = refl
    go false q e f = refl

identical_yes : (D a b : ℕ) → D ≡ 0 → a ≡ b → identical D a b ≡ true
identical_yes D a b e f = simp (eq-eqb D 0 e, eq-eqb a b f)

-- no two outlines are identical at a distance, or with radii that differ
apart_no : (D a b : ℕ) → 0 < D → identical D a b ≡ false
apart_no D a b h = identical_no D a b (λ e f. omega arith)

gap_no : (D a b : ℕ) → 0 < gap a b → identical D a b ≡ false
gap_no D a b h = identical_no D a b (λ e f. omega (arith, gap_same f))

-- ---- exactly one case

-- where a case's fact holds, the relation is that case
pub outline_relation_is : (r : Relation) (D a b : ℕ) → OutlineCase r D a b → outline_relation D a b ≡ r
unfolding outline_relation
outline_relation_is Apart D a b h =
    let l = gap_square_le a b in
    simp (
      apart_no D a b (omega arith),
      le-ltb D (gap a b * gap a b) (omega arith),
      ne_eqb D (gap a b * gap a b)
          (λ e. omega arith),
      le-ltb D ((a + b) * (a + b)) (omega arith),
      ne_eqb D ((a + b) * (a + b)) (λ e. omega arith),
    )
outline_relation_is TouchingOutside D a b h =
    simp (
      apart_no D a b (omega arith),
      le-ltb D (gap a b * gap a b) (omega arith),
      ne_eqb D (gap a b * gap a b)
          (λ e. omega arith),
      le-ltb D ((a + b) * (a + b)) (omega arith),
      eq-eqb D ((a + b) * (a + b)) h.1,
    )
outline_relation_is Crossing D a b h =
    simp (
      apart_no D a b (omega arith),
      le-ltb D (gap a b * gap a b) (omega arith),
      ne_eqb D (gap a b * gap a b)
          (λ e. omega arith),
      lt-ltb D ((a + b) * (a + b)) h.1,
    )
outline_relation_is TouchingInside D a b h =
    simp (gap_no D a b h.0, le-ltb D (gap a b * gap a b) (omega arith), eq-eqb D (gap a b * gap a b) h.1)
outline_relation_is Holding D a b h = simp (gap_no D a b (pos_root (gap a b) h), lt-ltb D (gap a b * gap a b) h)
outline_relation_is Identical D a b h = simp (identical_yes D a b h.0 h.1)

some_outline : (D a b : ℕ) → (r : Relation) × OutlineCase r D a b
some_outline D a b = inside (order D (gap a b * gap a b)) (order 0 (gap a b)) (order D ((a + b) * (a + b)))
  where
    outside : gap a b * gap a b < D → (D < (a + b) * (a + b)) ⊎ ((D ≡ (a + b) * (a + b)) ⊎ ((a + b) * (a + b) < D))
        → (r : Relation) × OutlineCase r D a b
    outside h (inl k) = (Crossing, (h, k))
    outside h (inr (inl k)) = (TouchingOutside, (h, k))
    outside h (inr (inr k)) = (Apart, k)

    inside : (D < gap a b * gap a b) ⊎ ((D ≡ gap a b * gap a b) ⊎ (gap a b * gap a b < D))
        → (0 < gap a b) ⊎ ((0 ≡ gap a b) ⊎ (gap a b < 0))
        → (D < (a + b) * (a + b)) ⊎ ((D ≡ (a + b) * (a + b)) ⊎ ((a + b) * (a + b) < D))
        → (r : Relation) × OutlineCase r D a b
    inside (inl h) z k = (Holding, h)
    inside (inr (inl e)) (inl z) k = (TouchingInside, (z, e))
    inside (inr (inl e)) (inr (inl z)) k = (Identical, (e ∙ ap (λ (n : ℕ). n * n) (sym z), gap_zero a b (sym z)))
    inside (inr (inl e)) (inr (inr z)) k = absurd (omega arith)
    inside (inr (inr h)) z k = outside h k

-- the fact of the case that `relation` gives holds
pub outline_case_of : (D a b : ℕ) → OutlineCase (outline_relation D a b) D a b
outline_case_of D a b =
    let found = some_outline D a b in
    subst (λ (r : Relation). OutlineCase r D a b) (sym (outline_relation_is found.0 D a b found.1)) found.1

-- ---- symmetric in the radii

outline_case_comm : (r : Relation) (D a b : ℕ) → OutlineCase r D a b → OutlineCase r D b a
outline_case_comm Apart D a b h = omega arith
outline_case_comm TouchingOutside D a b h = rw (← gap_comm a b) (omega arith)
outline_case_comm Crossing D a b h = rw (← gap_comm a b) (omega arith)
outline_case_comm TouchingInside D a b h = rw (← gap_comm a b) h
outline_case_comm Holding D a b h = rw (← gap_comm a b) h
outline_case_comm Identical D a b h = (h.0, sym h.1)

-- the relation does not depend on which radius comes first
pub outline_relation_comm : (D a b : ℕ) → outline_relation D a b ≡ outline_relation D b a
outline_relation_comm D a b =
    let r = outline_relation D a b in
    sym (outline_relation_is r D b a (outline_case_comm r D a b (outline_case_of D a b)))

-- ---- meets, meets in one point, covers

meets_in : (r : Relation) (D a b : ℕ) → OutlineCase r D a b → outlines_meet D a b ≡ meeting r
unfolding outlines_meet
meets_in Apart D a b h = simp (lt-leb D ((a + b) * (a + b)) h, and-false)
meets_in TouchingOutside D a b h =
    simp (
      le-leb (gap a b * gap a b) D (omega arith),
      le-leb D ((a + b) * (a + b)) (omega arith),
      apart_no D a b
          (omega arith),
    )
meets_in Crossing D a b h =
    simp (
      le-leb (gap a b * gap a b) D (omega arith),
      le-leb D ((a + b) * (a + b)) (omega arith),
      apart_no D a b
          (omega arith),
    )
meets_in TouchingInside D a b h =
    let l = gap_square_le a b in
    simp (le-leb (gap a b * gap a b) D (omega arith), le-leb D ((a + b) * (a + b)) (omega arith), gap_no D a b h.0)
meets_in Holding D a b h = simp (lt-leb (gap a b * gap a b) D h)
meets_in Identical D a b h = simp (identical_yes D a b h.0 h.1, and-false)

-- they meet exactly if the relation is touching outside, crossing or touching inside
pub outlines_meet_relation : (D a b : ℕ) → outlines_meet D a b ≡ meeting (outline_relation D a b)
outlines_meet_relation D a b = meets_in (outline_relation D a b) D a b (outline_case_of D a b)

once_in : (r : Relation) (D a b : ℕ) → OutlineCase r D a b → outlines_meet_once D a b ≡ touching r
unfolding outlines_meet_once
once_in Apart D a b h = simp (meets_in Apart D a b h)
once_in TouchingOutside D a b h = simp (meets_in TouchingOutside D a b h, eq-eqb D ((a + b) * (a + b)) h.1, or-true)
once_in Crossing D a b h =
    simp (
      meets_in Crossing D a b h,
      ne_eqb D (gap a b * gap a b) (λ e. omega arith),
      ne_eqb D ((a + b) * (a + b))
          (λ e. omega arith),
    )
once_in TouchingInside D a b h = simp (meets_in TouchingInside D a b h, eq-eqb D (gap a b * gap a b) h.1)
once_in Holding D a b h = simp (meets_in Holding D a b h)
once_in Identical D a b h = simp (meets_in Identical D a b h)

-- they meet in one point exactly if the relation is one of the two touches
pub outlines_meet_once_relation : (D a b : ℕ) → outlines_meet_once D a b ≡ touching (outline_relation D a b)
outlines_meet_once_relation D a b = once_in (outline_relation D a b) D a b (outline_case_of D a b)

reaches_in : (r : Relation) (D a b : ℕ) → OutlineCase r D a b → leb D (gap a b * gap a b) ≡ covering r
reaches_in Apart D a b h = lt-leb D (gap a b * gap a b) (omega (arith, gap_square_le a b))
reaches_in TouchingOutside D a b h = lt-leb D (gap a b * gap a b) h.0
reaches_in Crossing D a b h = lt-leb D (gap a b * gap a b) h.0
reaches_in TouchingInside D a b h = le-leb D (gap a b * gap a b) (omega arith)
reaches_in Holding D a b h = le-leb D (gap a b * gap a b) (omega arith)
reaches_in Identical D a b h = le-leb D (gap a b * gap a b) (omega arith)

-- D is at most t² exactly if the relation is touching inside, holding or identical
pub reaches : (D a b : ℕ) → leb D (gap a b * gap a b) ≡ covering (outline_relation D a b)
reaches D a b = reaches_in (outline_relation D a b) D a b (outline_case_of D a b)

-- ---- the same as facts on numbers

-- they meet exactly if t² ≤ D ≤ s² and they are not identical
pub outlines_meet_facts : (D a b : ℕ)
    → (outlines_meet D a b ≡ true) ↔ ((gap a b * gap a b ≤ D) × (D ≤ (a + b) * (a + b)) × (D ≡ 0 → a ≡ b → ⊥))
unfolding outlines_meet
outlines_meet_facts D a b =
    (there, λ h. simp (le-leb (gap a b * gap a b) D h.0, le-leb D ((a + b) * (a + b)) h.1, identical_no D a b h.2))
  where
    there : outlines_meet D a b ≡ true → (gap a b * gap a b ≤ D) × (D ≤ (a + b) * (a + b)) × (D ≡ 0 → a ≡ b → ⊥)
    there e =
        let one = and_yes (leb (gap a b * gap a b) D) (leb D ((a + b) * (a + b)) && not (identical D a b))
        (subst T (sym e) tt) in
        let two = and_yes (leb D ((a + b) * (a + b))) (not (identical D a b)) one.1 in (
          leb→le (gap a b * gap a b) D one.0,
          leb→le D ((a + b) * (a + b)) two.0,
          λ z same. subst T (ap not (identical_yes D a b z same)) two.1,
        )

-- a covers b exactly if its radius is not the smaller and D ≤ (a - b)²
pub covers_facts : (D a b : ℕ) → (covers D a b ≡ true) ↔ ((b ≤ a) × (D ≤ (a - b) * (a - b)))
unfolding covers
covers_facts D a b = (there, λ h. simp (le-leb b a h.0, le-leb D ((a - b) * (a - b)) h.1))
  where
    there : covers D a b ≡ true → (b ≤ a) × (D ≤ (a - b) * (a - b))
    there e =
        let both = and_yes (leb b a) (leb D ((a - b) * (a - b))) (subst T (sym e) tt) in
        (leb→le b a both.0, leb→le D ((a - b) * (a - b)) both.1)
