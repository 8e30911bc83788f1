-- The theorems that `specs/Fields.antt` states, from those of `Exactly.antt`: by number, then by the kind of field,
-- then by the values.
use Prim.Native.Nat.{ℕ, zero, suc, ◌≤◌, ◌<◌}
use mathlib.Core.Path.{◌≡◌, refl, ap, ◌∙◌}
use mathlib.Core.List.{List, [], ◌∷◌}
use mathlib.Core.Logic.{◌↔◌, inl, inr, ⊎_elim}
use native.Mathlib.Omega.{arith}
use lib.ListN.{take, length}
use Rattle.heads.specs.declared.Head.{Head}
use Rattle.plan.specs.declared.Edit.{Edit}
use Rattle.plan.specs.declared.Item.{Item}
use Rattle.plan.specs.declared.Item.TheVariants.{Count, Map, Coordinate, Side, Radius, HeadNumber, Tables}
use Rattle.plan.specs.declared.Plan.{Plan}
use Rattle.plan.specs.Table.{refusal_of, number_of, answer_number}
use Rattle.plan.specs.Checks.{ground_items, field_items, heads_items, plan_answer}
use Rattle.plan.specs.Limits.{PositionWithin, SideWithin, HeadWithin, Acceptable}
use Rattle.plan.specs.Exactly.{Satisfied, AllSatisfied, FirstUnsatisfied, Numbered, fields}
use Rattle.plan.specs.Fields.{IsCoordinate, IsSide, IsRadius, FieldNumbers, GivenExactly, FirstInPlan, FirstInEdit}
use Rattle.plan.specs.Fields.{FourExactly, FiveExactly, ElevenExactly, SideFailsFirst, RadiusAt, RadiusFailsFirst}
use Rattle.plan.specs.Fields.{EditRadiusFailsFirst, FiveByValues, ElevenByValues}
use Rattle.plan.proofs.Exactly.{satisfied_or_not, first_alike, unsatisfied_append, none_numbered, none_of_heads}
use Rattle.plan.proofs.Exactly.{field_number, plan_number, call_number}

-- ---- the kinds of fields

-- an item of a kind has the number of one of that kind
numbered_by_kind : {A : Type 0} (kind : A → Item) (k : ℕ) → ((z : A) → Numbered k (kind z)) → (item : Item)
    → (z : A) × (item ≡ kind z) → Numbered k item
numbered_by_kind kind k n item h = ap (λ i. number_of (refusal_of i)) h.1 ∙ n h.0

-- from two numbers that differ, being equal, anything
not_equal : {A : Type 0} {a b : ℕ} → (a ≡ b → ⊥) → a ≡ b → A
not_equal f e = absurd (f e)

-- and back: of the three numbers an item has at most that of its kind
kind_of : (item : Item)
    → (Numbered 4 item → IsCoordinate item) × (Numbered 5 item → IsSide item) × (Numbered 11 item → IsRadius item)
kind_of (Count n) = (not_equal (omega arith), not_equal (omega arith), not_equal (omega arith))
kind_of (Map bits map) = (not_equal (omega arith), not_equal (omega arith), not_equal (omega arith))
kind_of (Coordinate z) = ((λ e. (z, refl)), not_equal (omega arith), not_equal (omega arith))
kind_of (Side z) = (not_equal (omega arith), (λ e. (z, refl)), not_equal (omega arith))
kind_of (Radius z) = (not_equal (omega arith), not_equal (omega arith), (λ e. (z, refl)))
kind_of (HeadNumber head n) = (not_equal (omega arith), not_equal (omega arith), not_equal (omega arith))
kind_of (Tables needed lent) = (not_equal (omega arith), not_equal (omega arith), not_equal (omega arith))

pub field_numbers : FieldNumbers
field_numbers = record {
  coordinate = λ item. ((kind_of item).0, numbered_by_kind (λ z. Coordinate z) 4 (λ z. refl) item);
  side = λ item. ((kind_of item).1, numbered_by_kind (λ z. Side z) 5 (λ z. refl) item);
  radius = λ item. ((kind_of item).2, numbered_by_kind (λ z. Radius z) 11 (λ z. refl) item);
}

-- ---- when each is given

-- the same number, its cases said in other words
restated : {k : ℕ} {A B : Plan → Type 0} {C D : Plan → Edit → Type 0} → ((p : Plan) → length p.heads ≡ 10 → A p ↔ B p)
    → ((p : Plan) (e : Edit) → C p e ↔ D p e) → GivenExactly k A C → GivenExactly k B D
restated f g of = record {
  plan = λ p ten. ((λ q. (f p ten).0 ((of.plan p ten).0 q)), (λ u. (of.plan p ten).1 ((f p ten).1 u)));
  call = λ p gradients lent ten. (
    (λ q. (f p ten).0 ((of.call p gradients lent ten).0 q)),
    (λ u. (of.call p gradients lent ten).1 ((f p ten).1 u)),
  );
  edit = λ p e lent ten.
      let is = of.edit p e lent ten in (
        (λ q. ⊎_elim (λ u. inl ((f p ten).0 u)) (λ u. inr ((g p e).0 u)) (is.0 q)),
        (λ u. is.1 (⊎_elim (λ v. inl ((f p ten).1 v)) (λ v. inr ((g p e).1 v)) u)),
      );
}

-- a number of fields alone, that no count, head number or lent table has
exactly_by_number : (k : ℕ) → 0 < k → (2 ≡ k → ⊥) → (6 ≡ k → ⊥) → (7 ≡ k → ⊥)
    → GivenExactly k (FirstInPlan (Numbered k)) (FirstInEdit (Numbered k))
exactly_by_number k h two six seven = record {
  plan = λ p ten. alone p;
  call = λ p gradients lent ten.
      let is = call_number p gradients lent k h seven in
      ((λ q. (alone p).0 (is.0 q)), (λ u. is.1 ((alone p).1 u)));
  edit = λ p e lent ten. field_number p e lent ten k h two six seven;
}
  where
    alone : (p : Plan) → (answer_number (plan_answer p) ≡ k) ↔ FirstInPlan (Numbered k) p
    alone p =
        let is = plan_number p k h in
        ((λ q. ⊎_elim (λ u. absurd (two u.1)) (λ u. u) (is.0 q)), (λ u. is.1 (inr u)))

-- and by what such a field is
exactly_by_kind : (k : ℕ) (Those : Item → Type 0) → ((item : Item) → Numbered k item ↔ Those item) → 0 < k → (2 ≡ k → ⊥)
    → (6 ≡ k → ⊥) → (7 ≡ k → ⊥) → GivenExactly k (FirstInPlan Those) (FirstInEdit Those)
exactly_by_kind k Those kind h two six seven =
    restated
    (λ p ten. ((λ u. (u.0, (those (fields p)).0 u.1)), (λ u. (u.0, (those (fields p)).1 u.1))))
    (λ p e.
    let own = those (field_items e.x e.y e.radius) in
    ((λ u. (u.0, u.1, own.0 u.2)), (λ u. (u.0, u.1, own.1 u.2))))
    (exactly_by_number k h two six seven)
  where
    those : (items : List Item) → FirstUnsatisfied (Numbered k) items ↔ FirstUnsatisfied Those items
    those items = first_alike Satisfied kind items

pub four_exactly : FourExactly
four_exactly =
    exactly_by_kind 4 IsCoordinate field_numbers.coordinate (omega arith) (omega arith) (omega arith) (omega arith)

-- of an edit's own fields none is a side
no_side : (e : Edit) → FirstUnsatisfied IsSide (field_items e.x e.y e.radius) → ⊥
no_side e u =
    let own = field_items e.x e.y e.radius in
    none_numbered 5 own (omega arith) ((first_alike Satisfied field_numbers.side own).1 u)

pub five_exactly : FiveExactly
five_exactly =
    restated (λ p ten. ((λ u. u), (λ u. u))) (λ p e. ((λ u. no_side e u.2), (λ u. absurd u)))
    (exactly_by_kind 5 IsSide field_numbers.side (omega arith) (omega arith) (omega arith) (omega arith))

pub eleven_exactly : ElevenExactly
eleven_exactly =
    exactly_by_kind 11 IsRadius field_numbers.radius (omega arith) (omega arith) (omega arith) (omega arith)

-- ---- the same by the values

side_fails : (p : Plan) → FirstInPlan IsSide p ↔ SideFailsFirst p
side_fails p =
    let kind = first_alike Satisfied field_numbers.side (fields p) in
    ((λ u. found u.0 (kind.1 u.1)), (λ s. (s.count, kind.0 (inr (s.x, inr (s.y, fails s.sides))))))
  where
    none : FirstUnsatisfied (Numbered 5) (heads_items (take p.n p.heads)) → ⊥
    none u = none_numbered 5 _ (none_of_heads 5 (omega arith) (omega arith) (take p.n p.heads)) u

    -- the width if it is not within the limits, and otherwise the height
    fails : ¬ (SideWithin p.ground.width × SideWithin p.ground.height)
        → FirstUnsatisfied (Numbered 5) (Side p.ground.width ∷ Side p.ground.height ∷ heads_items (take p.n p.heads))
    fails sides =
        ⊎_elim (λ width. inr (width, inl ((λ height. sides (width, height)), refl))) (λ width. inl (width, refl))
        (satisfied_or_not (Side p.ground.width))

    -- a side that is not within the limits, the place being so
    by_side : p.n ≤ 10 → PositionWithin p.ground.x → PositionWithin p.ground.y
        → ¬ (SideWithin p.ground.width × SideWithin p.ground.height) → SideFailsFirst p
    by_side count x y sides = record { count = count; x = x; y = y; sides = sides }

    found : p.n ≤ 10 → FirstUnsatisfied (Numbered 5) (fields p) → SideFailsFirst p
    found count u =
        ⊎_elim (λ v. absurd (omega (arith, v.1)))
        (λ x.
        ⊎_elim (λ v. absurd (omega (arith, v.1)))
        (λ y.
        ⊎_elim (λ v. by_side count x.0 y.0 (λ s. v.0 s.0))
        (λ width.
        ⊎_elim (λ v. by_side count x.0 y.0 (λ s. v.0 s.1)) (λ height. absurd (none height.1)) width.1) y.1) x.1) u

-- of n heads: from the first check that fails, a radius's, to the head that it is of, and back
radius_found : (n : ℕ) (hs : List Head) → n ≤ length hs → FirstUnsatisfied (Numbered 11) (heads_items (take n hs))
    → (i : ℕ) × RadiusAt n hs i
unfolding heads_items
radius_found zero hs h u = absurd u
radius_found (suc n) [] h u = absurd (omega arith)
radius_found (suc n) (head ∷ hs) h u =
    ⊎_elim (λ v. absurd (omega (arith, v.1)))
    (λ x.
    ⊎_elim (λ v. absurd (omega (arith, v.1)))
    (λ y.
    ⊎_elim
    (λ v. (0, record { below = omega arith; before = λ j lt. absurd (omega arith); x = x.0; y = y.0; radius = v.0 }))
    (λ radius. later (x.0, y.0, radius.0) (radius_found n hs (omega arith) radius.1)) y.1) x.1) u
  where
    later : HeadWithin head → (i : ℕ) × RadiusAt n hs i → (i : ℕ) × RadiusAt (suc n) (head ∷ hs) i
    later ok found =
        let of = found.1 in (
          suc found.0,
          record {
            below = omega (arith, of.below);
            before = elim [ zero ↦ λ lt. ok | suc j ↦ λ lt. of.before j (omega arith) ];
            x = of.x;
            y = of.y;
            radius = of.radius;
          },
        )

radius_fails_first : (n : ℕ) (hs : List Head) (i : ℕ) → n ≤ length hs → RadiusAt n hs i
    → FirstUnsatisfied (Numbered 11) (heads_items (take n hs))
unfolding heads_items
radius_fails_first zero hs i h of = absurd (omega (arith, of.below))
radius_fails_first (suc n) [] i h of = absurd (omega arith)
radius_fails_first (suc n) (head ∷ hs) zero h of = inr (of.x, inr (of.y, inl (of.radius, refl)))
radius_fails_first (suc n) (head ∷ hs) (suc i) h of =
    let first = of.before 0 (omega arith) in
    let rest = radius_fails_first n hs i (omega arith) (record {
      below = omega (arith, of.below);
      before = λ j lt. of.before (suc j) (omega arith);
      x = of.x;
      y = of.y;
      radius = of.radius;
    }) in
    inr (first.0, inr (first.1, inr (first.2, rest)))

radius_fails : (p : Plan) → length p.heads ≡ 10 → FirstInPlan IsRadius p ↔ RadiusFailsFirst p
radius_fails p ten =
    let kind = first_alike Satisfied field_numbers.radius (fields p) in
    let parts = unsatisfied_append 11 ground (heads_items (take p.n p.heads)) in (
      (λ u.
          ⊎_elim (λ v. absurd (none_numbered 11 ground (omega arith) v))
          (λ v. found u.0 v.0 (radius_found p.n p.heads (omega (arith, u.0)) v.1))
          (parts.0 (kind.1 u.1))),
      (λ s.
          let g = s.ground in
          let box : AllSatisfied ground = (g.0, (g.1, (g.2, (g.3, tt)))) in
          let first = radius_fails_first p.n p.heads s.head (omega (arith, s.count)) s.first in
          (s.count, kind.0 (parts.1 (inr (box, first))))),
    )
  where
    ground : List Item
    ground = ground_items p.ground

    found : p.n ≤ 10 → AllSatisfied ground → (i : ℕ) × RadiusAt p.n p.heads i → RadiusFailsFirst p
    found count box at = record {
      count = count;
      ground = (box.0, box.1.0, box.1.1.0, box.1.1.1.0);
      head = at.0;
      first = at.1;
    }

edit_radius_fails : (p : Plan) (e : Edit) → FirstInEdit IsRadius p e ↔ EditRadiusFailsFirst p e
edit_radius_fails p e =
    let kind = first_alike Satisfied field_numbers.radius (field_items e.x e.y e.radius) in (
      (λ u. found u.0 u.1 (kind.1 u.2)),
      (λ s. (s.plan, s.head, kind.0 (inr (s.x, inr (s.y, inl (s.radius, refl)))))),
    )
  where
    found : Acceptable p → e.head < p.n → FirstUnsatisfied (Numbered 11) (field_items e.x e.y e.radius)
        → EditRadiusFailsFirst p e
    found plan head u =
        ⊎_elim (λ v. absurd (omega (arith, v.1)))
        (λ x.
        ⊎_elim (λ v. absurd (omega (arith, v.1)))
        (λ y.
        ⊎_elim
        (λ v. record { plan = plan; head = head; x = x.0; y = y.0; radius = v.0 })
        (λ v. absurd v.1) y.1) x.1) u

pub five_by_values : FiveByValues
five_by_values = restated (λ p ten. side_fails p) (λ p e. ((λ u. u), (λ u. u))) five_exactly

pub eleven_by_values : ElevenByValues
eleven_by_values = restated radius_fails edit_radius_fails eleven_exactly
