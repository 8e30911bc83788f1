-- The float decisions about two heads of the domain are the whole-number ones, and all that is worked out from them is
-- finite: the records of specs/Decisions.antt, by the six cases of the relation. Rests on Tests and Meeting.
use native.Mathlib.Nat.{lt_of_not-le}
use mathlib.Core.Path.{◌≡◌, refl, sym, ap, ap₂, ◌∙◌, subst, subst₂}
use mathlib.Core.Logic.{◌⊎◌, inl, inr, ◌↔◌}
use mathlib.Core.Bool.{Bool, true, false, true≢false, false≢true, ◌&&◌, ◌||◌, cond, or-true, and_comm}
use mathlib.Core.List.{List, [], ◌∷◌}
use Prim.Native.Nat.{ℕ, zero, suc, ◌+◌, ◌*◌, ◌^◌, ◌≤◌, ◌<◌}
use native.Mathlib.Nat.{le_trans, le_of_eq, mul-le-mul}
use native.Mathlib.Omega.{arith}
use lib.Dec.{T, ltb, eqb, ltb→lt}
use lib.ListN.{length}
use lib.IntN.{ℤ, pos}
use lib.Ieee.{Float, binary64, round, mul, is_nan, of_int, of_bits}
use lib.Ieee.Bits.{is_false}
use mir.Facts.{and_yes}
use borrow.Author.Tests.{lt-ltb, le-ltb, ltb-true, ltb-false, lt-leb, le-leb, leb-false, eqb-true, eq-eqb, ne_eqb}
use Rattle.heads.specs.declared.Head.{Head}
use Rattle.heads.specs.declared.Relation.{Relation}
use Rattle.heads.specs.declared.Relation.TheVariants.{Apart, TouchingOutside, Crossing}
use Rattle.heads.specs.declared.Relation.TheVariants.{TouchingInside, Holding, Identical}
use Rattle.heads.specs.Relation.{closed, either_closed, gap, identical, outline_relation, relation}
use Rattle.heads.specs.Relation.{meets, meeting, touching, points}
use Rattle.heads.specs.Outlines.{OutlineCase, gap_comm, gap_le, gap_square_le, gap_zero, outline_case_of}
use Rattle.heads.specs.Cases.{Case, at_least_one, neither_closed, gap_closed, closed_apart, relation_of_outlines}
use Rattle.heads.specs.Cases.{relation_is, case_of, meets_relation, meets_once_relation, meets_facts}
use Rattle.heads.specs.Pair.{squared_distance, radius_of, relation_of, meets_of, meets_once_of}
use Rattle.heads.specs.Distance.{InLimits, limits_of, distance_fits, meets_of_comm}
use Rattle.binary64.specs.Magnitude.{Most, Least}
use Rattle.std.proofs.lemmas.Bool.{cases_lt}
use Rattle.binary64.specs.Constants.{zero64, pi}
use Rattle.binary64.specs.Floats.{◌*ᶠ◌}
use Rattle.binary64.specs.Functions.{smaller_of}
use Rattle.binary64.proofs.Units.{not_nan}
use Rattle.binary64.proofs.Whole.{lt_of_int, of_int_finite, of_int_sign, of_int_most, of_int_least}
use Rattle.geometry.specs.declared.point.Point.{Point}
use Rattle.geometry.specs.Circle as circle
use Rattle.geometry.specs.Meeting.{number-of-points}
use Rattle.geometry.specs.Point.{at, distance}
use Rattle.exact.specs.Circle.{circle_of}
use Rattle.exact.specs.Decisions.{IsDrawn, DecidesExactly, StaysBounded, NoPointsUnlessMet}
use Rattle.exact.specs.Decisions.{NoAreaBeyond, NoAreaClosed, QuotientsWithin, sum, difference, quotient}
use Rattle.exact.proofs.Chord.{gap_either}
use Rattle.exact.proofs.Crossing.{quotient_within}
use Rattle.exact.proofs.Steps.{float}
use Rattle.exact.proofs.Distance.{root_of, distance_is, root_is_finite, root_most, root_at_least}
use Rattle.exact.proofs.Tests.{zero_is, closed_is, either_closed_is, identical_is, apart_is, intersects_is}
use Rattle.exact.proofs.Tests.{contains_heads, beyond_is, within_is}
use Rattle.exact.proofs.Meeting.{Found, touching as found-touching, crossed as found-crossed}

-- ---- touch from inside

-- where the circles touch from inside, r₁² - r₂² + t² is 2 r₁ t or -2 r₁ t
touch_inside : (a b t : ℕ) → (a ≡ b + t) ⊎ (b ≡ a + t)
    → (a * a + t * t ≡ b * b + 2 * (a * t)) ⊎ (b * b ≡ a * a + t * t + 2 * (a * t))
touch_inside a b t (inl e) = inl (omega (arith, ap (λ (k : ℕ). k * k) e, ap (λ (k : ℕ). k * t) e))
touch_inside a b t (inr e) = inr (omega (arith, ap (λ (k : ℕ). k * k) e))

-- ---- the tests before the points

-- c are the points, i and o the tests that turn the circles away: identical, and not met; p and q are the centres
module _ {p q : Point} (c : List Point) where
  none_chosen : (i o : Bool) → (i ≡ true) ⊎ (o ≡ true) → Found p q (cond i [] (cond o [] c)) 0
  none_chosen true o h = record { count = refl; placed = tt; off = (tt, tt) }
  none_chosen false true h = record { count = refl; placed = tt; off = (tt, tt) }
  none_chosen false false (inl e) = absurd (false≢true e)
  none_chosen false false (inr e) = absurd (false≢true e)

  chosen : {n : ℕ} (i o : Bool) → i ≡ false → o ≡ false → Found p q c n → Found p q (cond i [] (cond o [] c)) n
  chosen false false e f h = h
  chosen true o e f h = absurd (true≢false e)
  chosen false true e f h = absurd (true≢false f)

-- at a distance heads are not identical
not_identical : (D a b : ℕ) → 0 < D → identical D a b ≡ false
not_identical D a b h = ap (λ (p : Bool). p && eqb a b) (ne_eqb D 0 (λ e. omega arith))

-- ---- the outlines of two heads of which neither is closed

module _ {a b : Head} (la : InLimits a) (lb : InLimits b) (oa : 1 ≤ radius_of a) (ob : 1 ≤ radius_of b)
    (L : squared_distance a b < 2 ^ 32) where
  abbrev D : ℕ
  D = squared_distance a b

  abbrev r₁ : ℕ
  r₁ = radius_of a

  abbrev r₂ : ℕ
  r₂ = radius_of b

  abbrev s : ℕ
  s = sum a b

  abbrev t : ℕ
  t = difference a b

  -- `crossing` of the two circles, with the radii as the integers u and v
  abbrev crossing_of : ℤ → ℤ → List Point
  crossing_of u v =
      circle.crossing (circle.around (at (of_int binary64 a.x) (of_int binary64 a.y)) (of_int binary64 u))
      (circle.around (at (of_int binary64 b.x) (of_int binary64 b.y)) (of_int binary64 v)) (root_of D)

  abbrev crossing : List Point
  crossing = crossing_of (pos r₁) (pos r₂)

  -- D > s² or D < t²
  abbrev missing : Bool
  missing = ltb (s * s) D || ltb D (t * t)

  -- the meeting points, with the tests on whole numbers
  abbrev points_by : List Point
  points_by = cond (identical D r₁ r₂) [] (cond missing [] crossing)

  points_are : circle.outline_points (circle_of a) (circle_of b) ≡ points_by
  points_are =
      ap (λ (d : Float). cond (circle.identical (circle_of a) (circle_of b)) []
      (cond (circle.apart (circle_of a) (circle_of b) d) [] (circle.crossing (circle_of a) (circle_of b) d)))
      (distance_is la lb L)
      ∙ ap₂ (λ (i o : Bool). cond i [] (cond o [] (crossing_of a.radius b.radius))) (identical_is la lb L)
      (apart_is la lb L)
      ∙ ap₂ (λ (u v : ℤ). cond (identical D r₁ r₂) [] (cond missing [] (crossing_of u v))) la.whole lb.whole

  -- one point where the circles touch
  found_touch : (n : ℕ) → D ≡ n * n → 1 ≤ n → n ≤ 40000
      → (r₁ * r₁ + n * n ≡ r₂ * r₂ + 2 * (r₁ * n)) ⊎ (r₂ * r₂ ≡ r₁ * r₁ + n * n + 2 * (r₁ * n))
      → Found (circle_of a).center (circle_of b).center crossing 1
  found_touch n e p q h =
      found-touching a.x a.y b.x b.y la.x la.y lb.x lb.y r₁ r₂ oa la.most ob lb.most L
      (omega (arith, mul-le-mul p p)) n e p q h

  -- two where they cross
  found_cross : t * t < D → D < s * s → Found (circle_of a).center (circle_of b).center crossing 2
  found_cross h k =
      found-crossed a.x a.y b.x b.y la.x la.y lb.x lb.y r₁ r₂ oa la.most ob lb.most L (omega arith) h k

  -- either is met, since no test before turns it away
  met : {n : ℕ} → 0 < D → t * t ≤ D → D ≤ s * s → Found (circle_of a).center (circle_of b).center crossing n
      → Found (circle_of a).center (circle_of b).center points_by n
  met z h k f =
      chosen crossing (identical D r₁ r₂) missing (not_identical D r₁ r₂ z)
      (ap₂ (λ (p q : Bool). p || q) (le-ltb (s * s) D k) (le-ltb D (t * t) h)) f

  -- in each case of the relation as many points as it has
  found_in : (r : Relation) → OutlineCase r D r₁ r₂
      → Found (circle_of a).center (circle_of b).center points_by (points r)
  found_in Apart h =
      none_chosen crossing (identical D r₁ r₂) missing
      (inr (ap (λ (p : Bool). p || ltb D (t * t)) (lt-ltb (s * s) D h)))
  found_in TouchingOutside h =
      met (omega arith) (omega arith) (le_of_eq h.1)
      (found_touch s h.1 (omega (arith, oa)) (omega (arith, la.most, lb.most)) (inl (omega arith)))
  found_in Crossing h = met (omega arith) (omega arith) (omega arith) (found_cross h.0 h.1)
  found_in TouchingInside h =
      met (omega (arith, mul-le-mul h.0 h.0)) (le_of_eq (sym h.1)) (le_trans (le_of_eq h.1) (gap_square_le r₁ r₂))
      (found_touch t h.1 h.0 (omega (arith, gap_le r₁ r₂, la.most, lb.most)) (touch_inside r₁ r₂ t (gap_either r₁ r₂)))
  found_in Holding h =
      none_chosen crossing (identical D r₁ r₂) missing
      (inr (ap (λ (p : Bool). ltb (s * s) D || p) (lt-ltb D (t * t) h) ∙ or-true (ltb (s * s) D)))
  found_in Identical h =
      none_chosen crossing (identical D r₁ r₂) missing
      (inl (ap₂ (λ (p q : Bool). p && q) (eq-eqb D 0 h.0) (eq-eqb r₁ r₂ h.1)))

  -- as many points as their relation has, each placed
  outlines_found : Found (circle_of a).center (circle_of b).center (circle.outline_points (circle_of a) (circle_of b))
      (points (outline_relation D r₁ r₂))
  outlines_found =
      subst (λ (l : List Point). Found (circle_of a).center (circle_of b).center l (points (outline_relation D r₁ r₂)))
      (sym points_are)
      (found_in (outline_relation D r₁ r₂) (outline_case_of D r₁ r₂))

-- ---- two heads

-- as many points as the relation has, each placed: none where one is closed
found : {a b : Head} → InLimits a → InLimits b → squared_distance a b < 2 ^ 32
    → Found (circle_of a).center (circle_of b).center (circle.intersection_points (circle_of a) (circle_of b))
    (points (relation_of a b))
found {a} {b} la lb L = go (either_closed (radius_of a) (radius_of b)) refl
  where
    D : ℕ
    D = squared_distance a b

    r₁ : ℕ
    r₁ = radius_of a

    r₂ : ℕ
    r₂ = radius_of b

    go : (p : Bool) → either_closed r₁ r₂ ≡ p
        → Found (circle_of a).center (circle_of b).center (circle.intersection_points (circle_of a) (circle_of b))
        (points (relation_of a b))
    go true e =
        rw (either_closed_is la lb ∙ e, closed_apart D r₁ r₂ e)
        (record { count = refl; placed = tt; off = (tt, tt) })
    go false e =
        let both = neither_closed r₁ r₂ e in
        rw (either_closed_is la lb ∙ e, relation_of_outlines D r₁ r₂ e)
        (outlines_found la lb (at_least_one r₁ both.0) (at_least_one r₂ both.1) L)

-- ---- how many points there are, and what the relation says

-- a list of no, one or two points against "meets" and "meets in one point"
abbrev Counted : List Point → Bool → Bool → Type 0
Counted l m o = ((l ≡ []) ↔ (m ≡ false)) × ((length l ≡ 1) ↔ (o ≡ true)) × ((length l ≡ 2) ↔ ((m ≡ true) × (o ≡ false)))

-- it counts as the relation says
module _ (l : List Point) where
  no_points : length l ≡ 0 → Counted l false false
  no_points e = (
    (λ _. refl, λ _. empty l e),
    (λ h. absurd (omega arith), λ h. absurd (false≢true h)),
    (λ h. absurd (omega arith), λ h. absurd (false≢true h.0)),
  )
    where
      empty : (l : List Point) → length l ≡ 0 → l ≡ []
      empty [] e = refl
      empty (p ∷ rest) e = absurd (omega arith)

  one_point : length l ≡ 1 → Counted l true true
  one_point e = (
    (λ h. absurd (omega (arith, ap length h)), λ h. absurd (true≢false h)),
    (λ _. refl, λ _. e),
    (λ h. absurd (omega arith), λ h. absurd (true≢false h.1)),
  )

  two_points : length l ≡ 2 → Counted l true false
  two_points e = (
    (λ h. absurd (omega (arith, ap length h)), λ h. absurd (true≢false h)),
    (λ h. absurd (omega arith), λ h. absurd (false≢true h)),
    (λ _. (refl, refl), λ _. e),
  )

  counted : (r : Relation) → length l ≡ points r → Counted l (meeting r) (touching r)
  counted Apart e = no_points e
  counted TouchingOutside e = one_point e
  counted Crossing e = two_points e
  counted TouchingInside e = one_point e
  counted Holding e = no_points e
  counted Identical e = no_points e

-- ---- the theorems

-- so where t² < D < s² neither is
pub between : (D a b : ℕ) → gap a b * gap a b < D → D < (a + b) * (a + b) → either_closed a b ≡ false
between D a b low high = by (either_closed a b) refl
  where
    by : (p : Bool) → either_closed a b ≡ p → p ≡ false
    by true e = let h = ap (λ (n : ℕ). n * n) (gap_closed a b e) in absurd (omega arith)
    by false e = refl

-- t² < D < s², as a test and as the relation
crosses : (D a b : ℕ) → ((ltb (gap a b * gap a b) D && ltb D ((a + b) * (a + b))) ≡ true) ↔ (relation D a b ≡ Crossing)
crosses D a b = (there, back)
  where
    there : (ltb (gap a b * gap a b) D && ltb D ((a + b) * (a + b))) ≡ true → relation D a b ≡ Crossing
    there e =
        let both = and_yes (ltb (gap a b * gap a b) D) (ltb D ((a + b) * (a + b))) (subst T (sym e) tt) in
        let low = ltb→lt (gap a b * gap a b) D both.0 in
        let high = ltb→lt D ((a + b) * (a + b)) both.1 in
        relation_is D a b Crossing (between D a b low high, (low, high))

    back : relation D a b ≡ Crossing → (ltb (gap a b * gap a b) D && ltb D ((a + b) * (a + b))) ≡ true
    back e =
        let h = subst (λ (r : Relation). Case r D a b) e (case_of D a b) in
        ap₂ (λ (p q : Bool). p && q) (lt-ltb (gap a b * gap a b) D h.1.0) (lt-ltb D ((a + b) * (a + b)) h.1.1)

-- heads that meet have different centres
meet_apart : (D a b : ℕ) → meets D a b ≡ true → 0 < D
meet_apart D a b e =
    let f = ((meets_facts D a b).0 e).1 in
    lt_of_not-le (λ (h : D ≤ 0). f.2 (omega arith) (gap_zero a b (none (gap a b) (le_trans f.0 h))))
  where
    none : (n : ℕ) → n * n ≤ 0 → n ≡ 0
    none zero h = refl
    none (suc n) h = absurd (omega arith)

-- The circle of a head within the limits.
pub is-drawn : IsDrawn
is-drawn h t =
    let l = limits_of h t in
    record {
      x = of_int_most h.x (omega (arith, l.x)) l.x;
      y = of_int_most h.y (omega (arith, l.y)) l.y;
      most = rw l.whole (of_int_most (pos (radius_of h)) (omega (arith, l.most)) l.most);
      least = λ o. rw l.whole (of_int_least (pos (radius_of h)) (omega (arith, l.most)) (at_least_one (radius_of h) o));
      positive = rw l.whole (of_int_sign (pos (radius_of h)) (omega (arith, l.most)));
      closed = closed_is l;
    }

-- Two heads within the limits: the float code decides as whole numbers do.
pub decides_exactly : DecidesExactly
decides_exactly a b ha hb = record {
  count = f.count;
  answer = λ m h. number-of-points m ∙ ap length h ∙ f.count;
  none = c.0;
  one = c.1;
  two = c.2;
  contained = contains_heads la lb L;
  crossed = e;
  crossing = (
    λ h. (crosses (squared_distance a b) (radius_of a) (radius_of b)).0 (sym e ∙ h),
    λ h. e
        ∙ (crosses (squared_distance a b) (radius_of a) (radius_of b)).1 h,
  );
  outside = beyond_is la lb L;
  inside = within_is la lb L;
}
  where
    la : InLimits a
    la = limits_of a ha

    lb : InLimits b
    lb = limits_of b hb

    L : squared_distance a b < 2 ^ 32
    L = distance_fits a b ha hb

    f : Found (circle_of a).center (circle_of b).center (circle.intersection_points (circle_of a) (circle_of b))
        (points (relation_of a b))
    f = found la lb L

    c : Counted (circle.intersection_points (circle_of a) (circle_of b)) (meets_of a b) (meets_once_of a b)
    c =
        subst₂ (λ (m o : Bool). Counted (circle.intersection_points (circle_of a) (circle_of b)) m o)
        (sym (meets_relation (squared_distance a b) (radius_of a) (radius_of b)))
        (sym (meets_once_relation (squared_distance a b) (radius_of a) (radius_of b)))
        (counted (circle.intersection_points (circle_of a) (circle_of b)) (relation_of a b) f.count)

    e : circle.intersects (circle_of a) (circle_of b)
        ≡ (ltb (difference a b * difference a b) (squared_distance a b) && ltb (squared_distance a b)
        (sum a b * sum a b))
    e =
        intersects_is la lb L
        ∙ and_comm (ltb (squared_distance a b) (sum a b * sum a b))
        (ltb (difference a b * difference a b) (squared_distance a b))

-- What is worked out from them is finite, and no divisor is near zero.
pub stays_bounded : StaysBounded
stays_bounded a b ha hb = record {
  near = subst (λ (d : Float). Most 65536 1074 d) (sym e) (root_most (squared_distance a b) L);
  apart = λ h. subst (λ (d : Float). Least 1 1074 d) (sym e) (record {
    finite = root_is_finite (squared_distance a b) L;
    bound = root_at_least (squared_distance a b) L 1 (omega arith) h;
  });
  divides = meet_apart (squared_distance a b) (radius_of a) (radius_of b);
  placed = (found (limits_of a ha) (limits_of b hb) L).placed;
  off = (found (limits_of a ha) (limits_of b hb) L).off;
}
  where
    L : squared_distance a b < 2 ^ 32
    L = distance_fits a b ha hb

    e : distance (circle_of a).center (circle_of b).center ≡ root_of (squared_distance a b)
    e = distance_is (limits_of a ha) (limits_of b hb) L

-- Heads that do not meet have no meeting points, in either order.
pub no_points_unless_met : NoPointsUnlessMet
no_points_unless_met a b ha hb e =
    ((decides_exactly a b ha hb).none.1 e, (decides_exactly b a hb ha).none.1 (meets_of_comm b a ∙ e))

-- Heads that touch from outside or are apart share no area.
pub no_area_beyond : NoAreaBeyond
no_area_beyond a b ha hb h =
    rw ((decides_exactly a b ha hb).outside ∙ le-leb (sum a b * sum a b) (squared_distance a b) h)

-- ---- a closed head shares no area

-- of two radii of which one is 0 the smaller is +0, and so is the area of its circle
smaller_closed : (m n : ℕ) → m ≤ 20000 → n ≤ 20000 → either_closed m n ≡ true
    → smaller_of (of_int binary64 (pos m)) (of_int binary64 (pos n)) ≡ zero64
smaller_closed m n hm hn c =
    ap₂ (λ (p q : Bool). cond (p || q) (of_int binary64 (pos n)) (of_int binary64 (pos m)))
    (is_false (is_nan (of_int binary64 (pos m))) (not_nan (of_int_finite (pos m) (omega arith))))
    (lt_of_int (pos n) (pos m) (omega arith) (omega arith))
    ∙ by (ltb n m) (closed m) (closed n) refl refl refl c
  where
    zero_of : {k : ℕ} → k ≡ 0 → of_int binary64 (pos k) ≡ zero64
    zero_of e = ap (λ (k : ℕ). of_int binary64 (pos k)) e ∙ sym zero_is

    by : (q x y : Bool) → ltb n m ≡ q → closed m ≡ x → closed n ≡ y → (x || y) ≡ true
        → cond q (of_int binary64 (pos n)) (of_int binary64 (pos m)) ≡ zero64
    by true true y e f g h = absurd (omega (arith, ltb-true n m e, eqb-true m 0 f))
    by true false true e f g h = zero_of (eqb-true n 0 g)
    by false true y e f g h = zero_of (eqb-true m 0 f)
    by false false true e f g h = zero_of (omega (arith, ltb-false n m e, eqb-true n 0 g))
    by q false false e f g h = absurd (false≢true h)

no_disc : pi *ᶠ zero64 *ᶠ zero64 ≡ zero64
unfolding of_bits mul round
no_disc = refl

-- where the circles are not beyond each other one is within the other
pub no_area_closed : NoAreaClosed
no_area_closed a b ha hb c = by (cases_lt D (s * s))
  where
    D : ℕ
    D = squared_distance a b

    s : ℕ
    s = sum a b

    t : ℕ
    t = difference a b

    by : (D < s * s) ⊎ (s * s ≤ D) → circle.intersection_area (circle_of a) (circle_of b) ≡ zero64
    by (inr k) = no_area_beyond a b ha hb k
    by (inl k) =
        let la = limits_of a ha in
        let lb = limits_of b hb in
        rw (
          (decides_exactly a b ha hb).outside ∙ lt-leb (s * s) D k,
          (decides_exactly a b ha hb).inside ∙ le-leb D (t * t)
              (subst (λ (n : ℕ). D ≤ n * n) (sym (gap_closed (radius_of a) (radius_of b) c)) (omega arith)),
          la.whole,
          lb.whole,
          smaller_closed (radius_of a) (radius_of b) la.most lb.most c,
        )
        no_disc

-- both quotients, over whole numbers
both_within : (r₁ r₂ D : ℕ) → 1 ≤ r₁ → r₁ ≤ 20000 → 1 ≤ r₂ → r₂ ≤ 20000 → gap r₁ r₂ * gap r₁ r₂ < D
    → D < (r₁ + r₂) * (r₁ + r₂)
    → Most 1 1074 (quotient (float r₁) (float r₂) (root_of D))
    × Most 1 1074 (quotient (float r₂) (float r₁) (root_of D))
both_within r₁ r₂ D P₁ L₁ P₂ L₂ low high = (
  quotient_within r₁ r₂ D P₁ L₁ P₂ L₂ low high,
  quotient_within r₂ r₁ D P₂ L₂ P₁ L₁ (rw (gap_comm r₂ r₁) low)
      (omega arith),
)

-- Where a lens is worked out, what is handed to acos is within -1 to 1.
pub quotients_within : QuotientsWithin
quotients_within a b ha hb out held =
    let la = limits_of a ha in
    let lb = limits_of b hb in
    let D = squared_distance a b in
    let t = difference a b in
    let s = sum a b in
    let low = leb-false D (t * t) (sym (decides_exactly a b ha hb).inside ∙ held) in
    let high = leb-false (s * s) D (sym (decides_exactly a b ha hb).outside ∙ out) in
    let both = neither_closed (radius_of a) (radius_of b) (between D (radius_of a) (radius_of b) low high) in
    rw (distance_is la lb (distance_fits a b ha hb), la.whole, lb.whole)
    (both_within (radius_of a) (radius_of b) D (at_least_one (radius_of a) both.0) la.most
    (at_least_one (radius_of b) both.1) lb.most low high)
