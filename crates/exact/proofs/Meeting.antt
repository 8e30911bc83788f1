-- The points of `crossing` for two circles with whole centres and radii: one where the circles touch, two where they
-- cross, each finite and at most 80000 from zero. Rests on Touching, Crossing and Across.
use native.Mathlib.Nat.{lt_of_not-le}
use mathlib.Core.Path.{◌≡◌, refl, sym, ap, ap₂, ◌∙◌, subst}
use mathlib.Core.Logic.{◌⊎◌, inl, inr}
use mathlib.Core.Bool.{Bool, true, false, not, true≢false, ◌&&◌, cond}
use mathlib.Core.List.{List, [], ◌∷◌}
use Prim.Native.Nat.{ℕ, ◌+◌, ◌-◌, ◌*◌, ◌^◌, ◌≤◌, ◌<◌}
use native.Mathlib.Nat.{le_trans, le_of_lt, le_of_eq, mul-le-mul}
use native.Mathlib.Omega.{arith}
use lib.ListN.{length}
use lib.IntN.{ℤ, nat_abs, ◌-ℤ◌}
use lib.Ieee.{Float, binary64, add, sub, mul, div, neg, eq, of_int, unlike}
use lib.Ieee.Fits.{sub-fits}
use Rattle.heads.specs.Relation.{gap}
use Rattle.heads.specs.Distance.{nat_abs_diff_comm}
use Rattle.binary64.specs.Constants.{zero64}
use Rattle.binary64.specs.Units.{pow2, one, Finite, mag, negative, plus}
use Rattle.binary64.specs.Magnitude.{Most}
use Rattle.std.proofs.lemmas.Bool.{cases_lt}
use Rattle.binary64.proofs.Units.{one_pos, pow2_pos, plus_minus, plus_sign}
use Rattle.binary64.proofs.Units.{neg_finite, neg_mag, neg_sign, zero64_plus, zero64_minus}
use Rattle.binary64.proofs.Operations.{sub_is}
use Rattle.binary64.proofs.Error.{sub_near}
use Rattle.binary64.proofs.Magnitude.{most_weaken, most_coarser, neg_most, add_most, sub_most}
use Rattle.binary64.proofs.Whole.{sub_of_int, of_int_finite, of_int_mag, of_int_most}
use Rattle.elementary.proofs.root.Integers.{root_square}
use Rattle.elementary.proofs.root.Values.{root_minus}
use Rattle.geometry.specs.declared.point.Point.{Point}
use Rattle.geometry.specs.declared.circle.Circle.{Circle}
use Rattle.geometry.specs.Point.{at}
use Rattle.geometry.specs.Circle.{around, crossing}
use Rattle.geometry.specs.Meeting.{distinct}
use Rattle.exact.specs.Points.{Placed, AllPlaced, Off, AllOff}
use Rattle.exact.proofs.Distance.{root_of, part_below, root_is_finite, root_up, root_most, root_at_least}
use Rattle.exact.proofs.Steps.{float, along, rest, across}
use Rattle.exact.proofs.Coordinates.{Leg, way_most, foot_most, offset_most, offset_none}
use Rattle.exact.proofs.Centre.{Axis, off_both, side_of_first, side_of_second}
use Rattle.exact.proofs.Centre.{offset_sign, as_it_is, turned, touch_off_first, touch_off_second}
use Rattle.exact.proofs.Touching as touch
use Rattle.exact.proofs.Touching.{same_side}
use Rattle.exact.proofs.Crossing as cross
use Rattle.exact.proofs.Across.{across_most, across_least, across_over, offset_least, other_side}

-- ---- the differences of the centres

-- the difference of two coordinates is whole, and at most the distance
pub leg_of : (D : ℕ) (L : D < 2 ^ 32) (u v : ℤ) → nat_abs u ≤ 20000 → nat_abs v ≤ 20000
    → nat_abs (u -ℤ v) * nat_abs (u -ℤ v) ≤ D
    → Leg (sub binary64 (of_int binary64 v) (of_int binary64 u)) (root_of D) (nat_abs (u -ℤ v))
leg_of D L u v p q h =
    let m = part_below (nat_abs (u -ℤ v)) D h L in
    let c = nat_abs_diff_comm v u in
    rw (sub_of_int v u (omega arith) (omega arith))
    (record {
      finite = of_int_finite (v -ℤ u) (omega arith);
      size = of_int_mag (v -ℤ u) (omega arith) ∙ ap (λ (n : ℕ). n * one) c;
      small = m;
      within = root_at_least D L (nat_abs (u -ℤ v)) (omega arith) h;
    })

-- and so is what it is below zero
pub leg_neg : {Δ d : Float} {m : ℕ} → Leg Δ d m → Leg (neg Δ) d m
leg_neg {Δ} g = record { finite = neg_finite g.finite; size = neg_mag Δ ∙ g.size; small = g.small; within = g.within }

-- ---- one point or two

-- equal in both coordinates: one; different in one of them: two
one_of : (p q : Point) → eq p.x q.x ≡ true → eq p.y q.y ≡ true → distinct p q ≡ p ∷ []
one_of p q e f = ap₂ (λ (i j : Bool). cond (i && j) (p ∷ []) (p ∷ q ∷ [])) e f

two_of : (p q : Point) → (eq p.x q.x ≡ false) ⊎ (eq p.y q.y ≡ false) → distinct p q ≡ p ∷ q ∷ []
two_of p q (inl e) = ap (λ (i : Bool). cond (i && eq p.y q.y) (p ∷ []) (p ∷ q ∷ [])) e
two_of p q (inr f) = go (eq p.x q.x) (eq p.y q.y) f
  where
    go : (i j : Bool) → j ≡ false → cond (i && j) (p ∷ []) (p ∷ q ∷ []) ≡ p ∷ q ∷ []
    go true j e = ap (λ (k : Bool). cond k (p ∷ []) (p ∷ q ∷ [])) e
    go false j e = refl

-- n points, each placed, and none of them the centre p or q
pub record Found (p q : Point) (l : List Point) (n : ℕ) : Type 0 where
  pub count : length l ≡ n
  pub placed : AllPlaced l
  pub off : AllOff p l × AllOff q l

-- The points at the foot x, y plus and minus the offset rx, ry.
abbrev first : Float → Float → Float → Float → Point
first x y rx ry = at (add binary64 x rx) (add binary64 y ry)

abbrev second : Float → Float → Float → Float → Point
second x y rx ry = at (sub binary64 x rx) (sub binary64 y ry)

module _ {x y rx ry : Float} (X : Most 40000 1074 x) (Y : Most 40000 1074 y) where
  first_placed : Most 40000 1074 rx → Most 40000 1074 ry → Placed (first x y rx ry)
  first_placed A B = record {
    x = add_most X A (omega arith) (omega arith);
    y = add_most Y B (omega arith) (omega arith);
  }

  second_placed : Most 40000 1074 rx → Most 40000 1074 ry → Placed (second x y rx ry)
  second_placed A B = record {
    x = sub_most X A (omega arith) (omega arith);
    y = sub_most Y B (omega arith) (omega arith);
  }

  -- no offset: one point
  found_one : {p q : Point} → Most 0 1074 rx → Most 0 1074 ry → Off p (first x y rx ry) → Off q (first x y rx ry)
      → Found p q (distinct (first x y rx ry) (second x y rx ry)) 1
  found_one A B op oq =
      rw (one_of (first x y rx ry) (second x y rx ry) (same_side X A (omega arith)) (same_side Y B (omega arith)))
      (record {
        count = refl;
        placed = (first_placed (most_weaken A (omega arith)) (most_weaken B (omega arith)), tt);
        off = ((op, tt), (oq, tt));
      })

  -- an offset along one axis at least: two points
  found_two : {p q : Point} → Most 40000 1074 rx → Most 40000 1074 ry
      → (1 * pow2 1041 ≤ mag rx) ⊎ (1 * pow2 1041 ≤ mag ry)
      → Off p (first x y rx ry) × Off p (second x y rx ry) → Off q (first x y rx ry) × Off q (second x y rx ry)
      → Found p q (distinct (first x y rx ry) (second x y rx ry)) 2
  found_two A B h op oq =
      rw (two_of (first x y rx ry) (second x y rx ry) (go h))
      (record {
        count = refl;
        placed = (first_placed A B, (second_placed A B, tt));
        off = ((op.0, (op.1, tt)), (oq.0, (oq.1, tt)));
      })
    where
      go : (1 * pow2 1041 ≤ mag rx) ⊎ (1 * pow2 1041 ≤ mag ry)
          → (eq (add binary64 x rx) (sub binary64 x rx) ≡ false) ⊎ (eq (add binary64 y ry) (sub binary64 y ry) ≡ false)
      go (inl l) = inl (other_side X A l)
      go (inr l) = inr (other_side Y B l)

-- an axis, seen from the first centre and from the second
axis_first : (u : ℤ) → nat_abs u ≤ 20000 → {w ρ : Float} → Most 20000 1074 w → Most 40000 1074 ρ
    → Axis (of_int binary64 u) w ρ zero64 (of_int binary64 u)
axis_first u U W R = record {
  start = of_int_most u (omega arith) U;
  way = W;
  offset = R;
  centre = of_int_most u (omega arith) U;
  near = record { over = omega (arith, zero64_plus, zero64_minus); under = omega (arith, zero64_plus, zero64_minus) };
}

axis_second : (u v : ℤ) → nat_abs u ≤ 20000 → nat_abs v ≤ 20000
    → Finite (sub binary64 (of_int binary64 v) (of_int binary64 u))
    → {w ρ : Float} → Most 20000 1074 w → Most 40000 1074 ρ
    → Axis (of_int binary64 u) w ρ (sub binary64 (of_int binary64 v) (of_int binary64 u)) (of_int binary64 v)
axis_second u v U B f W R = record {
  start = of_int_most u (omega arith) U;
  way = W;
  offset = R;
  centre = of_int_most v (omega arith) B;
  near = sub_near (of_int_most v (omega arith) B) (of_int_most u (omega arith) U) f 17 1037 (omega arith) refl;
}

-- ---- two circles

module _ (x₁ y₁ x₂ y₂ : ℤ) (X₁ : nat_abs x₁ ≤ 20000) (Y₁ : nat_abs y₁ ≤ 20000) (X₂ : nat_abs x₂ ≤ 20000)
    (Y₂ : nat_abs y₂ ≤ 20000) (r₁ r₂ : ℕ) (P₁ : 1 ≤ r₁) (L₁ : r₁ ≤ 20000) (P₂ : 1 ≤ r₂) (L₂ : r₂ ≤ 20000) where
  -- D
  abbrev D : ℕ
  D = nat_abs (x₁ -ℤ x₂) * nat_abs (x₁ -ℤ x₂) + nat_abs (y₁ -ℤ y₂) * nat_abs (y₁ -ℤ y₂)

  abbrev A : Circle
  A = around (at (of_int binary64 x₁) (of_int binary64 y₁)) (float r₁)

  abbrev B : Circle
  B = around (at (of_int binary64 x₂) (of_int binary64 y₂)) (float r₂)

  abbrev d : Float
  d = root_of D

  -- the centres differ, and D is below 2 ^ 32
  module _ (L : D < 2 ^ 32) (N : 0 < D) where
    d_least : one ≤ mag d
    d_least = le_trans (omega arith) (root_at_least D L 1 (omega arith) (omega arith))

    d_finite : Finite d
    d_finite = root_is_finite D L

    leg_x : Leg (sub binary64 (of_int binary64 x₂) (of_int binary64 x₁)) d (nat_abs (x₁ -ℤ x₂))
    leg_x = leg_of D L x₁ x₂ X₁ X₂ (omega arith)

    leg_y : Leg (sub binary64 (of_int binary64 y₂) (of_int binary64 y₁)) d (nat_abs (y₁ -ℤ y₂))
    leg_y = leg_of D L y₁ y₂ Y₁ Y₂ (omega arith)

    foot-x : {f : Float} → Most r₁ 1074 f
        → Most 40000 1074
        (add binary64 (of_int binary64 x₁)
        (div binary64 (mul binary64 f (sub binary64 (of_int binary64 x₂) (of_int binary64 x₁))) d))
    foot-x F = foot_most leg_x d_finite d_least L₁ (of_int_most x₁ (omega arith) X₁) F

    foot-y : {f : Float} → Most r₁ 1074 f
        → Most 40000 1074
        (add binary64 (of_int binary64 y₁)
        (div binary64 (mul binary64 f (sub binary64 (of_int binary64 y₂) (of_int binary64 y₁))) d))
    foot-y F = foot_most leg_y d_finite d_least L₁ (of_int_most y₁ (omega arith) Y₁) F

    -- ---- the points are not the centres

    abbrev Δx : Float
    Δx = sub binary64 (of_int binary64 x₂) (of_int binary64 x₁)

    abbrev Δy : Float
    Δy = sub binary64 (of_int binary64 y₂) (of_int binary64 y₁)

    abbrev mx : ℕ
    mx = nat_abs (x₁ -ℤ x₂)

    abbrev my : ℕ
    my = nat_abs (y₁ -ℤ y₂)

    ahead : negative d ≡ false
    ahead = plus_sign d (omega (arith, root_up D L, d_least, one_pos))

    some_leg : (0 < mx) ⊎ (0 < my)
    some_leg = go (cases_lt 0 mx) (cases_lt 0 my)
      where
        go : (0 < mx) ⊎ (mx ≤ 0) → (0 < my) ⊎ (my ≤ 0) → (0 < mx) ⊎ (0 < my)
        go (inl h) k = inl h
        go (inr h) (inl k) = inr k
        go (inr h) (inr k) = absurd (omega (arith, mul-le-mul h h, mul-le-mul k k))

    -- the foot at f along, and ρ across from it
    abbrev point_at : Float → Float → Float → Point
    point_at f ρx ρy =
        at (add binary64 (add binary64 (of_int binary64 x₁) (div binary64 (mul binary64 f Δx) d)) ρx)
        (add binary64 (add binary64 (of_int binary64 y₁) (div binary64 (mul binary64 f Δy) d)) ρy)

    module _ {f : Float} (F : Most r₁ 1074 f) where
      way_x : Most 20000 1074 (div binary64 (mul binary64 f Δx) d)
      way_x = most_weaken (way_most leg_x d_finite d_least L₁ F) L₁

      way_y : Most 20000 1074 (div binary64 (mul binary64 f Δy) d)
      way_y = most_weaken (way_most leg_y d_finite d_least L₁ F) L₁

      -- across, to one side or to the other (e)
      module _ {ρx ρy : Float} (Rx : Most 40000 1074 ρx) (Ry : Most 40000 1074 ρy) (e : Bool)
          (ex : negative ρx ≡ unlike e (not (negative Δy))) (ey : negative ρy ≡ unlike e (negative Δx))
          (lx : 0 < my → 1 * pow2 1041 ≤ mag ρx) (ly : 0 < mx → 1 * pow2 1041 ≤ mag ρy) where
        off_first : Off A.center (point_at f ρx ρy)
        off_first =
            off_both (axis_first x₁ X₁ way_x Rx) (axis_first y₁ Y₁ way_y Ry) mx my some_leg (negative f) (negative Δx)
            (negative Δy) e ex ey lx ly
            (side_of_first leg_x d_finite d_least ahead L₁ F) (side_of_first leg_y d_finite d_least ahead L₁ F)

        off_second : Off B.center (point_at f ρx ρy)
        off_second = go (cases_lt (plus f) (mag d))
          where
            by : (g : Bool) → (g ≡ false → mag d ≤ plus f) → (g ≡ true → plus f ≤ mag d)
                → Off B.center (point_at f ρx ρy)
            by g long short =
                off_both (axis_second x₁ x₂ X₁ X₂ leg_x.finite way_x Rx) (axis_second y₁ y₂ Y₁ Y₂ leg_y.finite way_y Ry)
                mx my some_leg
                g (negative Δx) (negative Δy) e ex ey lx ly
                (side_of_second leg_x d_finite d_least ahead L₁ F g long short)
                (side_of_second leg_y d_finite d_least ahead L₁ F g long short)

            go : (plus f < mag d) ⊎ (mag d ≤ plus f) → Off B.center (point_at f ρx ρy)
            go (inl h) = by true (λ q. absurd (true≢false q)) (λ q. le_of_lt h)
            go (inr h) = by false (λ q. h) (λ q. absurd (true≢false (sym q)))

    abbrev foot_x : Float → Float
    foot_x f = add binary64 (of_int binary64 x₁) (div binary64 (mul binary64 f Δx) d)

    abbrev foot_y : Float → Float
    foot_y f = add binary64 (of_int binary64 y₁) (div binary64 (mul binary64 f Δy) d)

    abbrev across_x : Float → Float
    across_x h = mul binary64 (neg Δy) (div binary64 h d)

    abbrev across_y : Float → Float
    across_y h = mul binary64 Δx (div binary64 h d)

    -- nothing across: the distance is the whole number n, and f is r₁ or -r₁
    off_touch : (n : ℕ) → d ≡ float n → 1 ≤ n → n ≤ 40000 → {f : Float} → Most r₁ 1074 f → mag f ≡ r₁ * one
        → {ρx ρy : Float} → Most 0 1074 ρx → Most 0 1074 ρy
        → Off A.center (point_at f ρx ρy)
        × (((negative f ≡ false) × ((r₁ < n) ⊎ (n < r₁))) ⊎ (negative f ≡ true) → Off B.center (point_at f ρx ρy))
    off_touch n E p q {f} F size {ρx} {ρy} Rx Ry = go some_leg
      where
        Rx' : Most 40000 1074 ρx
        Rx' = most_weaken Rx (omega arith)

        Ry' : Most 40000 1074 ρy
        Ry' = most_weaken Ry (omega arith)

        lx : Leg Δx (float n) mx
        lx = subst (λ (z : Float). Leg Δx z mx) E leg_x

        ly : Leg Δy (float n) my
        ly = subst (λ (z : Float). Leg Δy z my) E leg_y

        at_x : {T c : Float} → Axis (of_int binary64 x₁) (div binary64 (mul binary64 f Δx) d) ρx T c
            → Axis (of_int binary64 x₁) (div binary64 (mul binary64 f Δx) (float n)) ρx T c
        at_x {T} {c} = subst (λ (z : Float). Axis (of_int binary64 x₁) (div binary64 (mul binary64 f Δx) z) ρx T c) E

        at_y : {T c : Float} → Axis (of_int binary64 y₁) (div binary64 (mul binary64 f Δy) d) ρy T c
            → Axis (of_int binary64 y₁) (div binary64 (mul binary64 f Δy) (float n)) ρy T c
        at_y {T} {c} = subst (λ (z : Float). Axis (of_int binary64 y₁) (div binary64 (mul binary64 f Δy) z) ρy T c) E

        go : (0 < mx) ⊎ (0 < my)
            → Off A.center (point_at f ρx ρy)
            × (((negative f ≡ false) × ((r₁ < n) ⊎ (n < r₁))) ⊎ (negative f ≡ true)
            → Off B.center (point_at f ρx ρy))
        go (inl k) = (
          inl (rw E (touch_off_first lx k p q P₁ L₁ F size (at_x (axis_first x₁ X₁ (way_x F) Rx')) Rx)),
          λ s. inl
              (rw E (touch_off_second lx k p q P₁ L₁ F size s (at_x (axis_second x₁ x₂ X₁ X₂ leg_x.finite (way_x F) Rx'))
              Rx)),
        )
        go (inr k) = (
          inr (rw E (touch_off_first ly k p q P₁ L₁ F size (at_y (axis_first y₁ Y₁ (way_y F) Ry')) Ry)),
          λ s. inr
              (rw E (touch_off_second ly k p q P₁ L₁ F size s (at_y (axis_second y₁ y₂ Y₁ Y₂ leg_y.finite (way_y F) Ry'))
              Ry)),
        )

    -- They touch: the distance is a whole number n, and r₁² - r₂² + n² is 2 r₁ n or -2 r₁ n.
    pub touching : (n : ℕ) → D ≡ n * n → 1 ≤ n → n ≤ 40000
        → (r₁ * r₁ + n * n ≡ r₂ * r₂ + 2 * (r₁ * n)) ⊎ (r₂ * r₂ ≡ r₁ * r₁ + n * n + 2 * (r₁ * n))
        → Found A.center B.center (crossing A B d) 1
    touching n e p q h =
        let E : d ≡ float n = ap root_of e ∙ root_square n (omega (arith, mul-le-mul q q)) in
        let F : Most r₁ 1074 (along r₁ r₂ d) =
        subst (λ (z : Float). Most r₁ 1074 (along r₁ r₂ z)) (sym E) (touch.along_most r₁ r₂ n L₁ L₂ p q h) in
        let H : Most 0 1074 (across r₁ (along r₁ r₂ d)) =
        subst (λ (z : Float). Most 0 1074 (across r₁ (along r₁ r₂ z))) (sym E)
        (touch.across_none r₁ r₂ n L₁ L₂ p q h) in
        let Rx = offset_none (leg_neg leg_y) d_finite d_least L₁ H in
        let Ry = offset_none leg_x d_finite d_least L₁ H in
        let M : mag (along r₁ r₂ d) ≡ r₁ * one =
        subst (λ (z : Float). mag (along r₁ r₂ z) ≡ r₁ * one) (sym E) (touch.along_mag r₁ r₂ n L₁ L₂ p q h) in
        let S = touch.along_side r₁ r₂ n L₁ L₂ p q h P₁ P₂ in
        found_one (foot-x F) (foot-y F) Rx Ry (off_touch n E p q F M Rx Ry).0
        ((off_touch n E p q F M Rx Ry).1 (rw (← E) at S))

    -- the foot's distance along, and how far the points lie across
    abbrev forward : Float
    forward = along r₁ r₂ d

    abbrev sideways : Float
    sideways = across r₁ forward

    -- They cross: t² < D < s².
    pub crossed : gap r₁ r₂ * gap r₁ r₂ < D → D < (r₁ + r₂) * (r₁ + r₂) → Found A.center B.center (crossing A B d) 2
    crossed low high =
        let G = cross.along_most r₁ r₂ D P₁ L₁ P₂ L₂ low high in
        let F : Most r₁ 1074 (along r₁ r₂ d) = most_coarser G 33 r₁ (omega arith) in
        let H = across_most r₁ P₁ L₁ G in
        let over = across_over r₁ P₁ L₁ G (root_most D L) d_least in
        let Rx : Most 40000 1074 (across_x sideways) =
        most_weaken (offset_most (leg_neg leg_y) d_finite d_least L₁ H over) (omega arith) in
        let Ry : Most 40000 1074 (across_y sideways) =
        most_weaken (offset_most leg_x d_finite d_least L₁ H over) (omega arith) in
        let ex = offset_sign (leg_neg leg_y) d_finite d_least ahead L₁ H (plain G) over ∙ neg_sign leg_y.finite in
        let ey = offset_sign leg_x d_finite d_least ahead L₁ H (plain G) over in
        let lx : 0 < my → 1 * pow2 1041 ≤ mag (across_x sideways) =
        λ k. offset_least r₁ P₁ L₁ G (root_most D L) d_least (leg_neg leg_y) k in
        let ly : 0 < mx → 1 * pow2 1041 ≤ mag (across_y sideways) =
        λ k. offset_least r₁ P₁ L₁ G (root_most D L) d_least leg_x k in
        let Rx' = neg_most Rx in
        let Ry' = neg_most Ry in
        let ex' = neg_sign Rx.finite ∙ ap not ex ∙ turned (not (negative Δy)) in
        let ey' = neg_sign Ry.finite ∙ ap not ey ∙ turned (negative Δx) in
        let lx' : 0 < my → 1 * pow2 1041 ≤ mag (neg (across_x sideways)) =
        λ k. le_trans (lx k) (le_of_eq (sym (neg_mag (across_x sideways)))) in
        let ly' : 0 < mx → 1 * pow2 1041 ≤ mag (neg (across_y sideways)) =
        λ k. le_trans (ly k) (le_of_eq (sym (neg_mag (across_y sideways)))) in
        let one_way : (c : Point) → Off c (point_at forward (neg (across_x sideways)) (neg (across_y sideways)))
        → Off c (second (foot_x forward) (foot_y forward) (across_x sideways) (across_y sideways)) =
        λ c o. rw (sub_is (foot_x forward) (across_x sideways), sub_is (foot_y forward) (across_y sideways)) o in
        found_two (foot-x F) (foot-y F) Rx Ry (go G (cases_lt 0 my)) (
          off_first F Rx Ry false (ex ∙ as_it_is (not (negative Δy))) (ey ∙ as_it_is (negative Δx)) lx ly,
          one_way A.center (off_first F Rx' Ry' true ex' ey' lx' ly'),
        ) (
          off_second F Rx Ry false (ex ∙ as_it_is (not (negative Δy))) (ey ∙ as_it_is (negative Δx)) lx ly,
          one_way B.center (off_second F Rx' Ry' true ex' ey' lx' ly'),
        )
      where
        plain : Most (r₁ * 2 ^ 33 - 1) 1041 (along r₁ r₂ d) → negative (across r₁ (along r₁ r₂ d)) ≡ false
        plain G =
            plus_sign (across r₁ (along r₁ r₂ d))
            (omega (
              arith,
              across_least r₁ P₁ L₁ G,
              pow2_pos 1057,
              plus_minus (across r₁ (along r₁ r₂ d)),
              root_minus (rest r₁ (along r₁ r₂ d)) (sub-fits binary64 _ _),
            ))

        go : Most (r₁ * 2 ^ 33 - 1) 1041 (along r₁ r₂ d) → (0 < nat_abs (y₁ -ℤ y₂)) ⊎ (nat_abs (y₁ -ℤ y₂) ≤ 0)
            → (1 * pow2 1041 ≤ mag
            (mul binary64 (neg (sub binary64 (of_int binary64 y₂) (of_int binary64 y₁)))
            (div binary64 (across r₁ (along r₁ r₂ d)) d)))
            ⊎ (1 * pow2 1041 ≤ mag
            (mul binary64 (sub binary64 (of_int binary64 x₂) (of_int binary64 x₁))
            (div binary64 (across r₁ (along r₁ r₂ d)) d)))
        go G (inl h) = inl (offset_least r₁ P₁ L₁ G (root_most D L) d_least (leg_neg leg_y) h)
        go G (inr h) = inr (offset_least r₁ P₁ L₁ G (root_most D L) d_least leg_x some)
          where
            some : 0 < nat_abs (x₁ -ℤ x₂)
            some = lt_of_not-le (λ (k : nat_abs (x₁ -ℤ x₂) ≤ 0). omega (arith, mul-le-mul h h, mul-le-mul k k))
