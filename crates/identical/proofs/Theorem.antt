-- Of two identical heads the higher one gets no arc, whatever points are counted for it: the middle of each gap between two of them lies on the edge of
-- the lower one, and without points so does the probe (boundary's Identical).
use mathlib.Core.Path.{◌≡◌, refl, sym, ap, ap₂, ◌∙◌, subst, subst₂}
use mathlib.Core.Bool.{Bool, true, false, cond, not, ◌&&◌, ◌||◌}
use mathlib.Core.List.{List, [], ◌∷◌, ◌++◌, map, append_assoc, map-append}
use Prim.Native.Nat.{ℕ, zero, suc, ◌+◌, ◌%◌, ◌≤◌, ◌<◌}
use native.Mathlib.Omega.{arith}
use lib.Dec.{ltb}
use lib.IntN.{ℤ, nat_abs}
use lib.Ieee.{Float, nan, binary64, of_int}
use lib.ListN.{length, get_or, length-append, length-map}
use borrow.Author.Tests.{lt-ltb, ne_eqb}
use Rattle.lists.specs.Lists.{up_to}
use Rattle.binary64.specs.Constants.{one64}
use Rattle.binary64.specs.Floats.{◌+ᶠ◌, ◌<ᶠ◌}
use Rattle.elementary.specs.SinePromise.{Domain}
use Rattle.heads.specs.Cases.{at_least_one}
use Rattle.heads.specs.Distance.{limits_of}
use Rattle.heads.specs.Pair.{radius_of}
use Rattle.exact.specs.Circle.{circle_of}
use Rattle.geometry.specs.declared.circle.Circle.{Circle}
use Rattle.geometry.specs.declared.point.Point.{Point}
use Rattle.intersections.specs.Members.{Member, circles_of}
use Rattle.boundary.specs.Identical.{whole_circle}
use Rattle.boundary.specs.NoArc.{NoneOf}
use Rattle.boundary.specs.Outline.{implicit_value, tolerance, lets, owned_from, owned, point_at, gap, collapsed, between as arc_between, arc_from, arcs_at, angle_about, angles_of, outline}
use Rattle.boundary.proofs.Identical.{lower_owns}
use Rattle.boundary.proofs.OnePoint.{none_in}
use Rattle.outline.specs.Counts.{sorted_length}
use Rattle.finite.specs.Domains.{middle_of_gap}
use Rattle.finite.proofs.Domains.{angles_in_domain}
use Rattle.identical.specs.Identical.{HigherHasNoArc}
use Rattle.identical.proofs.Edge.{on_edge}

-- ---- lists

none_of_all : {A : Type 0} (f : ℕ → List A) (n : ℕ) → ((i : ℕ) → i < n → f i ≡ []) → up_to f n ≡ []
unfolding up_to
none_of_all f zero h = refl
none_of_all f (suc n) h = ap₂ (λ s t. s ++ t) (none_of_all f n (λ i l. h i (omega arith))) (h n (omega arith))

no_more : (b : Bool) → (b && false) ≡ false
no_more true = refl
no_more false = refl

-- ---- a point that a lower position keeps

not_owned : (p : Point) (c : Circle) (k : ℕ) → ((l : ℕ) → l < k → lets k p l c ≡ false) → (j : ℕ) (before after : List Circle) → j + length before < k
    → owned_from k p j (before ++ (c ∷ after)) ≡ false
unfolding owned_from
not_owned p c k keeps j [] after h = rw (keeps j (omega arith)) refl
not_owned p c k keeps j (d ∷ before) after h =
    ap (λ (b : Bool). lets k p j d && b) (not_owned p c k keeps (suc j) before after (omega arith)) ∙ no_more (lets k p j d)

-- no gap's middle is k's own: no arc
arcs_none : (cs : List Circle) (k : ℕ) (c : Circle) (phis : List Float) → 0 < length phis
    → ((i : ℕ) → i < length phis → owned k (point_at c (middle_of_gap phis i)) cs ≡ false) → arcs_at cs k c phis ≡ []
unfolding arcs_at arc_from
arcs_none cs k c [] some h = absurd (omega arith)
arcs_none cs k c (phi ∷ phis) some h = none_of_all (arc_from cs k c (phi ∷ phis)) (length (phi ∷ phis)) (λ i l. one i (h i l))
  where
    one : (i : ℕ) → owned k (point_at c (middle_of_gap (phi ∷ phis) i)) cs ≡ false → arc_from cs k c (phi ∷ phis) i ≡ []
    one i e =
        let all = phi ∷ phis in
        let a = get_or all i nan in
        let delta = gap a (get_or all ((i + 1) % length all) nan) in
        ap (λ (b : Bool). cond (not (collapsed delta) && b) (arc_between k c a delta ∷ []) []) e
        ∙ ap (λ (b : Bool). cond b (arc_between k c a delta ∷ []) []) (no_more (not (collapsed delta)))

module _ (x y : ℤ) (r : ℕ) (hx : nat_abs x ≤ 20000) (hy : nat_abs y ≤ 20000) (least : 1 ≤ r) (most : r ≤ 20000) where
  abbrev c : Circle
  c = whole_circle x y r

  -- the lower of two lets the higher not have a point of the edge
  keeps : (phi : Float) → Domain phi → (k l : ℕ) → l < k → lets k (point_at c phi) l c ≡ false
  unfolding lets
  keeps phi dom k l h =
      ap₂ (λ (e b : Bool). e || (not (one64 +ᶠ tolerance c <ᶠ implicit_value (point_at c phi) c) && not (b && ltb l k))) (ne_eqb l k (λ e. omega arith))
      (on_edge x y r hx hy least most phi dom)
      ∙ ap (λ (t : Bool). not (one64 +ᶠ tolerance c <ᶠ implicit_value (point_at c phi) c) && not t) (lt-ltb l k h)
      ∙ no_more (not (one64 +ᶠ tolerance c <ᶠ implicit_value (point_at c phi) c))

  -- a member with points gets no arc after its twin
  no_arcs : (m : Member) → m.circle ≡ c → 0 < length m.points → (k : ℕ) (before after : List Circle) → length before < k
      → arcs_at (before ++ (c ∷ after)) k m.circle (angles_of m) ≡ []
  unfolding angles_of
  no_arcs m e some k before after h =
      arcs_none (before ++ (c ∷ after)) k m.circle (angles_of m)
      (omega (arith, sorted_length (map (angle_about m.circle) m.points), length-map m.points (angle_about m.circle)))
      (λ i l.
      ap (λ (d : Circle). owned k (point_at d (middle_of_gap (angles_of m) i)) (before ++ (c ∷ after))) e
      ∙ not_owned (point_at c (middle_of_gap (angles_of m) i)) c k (keeps (middle_of_gap (angles_of m) i) ((angles_in_domain (m ∷ [])).gaps.0 i l) k)
      0 before after (omega arith))

  twins : (before between after : List Member) (l m : Member) → l.circle ≡ c → m.circle ≡ c
      → NoneOf (length before + suc (length between)) (outline (before ++ (l ∷ (between ++ (m ∷ after)))))
  twins before between after l m el em = by m.points refl
    where
      with_points : 0 < length m.points → NoneOf (length before + suc (length between)) (outline (before ++ (l ∷ (between ++ (m ∷ after)))))
      with_points some =
          let front = before ++ (l ∷ between) in
          let whole : front ++ (m ∷ after) ≡ before ++ (l ∷ (between ++ (m ∷ after))) = append_assoc before (l ∷ between) (m ∷ after) in
          let place : length front ≡ length before + suc (length between) = length-append before (l ∷ between) in
          let circles : circles_of (front ++ (m ∷ after)) ≡ circles_of before ++ (c ∷ circles_of (between ++ (m ∷ after))) =
          ap circles_of whole ∙ map-append (λ (n : Member). n.circle) before (l ∷ (between ++ (m ∷ after)))
          ∙ ap (λ (d : Circle). circles_of before ++ (d ∷ circles_of (between ++ (m ∷ after)))) el in
          subst (λ (k : ℕ). NoneOf k (outline (before ++ (l ∷ (between ++ (m ∷ after)))))) place
          (subst (λ ms. NoneOf (length front) (outline ms)) whole
          (none_in front after m (omega (arith, place))
          (ap (λ cs. arcs_at cs (length front) m.circle (angles_of m)) circles
          ∙ no_arcs m em some (length front) (circles_of before) (circles_of (between ++ (m ∷ after)))
          (omega (arith, place, length-map before (λ (n : Member). n.circle))))))

      by : (ps : List Point) → m.points ≡ ps → NoneOf (length before + suc (length between)) (outline (before ++ (l ∷ (between ++ (m ∷ after)))))
      by (q ∷ ps) e = with_points (subst (λ qs. 0 < length qs) (sym e) (omega arith))
      by [] e =
          subst₂
          (λ (d : Circle) (ps : List Point).
          NoneOf (length before + suc (length between)) (outline (before ++ (l ∷ (between ++ (record { circle = d; points = ps } ∷ after))))))
          (sym em) (sym e) ((lower_owns x y r hx hy least most).higher before between after l el)

pub higher_has_no_arc : HigherHasNoArc
higher_has_no_arc h t o before between after l m el em =
    let limits = limits_of h t in
    let same : circle_of h ≡ whole_circle h.x h.y (radius_of h) = ap (λ (r : ℤ). whole_circle_of r) limits.whole in
    twins h.x h.y (radius_of h) limits.x limits.y (at_least_one (radius_of h) o) limits.most before between
    after l m (el ∙ same) (em ∙ same)
  where
    whole_circle_of : ℤ → Circle
    whole_circle_of r = record { center = (circle_of h).center; radius = of_int binary64 r }
