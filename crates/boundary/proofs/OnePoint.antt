-- "A head with just one meeting point counted for it gets no arc there": its one gap is a full turn, and a full turn is skipped.
use mathlib.Core.Path.{◌≡◌, refl, sym, subst}
use mathlib.Core.Bool.{Bool, true, false, cond, not, ◌&&◌}
use mathlib.Core.List.{List, [], ◌∷◌, ◌++◌, map}
use Prim.Native.Nat.{ℕ, suc, ◌+◌, ◌%◌, ◌≤◌}
use native.Mathlib.Omega.{arith}
use lib.ListN.{length, get_or}
use lib.Ieee.Fits.{sub-fits}
use lib.Ieee.{Float, nan, inf, fin, binary64, neg, add, sub, lt, le, round, of_bits}
use Rattle.binary64.specs.Constants.{half64}
use Rattle.binary64.specs.Units.{Finite, negative, signed_zero}
use Rattle.binary64.proofs.Units.{neg_finite, neg_plus, neg_minus}
use Rattle.binary64.proofs.Operations.{add_zero_sum}
use Rattle.lists.specs.Lists.{up_to}
use Rattle.lists.specs.Every.{Every, every_append, every_map, every_up_to}
use Rattle.elementary.proofs.arctangent.Promise.{atan2_promise}
use Rattle.binary64.specs.Floats.{◌+ᶠ◌, ◌*ᶠ◌}
use Rattle.geometry.specs.declared.circle.Circle.{Circle}
use Rattle.geometry.specs.declared.point.Point.{Point}
use Rattle.intersections.specs.Members.{Member, circles_of}
use Rattle.boundary.specs.declared.arcs.BoundaryArc.{BoundaryArc}
use Rattle.boundary.specs.NoArc.{NoneOf, OnePointNoArc}
use Rattle.boundary.specs.Outline.{gap, collapsed, owned, point_at, probe, full_circle, between, angle_about, arc_from, arcs_at, angles_of}
use Rattle.boundary.specs.Outline.{outline_from, outline}
use Rattle.boundary.specs.Sort.{sorted, insert_by, sort_onto_by, sorted_by}

opposite_signs : (x : Float) → Finite x → (negative x && negative (neg x)) ≡ false
unfolding neg
opposite_signs nan f = absurd f.number
opposite_signs (inf s) f = absurd f.number
opposite_signs (fin true m e) f = refl
opposite_signs (fin false m e) f = refl

-- a finite float less itself is +0
pub less_itself : (x : Float) → Finite x → sub binary64 x x ≡ signed_zero false
unfolding sub
less_itself x f =
    rw (sym (opposite_signs x f)) (add_zero_sum f (neg_finite f) (omega (arith, neg_plus f, neg_minus f)))

-- so the gap from an angle to itself is a full turn, which counts as none
full_turn_collapsed : (phi : Float) → Finite phi → collapsed (gap phi phi) ≡ true
unfolding gap collapsed add sub lt le round of_bits
full_turn_collapsed phi f = rw (less_itself phi f) refl

pub one_point_no_arc : (cs : List Circle) (k : ℕ) (c : Circle) (phi : Float) → Finite phi → arcs_at cs k c (phi ∷ []) ≡ []
unfolding arcs_at up_to arc_from
one_point_no_arc cs k c phi f = rw (full_turn_collapsed phi f) refl

-- ---- of a member, and of a set

-- what atan2 gives is finite, whatever the point
angle_finite : (c : Circle) (p : Point) → Finite (angle_about c p)
unfolding angle_about
angle_finite c p = (atan2_promise.always _ _ (sub-fits binary64 _ _) (sub-fits binary64 _ _)).finite

-- A member with one counted point gets no arc.
pub member_no_arc : (cs : List Circle) (k : ℕ) (m : Member) → length m.points ≡ 1 → arcs_at cs k m.circle (angles_of m) ≡ []
unfolding angles_of sorted_by sort_onto_by insert_by
member_no_arc cs k m e = one m.points e
  where
    one : (l : List Point) → length l ≡ 1 → arcs_at cs k m.circle (sorted (map (angle_about m.circle) l)) ≡ []
    one [] h = absurd (omega arith)
    one (p ∷ []) h = one_point_no_arc cs k m.circle (angle_about m.circle p) (angle_finite m.circle p)
    one (p ∷ (q ∷ l)) h = absurd (omega arith)

-- the arcs of a member are its own
own_arc : (P : BoundaryArc → Type 0) (b : Bool) (arc : BoundaryArc) → P arc → Every P (cond b (arc ∷ []) [])
own_arc P true arc h = (h, tt)
own_arc P false arc h = tt

gap_own : (cs : List Circle) (k : ℕ) (c : Circle) (phis : List Float) (i : ℕ) → Every (λ arc. arc.circle ≡ k) (arc_from cs k c phis i)
unfolding arc_from between
gap_own cs k c phis i =
    let a = get_or phis i nan in
    let delta = gap a (get_or phis ((i + 1) % length phis) nan) in
    own_arc (λ arc. arc.circle ≡ k) (not (collapsed delta) && owned k (point_at c (a +ᶠ delta *ᶠ half64)) cs) (between k c a delta) refl

arcs_own : (cs : List Circle) (k : ℕ) (c : Circle) (phis : List Float) → Every (λ arc. arc.circle ≡ k) (arcs_at cs k c phis)
unfolding arcs_at full_circle
arcs_own cs k c [] = own_arc (λ arc. arc.circle ≡ k) (owned k (probe c) cs) (full_circle k c) refl
arcs_own cs k c (phi ∷ phis) = every_up_to (λ arc. arc.circle ≡ k) (arc_from cs k c (phi ∷ phis)) (length (phi ∷ phis)) (λ i h. gap_own cs k c (phi ∷ phis) i)

-- those of the members from position j on are of j or later
later_own : (cs : List Circle) (j : ℕ) (ms : List Member) → Every (λ arc. j ≤ arc.circle) (outline_from cs j ms)
unfolding outline_from
later_own cs j [] = tt
later_own cs j (m ∷ ms) =
    every_append (λ arc. j ≤ arc.circle) (arcs_at cs j m.circle (angles_of m)) (outline_from cs (suc j) ms)
    (every_map (arcs_at cs j m.circle (angles_of m)) (λ arc e. omega (arith, e)) (arcs_own cs j m.circle (angles_of m)))
    (every_map (outline_from cs (suc j) ms) (λ arc h. omega (arith, h)) (later_own cs (suc j) ms))

-- A member without arcs has none in the outline from position j on, where it stands after those of `before`.
none_from : (cs : List Circle) (j : ℕ) (before after : List Member) (m : Member) → arcs_at cs (j + length before) m.circle (angles_of m) ≡ []
    → NoneOf (j + length before) (outline_from cs j (before ++ (m ∷ after)))
unfolding outline_from
none_from cs j [] after m e =
    rw (here e) (every_map (outline_from cs (suc j) after) (λ arc h d. omega (arith, h, d)) (later_own cs (suc j) after))
  where
    here : arcs_at cs (j + 0) m.circle (angles_of m) ≡ [] → arcs_at cs j m.circle (angles_of m) ≡ []
    here e = let first : j + 0 ≡ j = omega arith in subst (λ (k : ℕ). arcs_at cs k m.circle (angles_of m) ≡ []) first e
none_from cs j (m' ∷ before) after m e =
    every_append (λ arc. arc.circle ≡ j + suc (length before) → ⊥) (arcs_at cs j m'.circle (angles_of m')) (outline_from cs (suc j) (before ++ (m ∷ after)))
    (every_map (arcs_at cs j m'.circle (angles_of m')) (λ arc h d. omega (arith, h, d)) (arcs_own cs j m'.circle (angles_of m')))
    (every_map (outline_from cs (suc j) (before ++ (m ∷ after))) (λ arc h d. h (omega (arith, d))) (none_from cs (suc j) before after m (there e)))
  where
    there : arcs_at cs (j + suc (length before)) m.circle (angles_of m) ≡ [] → arcs_at cs (suc j + length before) m.circle (angles_of m) ≡ []
    there e =
        let next : j + suc (length before) ≡ suc j + length before = omega arith in
        subst (λ (k : ℕ). arcs_at cs k m.circle (angles_of m) ≡ []) next e

-- from the first position on
none_at : (cs : List Circle) (before after : List Member) (m : Member) → arcs_at cs (length before) m.circle (angles_of m) ≡ []
    → NoneOf (length before) (outline_from cs 0 (before ++ (m ∷ after)))
none_at cs before after m e =
    let first : 0 + length before ≡ length before = omega arith in
    subst (λ (k : ℕ). NoneOf k (outline_from cs 0 (before ++ (m ∷ after)))) first
    (none_from cs 0 before after m (subst (λ (k : ℕ). arcs_at cs k m.circle (angles_of m) ≡ []) (sym first) e))

-- In a larger set a member without arcs of its own has none in the outline.
pub none_in : (before after : List Member) (m : Member) → 2 ≤ length before + suc (length after)
    → arcs_at (circles_of (before ++ (m ∷ after))) (length before) m.circle (angles_of m) ≡ [] → NoneOf (length before) (outline (before ++ (m ∷ after)))
unfolding outline
none_in [] [] m l e = absurd (omega arith)
none_in [] (m' ∷ after) m l e = none_at (circles_of (m ∷ (m' ∷ after))) [] (m' ∷ after) m e
none_in (m' ∷ []) after m l e = none_at (circles_of (m' ∷ (m ∷ after))) (m' ∷ []) after m e
none_in (m' ∷ (m'' ∷ before)) after m l e =
    none_at (circles_of (m' ∷ (m'' ∷ (before ++ (m ∷ after))))) (m' ∷ (m'' ∷ before)) after m e

-- A head with just one meeting point counted for it gets no arc there.
pub one_counted_point : OnePointNoArc
one_counted_point before after m l e =
    none_in before after m l (member_no_arc (circles_of (before ++ (m ∷ after))) (length before) m e)
