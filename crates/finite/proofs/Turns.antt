-- Angles of points, gaps between them, and an angle wrapped: the first and the last are at most PI, and a gap is at most 2 × PI. What holds of full
-- circles, and of arcs from such an angle over such a gap, holds of every arc of an outline. Rests on atan2's promise.
use mathlib.Core.Path.{◌≡◌, refl}
use mathlib.Core.Bool.{Bool, true, false, cond, not, ◌&&◌}
use mathlib.Core.List.{List, [], ◌∷◌, map}
use Prim.Native.Nat.{ℕ, suc, ◌+◌, ◌*◌, ◌%◌, ◌<◌}
use native.Mathlib.Nat.{mod-lt, le_refl, le_trans}
use native.Mathlib.Omega.{arith}
use lib.Dec.{lit≤}
use lib.ListN.{length, get_or}
use lib.Ieee.{Float, nan, binary64, of_bits}
use lib.Ieee.Fits.{sub-fits}
use Rattle.binary64.specs.Units.{Finite, mag, pow2, plus, minus, negative}
use Rattle.binary64.specs.Functions.{rem_euclid, FromZeroTo}
use Rattle.binary64.specs.Magnitude.{Most}
use Rattle.binary64.specs.Constants.{zero64, half64, pi, two_pi}
use Rattle.binary64.proofs.Constants.{pi_most, two_pi_most, two_pi_least}
use Rattle.binary64.proofs.Magnitude.{add_most, sub_most}
use Rattle.binary64.proofs.Operations.{add_result, sub_result, result_le}
use Rattle.binary64.proofs.Remainder.{rem_euclid_within}
use Rattle.binary64.proofs.Units.{pow2_pos, mag_digits, plus_minus, plus_is, units_of_lt, units_of_not_lt, units_of_le, zero64_finite, zero64_plus, zero64_minus}
use Rattle.elementary.specs.ArctangentPromise.{UpToPi}
use Rattle.binary64.specs.Floats.{◌+ᶠ◌, ◌-ᶠ◌, ◌*ᶠ◌, ◌<ᶠ◌, ◌≤ᶠ◌}
use Rattle.geometry.specs.declared.point.Point.{Point}
use Rattle.geometry.specs.declared.circle.Circle.{Circle}
use Rattle.boundary.specs.declared.arcs.BoundaryArc.{BoundaryArc}
use Rattle.lists.specs.Every.{Every, every_append, every_up_to, every_at}
use Rattle.intersections.specs.Members.{Member, circles_of}
use Rattle.boundary.specs.Outline.{angle_about, wrap_angle, gap, collapsed, owned, point_at, probe, full_circle, between, arc_from, arcs_at, angles_of, outline_from, outline}
use Rattle.finite.specs.Domains.{UpToTurn}
use Rattle.boundary.proofs.Ordering.{sorted_every}
use Rattle.finite.proofs.Promises.{up_to_four, arctangent_within}

-- ---- constants

positive_constants : (negative pi ≡ false) × (negative two_pi ≡ false)
unfolding of_bits
positive_constants = (refl, refl)

half-turn : (plus pi ≡ mag pi) × (minus pi ≡ 0)
half-turn = plus_is pi positive_constants.0

whole_turn : (plus two_pi ≡ mag two_pi) × (minus two_pi ≡ 0)
whole_turn = plus_is two_pi positive_constants.1

-- The float 2 × PI is twice the float PI.
twice : mag two_pi ≡ 2 * mag pi
unfolding of_bits mag pow2
twice = refl

pub seven : {t : Float} → UpToTurn t → Most 7 1074 t
seven u = record { finite = u.finite; bound = le_trans u.most two_pi_most.bound }

-- ---- angles

angles_within : (c : Circle) (l : List Point) → Every UpToPi (map (angle_about c) l)
unfolding angle_about
angles_within c [] = tt
angles_within c (p ∷ l) = (arctangent_within _ _ (sub-fits binary64 _ _) (sub-fits binary64 _ _), angles_within c l)

pub sorted_within : (m : Member) → Every UpToPi (angles_of m)
unfolding angles_of
sorted_within m = sorted_every UpToPi (map (angle_about m.circle) m.points) (angles_within m.circle m.points)

-- a difference of two angles
difference_within : (a b : Float) → UpToPi a → UpToPi b → UpToTurn (b -ᶠ a)
difference_within a b ha hb =
    let f = (sub_most (up_to_four hb) (up_to_four ha) (lit≤ tt) (lit≤ tt)).finite in
    let p = plus_minus a in
    let q = plus_minus b in
    record {
      finite = f;
      most = result_le (le_refl 1) (sub_result hb.finite ha.finite) (mag_digits two_pi_most.finite) (omega (arith, ha.most, hb.most, twice)) (omega (arith, ha.most, hb.most, twice)) f;
    }

-- one that is not above zero, and a turn more
turned_within : {d : Float} → UpToTurn d → (d ≤ᶠ zero64) ≡ true → UpToTurn (d +ᶠ two_pi)
turned_within {d} h e =
    let f = (add_most (seven h) two_pi_most (lit≤ tt) (lit≤ tt)).finite in
    let below = units_of_le h.finite zero64_finite e in
    let p = plus_minus d in
    record {
      finite = f;
      most = result_le (le_refl 1) (add_result h.finite two_pi_most.finite) (mag_digits two_pi_most.finite) (omega (arith, whole_turn, zero64_plus, zero64_minus)) (omega (arith, whole_turn, h.most)) f;
    }

-- a gap between angles
pub gap_within : (a b : Float) → UpToPi a → UpToPi b → UpToTurn (gap a b)
unfolding gap
gap_within a b ha hb = by (b -ᶠ a ≤ᶠ zero64) refl
  where
    by : (t : Bool) → (b -ᶠ a ≤ᶠ zero64) ≡ t → UpToTurn (cond t (b -ᶠ a +ᶠ two_pi) (b -ᶠ a))
    by true e = turned_within (difference_within a b ha hb) e
    by false e = difference_within a b ha hb

-- an angle wrapped: the remainder lies from 0 to 2 × PI, and one above PI comes down by 2 × PI
pub wrapped_within : {x : Float} → Finite x → UpToPi (wrap_angle x)
unfolding wrap_angle
wrapped_within {x} h = by (pi <ᶠ y) refl
  where
    y : Float
    y = rem_euclid x two_pi

    w : FromZeroTo y two_pi
    w = rem_euclid_within h two_pi_most.finite (omega (arith, whole_turn, two_pi_least.bound, pow2_pos 1074))

    size : Most 7 1074 y
    size = record { finite = w.finite; bound = omega (arith, plus_minus y, w.above, w.below, whole_turn, two_pi_most.bound) }

    by : (b : Bool) → (pi <ᶠ y) ≡ b → UpToPi (cond b (y -ᶠ two_pi) y)
    by true e =
        let above = units_of_lt pi_most.finite w.finite e in
        let f = (sub_most size two_pi_most (lit≤ tt) (lit≤ tt)).finite in
        record {
          finite = f;
          most = result_le (le_refl 1) (sub_result w.finite two_pi_most.finite) (mag_digits pi_most.finite) (omega (arith, w.below, whole_turn)) (omega (arith, above, w.above, half-turn, whole_turn, twice)) f;
        }
    by false e = record { finite = w.finite; most = omega (arith, units_of_not_lt pi_most.finite w.finite e, plus_minus y, w.above, half-turn) }

-- ---- arcs

one_of : {A : Type 0} (P : A → Type 0) (b : Bool) (x : A) → P x → Every P (cond b (x ∷ []) [])
one_of P true x h = (h, tt)
one_of P false x h = tt

-- the i-th angle and the gap to the next
pub gap_at : (phis : List Float) (i : ℕ) → i < length phis → Every UpToPi phis
    → UpToPi (get_or phis i nan) × UpToTurn (gap (get_or phis i nan) (get_or phis ((i + 1) % length phis) nan))
gap_at phis i h e =
    let next = (i + 1) % length phis in
    let ha = every_at UpToPi phis i nan h e in
    let hb = every_at UpToPi phis next nan (mod-lt (i + 1) {m = length phis} (omega arith)) e in
    (ha, gap_within (get_or phis i nan) (get_or phis next nan) ha hb)

module _ (P : BoundaryArc → Type 0) (full : (k : ℕ) (c : Circle) → P (full_circle k c))
    (over : (k : ℕ) (c : Circle) (a delta : Float) → UpToPi a → UpToTurn delta → P (between k c a delta)) where
  gap_every : (cs : List Circle) (k : ℕ) (c : Circle) (phis : List Float) (i : ℕ) → i < length phis → Every UpToPi phis → Every P (arc_from cs k c phis i)
  unfolding arc_from
  gap_every cs k c phis i h e =
      let a = get_or phis i nan in
      let delta = gap a (get_or phis ((i + 1) % length phis) nan) in
      let g = gap_at phis i h e in
      one_of P (not (collapsed delta) && owned k (point_at c (a +ᶠ delta *ᶠ half64)) cs) (between k c a delta) (over k c a delta g.0 g.1)

  arcs_every : (cs : List Circle) (k : ℕ) (c : Circle) (phis : List Float) → Every UpToPi phis → Every P (arcs_at cs k c phis)
  unfolding arcs_at
  arcs_every cs k c [] e = one_of P (owned k (probe c) cs) (full_circle k c) (full k c)
  arcs_every cs k c (phi ∷ phis) e =
      every_up_to P (arc_from cs k c (phi ∷ phis)) (length (phi ∷ phis)) (λ i h. gap_every cs k c (phi ∷ phis) i h e)

  members_every : (cs : List Circle) (k : ℕ) (ms : List Member) → Every P (outline_from cs k ms)
  unfolding outline_from
  members_every cs k [] = tt
  members_every cs k (m ∷ ms) =
      every_append P (arcs_at cs k m.circle (angles_of m)) (outline_from cs (suc k) ms)
      (arcs_every cs k m.circle (angles_of m) (sorted_within m))
      (members_every cs (suc k) ms)

  pub outline_every : (ms : List Member) → Every P (outline ms)
  unfolding outline
  outline_every [] = tt
  outline_every (m ∷ []) = (full 0 m.circle, tt)
  outline_every (m ∷ (m' ∷ ms)) = members_every (circles_of (m ∷ (m' ∷ ms))) 0 (m ∷ (m' ∷ ms))
