-- Every angle at which sine and cosine are taken for a set is at most 16: arcs from Turns, and the breaks between the ends of an arc, since a crossing
-- is kept only strictly inside the arc. The quotients handed to acos and asin are within -1 to 1.
use mathlib.Core.Path.{◌≡◌, refl, sym, subst, ◌∙◌}
use mathlib.Core.Logic.{◌⊎◌, inl, inr}
use mathlib.Core.Bool.{Bool, true, false, cond, ◌&&◌}
use mathlib.Core.List.{List, [], ◌∷◌, ◌++◌, map}
use Prim.Native.Nat.{ℕ, suc, ◌*◌, ◌≤◌, ◌<◌, zero-le}
use native.Mathlib.Nat.{le_refl, le_trans, le_of_eq}
use native.Mathlib.Omega.{arith}
use lib.Dec.{T, lit≤, leb→le}
use lib.Ieee.{Float, nan, of_bits, neg}
use lib.Ieee.Bits.{is_true}
use lib.Ieee.Fits.{and_l, and_r}
use lib.ListN.{length, get_or}
use Rattle.binary64.specs.Units.{mag, pow2, plus, minus, Finite}
use Rattle.binary64.specs.Constants.{zero64, half64, one64, pi, two_pi}
use Rattle.binary64.specs.Functions.{absolute}
use Rattle.binary64.specs.Magnitude.{Most}
use Rattle.binary64.proofs.Constants.{half64_most, one64_most, one64_sign, two_pi_most}
use Rattle.binary64.proofs.Functions.{absolute_number, absolute_test}
use Rattle.binary64.proofs.Magnitude.{literal_most, most_weaken, most_coarser, most_zero, add_most, sub_most, mul_most}
use Rattle.binary64.proofs.Units.{plus_minus, one_sided, units_of_lt, zero64_finite, zero64_mag}
use Rattle.elementary.specs.Arctangent.{acos, asin}
use Rattle.elementary.specs.ArctangentPromise.{UpToPi}
use Rattle.elementary.specs.SinePromise.{Domain}
use Rattle.binary64.specs.Floats.{◌+ᶠ◌, ◌-ᶠ◌, ◌*ᶠ◌, ◌/ᶠ◌, ◌<ᶠ◌, ◌≤ᶠ◌}
use Rattle.geometry.specs.Tolerances.{clip_angle}
use Rattle.geometry.specs.declared.bounds.Bounds.{Bounds}
use Rattle.geometry.specs.declared.circle.Circle.{Circle}
use Rattle.lists.specs.Lists.{keep}
use Rattle.lists.specs.Every.{Every, every_append, every_map, every_both, every_at, every_mapped, every_take}
use Rattle.intersections.specs.Members.{Member, heads_of, members_of}
use Rattle.boundary.specs.declared.arcs.BoundaryArc.{BoundaryArc}
use Rattle.boundary.specs.Outline.{full_circle, between, angles_of, outline}
use Rattle.boundary.specs.Set.{numbered, arcs_held, region_arcs}
use Rattle.inside.specs.Breaks.{strictly_inside, copies, periodic_in_range, vertical_crossings, horizontal_crossings, crossings, breaks_between, breaks}
use Rattle.finite.specs.Domains.{UpToTurn, ArcInDomain, middle_of_gap, AnglesInDomain, RegionInDomain, QuotientInDomain}
use Rattle.boundary.proofs.Ordering.{sorted_every}
use Rattle.finite.proofs.Promises.{up_to_four}
use Rattle.finite.proofs.Turns.{seven, sorted_within, wrapped_within, gap_at, outline_every}
use Rattle.finite.proofs.Clipped.{Angle, half_most, crossings_most}

-- ---- crossings

-- 1e-12
clip_angle_most : Most 1 1074 clip_angle
unfolding of_bits mag pow2
clip_angle_most = literal_most 0x3D71_9799_812D_EA11 1 1074 tt tt

-- between two numbers of at most j a number is at most j
between_most : {j : ℕ} {low high x : Float} → Most j 1074 low → Most j 1074 high → Finite x → (low <ᶠ x) ≡ true → (x <ᶠ high) ≡ true → Most j 1074 x
between_most {j} {low} {high} {x} l h f d e = record { finite = f; bound = go (one_sided x) }
  where
    above : plus low ≤ mag low
    above = omega (arith, plus_minus low)

    go : ((plus x ≡ mag x) × (minus x ≡ 0)) ⊎ ((plus x ≡ 0) × (minus x ≡ mag x)) → mag x ≤ j * pow2 1074
    go (inl s) = omega (arith, s, plus_minus high, h.bound, units_of_lt f h.finite e)
    go (inr s) = omega (arith, s, plus_minus low, l.bound, units_of_lt l.finite f d)

-- What is kept has passed the test.
pub keep_passes : {A : Type 0} (p : A → Bool) (l : List A) → Every (λ x. p x ≡ true) (keep p l)
unfolding keep
keep_passes p [] = tt
keep_passes p (x ∷ l) = by (p x) refl (keep_passes p l)
  where
    by : (b : Bool) → p x ≡ b → Every (λ x. p x ≡ true) (keep p l) → Every (λ x. p x ≡ true) (cond b (x ∷ keep p l) (keep p l))
    by true t r = (t, r)
    by false t r = r

module _ (a b : Float) where
  -- strictly inside the arc from a to b
  abbrev Inside : Float → Type 0
  Inside x = strictly_inside a b x ≡ true

  periodic_inside : (phi : Float) → Every Inside (periodic_in_range phi a b)
  unfolding periodic_in_range
  periodic_inside phi = keep_passes (strictly_inside a b) (copies phi)

  both_inside : (t : Bool) (x y : Float) → Every Inside (cond t (periodic_in_range x a b ++ periodic_in_range y a b) [])
  both_inside true x y = every_append Inside (periodic_in_range x a b) (periodic_in_range y a b) (periodic_inside x) (periodic_inside y)
  both_inside false x y = tt

  vertical_inside : (x : Float) (c : Circle) → Every Inside (vertical_crossings x c a b)
  unfolding vertical_crossings
  vertical_inside x c = let q = (x -ᶠ c.center.x) /ᶠ c.radius in both_inside (absolute q ≤ᶠ one64) (acos q) (neg (acos q))

  horizontal_inside : (y : Float) (c : Circle) → Every Inside (horizontal_crossings y c a b)
  unfolding horizontal_crossings
  horizontal_inside y c = let q = (y -ᶠ c.center.y) /ᶠ c.radius in both_inside (absolute q ≤ᶠ one64) (asin q) (pi -ᶠ asin q)

  crossings_inside : (box : Bounds) (c : Circle) → Every Inside (crossings box c a b)
  unfolding crossings
  crossings_inside box c =
      let left = vertical_crossings box.x_min c a b in
      let right = vertical_crossings box.x_max c a b in
      let bottom = horizontal_crossings box.y_min c a b in
      let top = horizontal_crossings box.y_max c a b in
      every_append Inside left (right ++ (bottom ++ top)) (vertical_inside box.x_min c)
      (every_append Inside right (bottom ++ top) (vertical_inside box.x_max c)
      (every_append Inside bottom top (horizontal_inside box.y_min c) (horizontal_inside box.y_max c)))

  -- A crossing lies between the ends, so it is no larger than they are, and 1e-12.
  crossing_most : Most 4 1074 a → Most 11 1074 b → (x : Float) → Angle x → Inside x → Most 12 1074 x
  unfolding strictly_inside
  crossing_most ha hb x h t =
      let low : Bool = a +ᶠ clip_angle <ᶠ x in
      let high : Bool = x <ᶠ b -ᶠ clip_angle in
      let both : T (low && high) = subst T (sym t) tt in
      between_most (most_weaken (add_most ha clip_angle_most (lit≤ tt) (lit≤ tt)) (lit≤ tt)) (sub_most hb clip_angle_most (lit≤ tt) (lit≤ tt))
      h.finite (is_true low (and_l low high both)) (is_true high (and_r low high both))

  crossings_between : Most 4 1074 a → Most 11 1074 b → (box : Bounds) (c : Circle) → Every (Most 12 1074) (crossings box c a b)
  crossings_between ha hb box c = every_both (crossings box c a b) (crossing_most ha hb) (crossings_most a b box c) (crossings_inside box c)

-- ---- arcs

module _ (arc : BoundaryArc) (start : Most 4 1074 arc.phi_start) (turn : Most 7 1074 arc.delta_phi) where
  -- the end, not wrapped
  finish_most : Most 11 1074 (arc.phi_start +ᶠ arc.delta_phi)
  finish_most = add_most start turn (lit≤ tt) (lit≤ tt)

  module _ (box : Bounds) (c : Circle) where
    breaks-between : Every (Most 12 1074) (breaks box c arc)
    unfolding breaks breaks_between
    breaks-between =
        let a = arc.phi_start in
        let b = a +ᶠ arc.delta_phi in
        sorted_every (Most 12 1074) (a ∷ (crossings box c a b ++ (b ∷ [])))
        (most_weaken start (lit≤ tt), every_append (Most 12 1074) (crossings box c a b) (b ∷ []) (crossings_between a b start finish_most box c) (most_weaken finish_most (lit≤ tt), tt))

    -- the middle between two breaks
    break_middle : (i : ℕ) → suc i < length (breaks box c arc) → Most 12 1074 (half64 *ᶠ (get_or (breaks box c arc) i nan +ᶠ get_or (breaks box c arc) (suc i) nan))
    break_middle i h =
        let at : (k : ℕ) → k < length (breaks box c arc) → Most 12 1074 (get_or (breaks box c arc) k nan) = λ k g. every_at (Most 12 1074) (breaks box c arc) k nan g breaks-between in
        half_most (add_most (at i (omega arith)) (at (suc i) h) (lit≤ tt) (lit≤ tt)) (lit≤ tt) (lit≤ tt)

  arc_in_domain : UpToPi arc.phi_start → UpToTurn arc.delta_phi → UpToPi arc.phi_end → ArcInDomain arc
  arc_in_domain s t e = record {
    start = s;
    turn = t;
    end = e;
    finish = most_weaken finish_most (lit≤ tt);
    breaks = λ box c. every_map (breaks box c arc) (λ x m. most_weaken m (lit≤ tt)) (breaks-between box c);
    middles = λ box c i h. most_weaken (break_middle box c i h) (lit≤ tt);
  }

whole_in_domain : (k : ℕ) (c : Circle) → ArcInDomain (full_circle k c)
unfolding full_circle
whole_in_domain k c = arc_in_domain (full_circle k c) most_zero two_pi_most zero_within (record { finite = two_pi_most.finite; most = le_refl (mag two_pi) }) zero_within
  where
    zero_within : UpToPi zero64
    zero_within = record { finite = zero64_finite; most = le_trans (le_of_eq zero64_mag) zero-le }

between_in_domain : (k : ℕ) (c : Circle) (a delta : Float) → UpToPi a → UpToTurn delta → ArcInDomain (between k c a delta)
unfolding between
between_in_domain k c a delta ha h =
    arc_in_domain (between k c a delta) (up_to_four ha) (seven h) ha h (wrapped_within (add_most (up_to_four ha) (seven h) (lit≤ tt) (lit≤ tt)).finite)

outline_in_domain : (ms : List Member) → Every ArcInDomain (outline ms)
outline_in_domain = outline_every ArcInDomain whole_in_domain between_in_domain

-- ---- sets

gap_in_domain : (m : Member) (i : ℕ) → i < length (angles_of m) → Domain (middle_of_gap (angles_of m) i)
gap_in_domain m i h =
    let g = gap_at (angles_of m) i h (sorted_within m) in
    most_weaken (add_most (up_to_four g.0) (most_coarser (mul_most (seven g.1) half64_most 1073 refl (lit≤ tt) (lit≤ tt)) 1 4 (lit≤ tt)) (lit≤ tt) (lit≤ tt)) (lit≤ tt)

every_one : {A : Type 0} (P : A → Type 0) → ((a : A) → P a) → (l : List A) → Every P l
every_one P h [] = tt
every_one P h (a ∷ l) = (h a, every_one P h l)

-- Every angle at which sine and cosine are taken for a set is at most 16.
pub angles_in_domain : AnglesInDomain
angles_in_domain ms = record { gaps = every_one _ gap_in_domain ms; arcs = outline_in_domain ms }

numbered_in_domain : (heads : List ℕ) (arc : BoundaryArc) → ArcInDomain arc → ArcInDomain (numbered heads arc)
unfolding numbered breaks
numbered_in_domain heads arc d = record { start = d.start; turn = d.turn; end = d.end; finish = d.finish; breaks = d.breaks; middles = d.middles }

-- Under head numbers too.
pub region_in_domain : RegionInDomain
unfolding region_arcs
region_in_domain cs points S =
    let js = heads_of (length cs) S in
    let arcs = outline (members_of cs points S) in
    every_take ArcInDomain arcs_held (map (numbered js) arcs)
    (every_mapped ArcInDomain (numbered js) arcs (every_map arcs (numbered_in_domain js) (outline_in_domain (members_of cs points S))))

-- ---- acos and asin

-- A quotient that passes |q| ≤ 1 is finite and within -1 to 1.
pub quotient_in_domain : QuotientInDomain
quotient_in_domain q f t =
    let g = absolute_number q one64 f one64_most.finite t in
    record { finite = g; bound = le_trans (leb→le (mag q) (mag one64) (subst T (sym t ∙ absolute_test g one64_most.finite one64_sign) tt)) one64_most.bound }
