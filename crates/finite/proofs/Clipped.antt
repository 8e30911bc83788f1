-- The area of a set in the box is finite: bounds on crossings, breaks, parts and arcs; those on the edges are in Edges.
use mathlib.Core.Path.{◌≡◌, refl}
use mathlib.Core.Bool.{Bool, true, false, cond}
use mathlib.Core.List.{List, [], ◌∷◌, ◌++◌}
use Prim.Native.Nat.{ℕ, suc, ◌*◌, ◌^◌, ◌≤◌, ◌<◌}
use native.Mathlib.Omega.{arith}
use borrow.Author.Tests.{ltb-true}
use lib.Dec.{lit≤, ltb}
use lib.ListN.{length, get_or, length-append}
use lib.Ieee.{Float, binary64, neg, of_bits}
use lib.Ieee.Fits.{div-fits}
use Rattle.boundary.proofs.Ordering.{sorted_every}
use Rattle.lists.proofs.Lists.{keep_length}
use Rattle.binary64.specs.Units.{mag, pow2}
use Rattle.binary64.specs.Constants.{zero64, half64, one64, pi, two_pi}
use Rattle.binary64.specs.Functions.{absolute}
use Rattle.binary64.specs.Magnitude.{Most}
use Rattle.binary64.proofs.Constants.{half64_most, pi_most, two_pi_most}
use Rattle.binary64.proofs.Magnitude.{literal_most, most_weaken, most_coarser, most_either, most_zero, neg_most, add_most, sub_most, mul_most}
use Rattle.elementary.specs.Arctangent.{acos, asin}
use Rattle.elementary.specs.Sine.{sine as sin, cosine as cos}
use Rattle.binary64.specs.Floats.{◌+ᶠ◌, ◌-ᶠ◌, ◌*ᶠ◌, ◌/ᶠ◌, ◌≤ᶠ◌}
use Rattle.geometry.specs.declared.bounds.Bounds.{Bounds}
use Rattle.geometry.specs.declared.circle.Circle.{Circle}
use Rattle.boundary.specs.declared.arcs.BoundaryArc.{BoundaryArc}
use Rattle.lists.specs.Every.{Every, every_append, every_at, every_keep}
use Rattle.outline.specs.Counts.{sorted_length}
use Rattle.intersections.specs.Members.{circles_of, no_circle}
use Rattle.boundary.specs.Outline.{outline}
use Rattle.inside.specs.Breaks.{strictly_inside, copies, periodic_in_range, vertical_crossings, horizontal_crossings, crossings, breaks_between, breaks}
use Rattle.inside.specs.Parts.{summed, sub_arc, add_part, clipped_arc_integral}
use Rattle.clip.specs.Area.{empty_box, add_clipped_arc, add_clipped_arcs, clipped_area_of, clipped_area}
use Rattle.finite.specs.Open.{InDomain}
use Rattle.finite.specs.Arcs.{ShortArc}
use Rattle.finite.specs.Clipped.{ArcFinite, ArcsFinite, ClippedAreaFinite, AreaClippedFinite}
use Rattle.lists.proofs.Folds.{fold_after, pairs_after}
use Rattle.finite.proofs.Promises.{sine_most, cosine_most, arccosine_most, arcsine_most}
use Rattle.finite.proofs.Open.{outline_short}
use Rattle.finite.proofs.Edges.{edges_most}

-- ---- breaks

-- an angle as breaks are
abbrev pub Angle : Float → Type 0
Angle = Most 20 1074

one_most : Most 1 1074 one64
unfolding of_bits mag pow2
one_most = literal_most 0x3FF0_0000_0000_0000 1 1074 tt tt

copy_most : (phi k : Float) → Most 8 1074 phi → Most 1 1074 k → Angle (phi +ᶠ k *ᶠ two_pi)
copy_most phi k h hk = most_weaken (add_most h (mul_most hk two_pi_most 1074 refl (lit≤ tt) (lit≤ tt)) (lit≤ tt) (lit≤ tt)) (lit≤ tt)

module _ (a b : Float) where
  periodic_most : (phi : Float) → Most 8 1074 phi → Every Angle (periodic_in_range phi a b)
  unfolding periodic_in_range
  periodic_most phi h =
      every_keep Angle (strictly_inside a b) (copies phi)
      (copy_most phi (neg one64) h (neg_most one_most), (copy_most phi zero64 h most_zero, (copy_most phi one64 h one_most, tt)))

  periodic_few : (phi : Float) → length (periodic_in_range phi a b) ≤ 3
  unfolding periodic_in_range
  periodic_few phi = keep_length (strictly_inside a b) (copies phi)

  -- two solutions, or none
  both_most : (t : Bool) (x y : Float) → Most 8 1074 x → Most 8 1074 y → Every Angle (cond t (periodic_in_range x a b ++ periodic_in_range y a b) [])
  both_most true x y h g = every_append Angle (periodic_in_range x a b) (periodic_in_range y a b) (periodic_most x h) (periodic_most y g)
  both_most false x y h g = tt

  both_few : (t : Bool) (x y : Float) → length (cond t (periodic_in_range x a b ++ periodic_in_range y a b) []) ≤ 6
  both_few true x y = omega (arith, length-append (periodic_in_range x a b) (periodic_in_range y a b), periodic_few x, periodic_few y)
  both_few false x y = omega arith

  vertical_few : (x : Float) (c : Circle) → length (vertical_crossings x c a b) ≤ 6
  unfolding vertical_crossings
  vertical_few x c = let q = (x -ᶠ c.center.x) /ᶠ c.radius in both_few (absolute q ≤ᶠ one64) (acos q) (neg (acos q))

  horizontal_few : (y : Float) (c : Circle) → length (horizontal_crossings y c a b) ≤ 6
  unfolding horizontal_crossings
  horizontal_few y c = let q = (y -ᶠ c.center.y) /ᶠ c.radius in both_few (absolute q ≤ᶠ one64) (asin q) (pi -ᶠ asin q)

  crossings_few : (box : Bounds) (c : Circle) → length (crossings box c a b) ≤ 24
  unfolding crossings
  crossings_few box c =
      let left = vertical_crossings box.x_min c a b in
      let right = vertical_crossings box.x_max c a b in
      let bottom = horizontal_crossings box.y_min c a b in
      let top = horizontal_crossings box.y_max c a b in
      omega (arith, length-append left (right ++ (bottom ++ top)), length-append right (bottom ++ top), length-append bottom top, vertical_few box.x_min c, vertical_few box.x_max c, horizontal_few box.y_min c, horizontal_few box.y_max c)

  vertical_most : (x : Float) (c : Circle) → Every Angle (vertical_crossings x c a b)
  unfolding vertical_crossings
  vertical_most x c =
      let q = (x -ᶠ c.center.x) /ᶠ c.radius in
      let h = most_weaken (arccosine_most q (div-fits binary64 (x -ᶠ c.center.x) c.radius)) (lit≤ tt) in
      both_most (absolute q ≤ᶠ one64) (acos q) (neg (acos q)) h (neg_most h)

  horizontal_most : (y : Float) (c : Circle) → Every Angle (horizontal_crossings y c a b)
  unfolding horizontal_crossings
  horizontal_most y c =
      let q = (y -ᶠ c.center.y) /ᶠ c.radius in
      let h = arcsine_most q (div-fits binary64 (y -ᶠ c.center.y) c.radius) in
      both_most (absolute q ≤ᶠ one64) (asin q) (pi -ᶠ asin q) (most_weaken h (lit≤ tt)) (most_weaken (sub_most pi_most h (lit≤ tt) (lit≤ tt)) (lit≤ tt))

  pub crossings_most : (box : Bounds) (c : Circle) → Every Angle (crossings box c a b)
  unfolding crossings
  crossings_most box c =
      let left = vertical_crossings box.x_min c a b in
      let right = vertical_crossings box.x_max c a b in
      let bottom = horizontal_crossings box.y_min c a b in
      let top = horizontal_crossings box.y_max c a b in
      every_append Angle left (right ++ (bottom ++ top)) (vertical_most box.x_min c)
      (every_append Angle right (bottom ++ top) (vertical_most box.x_max c)
      (every_append Angle bottom top (horizontal_most box.y_min c) (horizontal_most box.y_max c)))

pub breaks_most : (box : Bounds) (c : Circle) (arc : BoundaryArc) → ShortArc arc → Every Angle (breaks box c arc)
unfolding breaks breaks_between
breaks_most box c arc short =
    let a = arc.phi_start in
    let b = a +ᶠ arc.delta_phi in
    sorted_every Angle (a ∷ (crossings box c a b ++ (b ∷ [])))
    (most_weaken short.start (lit≤ tt), every_append Angle (crossings box c a b) (b ∷ []) (crossings_most a b box c) (add_most short.start short.turn (lit≤ tt) (lit≤ tt), tt))

pub breaks_few : (box : Bounds) (c : Circle) (arc : BoundaryArc) → length (breaks box c arc) ≤ 26
unfolding breaks breaks_between
breaks_few box c arc =
    let a = arc.phi_start in
    let b = a +ᶠ arc.delta_phi in
    omega (arith, sorted_length (a ∷ (crossings box c a b ++ (b ∷ []))), length-append (crossings box c a b) (b ∷ []), crossings_few a b box c)

-- ---- parts

-- the differences of sine and cosine, and the length of a part
pub sines_most : (a b : Float) → Most 2 1074 (sin b -ᶠ sin a)
sines_most a b = sub_most (sine_most b) (sine_most a) (lit≤ tt) (lit≤ tt)

pub cosines_most : (a b : Float) → Most 2 1074 (cos b -ᶠ cos a)
cosines_most a b = sub_most (cosine_most b) (cosine_most a) (lit≤ tt) (lit≤ tt)

pub length_most : {a b : Float} → Angle a → Angle b → Most 40 1074 (b -ᶠ a)
length_most ha hb = sub_most hb ha (lit≤ tt) (lit≤ tt)

-- the three terms of a part, of which the Rust adds the second or takes it away
pub terms_most : (c : Circle) {s u t : Float} → InDomain c → Most 2 1074 s → Most 2 1074 u → Most 40 1074 t
    → Most 800000000 1074 (c.center.x *ᶠ c.radius *ᶠ s) × Most 800000000 1074 (c.center.y *ᶠ c.radius *ᶠ u) × Most 16000000000 1074 (c.radius *ᶠ c.radius *ᶠ t)
terms_most c d hs hu ht = (
  mul_most (mul_most d.x d.r 1074 refl (lit≤ tt) (lit≤ tt)) hs 1074 refl (lit≤ tt) (lit≤ tt),
  mul_most (mul_most d.y d.r 1074 refl (lit≤ tt) (lit≤ tt)) hu 1074 refl (lit≤ tt) (lit≤ tt),
  mul_most (mul_most d.r d.r 1074 refl (lit≤ tt) (lit≤ tt)) ht 1074 refl (lit≤ tt) (lit≤ tt),
)

module _ (box : Bounds) (c : Circle) (d : InDomain c) where
  part_most : (m : ℕ) (sum a b : Float) → m < 26 → Most (m * 17600000000) 1074 sum → Angle a → Angle b
      → Most (suc m * 17600000000) 1074 (add_part box c sum a b)
  unfolding add_part sub_arc
  part_most m sum a b few hs ha hb =
      let terms = terms_most c d (sines_most a b) (cosines_most b a) (length_most ha hb) in
      let part = add_most (add_most terms.0 terms.1 (lit≤ tt) (lit≤ tt)) terms.2 (lit≤ tt) (lit≤ tt) in
      most_either (summed box c a b) (most_weaken (add_most hs part (omega arith) (lit≤ tt)) (omega arith)) (most_weaken hs (omega arith))

-- The integral along one arc.
pub arc_finite : ArcFinite
unfolding clipped_arc_integral
arc_finite box c arc d short =
    let few = breaks_few box c arc in
    most_weaken
    (pairs_after (λ m s. Most (m * 17600000000) 1074 s) Angle (add_part box c) 26 (λ m s h. most_weaken h (omega arith)) (part_most box c d)
    (breaks box c arc) 0 zero64 most_zero (breaks_most box c arc short) (omega arith))
    (omega arith)

-- ---- arcs

module _ (box : Bounds) (cs : List Circle) (d : Every InDomain cs) where
  add_most_arc : (m : ℕ) (total : Float) (arc : BoundaryArc) → m < 180 → Most (m * 457600000000) 1074 total → ShortArc arc
      → Most (suc m * 457600000000) 1074 (add_clipped_arc box cs total arc)
  unfolding add_clipped_arc
  add_most_arc m total arc few ht hs = by (ltb arc.circle (length cs)) refl
    where
      by : (t : Bool) → ltb arc.circle (length cs) ≡ t
          → Most (suc m * 457600000000) 1074 (cond t (total +ᶠ clipped_arc_integral box (get_or cs arc.circle no_circle) arc) total)
      by true e =
          let own = every_at InDomain cs arc.circle no_circle (ltb-true _ _ e) d in
          most_weaken (add_most ht (arc_finite box (get_or cs arc.circle no_circle) arc own hs) (omega arith) (lit≤ tt)) (omega arith)
      by false e = most_weaken ht (omega arith)

-- The sum over the arcs.
pub arcs_finite : ArcsFinite
arcs_finite box cs arcs d short few =
    most_weaken
    (fold_after (λ m s. Most (m * 457600000000) 1074 s) ShortArc (add_clipped_arc box cs) 180 (add_most_arc box cs d) arcs 0 zero64 most_zero short (omega arith))
    (omega arith)

-- ---- the area

-- half of a number
pub half_most : {j k : ℕ} {x : Float} → Most j 1074 x → j ≤ 2 ^ 53 → j ≤ k * 2 → Most k 1074 (half64 *ᶠ x)
half_most {j} {k} h room twice = most_coarser (mul_most half64_most h 1073 refl (omega arith) (lit≤ tt)) 1 k (omega arith)

-- The area in the box, by a list of arcs, and by the members of a set.
pub clipped_area_finite : ClippedAreaFinite
unfolding clipped_area_of
clipped_area_finite box all own arcs b domain members short few =
    most_either (empty_box box) most_zero
    (half_most (edges_most box own 82368000000000 (add_clipped_arcs box all zero64 arcs) b members (arcs_finite box all arcs domain short few) (lit≤ tt)) (lit≤ tt) (lit≤ tt))

pub area_clipped_finite : AreaClippedFinite
unfolding clipped_area
area_clipped_finite box ms b d few = clipped_area_finite box (circles_of ms) (circles_of ms) (outline ms) b d d (outline_short ms) few
