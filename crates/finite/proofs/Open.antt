-- Open areas and gradients are finite: bounds on the angles, gaps and arcs of any outline, and on what each arc adds.
-- Rests on the promises of `elementary` as bounds, proofs/Promises.antt.
use mathlib.Core.Path.{◌≡◌, refl}
use mathlib.Core.Bool.{Bool, true, false, cond}
use mathlib.Core.List.{List, [], ◌∷◌, map}
use Prim.Native.Nat.{ℕ, ◌+◌, ◌*◌, ◌^◌, ◌≤◌}
use native.Mathlib.Omega.{arith}
use borrow.Author.Tests.{ltb-true}
use lib.Dec.{leb→le, lit≤, ltb}
use lib.ListN.{length, get_or, replicate, length-take}
use lib.Ieee.{Float, nan, inf, fin, fits}
use Rattle.binary64.specs.Units.{Finite, mag, pow2}
use Rattle.binary64.specs.Functions.{absolute, signum_of}
use Rattle.binary64.specs.Magnitude.{Most}
use Rattle.binary64.specs.Constants.{zero64}
use Rattle.binary64.proofs.Constants.{half64_most, two_pi_most}
use Rattle.binary64.proofs.Functions.{absolute_most}
use Rattle.binary64.proofs.Magnitude.{most_weaken, most_coarser, most_zero, add_most, sub_most, mul_most}
use Rattle.elementary.specs.ArctangentPromise.{UpToPi}
use Rattle.elementary.specs.Sine.{sine as sin, cosine as cos}
use Rattle.binary64.specs.Floats.{◌+ᶠ◌, ◌-ᶠ◌, ◌*ᶠ◌}
use Rattle.geometry.specs.declared.circle.Circle.{Circle}
use Rattle.boundary.specs.declared.arcs.BoundaryArc.{BoundaryArc}
use Rattle.intersections.specs.declared.points.IntersectionPoint.{IntersectionPoint}
use Rattle.lists.specs.Every.{Every, every_map, every_at, every_set, every_mapped, every_replicate, every_take}
use Rattle.intersections.specs.Members.{circles_of, no_circle, heads_of, members_of}
use Rattle.boundary.specs.Outline.{full_circle, between, outline}
use Rattle.outline.specs.Area.{arc_terms, add_arc, add_arcs, area_of, open_area, add_at, sub_at, arc_slopes, add_slopes, add_gradient, open_gradient}
use Rattle.boundary.specs.Set.{numbered, arcs_held, region_arcs}
use Rattle.finite.specs.Arcs.{ShortArc, OutlineShort, OutlineEnds}
use Rattle.finite.specs.Domains.{UpToTurn}
use Rattle.finite.specs.Open.{InDomain, ArcsAreaFinite, ArcsGradientFinite, AreaFinite, GradientFinite, RegionAreaFinite, RegionGradientFinite}
use Rattle.finite.proofs.Promises.{sine_most, cosine_most, up_to_four}
use Rattle.finite.proofs.Turns.{seven, wrapped_within, outline_every}

-- ---- angles

abbrev Angle : Float → Type 0
Angle = Most 4 1074

between_short : (k : ℕ) (c : Circle) (a delta : Float) → UpToPi a → UpToTurn delta → ShortArc (between k c a delta)
unfolding between
between_short k c a delta ha h = record { start = up_to_four ha; turn = most_weaken (seven h) (lit≤ tt) }

full_short : (k : ℕ) (c : Circle) → ShortArc (full_circle k c)
unfolding full_circle
full_short k c = record { start = most_zero; turn = most_weaken two_pi_most (lit≤ tt) }

-- Every arc of an outline starts at an angle of at most 4, and its length is at most 16.
pub outline_short : OutlineShort
outline_short = outline_every ShortArc full_short between_short

between_end : (k : ℕ) (c : Circle) (a delta : Float) → UpToPi a → UpToTurn delta → Angle (between k c a delta).phi_end
unfolding between
between_end k c a delta ha h = up_to_four (wrapped_within (add_most (up_to_four ha) (seven h) (lit≤ tt) (lit≤ tt)).finite)

full_end : (k : ℕ) (c : Circle) → Angle (full_circle k c).phi_end
unfolding full_circle
full_end k c = most_zero

-- Every arc of an outline ends at an angle of at most 4.
pub outline_ends : OutlineEnds
outline_ends = outline_every (λ arc. Angle arc.phi_end) full_end between_end

numbered_short : (heads : List ℕ) (arc : BoundaryArc) → ShortArc arc → ShortArc (numbered heads arc)
unfolding numbered
numbered_short heads arc s = record { start = s.start; turn = s.turn }

-- Under head numbers too the arcs of a set are short, and they are at most 180.
pub region_short : (cs : List Circle) (points : List IntersectionPoint) (S : ℕ) → Every ShortArc (region_arcs cs points S)
unfolding region_arcs
region_short cs points S =
    let js = heads_of (length cs) S in
    let arcs = outline (members_of cs points S) in
    every_take ShortArc arcs_held (map (numbered js) arcs)
    (every_mapped ShortArc (numbered js) arcs (every_map arcs (numbered_short js) (outline_short (members_of cs points S))))

pub region_few : (cs : List Circle) (points : List IntersectionPoint) (S : ℕ) → length (region_arcs cs points S) ≤ 180
unfolding region_arcs
region_few cs points S = rw (length-take) (omega arith)

-- ---- the area

terms_most : (j : ℕ) (total : Float) (c : Circle) (arc : BoundaryArc) → Most j 1074 total → InDomain c → ShortArc arc
    → j + 8000000000 ≤ 2 ^ 53 → Most (j + 8000000000) 1074 (arc_terms total c arc)
unfolding arc_terms
terms_most j total c arc ht d hs room =
    let a = arc.phi_start in
    let b = a +ᶠ arc.delta_phi in
    let sines = sub_most (sine_most b) (sine_most a) (lit≤ tt) (lit≤ tt) in
    let cosines = sub_most (cosine_most a) (cosine_most b) (lit≤ tt) (lit≤ tt) in
    let wide = mul_most (mul_most d.x d.r 1074 refl (lit≤ tt) (lit≤ tt)) sines 1074 refl (lit≤ tt) (lit≤ tt) in
    let high = mul_most (mul_most d.y d.r 1074 refl (lit≤ tt) (lit≤ tt)) cosines 1074 refl (lit≤ tt) (lit≤ tt) in
    let round = mul_most (mul_most d.r d.r 1074 refl (lit≤ tt) (lit≤ tt)) hs.turn 1074 refl (lit≤ tt) (lit≤ tt) in
    most_weaken
    (add_most (add_most (add_most ht wide (omega arith) (lit≤ tt)) high (omega arith) (lit≤ tt)) round (omega arith) (lit≤ tt))
    (omega arith)

arc_most : (j : ℕ) (total : Float) (cs : List Circle) (arc : BoundaryArc) → Most j 1074 total → Every InDomain cs → ShortArc arc
    → j + 8000000000 ≤ 2 ^ 53 → Most (j + 8000000000) 1074 (add_arc cs total arc)
unfolding add_arc
arc_most j total cs arc ht d hs room = by (ltb arc.circle (length cs)) refl
  where
    by : (b : Bool) → ltb arc.circle (length cs) ≡ b → Most (j + 8000000000) 1074 (cond b (arc_terms total (get_or cs arc.circle no_circle) arc) total)
    by true e = terms_most j total (get_or cs arc.circle no_circle) arc ht (every_at InDomain cs arc.circle no_circle (ltb-true _ _ e) d) hs room
    by false e = most_weaken ht (omega arith)

arcs_most : (arcs : List BoundaryArc) (j : ℕ) (total : Float) (cs : List Circle) → Most j 1074 total → Every InDomain cs → Every ShortArc arcs
    → j + length arcs * 8000000000 ≤ 2 ^ 53 → Most (j + length arcs * 8000000000) 1074 (add_arcs cs total arcs)
arcs_most [] j total cs ht d hs room = most_weaken ht (omega arith)
arcs_most (arc ∷ arcs) j total cs ht d hs room =
    most_weaken
    (arcs_most arcs (j + 8000000000) (add_arc cs total arc) cs (arc_most j total cs arc ht d hs.0 (omega arith)) d hs.1 (omega arith))
    (omega arith)

-- The area that at most 180 arcs enclose is finite, and at most 1,440,000,000,000.
pub arcs_area_finite : ArcsAreaFinite
unfolding area_of
arcs_area_finite cs arcs d short few =
    let sum : Most 1440000000000 1074 (add_arcs cs zero64 arcs) = most_weaken (arcs_most arcs 0 zero64 cs most_zero d short (omega arith)) (omega arith) in
    most_weaken (mul_most (most_coarser half64_most 1 1 (lit≤ tt)) sum 1074 refl (lit≤ tt) (lit≤ tt)) (lit≤ tt)

-- Open areas of members are finite.
pub area_finite : AreaFinite
unfolding open_area
area_finite ms d few = arcs_area_finite (circles_of ms) (outline ms) d (outline_short ms) few

-- Areas from a set's arcs under head numbers are finite.
pub region_area_finite : RegionAreaFinite
region_area_finite cs points S d = arcs_area_finite cs (region_arcs cs points S) d (region_short cs points S) (region_few cs points S)

-- ---- the gradient

pub signum_most : (x : Float) → Finite x → Most 1 1074 (signum_of x)
unfolding mag pow2 fits
signum_most nan f = absurd f.number
signum_most (inf s) f = absurd f.number
signum_most (fin true m e) f = record { finite = record { fit = tt; number = tt }; bound = leb→le _ _ tt }
signum_most (fin false m e) f = record { finite = record { fit = tt; number = tt }; bound = leb→le _ _ tt }

pub entry_add : (j k : ℕ) (g : List Float) (i : ℕ) (x : Float) → Every (Most j 1074) g → Most k 1074 x → j + k ≤ 2 ^ 53
    → Every (Most (j + k) 1074) (add_at g i x)
entry_add j k g i x e h room =
    every_set (Most (j + k) 1074) g i (get_or g i nan +ᶠ x) (every_map g (λ z m. most_weaken m (omega arith)) e)
    (λ b. add_most (every_at (Most j 1074) g i nan b e) h room (lit≤ tt))

pub entry_sub : (j k : ℕ) (g : List Float) (i : ℕ) (x : Float) → Every (Most j 1074) g → Most k 1074 x → j + k ≤ 2 ^ 53
    → Every (Most (j + k) 1074) (sub_at g i x)
entry_sub j k g i x e h room =
    every_set (Most (j + k) 1074) g i (get_or g i nan -ᶠ x) (every_map g (λ z m. most_weaken m (omega arith)) e)
    (λ b. sub_most (every_at (Most j 1074) g i nan b e) h room (lit≤ tt))

slopes_most : (j : ℕ) (g : List Float) (c : Circle) (arc : BoundaryArc) → Every (Most j 1074) g → InDomain c → ShortArc arc
    → j + 400000 ≤ 2 ^ 53 → Every (Most (j + 400000) 1074) (arc_slopes g c arc)
unfolding arc_slopes
slopes_most j g c arc e d hs room =
    let across = mul_most (signum_most arc.delta_phi hs.turn.finite) d.r 1074 refl (lit≤ tt) (lit≤ tt) in
    let off = arc.circle * 3 in
    let sines = sub_most (sine_most arc.phi_end) (sine_most arc.phi_start) (lit≤ tt) (lit≤ tt) in
    let cosines = sub_most (cosine_most arc.phi_end) (cosine_most arc.phi_start) (lit≤ tt) (lit≤ tt) in
    let turn = signum_of arc.delta_phi *ᶠ c.radius in
    let lx = add_at g off (turn *ᶠ (sin arc.phi_end -ᶠ sin arc.phi_start)) in
    let ly = sub_at lx (off + 1) (turn *ᶠ (cos arc.phi_end -ᶠ cos arc.phi_start)) in
    let lr = add_at ly (off + 2) (c.radius *ᶠ absolute arc.delta_phi) in
    let gx = entry_add j 40000 g off (turn *ᶠ (sin arc.phi_end -ᶠ sin arc.phi_start)) e (mul_most across sines 1074 refl (lit≤ tt) (lit≤ tt)) (omega arith) in
    let gy = entry_sub (j + 40000) 40000 lx (off + 1) (turn *ᶠ (cos arc.phi_end -ᶠ cos arc.phi_start)) gx (mul_most across cosines 1074 refl (lit≤ tt) (lit≤ tt)) (omega arith) in
    let gr = entry_add (j + 40000 + 40000) 320000 ly (off + 2) (c.radius *ᶠ absolute arc.delta_phi) gy (mul_most d.r (absolute_most hs.turn) 1074 refl (lit≤ tt) (lit≤ tt)) (omega arith) in
    every_map {P = Most (j + 40000 + 40000 + 320000) 1074} {Q = Most (j + 400000) 1074} lr (λ z m. most_weaken m (omega arith)) gr

arc_slopes_most : (j : ℕ) (g : List Float) (cs : List Circle) (arc : BoundaryArc) → Every (Most j 1074) g → Every InDomain cs → ShortArc arc
    → j + 400000 ≤ 2 ^ 53 → Every (Most (j + 400000) 1074) (add_slopes cs g arc)
unfolding add_slopes
arc_slopes_most j g cs arc e d hs room = by (ltb arc.circle (length cs)) refl
  where
    by : (b : Bool) → ltb arc.circle (length cs) ≡ b → Every (Most (j + 400000) 1074) (cond b (arc_slopes g (get_or cs arc.circle no_circle) arc) g)
    by true t = slopes_most j g (get_or cs arc.circle no_circle) arc e (every_at InDomain cs arc.circle no_circle (ltb-true _ _ t) d) hs room
    by false t = every_map g (λ z m. most_weaken m (omega arith)) e

gradient_most : (arcs : List BoundaryArc) (j : ℕ) (g : List Float) (cs : List Circle) → Every (Most j 1074) g → Every InDomain cs → Every ShortArc arcs
    → j + length arcs * 400000 ≤ 2 ^ 53 → Every (Most (j + length arcs * 400000) 1074) (add_gradient cs g arcs)
gradient_most [] j g cs e d hs room = every_map g (λ z m. most_weaken m (omega arith)) e
gradient_most (arc ∷ arcs) j g cs e d hs room =
    every_map (add_gradient cs (add_slopes cs g arc) arcs) (λ z m. most_weaken m (omega arith))
    (gradient_most arcs (j + 400000) (add_slopes cs g arc) cs (arc_slopes_most j g cs arc e d hs.0 (omega arith)) d hs.1 (omega arith))

-- The gradient of at most 180 arcs is finite, and each entry at most 72,000,000.
pub arcs_gradient_finite : ArcsGradientFinite
arcs_gradient_finite cs arcs m d short few =
    every_map (add_gradient cs (replicate m zero64) arcs) (λ z h. most_weaken h (omega arith))
    (gradient_most arcs 0 (replicate m zero64) cs (every_replicate (Most 0 1074) m zero64 most_zero) d short (omega arith))

-- Gradients of open areas by position are finite.
pub gradient_finite : GradientFinite
unfolding open_gradient
gradient_finite ms d few = arcs_gradient_finite (circles_of ms) (outline ms) (3 * length ms) d (outline_short ms) few

-- Gradients of open areas by head number are finite.
pub region_gradient_finite : RegionGradientFinite
region_gradient_finite cs points S m d = arcs_gradient_finite cs (region_arcs cs points S) m d (region_short cs points S) (region_few cs points S)
