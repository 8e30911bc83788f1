-- The area of a set in the box together with its gradient is finite: what each part and each edge adds to the entries. Rests on
-- Clipped, for the breaks and the parts, and on Edges.
use mathlib.Core.Path.{◌≡◌, refl}
use mathlib.Core.Bool.{Bool, true, false, cond}
use mathlib.Core.List.{List, [], ◌∷◌}
use Prim.Native.Nat.{ℕ, suc, ◌+◌, ◌*◌, ◌^◌, ◌≤◌, ◌<◌}
use native.Mathlib.Omega.{arith}
use borrow.Author.Tests.{ltb-true}
use lib.Dec.{lit≤, ltb}
use lib.ListN.{length, get_or, replicate}
use lib.Ieee.{Float, of_bits}
use Rattle.binary64.specs.Units.{mag, pow2}
use Rattle.binary64.specs.Constants.{zero64, four64}
use Rattle.binary64.specs.Magnitude.{Most, Least}
use Rattle.binary64.proofs.Magnitude.{literal_least, most_weaken, most_zero, neg_most, add_most, sub_most, mul_most, div_most}
use Rattle.elementary.specs.Sine.{sine as sin, cosine as cos}
use Rattle.binary64.specs.Floats.{◌+ᶠ◌, ◌-ᶠ◌, ◌*ᶠ◌, ◌/ᶠ◌}
use Rattle.geometry.specs.declared.bounds.Bounds.{Bounds}
use Rattle.geometry.specs.declared.circle.Circle.{Circle}
use Rattle.boundary.specs.declared.arcs.BoundaryArc.{BoundaryArc}
use Rattle.lists.specs.Every.{Every, every_map, every_at, every_replicate}
use Rattle.intersections.specs.Members.{circles_of, no_circle}
use Rattle.boundary.specs.Outline.{outline}
use Rattle.outline.specs.Area.{add_at, sub_at}
use Rattle.inside.specs.declared.edges.BoxEdge.{BoxEdge}
use Rattle.inside.specs.declared.edges.BoxEdge.TheVariants.{Bottom, Right, Top, Left}
use Rattle.inside.specs.Edges.{is_upright, is_outward}
use Rattle.inside.specs.Breaks.{breaks}
use Rattle.inside.specs.Parts.{summed}
use Rattle.inside.specs.Span.{Interval}
use Rattle.clip.specs.Area.{empty_box}
use Rattle.clip.specs.Gradient.{WithGradient, with_gradient, sub_arc_by_differences, part_slopes, sub_arc_with_gradient, add_part_with_gradient, clipped_arc_integral_with_gradient, add_clipped_arc_with_gradient, add_clipped_arcs_with_gradient, moved, edge_slopes, add_span_with_gradient, add_edges_with_gradient, clipped_with_gradient, clipped_onto, clipped_gradient}
use Rattle.finite.specs.Arcs.{ShortArc}
use Rattle.finite.specs.Open.{InDomain}
use Rattle.finite.specs.Clipped.{BoxInDomain, GradientMost, ClippedGradientFinite, GradientClippedFinite}
use Rattle.lists.proofs.Folds.{fold_after, pairs_after}
use Rattle.finite.proofs.Open.{entry_add, entry_sub, outline_short}
use Rattle.finite.proofs.Edges.{OneShort, edges_short}
use Rattle.finite.proofs.Clipped.{Angle, breaks_most, breaks_few, sines_most, cosines_most, length_most, terms_most, half_most}

-- ---- looser bounds

entries_weaken : {j k : ℕ} (g : List Float) → Every (Most j 1074) g → j ≤ k → Every (Most k 1074) g
entries_weaken g e h = every_map g (λ z m. most_weaken m h) e

gradient_weaken : {i j k l : ℕ} {s : WithGradient} → GradientMost i k s → i ≤ j → k ≤ l → GradientMost j l s
gradient_weaken {s = s} h p q = record { sum = most_weaken h.sum p; entries = entries_weaken s.grad h.entries q }

gradient_either : {j k : ℕ} {s t : WithGradient} (b : Bool) → GradientMost j k s → GradientMost j k t → GradientMost j k (cond b s t)
gradient_either true h g = h
gradient_either false h g = g

-- ---- parts: what is said of both, the sum and the entries

-- a part adds at most 880,000 to its three entries together
part_slopes_most : (k off : ℕ) {r s c t : Float} (g : List Float) → Most 20000 1074 r → Most 2 1074 s → Most 2 1074 c → Most 40 1074 t
    → Every (Most k 1074) g → k + 880000 ≤ 2 ^ 53 → Every (Most (k + 880000) 1074) (part_slopes off r s c t g)
unfolding part_slopes
part_slopes_most k off {r} {s} {c} {t} g hr hs hc ht e room =
    let gx = add_at g off (r *ᶠ s) in
    let gy = sub_at gx (off + 1) (r *ᶠ c) in
    let ex = entry_add k 40000 g off (r *ᶠ s) e (mul_most hr hs 1074 refl (lit≤ tt) (lit≤ tt)) (omega arith) in
    let ey = entry_sub (k + 40000) 40000 gx (off + 1) (r *ᶠ c) ex (mul_most hr hc 1074 refl (lit≤ tt) (lit≤ tt)) (omega arith) in
    let er = entry_add (k + 40000 + 40000) 800000 gy (off + 2) (r *ᶠ t) ey (mul_most hr ht 1074 refl (lit≤ tt) (lit≤ tt)) (omega arith) in
    entries_weaken (add_at gy (off + 2) (r *ᶠ t)) er (omega arith)

differences_most : (c : Circle) {s u t : Float} → InDomain c → Most 2 1074 s → Most 2 1074 u → Most 40 1074 t → Most 17600000000 1074 (sub_arc_by_differences c s u t)
unfolding sub_arc_by_differences
differences_most c d hs hu ht =
    let terms = terms_most c d hs hu ht in
    add_most (sub_most terms.0 terms.1 (lit≤ tt) (lit≤ tt)) terms.2 (lit≤ tt) (lit≤ tt)

-- what m parts of an arc have added to a gradient whose entries are at most k
AfterParts : ℕ → ℕ → WithGradient → Type 0
AfterParts k m s = GradientMost (m * 17600000000) (k + m * 880000) s

module _ (box : Bounds) (c : Circle) (off k : ℕ) (d : InDomain c) (room : k + 22880000 ≤ 2 ^ 53) where
  part_both : (m : ℕ) (s : WithGradient) (a b : Float) → m < 26 → AfterParts k m s → Angle a → Angle b
      → AfterParts k (suc m) (add_part_with_gradient box c off s a b)
  unfolding AfterParts add_part_with_gradient sub_arc_with_gradient
  part_both m s a b few h ha hb =
      let turn = length_most ha hb in
      let part = differences_most c d (sines_most a b) (cosines_most a b) turn in
      let slopes = part_slopes_most (k + m * 880000) off s.grad d.r (sines_most a b) (cosines_most a b) turn h.entries (omega arith) in
      let added = part_slopes off c.radius (sin b -ᶠ sin a) (cos b -ᶠ cos a) (b -ᶠ a) s.grad in
      gradient_either (summed box c a b)
      record { sum = most_weaken (add_most h.sum part (omega arith) (lit≤ tt)) (omega arith); entries = entries_weaken added slopes (omega arith) }
      (gradient_weaken h (omega arith) (omega arith))

-- an arc adds at most 22,880,000 to an entry
arc_both : (box : Bounds) (c : Circle) (arc : BoundaryArc) (k : ℕ) (g : List Float) → InDomain c → ShortArc arc → Every (Most k 1074) g
    → k + 22880000 ≤ 2 ^ 53 → GradientMost 457600000000 (k + 22880000) (clipped_arc_integral_with_gradient box c arc g)
unfolding clipped_arc_integral_with_gradient AfterParts
arc_both box c arc k g d short e room =
    let few = breaks_few box c arc in
    gradient_weaken
    (pairs_after (AfterParts k) Angle (add_part_with_gradient box c (arc.circle * 3)) 26 (λ m s h. gradient_weaken h (omega arith) (omega arith))
    (part_both box c (arc.circle * 3) k d room) (breaks box c arc) 0 (with_gradient zero64 g)
    record { sum = most_zero; entries = entries_weaken g e (omega arith) } (breaks_most box c arc short) (omega arith))
    (omega arith) (omega arith)

-- ---- arcs

-- what m arcs have added
AfterArcs : ℕ → ℕ → WithGradient → Type 0
AfterArcs k m s = GradientMost (m * 457600000000) (k + m * 22880000) s

module _ (box : Bounds) (cs : List Circle) (k : ℕ) (d : Every InDomain cs) (room : k + 4118400000 ≤ 2 ^ 53) where
  add_both : (m : ℕ) (s : WithGradient) (arc : BoundaryArc) → m < 180 → AfterArcs k m s → ShortArc arc
      → AfterArcs k (suc m) (add_clipped_arc_with_gradient box cs s arc)
  unfolding AfterArcs add_clipped_arc_with_gradient
  add_both m s arc few h short = by (ltb arc.circle (length cs)) refl
    where
      one : WithGradient
      one = clipped_arc_integral_with_gradient box (get_or cs arc.circle no_circle) arc s.grad

      by : (t : Bool) → ltb arc.circle (length cs) ≡ t
          → AfterArcs k (suc m) (cond t (with_gradient (s.sum +ᶠ one.sum) one.grad) s)
      by true e =
          let own = every_at InDomain cs arc.circle no_circle (ltb-true _ _ e) d in
          let arcs = arc_both box (get_or cs arc.circle no_circle) arc (k + m * 22880000) s.grad own short h.entries (omega arith) in
          record { sum = most_weaken (add_most h.sum arcs.sum (omega arith) (lit≤ tt)) (omega arith); entries = entries_weaken one.grad arcs.entries (omega arith) }
      by false e = gradient_weaken h (omega arith) (omega arith)

  arcs_both : (arcs : List BoundaryArc) (g : List Float) → Every ShortArc arcs → length arcs ≤ 180 → Every (Most k 1074) g
      → GradientMost 82368000000000 (k + 4118400000) (add_clipped_arcs_with_gradient box cs (with_gradient zero64 g) arcs)
  unfolding AfterArcs
  arcs_both arcs g short few e =
      gradient_weaken
      (fold_after (AfterArcs k) ShortArc (add_clipped_arc_with_gradient box cs) 180 add_both arcs 0 (with_gradient zero64 g)
      record { sum = most_zero; entries = entries_weaken g e (omega arith) } short (omega arith))
      (omega arith) (omega arith)

-- ---- edges

four_least : Least 4 1074 four64
unfolding of_bits mag pow2
four_least = literal_least 0x4010_0000_0000_0000 4 1074 tt tt

moved_most : (b : Bool) (j k : ℕ) (g : List Float) (i : ℕ) (x : Float) → Every (Most j 1074) g → Most k 1074 x → j + k ≤ 2 ^ 53
    → Every (Most (j + k) 1074) (moved b g i x)
moved_most true j k g i x e h room = entry_add j k g i x e h room
moved_most false j k g i x e h room = entry_sub j k g i x e h room

-- an edge adds its span to one entry and a quarter of the side across times it to two
edge_slopes_most : (e : BoxEdge) (across : Float) (at k : ℕ) (l : Float) (g : List Float) → Most 80000 1074 across → Most 171072 1074 l → Every (Most k 1074) g
    → k + 6843051072 ≤ 2 ^ 53 → Every (Most (k + 6843051072) 1074) (edge_slopes e across at l g)
unfolding edge_slopes
edge_slopes_most e across at k l g ha hl h room =
    let share = across /ᶠ four64 *ᶠ l in
    let most = mul_most (div_most ha four_least 20000 1074 refl (lit≤ tt) (lit≤ tt) (lit≤ tt) (lit≤ tt)) hl 1074 refl (lit≤ tt) (lit≤ tt) in
    let centre = moved (is_outward e) g (cond (is_upright e) at (at + 1)) l in
    let size = add_at centre (at + 2) share in
    let first = moved_most (is_outward e) k 171072 g (cond (is_upright e) at (at + 1)) l h hl (omega arith) in
    let second = entry_add (k + 171072) 3421440000 centre (at + 2) share first most (omega arith) in
    let third = moved_most (is_upright e) (k + 171072 + 3421440000) 3421440000 size (at + 3) share second most (omega arith) in
    entries_weaken (moved (is_upright e) size (at + 3) share) third (omega arith)

span_both : (e : BoxEdge) {factor across : Float} (at j k : ℕ) {s : WithGradient} (l : List Interval) → Most 40000 1074 factor → Most 80000 1074 across
    → GradientMost j k s → OneShort l → j + 6842880000 ≤ 2 ^ 53 → k + 6843051072 ≤ 2 ^ 53
    → GradientMost (j + 6842880000) (k + 6843051072) (add_span_with_gradient e factor across at s l)
unfolding add_span_with_gradient OneShort
span_both e at j k [] hf ha h short roomj roomk = gradient_weaken h (omega arith) (omega arith)
span_both e {factor} {across} at j k {s} (i ∷ rest) hf ha h short roomj roomk =
    rw short.1
    record {
      sum = add_most h.sum (mul_most hf short.0 1074 refl (lit≤ tt) (lit≤ tt)) roomj (lit≤ tt);
      entries = edge_slopes_most e across at k (i.high -ᶠ i.low) s.grad ha short.0 h.entries roomk;
    }

-- the four edges add at most 27,371,520,000 to the sum and 27,372,204,288 to an entry
edges_both : (box : Bounds) (cs : List Circle) (at j k : ℕ) (s : WithGradient) → BoxInDomain box → Every InDomain cs → GradientMost j k s
    → j + 27371520000 ≤ 2 ^ 53 → k + 27372204288 ≤ 2 ^ 53 → GradientMost (j + 27371520000) (k + 27372204288) (add_edges_with_gradient box cs at s)
unfolding add_edges_with_gradient
edges_both box cs at j k s b d h roomj roomk =
    let short = edges_short box cs b d in
    let wide = sub_most b.x-max b.x-min (lit≤ tt) (lit≤ tt) in
    let high = sub_most b.y-max b.y-min (lit≤ tt) (lit≤ tt) in
    let bottom = span_both Bottom at j k _ (neg_most b.y-min) high h short.bottom (omega arith) (omega arith) in
    let right = span_both Right at (j + 6842880000) (k + 6843051072) _ b.x-max wide bottom short.right (omega arith) (omega arith) in
    let top = span_both Top at (j + 6842880000 + 6842880000) (k + 6843051072 + 6843051072) _ b.y-max high right short.top (omega arith) (omega arith) in
    let left = span_both Left at (j + 6842880000 + 6842880000 + 6842880000) (k + 6843051072 + 6843051072 + 6843051072) _ (neg_most b.x-min) wide top short.left (omega arith) (omega arith) in
    gradient_weaken left (omega arith) (omega arith)

-- ---- the area with its gradient

-- By a list of arcs, onto a gradient.
pub clipped_gradient_finite : ClippedGradientFinite
unfolding clipped_with_gradient
clipped_gradient_finite box all own arcs k g b domain members short few e room =
    let along = add_clipped_arcs_with_gradient box all (with_gradient zero64 g) arcs in
    let round = add_edges_with_gradient box own (length all * 3) along in
    let most = edges_both box own (length all * 3) 82368000000000 (k + 4118400000) along b members (arcs_both box all k domain (omega arith) arcs g short few e) (lit≤ tt) (omega arith) in
    gradient_either (empty_box box)
    record { sum = most_zero; entries = entries_weaken g e (omega arith) }
    record { sum = half_most most.sum (lit≤ tt) (lit≤ tt); entries = entries_weaken round.grad most.entries (omega arith) }

-- By the members of a set, from zeros.
pub gradient_clipped_finite : GradientClippedFinite
unfolding clipped_gradient clipped_onto
gradient_clipped_finite box ms b d few =
    let zeros = replicate (length ms * 3 + 4) zero64 in
    clipped_gradient_finite box (circles_of ms) (circles_of ms) (outline ms) 0 zeros b d d (outline_short ms) few
    (every_replicate (Most 0 1074) (length ms * 3 + 4) zero64 most_zero) (lit≤ tt)
