-- An edit of a plan's afresh rows gives the edited plan's afresh rows.
use mathlib.Core.Path.{◌≡◌, refl, sym, ap, ◌∙◌}
use mathlib.Core.Bool.{Bool, true, false, not, cond, ◌&&◌, ◌||◌, true≢false}
use mathlib.Core.List.{[], ◌∷◌}
use Prim.Native.Nat.{ℕ, zero, suc, ◌<◌, ◌^◌}
use native.Mathlib.Nat.{lt_of_lt_of_le}
use native.Mathlib.Omega.{arith}
use lib.Dec.{eqb}
use lib.ListN.{length}
use lib.Pow.{pow_mono}
use borrow.Author.Tests.{ne_eqb}
use Rattle.heads.specs.declared.Head.{Head}
use Rattle.heads.specs.Pair.{meets_of}
use Rattle.masks.specs.Mask.{in_set}
use Rattle.masks.specs.Gather.{in_gather}
use Rattle.plan.specs.declared.Edit.{Edit}
use Rattle.plan.specs.declared.Plan.{Plan}
use Rattle.plan.specs.Book.{head_of, applied}
use Rattle.plan.specs.Limits.{HeadWithin, Acceptable, AcceptableEdit}
use Rattle.plan.proofs.Exactly.{within_limits}
use Rattle.drawn.specs.Drawn.{plan_circles}
use Rattle.drawn.proofs.Circles.{circles_edited, circles_many, circle-at}
use Rattle.exact.specs.Circle.{circle_of}
use Rattle.exact.proofs.Theorem.{no_points_unless_met}
use Rattle.intersections.specs.Members.{no_circle, circle_at, members_of, is_single}
use Rattle.intersections.specs.Points.{collected}
use Rattle.regions.specs.Edit.{Row, absent, present, box_row, afresh_row, overlaps, meets_any, met, reworked, edited_row}
use Rattle.intersections.proofs.Masks.{head_below}
use Rattle.regions.proofs.Masks.{no_overlap, own_head}
use Rattle.regions.specs.Table.{Method, head_at, area_at, afresh, met_by}
use Rattle.intersections.proofs.Kept.{Apart, area_same}

or-false : (a b : Bool) → (a || b) ≡ false → (a ≡ false) × (b ≡ false)
or-false true b e = absurd (true≢false e)
or-false false b e = (refl, e)

not-false : (a : Bool) → not a ≡ false → a ≡ true
not-false true e = refl
not-false false e = sym e

-- ---- a row that is not reworked

module _ (m : Method) (p : Plan) (e : Edit) (ten : length p.heads ≡ 10) (ok : Acceptable p) (oke : AcceptableEdit p.n e) where
  -- a head that is not met, before or after, has no point in common with the edited head
  unmet : (j : ℕ) → (j ≡ e.head → ⊥) → j < p.n → in_set (met_by p e) j ≡ false
      → Apart (circle_at (plan_circles p) e.head) (circle_at (plan_circles p) j) × Apart (circle_of (head_of e)) (circle_at (plan_circles p) j)
  unfolding met meets_any
  unmet j n hj i =
      rw (circle-at p ten ok.count e.head no_circle oke.head, circle-at p ten ok.count j no_circle hj)
      (apart (head_at p e.head) (ok.heads e.head oke.head) tests.0, apart (head_of e) (oke.x, oke.y, oke.radius) (or-false _ _ tests.1).0)
    where
      tests : (meets_of (head_at p e.head) (head_at p j) ≡ false) × ((meets_of (head_of e) (head_at p j) || false) ≡ false)
      tests =
          or-false _ _ (rw (
            in_gather p.n (λ i. not (eqb i e.head) && meets_any (head_at p e.head ∷ head_of e ∷ []) (head_at p i)) j hj,
            ne_eqb j e.head n,
          ) at i)

      apart : (v : Head) → HeadWithin v → meets_of v (head_at p j) ≡ false → Apart (circle_of v) (circle_of (head_at p j))
      apart v w no-meeting =
          no_points_unless_met v (head_at p j) (within_limits v w)
          (within_limits (head_at p j) (ok.heads j hj)) no-meeting

  -- a row that is not reworked was a set's, and has the area it had
  kept_area : (S : ℕ) → S < 2 ^ p.n → reworked (2 ^ e.head) (met_by p e) (m.sets p) S ≡ false
      → (m.sets p S ≡ true) × (area_at m p S ≡ area_at m (applied p e) S)
  unfolding reworked
  kept_area S h_s r = (
    not-false (m.sets p S) (or-false _ _ rest.1).0,
    area_same (m.area p.ground) (m.alone p.ground) (plan_circles p) e.head (circle_of (head_of e)) S
        (rw (circles_many p ten ok.count) oke.head) (lt_of_lt_of_le h_s (pow_mono {i = p.n} {j = 64} (omega (arith, ok.count)))) out clear
        ∙ ap (λ cs. m.area p.ground (members_of cs (collected cs) S)) (sym (circles_edited p e oke.head)),
  )
    where
      rest : (overlaps S (2 ^ e.head) ≡ false) × ((not (m.sets p S) || (not (is_single S) && overlaps S (met_by p e))) ≡ false)
      rest = or-false _ _ r

      out : in_set S e.head ≡ false
      out = own_head S e.head rest.0

      strict : is_single S ≡ false → overlaps S (met_by p e) ≡ false
      strict s = ap (λ b. not b && overlaps S (met_by p e)) (sym s) ∙ (or-false (not (m.sets p S)) _ rest.1).1

      clear : is_single S ≡ false → (j : ℕ) → in_set S j ≡ true
          → Apart (circle_at (plan_circles p) e.head) (circle_at (plan_circles p) j) × Apart (circle_of (head_of e)) (circle_at (plan_circles p) j)
      clear s j i =
          unmet j (λ q. true≢false (sym i ∙ ap (in_set S) q ∙ out)) (head_below S p.n j h_s i) (no_overlap S (met_by p e) j (strict s) i)

  -- the edited row of the afresh rows is the edited plan's afresh row
  pub edited_afresh : (rows : ℕ → Row) (S : ℕ) → S < 2 ^ p.n → rows S ≡ afresh m p S
      → edited_row m.has_box (2 ^ e.head) (met_by p e) (area_at m (applied p e)) (m.sets p) (m.sets (applied p e)) rows S ≡ afresh m (applied p e) S
  unfolding edited_row afresh_row
  edited_afresh rows zero h_s q = by m.has_box q
    where
      by : (b : Bool) → rows zero ≡ box_row b (m.box_area p.ground) → box_row b (rows zero).number ≡ box_row b (m.box_area p.ground)
      by true q = ap (λ r. present r.number) q
      by false q = refl
  edited_afresh rows (suc S) h_s q = go (m.sets (applied p e) (suc S)) (reworked (2 ^ e.head) (met_by p e) (m.sets p) (suc S)) refl
    where
      go : (a r : Bool) → reworked (2 ^ e.head) (met_by p e) (m.sets p) (suc S) ≡ r
          → cond a (present (cond r (area_at m (applied p e) (suc S)) (rows (suc S)).number)) absent ≡ cond a (present (area_at m (applied p e) (suc S))) absent
      go false r k = refl
      go true true k = refl
      go true false k = ap present (ap (λ w. w.number) (rw (kept_area (suc S) h_s k).0 at q) ∙ (kept_area (suc S) h_s k).1)
