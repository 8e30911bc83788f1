-- What is worked out from a plan's meeting points and its list of sets looks at nothing else of either.
use mathlib.Core.Path.{◌≡◌, refl, ap, ap₂, ◌∙◌, fun_ext}
use mathlib.Core.Bool.{Bool, true, false, cond}
use mathlib.Core.List.{List}
use Prim.Native.Nat.{ℕ, zero, suc, ◌+◌, ◌*◌}
use lib.Ieee.{Float}
use lib.ListN.{replicate}
use Rattle.binary64.specs.Constants.{zero64}
use Rattle.plan.specs.declared.Plan.{Plan}
use Rattle.drawn.specs.Drawn.{plan_circles, box_of}
use Rattle.geometry.specs.Rectangle.{area, bounds}
use Rattle.intersections.specs.declared.points.IntersectionPoint.{IntersectionPoint}
use Rattle.intersections.specs.Members.{Member, heads_of, members_of}
use Rattle.intersections.specs.Points.{Rule, collected_by}
use Rattle.outline.specs.Area.{open_area, open_gradient}
use Rattle.clip.specs.Gradient.{clipped_gradient}
use Rattle.diagram.specs.Rows.{Slopes}
use Rattle.regions.specs.Edit.{Row, afresh_row}
use Rattle.regions.specs.Table.{members_by, afresh_by}
use Rattle.areas.specs.Exclusives.{exclusive_rows}
use Rattle.areas.specs.Gradients.{clipped_gradients_by, open_gradients_by}
use Rattle.areas.specs.Scatter.{scatter, scatter_clipped}
use Rattle.table.specs.Method.{method_over}
use Rattle.gradients.specs.Step.{clipped_plan_by, open_plan_by}
use Rattle.as_before.specs.Alike.{PlansAlike}

module _ (r s : Rule) (sets sets' : Plan → ℕ → Bool) (p : Plan)
    (points : collected_by r (plan_circles p) ≡ collected_by s (plan_circles p))
    (same : (S : ℕ) → sets p S ≡ sets' p S) where
  sets_same : sets p ≡ sets' p
  sets_same = fun_ext same

  members_same : members_by r p ≡ members_by s p
  members_same =
      ap {B = ℕ → List Member} (λ (found : List IntersectionPoint) (S : ℕ). members_of (plan_circles p) found S) points

  -- ---- rows

  rows_same : (has_box : Bool)
      → afresh_by r (method_over has_box sets) p ≡ afresh_by s (method_over has_box sets') p
  rows_same true =
      ap₂ {C = ℕ → Row} (λ (members : ℕ → List Member) (there : ℕ → Bool) (S : ℕ).
      afresh_row true (area (box_of p.ground)) (λ T. (method_over true sets).area p.ground (members T)) there S)
      members_same sets_same
  rows_same false =
      ap₂ {C = ℕ → Row} (λ (members : ℕ → List Member) (there : ℕ → Bool) (S : ℕ).
      afresh_row false zero64 (λ T. (method_over false sets).area p.ground (members T)) there S)
      members_same sets_same

  exclusives_same : (has_box : Bool)
      → exclusive_rows p.n (afresh_by r (method_over has_box sets) p)
      ≡ exclusive_rows p.n (afresh_by s (method_over has_box sets') p)
  exclusives_same has_box = ap (λ (rows : ℕ → Row). exclusive_rows p.n rows) (rows_same has_box)

  -- ---- gradients

  gradient_same : (scattered : List Member → List Float) (zeros : List Float) (S : ℕ)
      → cond (sets p S) (scattered (members_by r p S)) zeros ≡ cond (sets' p S) (scattered (members_by s p S)) zeros
  gradient_same scattered zeros S =
      ap₂ (λ (there : ℕ → Bool) (members : ℕ → List Member). cond (there S) (scattered (members S)) zeros)
      sets_same members_same

  clipped_same : (S : ℕ) → clipped_gradients_by r sets p S ≡ clipped_gradients_by s sets' p S
  unfolding clipped_gradients_by
  clipped_same zero = refl
  clipped_same (suc S) =
      gradient_same (λ members.
      scatter_clipped (heads_of p.n (suc S)) p.n (clipped_gradient (bounds (box_of p.ground)) members).grad)
      (replicate (p.n * 3 + 4) zero64) (suc S)

  open_same : (S : ℕ) → open_gradients_by r sets p S ≡ open_gradients_by s sets' p S
  unfolding open_gradients_by
  open_same zero = refl
  open_same (suc S) =
      gradient_same (λ members. scatter (heads_of p.n (suc S)) p.n (open_gradient members))
      (replicate (3 * p.n) zero64) (suc S)

  -- rows, areas and gradients together, by what tells the box from none
  module _ (has_box : Bool) (box_area : Float) (area_by : List Member → Float) (width : ℕ) where
    slopes : (ℕ → Bool) → (ℕ → List Member) → (ℕ → List Float) → Slopes
    slopes there members gradients = record {
      rows = record { has_box = has_box; box_area = box_area; sets = there; area = λ S. area_by (members S) };
      width = width;
      box_row = gradients 0;
      row = gradients;
    }

    slopes_same : (g h : ℕ → List Float) → ((S : ℕ) → g S ≡ h S)
        → slopes (sets p) (members_by r p) g ≡ slopes (sets' p) (members_by s p) h
    slopes_same g h e =
        ap (λ (there : ℕ → Bool). slopes there (members_by r p) g) sets_same
        ∙ ap₂ (slopes (sets' p)) members_same (fun_ext e)

  clipped_slopes_same : clipped_plan_by r sets p ≡ clipped_plan_by s sets' p
  unfolding slopes
  clipped_slopes_same =
      slopes_same true (area (box_of p.ground))
      (λ members. (clipped_gradient (bounds (box_of p.ground)) members).sum) (p.n * 3 + 4) _ _ clipped_same

  open_slopes_same : open_plan_by r sets p ≡ open_plan_by s sets' p
  unfolding slopes
  open_slopes_same = slopes_same false zero64 open_area (3 * p.n) _ _ open_same

pub plan_alike : PlansAlike
plan_alike r s sets sets' p points same = record {
  members = λ S. ap (λ (members : ℕ → List Member). members S) (members_same r s sets sets' p points same);
  rows = λ has_box S. ap (λ (rows : ℕ → Row). rows S) (rows_same r s sets sets' p points same has_box);
  exclusives = λ has_box S. ap (λ (rows : ℕ → Row). rows S) (exclusives_same r s sets sets' p points same has_box);
  clipped_gradients = clipped_same r s sets sets' p points same;
  open_gradients = open_same r s sets sets' p points same;
  clipped_slopes = clipped_slopes_same r s sets sets' p points same;
  open_slopes = open_slopes_same r s sets sets' p points same;
}
