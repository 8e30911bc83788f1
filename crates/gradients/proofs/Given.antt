-- The rows that `diagram` works out over the circles of a plan are the plan's rows: areas and gradients by head number
-- are those by position, scattered (`plan_by_head` of areas).
use mathlib.Core.Path.{◌≡◌, refl, sym, ap, ap₂, ◌∙◌, subst}
use mathlib.Core.List.{List, []}
use Prim.Native.Nat.{ℕ, min, ◌+◌, ◌*◌, ◌^◌, ◌≤◌, ◌<◌}
use native.Mathlib.Omega.{arith}
use borrow.Author.Tests.{le-ltb}
use lib.Dec.{eqb}
use lib.Ieee.{Float}
use lib.ListN.{length, set, replicate}
use Rattle.std.proofs.lemmas.List.{set_comm}
use Rattle.lists.proofs.Lists.{set_replicate}
use Rattle.lists.proofs.Writing.{written_before}
use Rattle.masks.specs.Presence.{byte, stands, byte_stands}
use Rattle.binary64.specs.Constants.{zero64}
use Rattle.geometry.specs.Rectangle.{area, bounds}
use Rattle.geometry.specs.declared.circle.Circle.{Circle}
use Rattle.geometry.specs.declared.rectangle.Rectangle.{Rectangle}
use Rattle.intersections.specs.Heads.{first_ten}
use Rattle.intersections.specs.Members.{heads_of}
use Rattle.intersections.specs.Points.{collected}
use Rattle.intersections.proofs.Few.{few_read}
use Rattle.clip.specs.Gradient.{WithGradient, with_gradient}
use Rattle.plan.specs.declared.Gradients.{Gradients}
use Rattle.plan.specs.declared.Plan.{Plan}
use Rattle.plan.specs.Checks.{call_answer}
use Rattle.plan.specs.Table.{taken, width_of}
use Rattle.plan.proofs.Exactly.{call_taken}
use Rattle.drawn.specs.Drawn.{plan_circles, box_of}
use Rattle.drawn.proofs.Circles.{circles_many}
use Rattle.exclusive.proofs.Answers.{fits}
use Rattle.diagram.specs.Rows.{Slopes}
use Rattle.diagram.specs.Drawing.{clipped_onto}
use Rattle.diagram.specs.Diagram.{open_with_gradients, clipped_with_gradients}
use Rattle.diagram.specs.Diagram.{presence_left_with, areas_left, gradients_left}
use Rattle.diagram.proofs.Alike.{Alike, Agree, presence_alike, areas_alike, slopes_alike}
use Rattle.sets.specs.Regions.{set_bytes, in_regions}
use Rattle.areas.specs.Clipped.{clipped_gradient_row}
use Rattle.areas.specs.Open.{open_gradient_row}
use Rattle.areas.specs.Sets.{plan_sets}
use Rattle.areas.specs.Scatter.{put, entries_of, scatter, scatter_clipped}
use Rattle.areas.specs.Gradients.{box_slopes, clipped_gradients_by}
use Rattle.areas.proofs.ByHead.{plan_by_head}
use Rattle.areas.proofs.Gradients.{clipped-gradients, open-gradients}
use Rattle.gradients.specs.Step.{GradientSlices, gradient_slices, lent_gradients, gradients_written, step_to}
use Rattle.gradients.specs.Step.{gradients_step, clipped_plan, open_plan}

-- ---- the rows of a plan

-- row 0 in the box: the box's four entries, of which the third alone is not +0
row_zero : (n : ℕ) (a : Float) → scatter_clipped [] n (box_slopes a) ≡ set (replicate (n * 3 + 4) zero64) (n * 3 + 2) a
unfolding scatter_clipped put entries_of
row_zero n a =
    let m = n * 3 + 4 in
    rw (
      set_replicate m (n * 3) zero64,
      set_replicate m (n * 3 + 1) zero64,
      set_comm (replicate m zero64) (n * 3 + 2) (n * 3 + 3) a zero64 (omega arith),
      set_replicate m (n * 3 + 3) zero64,
    ) refl

module _ (p : Plan) (ten : length p.heads ≡ 10) (few : p.n ≤ 10) where
  abbrev cs : List Circle
  cs = plan_circles p

  abbrev box : Rectangle
  box = box_of p.ground

  many : length cs ≡ p.n
  many = circles_many p ten few

  -- ten at most: all of them are read
  read : first_ten cs ≡ cs
  read = few_read cs (omega (arith, many))

  -- the bytes of a plan's sets
  sets : Alike p.n (stands (set_bytes cs (collected cs))) (plan_sets p)
  unfolding plan_sets
  sets S h =
      let below : S < 2 ^ length cs = subst (λ (n : ℕ). S < 2 ^ n) (sym many) h in
      ap (λ (b : ℕ). eqb b 1)
      (written_before (λ T. byte (in_regions cs (collected cs) T)) (2 ^ length cs) S (replicate 1024 0) 0 below)
      ∙ byte_stands (in_regions cs (collected cs) S)

  set_in_box : (S : ℕ) → let g = clipped_gradient_row p S in
      clipped_onto cs (collected cs) box S (replicate (length cs * 3 + 4) zero64)
      ≡ with_gradient g.sum (scatter_clipped (heads_of p.n S) p.n g.grad)
  set_in_box S =
      let g = clipped_gradient_row p S in
      (plan_by_head p S few).clipped-gradient (bounds box)
      ∙ ap (λ (m : ℕ). with_gradient g.sum (scatter_clipped (heads_of m S) m g.grad)) many

  pub clipped_agree : Agree p.n (clipped_with_gradients box cs) (clipped_plan plan_sets p)
  unfolding clipped_gradients_by
  clipped_agree = rw read (record {
    has_box = refl;
    width = ap (λ (m : ℕ). m * 3 + 4) many;
    sets = sets;
    box_area = refl;
    box_row = ap (λ (m : ℕ). set (replicate (m * 3 + 4) zero64) (m * 3 + 2) (area box)) many
        ∙ sym (row_zero p.n (area box));
    area = λ S k e. ap (λ (z : WithGradient). z.sum) (set_in_box S);
    row = λ S k e. ap (λ (z : WithGradient). z.grad) (set_in_box S)
        ∙ sym ((clipped-gradients plan_sets p).present S k e);
  })

  pub open_agree : Agree p.n (open_with_gradients cs) (open_plan plan_sets p)
  open_agree = rw read (record {
    has_box = refl;
    width = ap (λ (m : ℕ). 3 * m) many;
    sets = sets;
    box_area = refl;
    box_row = ap (λ (m : ℕ). replicate (3 * m) zero64) many ∙ sym (open-gradients plan_sets p).none;
    area = λ S k e. (plan_by_head p S few).area;
    row = λ S k e. (plan_by_head p S few).gradient
        ∙ ap (λ (m : ℕ). scatter (heads_of m S) m (open_gradient_row p S)) many
        ∙ sym ((open-gradients plan_sets p).present S k e);
  })

-- ---- a call that is taken

module _ (n : ℕ) (g : Slopes) (t : GradientSlices) where
  -- what `diagram` leaves
  abbrev left : GradientSlices
  left =
      gradient_slices (presence_left_with n g t.presence t.exclusives t.gradients)
      (areas_left n g t.presence t.exclusives t.gradients) (gradients_left n g t.presence t.exclusives t.gradients)

  left_is : n ≤ 10 → 2 ^ n ≤ length t.presence → 2 ^ n ≤ length t.exclusives → 2 ^ n * g.width ≤ length t.gradients
      → left ≡ gradients_written n g t
  left_is few hb hn hg =
      let rows = min (length t.presence) (length t.exclusives) in
      rw (sym (fits n rows few (omega arith)), le-ltb (length t.gradients) (2 ^ n * g.width) hg) refl

agreed : (n : ℕ) (g h : Slopes) (t : GradientSlices) → Agree n g h → gradients_written n g t ≡ gradients_written n h t
agreed n g h t e =
    ap₂ (λ (x : List ℕ) (y : List Float). gradient_slices x y (gradients_written n g t).gradients)
    (presence_alike n g h e t.presence) (areas_alike n g h e t.exclusives)
    ∙ ap (λ (z : List Float). gradient_slices (gradients_written n h t).presence (gradients_written n h t).exclusives z)
    (slopes_alike n g h e t.gradients)

-- the rows are those of a plan
pub step_left : (which : Gradients) (slopes : Plan → Slopes) (p : Plan) (t : GradientSlices) (g : Slopes)
    → length p.heads ≡ 10 → (p.n ≤ 10 → Agree p.n g (slopes p)) → (slopes p).width ≡ width_of which p.n
    → taken ≡ call_answer p which (lent_gradients t)
    → step_to (left (length (plan_circles p)) g t) taken ≡ gradients_step which slopes p t
step_left which slopes p t g ten rows wide e =
    let z = (call_taken p which (lent_gradients t) ten).0 (sym e) in let few = z.0.count in let same = rows few in
    rw (sym e) (ap (λ (l : GradientSlices). step_to l taken)
    (ap (λ (n : ℕ). left n g t) (circles_many p ten few)
    ∙ left_is p.n g t few (omega (arith, z.1.0)) (omega (arith, z.1.0)) (rw (same.width, wide) z.1.1)
    ∙ agreed p.n g (slopes p) t same))
