-- Closed heads left out of a plan: its rows and exclusives, and its overlap.
use mathlib.Core.Path.{◌≡◌, refl, sym, ap, ap₂, ◌∙◌, subst, fun_ext}
use mathlib.Core.Bool.{Bool, true, false, not, cond, true≢false}
use mathlib.Core.List.{List, map, map-map}
use Prim.Native.Nat.{ℕ, zero, suc, ◌^◌, ◌≤◌, ◌<◌}
use native.Mathlib.Omega.{arith}
use lib.Dec.{eqb}
use lib.Ieee.{Float}
use lib.ListN.{length, take}
use Rattle.std.proofs.lemmas.List.{take-map}
use Rattle.lists.specs.Kept.{kept, remaining, place, kept_below}
use Rattle.lists.specs.Lists.{keep}
use Rattle.lists.proofs.Kept.{kept_few, keep_remaining, left_out_short, remaining_map, remaining_at}
use Rattle.lists.proofs.Kept.{remaining_length}
use Rattle.masks.specs.Spread.{spread}
use Rattle.masks.proofs.Spread.{spread_injective, spread_zero}
use Rattle.masks.specs.Operations.{in_of_zero, bit_of_zero}
use Rattle.geometry.specs.Circle as circle
use Rattle.geometry.specs.declared.circle.Circle.{Circle}
use Rattle.plan.specs.declared.Ground.{Ground}
use Rattle.plan.specs.declared.Plan.{Plan}
use Rattle.plan.specs.Limits.{Acceptable}
use Rattle.plan.specs.Without.{Without, OnlyClosed}
use Rattle.plan.proofs.Exactly.{within_limits}
use Rattle.exact.specs.Circle.{circle_of}
use Rattle.exact.proofs.Theorem.{is-drawn}
use Rattle.drawn.specs.Drawn.{plan_circles}
use Rattle.drawn.proofs.Circles.{circles_many, circle-at}
use Rattle.intersections.specs.Members.{no_circle, circle_at, heads_of, members_of}
use Rattle.intersections.specs.Points.{collected}
use Rattle.overlaps.specs.Overlap.{not_closed, together, chosen, overlap, overlap_of}
use Rattle.sets.specs.Regions.{closed_at, in_regions}
use Rattle.sets.proofs.Closed.{closed_in_no_set}
use Rattle.regions.specs.Edit.{Row, absent, present, afresh_row}
use Rattle.regions.specs.Table.{Method, head_at, plan_members, area_at, afresh}
use Rattle.areas.specs.Exclusives.{is_there, exclusive_rows}
use Rattle.areas.specs.Sets.{plan_sets}
use Rattle.table.specs.Method.{clipped_table, open_table}
use Rattle.left_out.specs.Circles.{OnlyClosedCircles}
use Rattle.masks.specs.SpreadPlaces.{NamesLeftOut}
use Rattle.left_out.specs.Tables.{SameTable}
use Rattle.left_out.proofs.Members.{heads_spread, members_left_out}
use Rattle.left_out.proofs.Sets.{sets_left_out}
use Rattle.left_out.proofs.Exclusives.{exclusive_left_out}

module _ (keeps : List Bool) (p q : Plan) (short : length keeps ≤ p.n) (ten : length p.heads ≡ 10) (ok : Acceptable p)
    (w : Without keeps p q) (closed : OnlyClosed keeps p) where
  fewer : q.n ≤ 10
  fewer = omega (arith, w.count, kept_few keeps p.n, ok.count)

  many : length (plan_circles p) ≡ p.n
  many = circles_many p ten ok.count

  many' : length (plan_circles q) ≡ q.n
  many' = circles_many q w.ten fewer

  -- ---- its circles

  pub circles_remaining : plan_circles q ≡ remaining keeps (plan_circles p)
  unfolding plan_circles
  circles_remaining =
      take-map circle_of q.n q.heads ∙ ap (map circle_of) w.heads
      ∙ sym (remaining_map circle_of keeps (take p.n p.heads))
      ∙ ap (remaining keeps) (sym (take-map circle_of p.n p.heads))

  closed_circle : (k : ℕ) → k < p.n → kept keeps k ≡ false → closed_at (plan_circles p) k ≡ true
  closed_circle k h e =
      ap circle.is_closed (circle-at p ten ok.count k no_circle h)
      ∙ (is-drawn (head_at p k) (within_limits (head_at p k) (ok.heads k h))).closed ∙ closed k h e

  closed_circles : OnlyClosedCircles keeps (plan_circles p)
  closed_circles i e = closed_circle i (omega (arith, left_out_short keeps i e)) e

  -- ---- sets and members

  pub sets_same : (S : ℕ) → plan_sets p (spread keeps S) ≡ plan_sets q S
  unfolding plan_sets
  sets_same S =
      sets_left_out (plan_circles p) keeps closed_circles S
      ∙ ap (λ cs. in_regions cs (collected cs) S) (sym circles_remaining)

  pub sets_none : (S : ℕ) → NamesLeftOut keeps p.n S → plan_sets p S ≡ false
  unfolding plan_sets
  sets_none S r =
      let below : r.head < length (plan_circles p) = subst (λ (n : ℕ). r.head < n) (sym many) r.below in
      closed_in_no_set (plan_circles p) r.head below (closed_circle r.head r.below r.left_out) S r.named

  pub members_same : (S : ℕ) → S < 2 ^ q.n → plan_members p (spread keeps S) ≡ plan_members q S
  members_same S h =
      members_left_out (plan_circles p) keeps closed_circles (omega (arith, many, ok.count)) S
      (subst (λ (n : ℕ). S < 2 ^ n) (sym many' ∙ ap length circles_remaining) h)
      ∙ ap (λ cs. members_of cs (collected cs) S) (sym circles_remaining)

  -- ---- rows

  -- a row that is not row 0
  row_of : (has_box : Bool) (box : Float) (area : ℕ → Float) (sets : ℕ → Bool) (S : ℕ) → 0 < S
      → afresh_row has_box box area sets S ≡ cond (sets S) (present (area S)) absent
  unfolding afresh_row
  row_of has_box box area sets zero h = absurd (omega arith)
  row_of has_box box area sets (suc S) h = refl

  pub above_zero : (S : ℕ) → 0 < S → 0 < spread keeps S
  above_zero S h = by (spread keeps S) refl
    where
      by : (U : ℕ) → spread keeps S ≡ U → 0 < U
      by zero e = absurd (omega (arith, spread_injective keeps S 0 (e ∙ sym (spread_zero keeps))))
      by (suc U) e = omega arith

  names_some : (S : ℕ) → NamesLeftOut keeps p.n S → 0 < S
  names_some zero r = absurd (true≢false (sym r.named ∙ in_of_zero 0 r.head (bit_of_zero r.head)))
  names_some (suc S) r = omega arith

  module _ (m : Method) (own : (r : Plan) (S : ℕ) → m.sets r S ≡ plan_sets r S) where
    row_same : (S : ℕ) → S < 2 ^ q.n → afresh m p (spread keeps S) ≡ afresh m q S
    unfolding afresh_row
    row_same zero l =
        ap (afresh m p) (spread_zero keeps)
        ∙ ap (λ (g : Ground). cond m.has_box (present (m.box_area g)) absent) (sym w.ground)
    row_same (suc S) l =
        row_of m.has_box (m.box_area p.ground) (area_at m p) (m.sets p) (spread keeps (suc S))
        (above_zero (suc S) (omega arith))
        ∙ ap₂ (λ (b : Bool) (x : Float). cond b (present x) absent)
        (own p (spread keeps (suc S)) ∙ sets_same (suc S) ∙ sym (own q (suc S)))
        (ap₂ m.area (sym w.ground) (members_same (suc S) l))

    row_none : (S : ℕ) → NamesLeftOut keeps p.n S → afresh m p S ≡ absent
    row_none S r =
        row_of m.has_box (m.box_area p.ground) (area_at m p) (m.sets p) S (names_some S r)
        ∙ ap (λ (b : Bool). cond b (present (area_at m p S)) absent) (own p S ∙ sets_none S r)

    exclusive_same : (S : ℕ) → S < 2 ^ q.n
        → exclusive_rows p.n (afresh m p) (spread keeps S) ≡ exclusive_rows q.n (afresh m q) S
    exclusive_same S l =
        ap₂ (λ (b : ℕ) (x : Float). record { byte = b; number = x }) (ap (λ (r : Row). r.byte) (row_same S l))
        (exclusive_left_out keeps p.n (is_there (afresh m p)) (is_there (afresh m q))
        (λ U g. ap (λ (r : Row). eqb r.byte 1) (row_same U (below g)))
        (λ k U h o e. ap (λ (r : Row). eqb r.byte 1)
        (row_none U (record { head = k; below = h; left_out = o; named = e })))
        (λ U. (afresh m p U).number) (λ U. (afresh m q U).number)
        (λ U g. ap (λ (r : Row). r.number) (row_same U (below g))) S
        (subst (λ (n : ℕ). S < 2 ^ n) w.count l)
        ∙ ap (λ (n : ℕ). (exclusive_rows n (afresh m q) S).number) (sym w.count))
      where
        below : {U : ℕ} → U < 2 ^ kept_below keeps p.n → U < 2 ^ q.n
        below {U} g = subst (λ (n : ℕ). U < 2 ^ n) (sym w.count) g

    exclusive_none : (S : ℕ) → NamesLeftOut keeps p.n S → exclusive_rows p.n (afresh m p) S ≡ absent
    exclusive_none S r = rw (row_none S r) refl

    -- both tables, of a method whose exclusives are those of to_exclusive_areas
    same_table : ((n : ℕ) (rows : ℕ → Row) (S : ℕ) → (m.exclusives).of n rows S ≡ exclusive_rows n rows S)
        → SameTable m keeps p q
    same_table is = record {
      rows = row_same;
      exclusives = λ S l. is p.n (afresh m p) (spread keeps S) ∙ exclusive_same S l ∙ sym (is q.n (afresh m q) S);
      absent_rows = row_none;
      absent_exclusives = λ S r. is p.n (afresh m p) S ∙ exclusive_none S r;
    }

  pub table_same : SameTable clipped_table keeps p q
  table_same = same_table clipped_table (λ r S. refl) (λ n rows S. refl)

  pub open_table_same : SameTable open_table keeps p q
  open_table_same = same_table open_table (λ r S. refl) (λ n rows S. refl)

  -- ---- the overlap

  pub overlap_same : overlap (plan_circles p) ≡ overlap (plan_circles q)
  unfolding not_closed
  overlap_same =
      ap together
      (sym (ap (keep (λ c. not (circle.is_closed c))) circles_remaining
      ∙ keep_remaining (λ c. not (circle.is_closed c)) no_circle keeps (plan_circles p)
      (λ i h e. ap not (closed_circles i e))))

  pub overlap_of_same : (S : ℕ) → overlap_of (plan_circles p) (spread keeps S) ≡ overlap_of (plan_circles q) S
  overlap_of_same S =
      ap overlap (chosen_spread (plan_circles p) S) ∙ ap (λ cs. overlap_of cs S) (sym circles_remaining)
    where
      chosen_spread : (cs : List Circle) (S : ℕ) → chosen cs (spread keeps S) ≡ chosen (remaining keeps cs) S
      chosen_spread cs S =
          ap (map (circle_at cs)) (heads_spread keeps (length cs) S)
          ∙ map-map (circle_at cs) (place keeps) (heads_of (kept_below keeps (length cs)) S)
          ∙ ap₂ (λ (f : ℕ → Circle) (n : ℕ). map f (heads_of n S))
          (fun_ext (λ j. sym (remaining_at keeps cs j no_circle))) (sym (remaining_length keeps cs))
