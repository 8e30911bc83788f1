-- A closed head of a plan has no set, no row, no exclusive and no slopes (specs/Closed.antt).
use mathlib.Core.Path.{◌≡◌, refl, sym, ap, ◌∙◌, subst}
use mathlib.Core.Bool.{Bool, true, false, true≢false}
use mathlib.Core.List.{List}
use Prim.Native.Nat.{ℕ, zero, suc, ◌+◌, ◌*◌, ◌<◌}
use native.Mathlib.Omega.{arith}
use lib.Ieee.{Float, nan}
use lib.ListN.{get_or, get_or-replicate}
use Rattle.binary64.specs.Constants.{zero64}
use Rattle.geometry.specs.Circle as circle
use Rattle.lists.specs.Every.{every_map}
use Rattle.masks.specs.Mask.{in_set}
use Rattle.masks.specs.Operations.{in_of_zero, bit_of_zero}
use Rattle.plan.specs.declared.Plan.{Plan}
use Rattle.plan.proofs.Exactly.{within_limits}
use Rattle.exact.proofs.Theorem.{is-drawn}
use Rattle.intersections.specs.Members.{no_circle, heads_of}
use Rattle.sets.proofs.Closed as sets
use Rattle.drawn.specs.Drawn.{plan_circles}
use Rattle.drawn.proofs.Circles.{circles_many, circle-at}
use Rattle.regions.specs.Edit.{afresh_row, edited_row}
use Rattle.regions.specs.Table.{head_at, edited}
use Rattle.areas.specs.Closed.{InNoSet, ClosedInNoSet, NoRow, NoRowAfter, NoExclusive, NoSlope, NoSlopes}
use Rattle.areas.specs.Clipped.{clipped_gradient_row}
use Rattle.areas.specs.Open.{open_gradient_row}
use Rattle.areas.specs.Gradients.{clipped_gradients, open_gradients}
use Rattle.areas.specs.Sets.{plan_sets}
use Rattle.areas.proofs.Gradients.{clipped_elsewhere, clipped-gradients, open-gradients}
use Rattle.areas.proofs.Scattering.{heads-in, scattered_elsewhere}

-- the circle of a closed head is closed
pub closed_in_no_set : ClosedInNoSet
unfolding plan_sets
closed_in_no_set p ten ok j h closed =
    let head = head_at p j in
    sets.closed_in_no_set (plan_circles p) j (subst (λ (n : ℕ). j < n) (sym (circles_many p ten ok.count)) h)
    (ap circle.is_closed (circle-at p ten ok.count j no_circle h)
    ∙ (is-drawn head (within_limits head (ok.heads j h))).closed ∙ closed)

-- ---- rows

-- row 0 names no head
pub not_in_empty : (j : ℕ) → in_set 0 j ≡ true → ⊥
not_in_empty j i = true≢false (sym i ∙ in_of_zero 0 j (bit_of_zero j))

pub no_row : NoRow
unfolding afresh_row
no_row m p j none zero i = absurd (not_in_empty j i)
no_row m p j none (suc S) i = rw (none (suc S) i)

pub no_row_after : NoRowAfter
unfolding edited edited_row
no_row_after m p e rows j none zero i = absurd (not_in_empty j i)
no_row_after m p e rows j none (suc S) i = rw (none (suc S) i)

pub no_exclusive : NoExclusive
no_exclusive n rows S e = rw e refl

-- ---- gradients

module _ (sets : Plan → ℕ → Bool) (p : Plan) (j i : ℕ) (h : j < p.n) (l : i < 3) (none : InNoSet (sets p) j) where
  -- a set of the list lacks the head
  lacks : (S : ℕ) → sets p S ≡ true → in_set S j ≡ false
  lacks S e = by (in_set S j) refl
    where
      by : (b : Bool) → in_set S j ≡ b → b ≡ false
      by true q = absurd (true≢false (sym e ∙ none S q))
      by false q = refl

  row_clipped : (S : ℕ) → 0 < S → (b : Bool) → sets p S ≡ b
      → get_or (clipped_gradients sets p S) (j * 3 + i) nan ≡ zero64
  row_clipped S k false e =
      ap (λ (g : List Float). get_or g (j * 3 + i) nan) ((clipped-gradients sets p).absent S k e)
      ∙ get_or-replicate (p.n * 3 + 4) (j * 3 + i) zero64 nan (omega arith)
  row_clipped S k true e =
      ap (λ (g : List Float). get_or g (j * 3 + i) nan) ((clipped-gradients sets p).present S k e)
      ∙ clipped_elsewhere p.n (heads_of p.n S) (clipped_gradient_row p S).grad j i h l
      (every_map (heads_of p.n S) (λ j' t d. true≢false (sym t ∙ ap (in_set S) (sym d) ∙ lacks S e)) (heads-in p.n S))

  row_open : (S : ℕ) → 0 < S → (b : Bool) → sets p S ≡ b
      → get_or (open_gradients sets p S) (j * 3 + i) nan ≡ zero64
  row_open S k false e =
      ap (λ (g : List Float). get_or g (j * 3 + i) nan) ((open-gradients sets p).absent S k e)
      ∙ get_or-replicate (3 * p.n) (j * 3 + i) zero64 nan (omega arith)
  row_open S k true e =
      ap (λ (g : List Float). get_or g (j * 3 + i) nan) ((open-gradients sets p).present S k e)
      ∙ scattered_elsewhere p.n S (open_gradient_row p S) j i h l (lacks S e)

  slopes_of : (S : ℕ) → NoSlope sets p j i S
  slopes_of zero = record {
    clipped = (clipped-gradients sets p).no_more (j * 3 + i) (omega arith) (λ e. omega arith);
    unboxed = ap (λ (g : List Float). get_or g (j * 3 + i) nan) (open-gradients sets p).none
        ∙ get_or-replicate (3 * p.n) (j * 3 + i) zero64 nan (omega arith);
  }
  slopes_of (suc S) = record {
    clipped = row_clipped (suc S) (omega arith) (sets p (suc S)) refl;
    unboxed = row_open (suc S) (omega arith) (sets p (suc S)) refl;
  }

pub no_slopes : NoSlopes
no_slopes = slopes_of
