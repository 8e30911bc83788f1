-- What scattering does in a box, and the gradient rows of a plan by head number. Rests on Scattering.
use mathlib.Core.Path.{◌≡◌, refl, sym, ap, ◌∙◌, subst}
use mathlib.Core.Logic.{◌⊎◌, inl, inr}
use mathlib.Core.Bool.{Bool, true, false, cond, true≢false}
use mathlib.Core.List.{List, [], ◌++◌}
use Prim.Native.Nat.{ℕ, zero, suc, ◌+◌, ◌-◌, ◌*◌, ◌≤◌, ◌<◌}
use native.Mathlib.Omega.{arith}
use lib.ListN.{length, get_or, replicate, length-append, length-replicate, get_or-replicate}
use lib.Ieee.{Float, nan}
use Rattle.binary64.specs.Constants.{zero64}
use Rattle.std.proofs.lemmas.Bool.{cases_lt}
use Rattle.geometry.specs.Rectangle.{area}
use Rattle.masks.specs.Mask.{in_set}
use Rattle.lists.specs.Every.{Every, every_append, every_map}
use Rattle.intersections.specs.Members.{heads_of}
use Rattle.intersections.specs.Counts.{heads_below}
use Rattle.plan.specs.declared.Plan.{Plan}
use Rattle.areas.specs.Scatter.{entries_of, box_entries, scatter, scatter_clipped}
use Rattle.areas.specs.Open.{open_gradient_row}
use Rattle.drawn.specs.Drawn.{box_of}
use Rattle.areas.specs.Clipped.{clipped_gradient_row}
use Rattle.areas.specs.Gradients.{ScattersClipped, box_slopes, clipped_gradients_by, clipped_gradients}
use Rattle.areas.specs.Gradients.{open_gradients_by, open_gradients, ClippedGradients, OpenGradients}
use Rattle.areas.proofs.Scattering.{Increasing, heads_increasing, entries_every, entries_many, places_increasing, places_below, put_other}
use Rattle.areas.proofs.Scattering.{put-at, put_length, heads-in, Stands, entries_stand, stand_append, box_stands}

-- ---- scattering in a box

-- a place below the box's is none of them
box_past : (n p : ℕ) → p < n * 3 → Every (λ q. p ≡ q → ⊥) (box_entries n)
box_past n p h = (λ d. omega arith, (λ d. omega arith, (λ d. omega arith, (λ d. omega arith, tt))))

module _ (n : ℕ) (js : List ℕ) (below : Every (λ j. j < n) js) (up : Increasing js) where
  -- the entry that stands at p
  put_stands : (g : List Float) (q p : ℕ) → length g ≡ length js * 3 + 4 → Stands (entries_of js ++ box_entries n) q p
      → get_or (scatter_clipped js n g) p nan ≡ get_or g q nan
  unfolding scatter_clipped
  put_stands g q p lg at =
      rw at.1
      (put-at (entries_of js ++ box_entries n) g (replicate (n * 3 + 4) zero64) (n * 3 + 4) q nan (places_increasing n js below up) (places_below n js below)
      (length-replicate (n * 3 + 4) zero64) (omega (arith, lg, entries_many js, length-append (entries_of js) (box_entries n))) at.0)

clipped_many : (n : ℕ) (js : List ℕ) (g : List Float) → length (scatter_clipped js n g) ≡ n * 3 + 4
unfolding scatter_clipped
clipped_many n js g = put_length (entries_of js ++ box_entries n) g (replicate (n * 3 + 4) zero64) ∙ length-replicate (n * 3 + 4) zero64

-- the entries of a head that is not among those scattered
pub clipped_elsewhere : (n : ℕ) (js : List ℕ) (g : List Float) (j i : ℕ) → j < n → i < 3 → Every (λ j'. j ≡ j' → ⊥) js
    → get_or (scatter_clipped js n g) (j * 3 + i) nan ≡ zero64
unfolding scatter_clipped
clipped_elsewhere n js g j i h l e =
    put_other (entries_of js ++ box_entries n) g (replicate (n * 3 + 4) zero64) (j * 3 + i) nan
    (every_append (λ q. j * 3 + i ≡ q → ⊥) (entries_of js) (box_entries n) (entries_every (λ j'. j ≡ j' → ⊥) (λ q. j * 3 + i ≡ q → ⊥) other js e)
    (box_past n (j * 3 + i) (omega arith)))
    ∙ get_or-replicate (n * 3 + 4) (j * 3 + i) zero64 nan (omega arith)
  where
    other : (j' : ℕ) → (j ≡ j' → ⊥) → (j * 3 + i ≡ j' * 3 → ⊥) × ((j * 3 + i ≡ j' * 3 + 1 → ⊥) × (j * 3 + i ≡ j' * 3 + 2 → ⊥))
    other j' differ = (λ q. differ (omega (arith, q, l)), (λ q. differ (omega (arith, q, l)), λ q. differ (omega (arith, q, l))))

pub scatters_clipped : (n S : ℕ) (g : List Float) → length g ≡ length (heads_of n S) * 3 + 4 → ScattersClipped n S g
scatters_clipped n S g lg = record {
  many = clipped_many n (heads_of n S) g;
  own = λ k i h l. put_stands n (heads_of n S) (heads_below n S) (heads_increasing n S) g (k * 3 + i) (get_or (heads_of n S) k 0 * 3 + i) lg
      (stand_append (entries_of (heads_of n S)) (box_entries n) (k * 3 + i) (get_or (heads_of n S) k 0 * 3 + i) (entries_stand (heads_of n S) k h i l));
  box = λ i l. put_stands n (heads_of n S) (heads_below n S) (heads_increasing n S) g (length (heads_of n S) * 3 + i) (n * 3 + i) lg
      (box_stands (heads_of n S) n i l);
  elsewhere = λ j i h l e. clipped_elsewhere n (heads_of n S) g j i h l
      (every_map (heads_of n S) (λ j' t d. true≢false (sym t ∙ ap (in_set S) (sym d) ∙ e)) (heads-in n S));
}

-- ---- rows

-- row 0: the box's slopes after the entries of n heads
module _ (n : ℕ) (a : Float) where
  zero_box : (i : ℕ) → i < 4 → get_or (scatter_clipped [] n (box_slopes a)) (n * 3 + i) nan ≡ get_or (box_slopes a) i nan
  zero_box i l =
      put_stands n [] tt tt (box_slopes a) i (n * 3 + i) refl
      (subst (λ (q : ℕ). Stands (entries_of [] ++ box_entries n) q (n * 3 + i)) first (box_stands [] n i l))
    where
      first : length {A = ℕ} [] * 3 + i ≡ i
      first = omega arith

  zero_elsewhere : (i : ℕ) → i < n * 3 → get_or (scatter_clipped [] n (box_slopes a)) i nan ≡ zero64
  unfolding scatter_clipped entries_of
  zero_elsewhere i h =
      put_other (box_entries n) (box_slopes a) (replicate (n * 3 + 4) zero64) i nan (box_past n i h)
      ∙ get_or-replicate (n * 3 + 4) i zero64 nan (omega arith)

  zero_others : (i : ℕ) → i < n * 3 + 4 → (i ≡ n * 3 + 2 → ⊥) → get_or (scatter_clipped [] n (box_slopes a)) i nan ≡ zero64
  zero_others i h other = go (cases_lt i (n * 3))
    where
      at : (k : ℕ) → k < 4 → get_or (box_slopes a) k nan ≡ zero64 → i ≡ n * 3 + k → get_or (scatter_clipped [] n (box_slopes a)) i nan ≡ zero64
      at k l z e = rw e (zero_box k l ∙ z)

      box_at : (k : ℕ) → k < 4 → i ≡ n * 3 + k → get_or (scatter_clipped [] n (box_slopes a)) i nan ≡ zero64
      box_at zero l e = at 0 l refl e
      box_at (suc zero) l e = at 1 l refl e
      box_at (suc (suc zero)) l e = absurd (other e)
      box_at (suc (suc (suc zero))) l e = at 3 l refl e
      box_at (suc (suc (suc (suc k)))) l e = absurd (omega arith)

      go : (i < n * 3) ⊎ (n * 3 ≤ i) → get_or (scatter_clipped [] n (box_slopes a)) i nan ≡ zero64
      go (inl l) = zero_elsewhere i l
      go (inr l) = box_at (i - n * 3) (omega arith) (omega arith)

open_many : (n : ℕ) (js : List ℕ) (g : List Float) → length (scatter js n g) ≡ 3 * n
unfolding scatter
open_many n js g = put_length (entries_of js) g (replicate (3 * n) zero64) ∙ length-replicate (3 * n) zero64

either_long : (b : Bool) (m : ℕ) (l k : List Float) → length l ≡ m → length k ≡ m → length (cond b l k) ≡ m
either_long true m l k h g = h
either_long false m l k h g = g

pub clipped-gradients : (sets : Plan → ℕ → Bool) (p : Plan) → ClippedGradients sets p
unfolding clipped_gradients_by
clipped-gradients sets p = record {
  many = many;
  box = zero_box p.n (area (box_of p.ground)) 2 (omega arith);
  no_more = zero_others p.n (area (box_of p.ground));
  absent = absent;
  present = present;
}
  where
    many : (S : ℕ) → length (clipped_gradients sets p S) ≡ p.n * 3 + 4
    many zero = clipped_many p.n [] (box_slopes (area (box_of p.ground)))
    many (suc S) =
        let g = (clipped_gradient_row p (suc S)).grad in
        let js = heads_of p.n (suc S) in
        either_long (sets p (suc S)) (p.n * 3 + 4) (scatter_clipped js p.n g) (replicate (p.n * 3 + 4) zero64)
        (clipped_many p.n js g) (length-replicate (p.n * 3 + 4) zero64)

    absent : (S : ℕ) → 0 < S → sets p S ≡ false → clipped_gradients sets p S ≡ replicate (p.n * 3 + 4) zero64
    absent zero h e = absurd (omega arith)
    absent (suc S) h e = rw e refl

    present : (S : ℕ) → 0 < S → sets p S ≡ true → clipped_gradients sets p S ≡ scatter_clipped (heads_of p.n S) p.n (clipped_gradient_row p S).grad
    present zero h e = absurd (omega arith)
    present (suc S) h e = rw e refl

pub open-gradients : (sets : Plan → ℕ → Bool) (p : Plan) → OpenGradients sets p
unfolding open_gradients_by
open-gradients sets p = record { many = many; none = refl; absent = absent; present = present }
  where
    many : (S : ℕ) → length (open_gradients sets p S) ≡ 3 * p.n
    many zero = length-replicate (3 * p.n) zero64
    many (suc S) =
        let g = open_gradient_row p (suc S) in
        let js = heads_of p.n (suc S) in
        either_long (sets p (suc S)) (3 * p.n) (scatter js p.n g) (replicate (3 * p.n) zero64) (open_many p.n js g) (length-replicate (3 * p.n) zero64)

    absent : (S : ℕ) → 0 < S → sets p S ≡ false → open_gradients sets p S ≡ replicate (3 * p.n) zero64
    absent zero h e = absurd (omega arith)
    absent (suc S) h e = rw e refl

    present : (S : ℕ) → 0 < S → sets p S ≡ true → open_gradients sets p S ≡ scatter (heads_of p.n S) p.n (open_gradient_row p S)
    present zero h e = absurd (omega arith)
    present (suc S) h e = rw e refl
