-- `subtract::collect_supersets` meets its contract. The invariant: those found so far, with those among the rows left,
-- are all of them.
use mathlib.Core.Path.{◌≡◌, refl, sym, ap, ◌∙◌}
use mathlib.Core.Bool.{Bool, true, false}
use mathlib.Core.List.{List, ◌++◌, append-nil}
use Prim.Native.Nat.{ℕ, ◌+◌, ◌≤◌, ◌<◌}
use native.Mathlib.Nat.{le_refl}
use native.Mathlib.Omega.{arith}
use mir.Val.{bool_byte}
use lib.ListN.{length, get_or, take, drop, set, length-set}
use lib.Seq.{take-set-le}
use Rattle.lists.specs.Lists.{keep}
use Rattle.masks.specs.Mask.{subset}
use Rattle.exclusive.proofs.Places.{put}
use Rattle.exclusive.proofs.Sums.{kept_with, kept_without, kept_end}
use Rattle.exclusive_gradients.proofs.subtract.collect_supersets.Goals as goal

one : (b : Bool) → bool_byte b ≤ 1
one true = omega arith
one false = omega arith

-- row i at the next place, which is taken if it passes
next : (p : ℕ → Bool) (rows all : List ℕ) (n i : ℕ) → i < length rows → n < length all → (b : Bool)
    → p (get_or rows i 0) ≡ b
    → take (n + bool_byte b) (set all n (get_or rows i 0)) ++ keep p (drop (i + 1) rows)
    ≡ take n all ++ keep p (drop i rows)
next p rows all n i h free true e =
    ap (λ (t : List ℕ). t ++ keep p (drop (i + 1) rows)) (put all (take n all) n (get_or rows i 0) free refl)
    ∙ kept_with p (take n all) rows i h e
next p rows all n i h free false e =
    let z : n + 0 ≡ n = omega arith in
    ap (λ (k : ℕ). take k (set all n (get_or rows i 0)) ++ keep p (drop (i + 1) rows)) z
    ∙ ap (λ (t : List ℕ). t ++ keep p (drop (i + 1) rows)) (take-set-le n all n (get_or rows i 0) (le_refl n))
    ∙ kept_without p (take n all) rows i h e

pub loop-row-preserved : goal.loop-row-preserved
loop-row-preserved c =
    let l = c.loop-row in let i = l.invariant in let a = c.args in let t = get_or a.rows.now l.row-index 0 in
    let b = c.is_subset.result in record {
      room = length-set l.supersets l.found t ∙ i.room;
      few = omega (arith, c.from-found.ensures, one b, i.few);
      all =
          ap (λ (k : ℕ). take (l.found + k) (set l.supersets l.found t) ++ keep (subset 64 a.s)
          (drop (l.row-index + 1) a.rows.now)) c.from-found.ensures
          ∙ next (subset 64 a.s) a.rows.now l.supersets l.found l.row-index c.loop-row-test.true
          (omega (arith, i.few, i.room)) b (sym c.is_subset.ensures)
          ∙ i.all;
    }

pub returns : goal.returns
returns c =
    let l = c.loop-row in let i = l.invariant in let a = c.args in record {
      supersets_after = sym (append-nil (take l.found l.supersets))
          ∙ ap (λ (t : List ℕ). take l.found l.supersets ++ t)
          (sym (kept_end (subset 64 a.s) a.rows.now l.row-index c.loop-row-test.false)) ∙ i.all;
      upper_bound = omega (arith, i.few);
    }
