-- Sums by levels: over all rows after a level, with +0 for a row that is no superset, they are those over a row's
-- strict supersets.
use mathlib.Core.Path.{◌≡◌, refl, sym, ap, ap₂, ◌∙◌, subst}
use mathlib.Core.Bool.{Bool, true, false, cond}
use mathlib.Core.List.{List, [], ◌∷◌}
use mathlib.Core.Logic.{⊎_elim}
use Prim.Native.Nat.{ℕ, ◌+◌, ◌*◌, ◌-◌, ◌^◌, ◌≤◌, ◌<◌}
use native.Mathlib.Nat.{eq-or-lt_of_le, le_of_suc-le-suc}
use native.Mathlib.Numerals.{add-one}
use native.Mathlib.Omega.{arith}
use lib.Count.{ones}
use lib.Dec.{T}
use lib.Ieee.{Float, nan, binary64, fits}
use lib.Ieee.Fits.{sub-fits}
use lib.ListN.{length, get_or, drop, set, length-set, drop_of_length-le}
use lib.Seq.{get_or-set_same, get_or-set_other}
use Rattle.lists.specs.Lists.{keep}
use Rattle.lists.specs.Every.{Every, every_map, every_at}
use Rattle.masks.specs.Mask.{subset, strict_subset}
use Rattle.binary64.specs.Constants.{zero64}
use Rattle.binary64.specs.Floats.{◌+ᶠ◌, ◌-ᶠ◌}
use Rattle.exclusive.specs.RowOrder.{row_order}
use Rattle.exclusive.specs.Exclusive.{sum_onto, above, unclamped}
use Rattle.exclusive.specs.Entries.{entry, sum_all, LevelAdded, RowSubtracted}
use Rattle.exclusive.proofs.RowOrder.{rows_ordered, every_row}
use Rattle.exclusive.proofs.Places.{row_lt}
use Rattle.exclusive.proofs.Entries.{one_wide, row_start, row_next}
use Rattle.exclusive.proofs.Sums.{from_here, later, supersets_after}
use Rattle.exclusive.proofs.Passing.{Pass, pass_next, due}
use Rattle.exclusive.proofs.Zero.{Sound, zero_sound, add-zero, add_sound}

-- ---- a sum in which a row that does not pass gives +0

-- is that of the rows that pass
sum-all : (f : ℕ → Float) (p : ℕ → Bool) (s : Float) (l : List ℕ) → Sound s → ((S : ℕ) → T (fits binary64 (f S)))
    → sum_all f p s l ≡ sum_onto f s (keep p l)
unfolding sum_all sum_onto keep
sum-all f p s [] h k = refl
sum-all f p s (S ∷ l) h k =
    by (p S) (sum-all f p (s +ᶠ f S) l (add_sound s (f S) h (k S)) k) (sum-all f p s l h k)
  where
    by : (b : Bool) → sum_all f p (s +ᶠ f S) l ≡ sum_onto f (s +ᶠ f S) (keep p l)
        → sum_all f p s l ≡ sum_onto f s (keep p l)
        → sum_all f p (s +ᶠ cond b (f S) zero64) l ≡ sum_onto f s (cond b (S ∷ keep p l) (keep p l))
    by true g r = g
    by false g r = ap (λ (t : Float). sum_all f p t l) (add-zero s h) ∙ r

-- over rows at which two functions agree
all_same : (f g : ℕ → Float) (p : ℕ → Bool) (s : Float) (l : List ℕ) → Every (λ S. f S ≡ g S) l
    → sum_all f p s l ≡ sum_all g p s l
unfolding sum_all
all_same f g p s [] e = refl
all_same f g p s (S ∷ l) e =
    ap (λ (x : Float). sum_all f p (s +ᶠ cond (p S) x zero64) l) e.0
    ∙ all_same f g p (s +ᶠ cond (p S) (g S) zero64) l e.1

-- one row more
pub all_next : (f : ℕ → Float) (p : ℕ → Bool) (s : Float) (l : List ℕ) (j : ℕ) → j < length l
    → sum_all f p (sum_all (λ S. f (get_or l j 0)) p s (get_or l j 0 ∷ [])) (drop (j + 1) l) ≡ sum_all f p s (drop j l)
unfolding sum_all
all_next f p s l j h = sym (ap (sum_all f p s) (from_here l j h))

-- ---- as the loops go on

-- the sums of a level have the number of one row up to place i
module _ (order : List ℕ) (lo t : ℕ) (number : Float) (before : List Float) where
  pub record Adding (i : ℕ) (sums : List Float) : Type 0 where
    pub added : LevelAdded order lo i (λ T. number) (t ∷ []) before sums
    pub stay : (k : ℕ) → i ≤ k → get_or sums k nan ≡ get_or before k nan

  pub adding_next : (i : ℕ) (sums : List Float) (part : Float) → lo ≤ i → i < length sums
      → part ≡ cond (subset 64 (get_or order i 0) t) number zero64
      → Adding i sums → Adding (i + 1) (set sums i (get_or sums i nan +ᶠ part))
  unfolding sum_all
  adding_next i sums part low room e r =
      record {
        added = record {
          level = λ k h l.
              ⊎_elim (λ (f : k ≡ i). subst
              (λ (j : ℕ). get_or new j nan
              ≡ get_or before j nan +ᶠ cond (subset 64 (get_or order j 0) t) number zero64) (sym f) here)
              (λ f. other k (omega arith) ∙ r.added.level k h f)
              (eq-or-lt_of_le (le_of_suc-le-suc (subst (λ (x : ℕ). k < x) (add-one i) l)));
          lower = λ k h. other k (omega arith) ∙ r.added.lower k h;
          many = length-set sums i (get_or sums i nan +ᶠ part) ∙ r.added.many;
        };
        stay = λ k h. other k (omega arith) ∙ r.stay k (omega arith);
      }
    where
      new : List Float
      new = set sums i (get_or sums i nan +ᶠ part)

      other : (k : ℕ) → (k ≡ i → ⊥) → get_or new k nan ≡ get_or sums k nan
      other k h = get_or-set_other sums i k (get_or sums i nan +ᶠ part) nan h

      here : get_or new i nan ≡ get_or before i nan +ᶠ cond (subset 64 (get_or order i 0) t) number zero64
      here = get_or-set_same sums i (get_or sums i nan +ᶠ part) nan room ∙ ap₂ ◌+ᶠ◌ (r.stay i (omega arith)) e

-- the sums of a level with the rows from place j on are those with all rows after the level
module _ (order : List ℕ) (lo hi : ℕ) (f : ℕ → Float) (rows : List ℕ) (before : List Float) where
  pub record Summing (j : ℕ) (sums : List Float) : Type 0 where
    pub level : (i : ℕ) → lo ≤ i → i < hi
        → sum_all f (subset 64 (get_or order i 0)) (get_or sums i nan) (drop j rows)
        ≡ sum_all f (subset 64 (get_or order i 0)) (get_or before i nan) (drop hi rows)
    pub lower : (i : ℕ) → i < lo → get_or sums i nan ≡ get_or before i nan
    pub many : length sums ≡ length before

  pub summing_next : (j t : ℕ) (sums new : List Float) → j < length rows → get_or rows j 0 ≡ t
      → LevelAdded order lo hi (λ T. f t) (t ∷ []) sums new
      → Summing j sums → Summing (j + 1) new
  summing_next j t sums new h e a r =
      record {
        level = λ i k l.
            ap (λ (x : Float). sum_all f (subset 64 (get_or order i 0)) x (drop (j + 1) rows))
            (a.level i k l
            ∙ ap (λ (u : ℕ). sum_all (λ T. f u) (subset 64 (get_or order i 0)) (get_or sums i nan) (u ∷ [])) (sym e))
            ∙ all_next f (subset 64 (get_or order i 0)) (get_or sums i nan) rows j h ∙ r.level i k l;
        lower = λ i k. a.lower i k ∙ r.lower i k;
        many = a.many ∙ r.many;
      }

  pub summing_end : (j : ℕ) (sums : List Float) → length rows ≤ j → Summing j sums
      → LevelAdded order lo hi f (drop hi rows) before sums
  unfolding sum_all
  summing_end j sums h r =
      record {
        level = λ i k l.
            sym (ap (sum_all f (subset 64 (get_or order i 0)) (get_or sums i nan)) (drop_of_length-le rows h))
            ∙ r.level i k l;
        lower = r.lower;
        many = r.many;
      }

module _ (n : ℕ) (present : ℕ → Bool) where
  abbrev L : List ℕ
  L = row_order present n

  -- A row S at place i of a level that ends at place hi. Its supersets after the level are its strict supersets.
  module _ (i hi S : ℕ) (hs : S < 2 ^ n) (wide : S < 2 ^ 64) (under : i < hi) (inside : hi ≤ length L)
      (here : get_or L i 0 ≡ S) (alike : ones (get_or L (hi - 1) 0) ≡ ones S) where
    after_level : keep (subset 64 S) (drop hi L) ≡ above n present S
    unfolding above
    after_level =
        let e : hi - 1 + 1 ≡ hi = omega arith in
        supersets_after L i S (omega arith) here hi n hs wide under (rows_ordered present n)
        ∙ sym (later L (hi - 1) (get_or L (hi - 1) 0) (omega arith) refl n S hs (omega (arith, alike))
        (rows_ordered present n)
        ∙ ap (λ (k : ℕ). keep (strict_subset n S) (drop k L)) e)

    -- the sum of the level's pass is what is to be subtracted from the row
    pub level_due : (before mid : List Float) → Pass n present 1 hi before mid
        → sum_all (λ T. get_or mid T nan) (subset 64 S) zero64 (drop hi L) ≡ due n present 1 S before 0
    unfolding unclamped
    level_due before mid p =
        let g = unclamped n present (entry 1 before 0) in
        all_same (λ T. get_or mid T nan) g (subset 64 S) zero64 (drop hi L)
        (every_map (drop hi L) (λ T e. sym (one_wide T mid) ∙ e) (p.reached 0 (omega arith)))
        ∙ sum-all g (subset 64 S) zero64 (drop hi L) zero_sound (λ T. sub-fits binary64 (entry 1 before 0 T) _)
        ∙ ap (sum_onto g zero64) after_level

  -- the row at a place is a mask of the table
  pub row_at : (rows : List ℕ) (i : ℕ) → rows ≡ L → i < length rows
      → (i < length L) × (get_or L i 0 ≡ get_or rows i 0) × (get_or rows i 0 < 2 ^ n)
  row_at rows i e h =
      let inside : i < length L = omega (arith, ap length e) in
      let here : get_or L i 0 ≡ get_or rows i 0 = ap (λ (l : List ℕ). get_or l i 0) (sym e) in (
        inside,
        here,
        subst (λ (T : ℕ). T < 2 ^ n) here
            (every_at (λ T. T < 2 ^ n) L i 0 inside (every_row present (λ T. T < 2 ^ n) n (λ T k p. k))),
      )

  module _ (rows : List ℕ) (e : rows ≡ L) (before mid : List Float) where
    -- the sums of a level are what is to be subtracted from its rows
    pub level_sums : (lo hi : ℕ) (sums new : List Float) → n ≤ 10 → hi ≤ length rows → Pass n present 1 hi before mid
        → ((i : ℕ) → i < hi → get_or sums i nan ≡ zero64)
        → ((i : ℕ) → lo ≤ i → i < hi → ones (get_or rows i 0) ≡ ones (get_or rows (hi - 1) 0))
        → LevelAdded rows lo hi (λ T. get_or mid T nan) (drop hi rows) sums new
        → (i : ℕ) → lo ≤ i → i < hi → get_or new i nan ≡ due n present 1 (get_or rows i 0) before 0
    level_sums lo hi sums new few h p none alike a i k l =
        let at = row_at rows i e (omega arith) in
        let last = row_at rows (hi - 1) e (omega arith) in
        let S = get_or rows i 0 in
        a.level i k l ∙ ap (λ (x : Float). sum_all (λ T. get_or mid T nan) (subset 64 S) x (drop hi rows)) (none i l)
        ∙ ap (λ (r : List ℕ). sum_all (λ T. get_or mid T nan) (subset 64 S) zero64 (drop hi r)) e
        ∙ level_due i hi S at.2 (omega (arith, row_lt n S few at.2)) l (omega (arith, last.0)) at.1
        (ap ones last.1 ∙ sym (alike i k l)) before mid p

    -- one row of it
    pub level_next : (hi : ℕ) (sum : Float) → hi < length rows → 2 ^ n ≤ length mid
        → sum ≡ due n present 1 (get_or rows hi 0) before 0
        → Pass n present 1 (hi + 1) before mid
        → Pass n present 1 hi before (set mid (get_or rows hi 0) (get_or mid (get_or rows hi 0) nan -ᶠ sum))
    level_next hi sum h wide d p =
        let at = row_at rows hi e h in
        let S = get_or rows hi 0 in
        let one : S * 1 + 0 ≡ S = omega arith in
        pass_next n present 1 hi S at.2 at.0 at.1 before mid (set mid S (get_or mid S nan -ᶠ sum)) (λ k. sum)
        (λ k hk. d ∙ first k hk) p
        (subst (λ (x : ℕ). RowSubtracted 1 S (λ k. sum) 1 mid (set mid x (get_or mid x nan -ᶠ sum))) one
        (row_next 1 S (λ k. sum) mid mid 0 sum (omega arith) (omega (arith, at.2)) refl
        (row_start 1 S (λ k. sum) mid mid)))
      where
        first : (k : ℕ) → k < 1
            → due n present 1 (get_or rows hi 0) before 0 ≡ due n present 1 (get_or rows hi 0) before k
        first k hk = let z : 0 ≡ k = omega arith in ap (due n present 1 (get_or rows hi 0) before) z
