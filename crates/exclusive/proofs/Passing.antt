-- The pass from the last row to the first, in place: the rows from place i on have their unclamped exclusives, those
-- before it are as they were, and so are absent rows. It needs that no row comes twice and that a row's strict
-- supersets all come after it.
use mathlib.Core.Path.{◌≡◌, refl, sym, ap, ap₂, ◌∙◌, subst}
use mathlib.Core.Bool.{Bool, true, false, true≢false}
use mathlib.Core.List.{List, [], ◌∷◌}
use Prim.Native.Nat.{ℕ, suc, ◌+◌, ◌*◌, ◌^◌, ◌≤◌, ◌<◌}
use native.Mathlib.Nat.{le_refl, mul-le-mul_right}
use native.Mathlib.Numerals.{add-one}
use lib.Count.{ones}
use lib.Dec.{eqb}
use lib.Ieee.{Float}
use lib.ListN.{length, get_or, take, drop, drop_of_length-le}
use lib.Seq.{drop-cons, take-suc}
use borrow.Author.Tests.{eqb-true, eqb-false}
use Rattle.lists.specs.Lists.{keep}
use Rattle.lists.specs.Every.{Every, every_map, every_both, every_left, every_right, every_keep, every_at}
use Rattle.masks.specs.Mask.{strict_subset}
use Rattle.binary64.specs.Constants.{zero64}
use Rattle.binary64.specs.Floats.{◌-ᶠ◌}
use Rattle.exclusive.specs.RowOrder.{row_order, Ordered}
use Rattle.exclusive.specs.Exclusive.{sum_onto, above, unclamped}
use Rattle.exclusive.specs.Entries.{entry, row_sums, RowSubtracted, Subtracted}
use Rattle.exclusive.proofs.RowOrder.{rows_ordered, every_row, all_earlier, earlier_other}
use Rattle.exclusive.proofs.Sums.{cut, later}
use Rattle.exclusive.proofs.Unclamped.{sum_same, unclamped_is}

module _ (n : ℕ) (present : ℕ → Bool) (width i : ℕ) (before after : List Float) where
  pub record Pass : Type 0 where
    pub reached : (k : ℕ) → k < width
        → Every (λ T. entry width after k T ≡ unclamped n present (entry width before k) T)
        (drop i (row_order present n))
    pub stayed : (k : ℕ) → k < width
        → Every (λ T. entry width after k T ≡ entry width before k T) (take i (row_order present n))
    pub absent : (S k : ℕ) → present S ≡ false → k < width → entry width after k S ≡ entry width before k S
    pub rest : drop (2 ^ n * width) after ≡ drop (2 ^ n * width) before
    pub many : length after ≡ length before

module _ (n : ℕ) (present : ℕ → Bool) (width : ℕ) where
  all_stay : (f : ℕ → Float) (l : List ℕ) → Every (λ T. f T ≡ f T) l
  all_stay f [] = tt
  all_stay f (T ∷ l) = (refl, all_stay f l)

  pub pass_start : (i : ℕ) (before : List Float) → length (row_order present n) ≤ i
      → Pass n present width i before before
  pass_start i before h =
      record {
        reached = λ k hk.
            subst (Every (λ T. entry width before k T ≡ unclamped n present (entry width before k) T))
            (sym (drop_of_length-le (row_order present n) h)) tt;
        stayed = λ k hk. all_stay (entry width before k) (take i (row_order present n));
        absent = λ S k h hk. refl;
        rest = refl;
        many = refl;
      }

  pub pass_end : (before after : List Float) → Pass n present width 0 before after
      → Subtracted n present width before after
  pass_end before after p = record { rows = p.reached; absent = p.absent; rest = p.rest; many = p.many }

  -- what is to be subtracted from number k of row S
  abbrev pub due : ℕ → List Float → ℕ → Float
  due S before k = sum_onto (unclamped n present (entry width before k)) zero64 (above n present S)

  module _ (i S : ℕ) (hs : S < 2 ^ n) (inside : i < length (row_order present n))
      (here : get_or (row_order present n) i 0 ≡ S) where
    abbrev L : List ℕ
    L = row_order present n

    earlier : Every (λ T. T ≡ S → ⊥) (take i L)
    earlier =
        every_map (take i L) (λ T e. earlier_other T S e)
        (all_earlier (take i L) (drop (suc i) L) S
        (subst Ordered (cut L i S inside here) (rows_ordered present n)))

    -- a row of the order is there
    there : present S ≡ true
    there =
        let Present : ℕ → Type 0 = λ T. present T ≡ true in
        subst Present here (every_at Present L i 0 inside (every_row present Present n (λ T h t. t)))

    -- the strict supersets that come after a row are all of them
    pub all_above : keep (strict_subset n S) (drop (i + 1) L) ≡ above n present S
    unfolding above
    all_above = sym (later L i S inside here n S hs (le_refl (ones S)) (rows_ordered present n))

    -- the sums of the rows after it, which are reached
    pub sums_due : (before mid : List Float) (rows : List ℕ) → rows ≡ keep (strict_subset n S) (drop (i + 1) L)
        → Pass n present width (i + 1) before mid
        → (k : ℕ) → k < width → row_sums width mid rows k ≡ due S before k
    sums_due before mid rows e p k hk =
        ap (sum_onto (entry width mid k) zero64) e
        ∙ sum_same (entry width mid k) (unclamped n present (entry width before k)) zero64
        (keep (strict_subset n S) (drop (i + 1) L))
        (every_keep (λ T. entry width mid k T ≡ unclamped n present (entry width before k) T) (strict_subset n S)
        (drop (i + 1) L) (p.reached k hk))
        ∙ ap (sum_onto (unclamped n present (entry width before k)) zero64) all_above

    pub pass_next : (before mid after : List Float) (sums : ℕ → Float) → ((k : ℕ) → k < width → sums k ≡ due S before k)
        → Pass n present width (i + 1) before mid → RowSubtracted width S sums width mid after
        → Pass n present width i before after
    pass_next before mid after sums e p r =
        record {
          reached = λ k hk.
              subst (Every (Reached after k))
              (sym (drop-cons L i 0 inside ∙ ap₂ (λ (x j : ℕ). x ∷ drop j L) here (sym (add-one i))))
              (own k hk, every_map (drop (i + 1) L) (λ T t. keeps k hk T t (eqb T S) refl) (p.reached k hk));
          stayed = λ k hk.
              every_both (take i L) (λ T o t. r.others T k (λ e. absurd (o e)) hk ∙ t) earlier (first k hk).0;
          absent = λ T k h hk.
              r.others T k (λ f. absurd (true≢false (sym there ∙ ap present (sym f) ∙ h))) hk ∙ p.absent T k h hk;
          rest = r.rest (2 ^ n * width) (mul-le-mul_right width hs) ∙ p.rest;
          many = r.many ∙ p.many;
        }
      where
        Reached : List Float → ℕ → ℕ → Type 0
        Reached numbers k T = entry width numbers k T ≡ unclamped n present (entry width before k) T

        Stayed : ℕ → ℕ → Type 0
        Stayed k T = entry width mid k T ≡ entry width before k T

        -- the rows up to this one are as they were, and so is this one
        first : (k : ℕ) → k < width → Every (Stayed k) (take i L) × Stayed k S
        first k hk =
            let e = subst (Every (Stayed k)) (ap (λ (j : ℕ). take j L) (add-one i) ∙ take-suc L i 0 inside)
            (p.stayed k hk) in (
              every_left (Stayed k) (take i L) (get_or L i 0 ∷ []) e,
              subst (Stayed k) here (every_right (Stayed k) (take i L) (get_or L i 0 ∷ []) e).0,
            )

        own : (k : ℕ) → k < width → Reached after k S
        own k hk =
            r.own k hk ∙ ap₂ ◌-ᶠ◌ (first k hk).1 (e k hk) ∙ sym (unclamped_is n present (entry width before k) S hs)

        keeps : (k : ℕ) → k < width → (T : ℕ) → Reached mid k T → (b : Bool) → eqb T S ≡ b → Reached after k T
        keeps k hk T t true e = subst (Reached after k) (sym (eqb-true T S e)) (own k hk)
        keeps k hk T t false e = r.others T k (λ f. absurd (eqb-false T S e f)) hk ∙ t
