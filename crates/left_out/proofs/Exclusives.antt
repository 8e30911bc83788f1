-- The exclusives of those kept are those of all, at the masks spread: rows in the same order, the supersets the same,
-- none with a head left out.
use mathlib.Core.Path.{◌≡◌, refl, sym, ap, ap₂, ◌∙◌}
use mathlib.Core.Bool.{Bool, true, false, not, cond, ◌&&◌}
use mathlib.Core.List.{List, [], ◌∷◌, ◌++◌, map, map-append, append_assoc, append-nil}
use Prim.Native.Nat.{ℕ, zero, suc, ◌+◌, ◌*◌, ◌/◌, ◌%◌, ◌^◌, ◌≤◌, ◌<◌}
use native.Mathlib.Omega.{arith}
use lib.Count.{ones, ones-le}
use lib.Dec.{eqb, ltb}
use borrow.Author.Tests.{ne_eqb, ltb-true, ltb-false}
use lib.Ieee.{Float}
use Rattle.lists.specs.Every.{Every}
use Rattle.lists.specs.Lists.{up_to, keep}
use Rattle.lists.proofs.Lists.{up_to_cong, up_to_through}
use Rattle.masks.specs.Mask.{bit, in_set, strict_subset}
use Rattle.masks.specs.Operations.{bit_zero, bit_suc, in_of_one, one_of_in}
use Rattle.binary64.specs.Constants.{zero64}
use Rattle.binary64.specs.Floats.{◌+ᶠ◌, ◌-ᶠ◌}
use Rattle.binary64.specs.Functions.{clamp_to_zero}
use Rattle.exclusive.specs.RowOrder.{rows_of, row_order}
use Rattle.exclusive.specs.Exclusive.{sum_onto, above, unclamped, exclusive_row}
use Rattle.exclusive.proofs.Unclamped.{sum_same, above_every, unclamped_is}
use Rattle.lists.specs.Kept.{kept, kept_below}
use Rattle.masks.specs.Spread.{spread}
use Rattle.lists.proofs.Kept.{kept_few}
use Rattle.masks.proofs.Spread.{spread_eqb, spread_lt, spread_zero, ones_spread, subset_kept}
use Rattle.left_out.proofs.Points.{up_to_nothing}

-- ---- a loop over masks, those with a head left out adding nothing, is a loop over the masks of those kept

doubled : (n : ℕ) → 2 ^ suc n ≡ 2 * 2 ^ n
doubled n = omega arith

half_in : (S U k : ℕ) → S / 2 ≡ U → in_set U k ≡ true → in_set S (suc k) ≡ true
half_in S U k q e = in_of_one S (suc k) (bit_suc S k ∙ ap (λ (R : ℕ). bit R k) q ∙ one_of_in U k e)

module _ {A : Type 0} where
  -- two at a time
  by_twos : (f : ℕ → List A) (m : ℕ) → up_to f (2 * m) ≡ up_to (λ U. f (2 * U) ++ f (1 + 2 * U)) m
  unfolding up_to
  by_twos f zero = refl
  by_twos f (suc m) =
      let two : 2 * suc m ≡ suc (suc (2 * m)) = omega arith in
      let odd : suc (2 * m) ≡ 1 + 2 * m = omega arith in
      ap (up_to f) two
      ∙ append_assoc (up_to f (2 * m)) (f (2 * m)) (f (suc (2 * m)))
      ∙ ap₂ ◌++◌ (by_twos f m) (ap (λ (i : ℕ). f (2 * m) ++ f i) odd)

  -- what adds nothing for a mask with a head left out
  abbrev Skips : List Bool → ℕ → (ℕ → List A) → Type 0
  Skips keeps n f = (k S : ℕ) → k < n → kept keeps k ≡ false → in_set S k ≡ true → f S ≡ []

  pub masks_kept : (keeps : List Bool) (n : ℕ) (f : ℕ → List A) → Skips keeps n f
      → up_to f (2 ^ n) ≡ up_to (λ T. f (spread keeps T)) (2 ^ kept_below keeps n)
  unfolding spread kept_below up_to
  masks_kept [] n f none = refl
  masks_kept (b ∷ keeps) zero f none = ap (λ (S : ℕ). [] ++ f S) (sym (spread_zero (b ∷ keeps)))
  masks_kept (true ∷ keeps) (suc n) f none =
      ap (up_to f) (doubled n) ∙ by_twos f (2 ^ n)
      ∙ masks_kept keeps n (λ U. f (2 * U) ++ f (1 + 2 * U)) nothing
      ∙ up_to_cong _ _ (2 ^ kept_below keeps n) (λ W l. ap₂ (λ (x y : ℕ). f x ++ f y) (even W) (odd W))
      ∙ sym (ap (up_to (λ T. f (spread (true ∷ keeps) T))) (doubled (kept_below keeps n))
      ∙ by_twos (λ T. f (spread (true ∷ keeps) T)) (2 ^ kept_below keeps n))
    where
      nothing : Skips keeps n (λ U. f (2 * U) ++ f (1 + 2 * U))
      nothing k U h o e =
          ap₂ ◌++◌ (none (suc k) (2 * U) (omega arith) o (half_in (2 * U) U k (omega arith) e))
          (none (suc k) (1 + 2 * U) (omega arith) o (half_in (1 + 2 * U) U k (omega arith) e))

      even : (W : ℕ) → 2 * spread keeps W ≡ (2 * W) % 2 + 2 * spread keeps (2 * W / 2)
      even W = let half : 2 * W / 2 ≡ W = omega arith in rw half (omega arith)

      odd : (W : ℕ) → 1 + 2 * spread keeps W ≡ (1 + 2 * W) % 2 + 2 * spread keeps ((1 + 2 * W) / 2)
      odd W = let half : (1 + 2 * W) / 2 ≡ W = omega arith in rw half (omega arith)
  masks_kept (false ∷ keeps) (suc n) f none =
      ap (up_to f) (doubled n) ∙ by_twos f (2 ^ n)
      ∙ up_to_cong _ (λ U. f (2 * U)) (2 ^ n)
      (λ U l. ap (λ r. f (2 * U) ++ r)
      (none 0 (1 + 2 * U) (omega arith) refl (in_of_one (1 + 2 * U) 0 (bit_zero (1 + 2 * U) ∙ omega arith)))
      ∙ append-nil (f (2 * U)))
      ∙ masks_kept keeps n (λ U. f (2 * U))
      (λ k U h o e. none (suc k) (2 * U) (omega arith) o (half_in (2 * U) U k (omega arith) e))

  -- a loop whose last steps add nothing
  up_to_end : (f : ℕ → List A) (m n : ℕ) → m ≤ n → ((i : ℕ) → m ≤ i → f i ≡ []) → up_to f n ≡ up_to f m
  unfolding up_to
  up_to_end f m zero h none = let z : m ≡ 0 = omega arith in ap (up_to f) (sym z)
  up_to_end f m (suc n) h none = by (ltb n m) refl (λ l. up_to_end f m n l none)
    where
      by : (b : Bool) → ltb n m ≡ b → (m ≤ n → up_to f n ≡ up_to f m) → up_to f n ++ f n ≡ up_to f m
      by true e r = let s : suc n ≡ m = omega (arith, ltb-true n m e) in ap (up_to f) s
      by false e r =
          let l : m ≤ n = ltb-false n m e in
          ap (λ a. up_to f n ++ a) (none n l) ∙ append-nil (up_to f n) ∙ r l

-- ---- rows in order

kept_mapped : {A : Type 0} (f : A → A) (p q : A → Bool) → ((x : A) → p (f x) ≡ q x) → (l : List A)
    → keep p (map f l) ≡ map f (keep q l)
unfolding keep
kept_mapped f p q e [] = refl
kept_mapped f p q e (x ∷ l) = rw (e x) (by (q x) (kept_mapped f p q e l))
  where
    by : (b : Bool) → keep p (map f l) ≡ map f (keep q l)
        → cond b (f x ∷ keep p (map f l)) (keep p (map f l)) ≡ map f (cond b (x ∷ keep q l) (keep q l))
    by true r = ap (λ m. f x ∷ m) r
    by false r = r

sum_mapped : (f : ℕ → Float) (g : ℕ → ℕ) (s : Float) (l : List ℕ)
    → sum_onto f s (map g l) ≡ sum_onto (λ T. f (g T)) s l
unfolding sum_onto
sum_mapped f g s [] = refl
sum_mapped f g s (T ∷ l) = sum_mapped f g (s +ᶠ f (g T)) l

module _ (keeps : List Bool) (n : ℕ) (present present' : ℕ → Bool)
    (same : (T : ℕ) → T < 2 ^ kept_below keeps n → present (spread keeps T) ≡ present' T)
    (absent : (k S : ℕ) → k < n → kept keeps k ≡ false → in_set S k ≡ true → present S ≡ false) where
  abbrev m : ℕ
  m = kept_below keeps n

  level_spread : (c : ℕ) → rows_of present c (2 ^ n) ≡ map (spread keeps) (rows_of present' c (2 ^ m))
  unfolding rows_of
  level_spread c =
      masks_kept keeps n (λ S. cond (present S && eqb (ones S) c) (S ∷ []) [])
      (λ k S h o e. ap (λ (b : Bool). cond (b && eqb (ones S) c) (S ∷ []) []) (absent k S h o e))
      ∙ up_to_cong (λ T. cond (present (spread keeps T) && eqb (ones (spread keeps T)) c) (spread keeps T ∷ []) [])
      (λ T. map (spread keeps) (cond (present' T && eqb (ones T) c) (T ∷ []) [])) (2 ^ m)
      (λ T l. ap₂ (λ (b : Bool) (q : ℕ). cond (b && eqb q c) (spread keeps T ∷ []) []) (same T l)
      (ones_spread keeps T) ∙ one (present' T && eqb (ones T) c) T)
      ∙ sym (up_to_through (map (spread keeps)) refl (map-append (spread keeps))
      (λ T. cond (present' T && eqb (ones T) c) (T ∷ []) []) (2 ^ m))
    where
      one : (b : Bool) (T : ℕ) → cond b (spread keeps T ∷ []) [] ≡ map (spread keeps) (cond b (T ∷ []) [])
      one true T = refl
      one false T = refl

  -- no mask of m heads has more
  level_past : (c : ℕ) → suc m ≤ c → rows_of present' c (2 ^ m) ≡ []
  unfolding rows_of
  level_past c h =
      up_to_cong (λ T. cond (present' T && eqb (ones T) c) (T ∷ []) []) (λ T. []) (2 ^ m)
      (λ T l. ap (λ (b : Bool). cond (present' T && b) (T ∷ []) [])
      (ne_eqb (ones T) c (λ e. omega (arith, ones-le m T l))) ∙ none (present' T) T)
      ∙ up_to_nothing {A = ℕ} (λ T. []) (2 ^ m) (λ T. refl)
    where
      none : (b : Bool) (T : ℕ) → cond (b && false) (T ∷ []) [] ≡ []
      none true T = refl
      none false T = refl

  order_spread : row_order present n ≡ map (spread keeps) (row_order present' m)
  unfolding row_order
  order_spread =
      up_to_cong (λ c. rows_of present c (2 ^ n)) (λ c. map (spread keeps) (rows_of present' c (2 ^ m))) (suc n)
      (λ c l. level_spread c)
      ∙ up_to_end (λ c. map (spread keeps) (rows_of present' c (2 ^ m))) (suc m) (suc n)
      (omega (arith, kept_few keeps n))
      (λ c h. ap (map (spread keeps)) (level_past c h))
      ∙ sym (up_to_through (map (spread keeps)) refl (map-append (spread keeps)) (λ c. rows_of present' c (2 ^ m))
      (suc m))

  above_spread : (T : ℕ) → above n present (spread keeps T) ≡ map (spread keeps) (above m present' T)
  unfolding above
  above_spread T =
      ap (keep (strict_subset n (spread keeps T))) order_spread
      ∙ kept_mapped (spread keeps) (strict_subset n (spread keeps T)) (strict_subset m T)
      (λ U. ap₂ (λ (a b : Bool). a && not b) (subset_kept keeps n T U) (spread_eqb keeps T U)) (row_order present' m)

  module _ (area area' : ℕ → Float) (alike : (T : ℕ) → T < 2 ^ m → area (spread keeps T) ≡ area' T) where
    step : (T : ℕ) → T < 2 ^ m
        → Every (λ U. unclamped n present area (spread keeps U) ≡ unclamped m present' area' U) (above m present' T)
        → unclamped n present area (spread keeps T) ≡ unclamped m present' area' T
    step T l e =
        unclamped_is n present area (spread keeps T) (spread_lt keeps n T l)
        ∙ ap₂ ◌-ᶠ◌ (alike T l)
        (ap (sum_onto (unclamped n present area) zero64) (above_spread T)
        ∙ sum_mapped (unclamped n present area) (spread keeps) zero64 (above m present' T)
        ∙ sum_same (λ U. unclamped n present area (spread keeps U)) (unclamped m present' area') zero64
        (above m present' T) e)
        ∙ sym (unclamped_is m present' area' T l)

    -- from the rows of most heads on: d more there are at most
    unclamped_deep : (d T : ℕ) → T < 2 ^ m → m ≤ d + ones T
        → unclamped n present area (spread keeps T) ≡ unclamped m present' area' T
    unclamped_deep zero T l deep =
        step T l (above_every m present' T l _ (λ U g o. absurd (omega (arith, ones-le m U g))))
    unclamped_deep (suc d) T l deep =
        step T l (above_every m present' T l _ (λ U g o. unclamped_deep d U g (omega arith)))

    pub unclamped_left_out : (T : ℕ) → T < 2 ^ m
        → unclamped n present area (spread keeps T) ≡ unclamped m present' area' T
    unclamped_left_out T l = unclamped_deep m T l (omega arith)

    pub exclusive_left_out : (T : ℕ) → T < 2 ^ m
        → exclusive_row n present area (spread keeps T) ≡ exclusive_row m present' area' T
    exclusive_left_out T l =
        ap₂ (λ (b : Bool) (x : Float). cond b (clamp_to_zero x) zero64) (same T l) (unclamped_left_out T l)
