-- Laws of masks spread over the places kept: each head kept has its bit, a place left out has none. What is gathered
-- among all heads, none of those left out among it, is what is gathered among those kept, spread.
use mathlib.Core.Path.{◌≡◌, refl, sym, ap, ap₂, ◌∙◌}
use mathlib.Core.Bool.{Bool, true, false, not, ◌&&◌, ◌||◌, and-false, and-true}
use mathlib.Core.List.{List, [], ◌∷◌}
use Prim.Native.Nat.{ℕ, zero, suc, ◌+◌, ◌*◌, ◌/◌, ◌%◌, ◌^◌, ◌≤◌, ◌<◌}
use native.Mathlib.Nat.{zero-add}
use native.Mathlib.Omega.{arith}
use lib.Count.{ones, ones_step}
use lib.Dec.{eqb, ltb}
use borrow.Author.Tests.{ltb-true, ltb-false, eqb-true, eqb-false, eq-eqb, ne_eqb}
use Rattle.masks.specs.Mask.{in_set, gather, every, subset}
use Rattle.masks.specs.Operations.{bit_zero, bit_suc, below_pow, in_ext, in_beyond}
use Rattle.masks.specs.Operations.{zero_of_in}
use Rattle.masks.specs.Gather.{gather_lt, in_gather, gather_unique}
use Rattle.lists.specs.Kept.{kept, place, kept_below}
use Rattle.lists.proofs.Kept.{kept_mono, number_lt, place_kept, number_of_place, place_of_number, walk_kept}
use Rattle.masks.specs.Spread.{spread}

-- ---- bits

in_zero : (S : ℕ) → in_set S 0 ≡ eqb (S % 2) 1
unfolding in_set
in_zero S = ap (λ (b : ℕ). eqb b 1) (bit_zero S)

in_suc : (S i : ℕ) → in_set S (suc i) ≡ in_set (S / 2) i
unfolding in_set
in_suc S i = ap (λ (b : ℕ). eqb b 1) (bit_suc S i)

pub in_spread : (keeps : List Bool) (T i : ℕ)
    → in_set (spread keeps T) i ≡ (kept keeps i && in_set T (kept_below keeps i))
unfolding spread kept_below
in_spread [] T i = refl
in_spread (true ∷ keeps) T zero =
    let r = spread keeps (T / 2) in
    let low : (T % 2 + 2 * r) % 2 ≡ T % 2 = omega arith in
    in_zero (T % 2 + 2 * r) ∙ ap (λ (b : ℕ). eqb b 1) low ∙ sym (in_zero T)
in_spread (true ∷ keeps) T (suc i) =
    let r = spread keeps (T / 2) in
    let half : (T % 2 + 2 * r) / 2 ≡ r = omega arith in
    in_suc (T % 2 + 2 * r) i ∙ ap (λ (S : ℕ). in_set S i) half ∙ in_spread keeps (T / 2) i
    ∙ ap (λ (b : Bool). kept keeps i && b) (sym (in_suc T (kept_below keeps i)))
in_spread (false ∷ keeps) T zero =
    let r = spread keeps T in
    let low : 2 * r % 2 ≡ 0 = omega arith in
    in_zero (2 * r) ∙ ap (λ (b : ℕ). eqb b 1) low
in_spread (false ∷ keeps) T (suc i) =
    let r = spread keeps T in
    let half : 2 * r / 2 ≡ r = omega arith in
    in_suc (2 * r) i ∙ ap (λ (S : ℕ). in_set S i) half ∙ in_spread keeps T i

pub in_place : (keeps : List Bool) (T j : ℕ) → in_set (spread keeps T) (place keeps j) ≡ in_set T j
in_place keeps T j =
    in_spread keeps T (place keeps j)
    ∙ ap₂ (λ (b : Bool) (i : ℕ). b && in_set T i) (place_kept keeps j) (number_of_place keeps j)

pub in_left_out : (keeps : List Bool) (T i : ℕ) → kept keeps i ≡ false → in_set (spread keeps T) i ≡ false
in_left_out keeps T i e = in_spread keeps T i ∙ ap (λ (b : Bool). b && in_set T (kept_below keeps i)) e

-- a mask of those kept below n is a mask of n
pub spread_lt : (keeps : List Bool) (n T : ℕ) → T < 2 ^ kept_below keeps n → spread keeps T < 2 ^ n
spread_lt keeps n T h =
    below_pow n (spread keeps T)
    (λ i g. zero_of_in (spread keeps T) i
    (in_spread keeps T i
    ∙ ap (λ (b : Bool). kept keeps i && b)
    (in_beyond (kept_below keeps n) T (kept_below keeps i) h (kept_mono keeps n i g))
    ∙ and-false (kept keeps i)))

pub spread_injective : (keeps : List Bool) (T U : ℕ) → spread keeps T ≡ spread keeps U → T ≡ U
spread_injective keeps T U e =
    in_ext T U (λ i. sym (in_place keeps T i) ∙ ap (λ (S : ℕ). in_set S (place keeps i)) e ∙ in_place keeps U i)

pub spread_eqb : (keeps : List Bool) (T U : ℕ) → eqb (spread keeps T) (spread keeps U) ≡ eqb T U
spread_eqb keeps T U = by (eqb T U) refl
  where
    by : (b : Bool) → eqb T U ≡ b → eqb (spread keeps T) (spread keeps U) ≡ b
    by true e = eq-eqb (spread keeps T) (spread keeps U) (ap (spread keeps) (eqb-true T U e))
    by false e = ne_eqb (spread keeps T) (spread keeps U) (λ q. eqb-false T U e (spread_injective keeps T U q))

pub spread_zero : (keeps : List Bool) → spread keeps 0 ≡ 0
unfolding spread
spread_zero [] = refl
spread_zero (true ∷ keeps) = ap (λ (r : ℕ). 0 + 2 * r) (spread_zero keeps)
spread_zero (false ∷ keeps) = ap (λ (r : ℕ). 2 * r) (spread_zero keeps)

-- as many heads
pub ones_spread : (keeps : List Bool) (T : ℕ) → ones (spread keeps T) ≡ ones T
unfolding spread
ones_spread [] T = refl
ones_spread (true ∷ keeps) T =
    let r = spread keeps (T / 2) in
    let low : (T % 2 + 2 * r) % 2 ≡ T % 2 = omega arith in
    let half : (T % 2 + 2 * r) / 2 ≡ r = omega arith in
    ones_step (T % 2 + 2 * r) ∙ ap₂ (λ (b S : ℕ). b + ones S) low half
    ∙ ap (λ (m : ℕ). T % 2 + m) (ones_spread keeps (T / 2)) ∙ sym (ones_step T)
ones_spread (false ∷ keeps) T =
    let r = spread keeps T in
    let low : 2 * r % 2 ≡ 0 = omega arith in
    let half : 2 * r / 2 ≡ r = omega arith in
    ones_step (2 * r) ∙ ap₂ (λ (b S : ℕ). b + ones S) low half ∙ zero-add (ones r) ∙ ones_spread keeps T

-- ---- numbers and places compared

pub place_eqb : (keeps : List Bool) (i j : ℕ) → eqb (place keeps i) (place keeps j) ≡ eqb i j
place_eqb keeps i j = by (eqb i j) refl
  where
    by : (b : Bool) → eqb i j ≡ b → eqb (place keeps i) (place keeps j) ≡ b
    by true e = eq-eqb (place keeps i) (place keeps j) (ap (place keeps) (eqb-true i j e))
    by false e =
        ne_eqb (place keeps i) (place keeps j)
        (λ q. eqb-false i j e (sym (number_of_place keeps i) ∙ ap (kept_below keeps) q ∙ number_of_place keeps j))

-- ---- tests, masks gathered and parts

subset_places : (keeps : List Bool) (T U m : ℕ)
    → every m (λ l. not (in_set (spread keeps T) (place keeps l)) || in_set (spread keeps U) (place keeps l))
    ≡ subset m T U
unfolding every
subset_places keeps T U zero = refl
subset_places keeps T U (suc m) =
    ap₂ ◌&&◌ (subset_places keeps T U m) (ap₂ (λ (a b : Bool). not a || b) (in_place keeps T m) (in_place keeps U m))

module _ (keeps : List Bool) (n : ℕ) where
  pub every_kept : (p : ℕ → Bool) → ((i : ℕ) → i < n → kept keeps i ≡ false → p i ≡ true)
      → every n p ≡ every (kept_below keeps n) (λ j. p (place keeps j))
  unfolding every
  every_kept p all =
      walk_kept (λ m. every m p) (λ m. every m (λ j. p (place keeps j))) keeps refl n
      (λ i h e r. ap₂ ◌&&◌ r (ap p (sym (place_of_number keeps i e))))
      (λ i h e. ap (λ (b : Bool). every i p && b) (all i h e) ∙ and-true (every i p))

  pub gather_kept : (p : ℕ → Bool) → ((i : ℕ) → i < n → kept keeps i ≡ false → p i ≡ false)
      → gather n p ≡ spread keeps (gather (kept_below keeps n) (λ j. p (place keeps j)))
  gather_kept p none =
      sym (gather_unique n (spread keeps U) p (spread_lt keeps n U (gather_lt m _))
      (λ i h. at i h (kept keeps i) refl))
    where
      m : ℕ
      m = kept_below keeps n

      U : ℕ
      U = gather m (λ j. p (place keeps j))

      at : (i : ℕ) → i < n → (b : Bool) → kept keeps i ≡ b → in_set (spread keeps U) i ≡ p i
      at i h true e =
          in_spread keeps U i ∙ ap (λ (b : Bool). b && in_set U (kept_below keeps i)) e
          ∙ in_gather m (λ j. p (place keeps j)) (kept_below keeps i) (number_lt keeps i n h e)
          ∙ ap p (place_of_number keeps i e)
      at i h false e = in_left_out keeps U i e ∙ sym (none i h e)

  -- one mask is part of another among all as among those kept
  pub subset_kept : (T U : ℕ) → subset n (spread keeps T) (spread keeps U) ≡ subset (kept_below keeps n) T U
  subset_kept T U =
      every_kept (λ l. not (in_set (spread keeps T) l) || in_set (spread keeps U) l)
      (λ i h e. ap (λ (b : Bool). not b || in_set (spread keeps U) i) (in_left_out keeps T i e))
      ∙ subset_places keeps T U (kept_below keeps n)

-- a width more than a mask has changes nothing
pub subset_wider : (m w T U : ℕ) → T < 2 ^ m → m ≤ w → subset w T U ≡ subset m T U
unfolding every
subset_wider m zero T U h l = let z : m ≡ 0 = omega arith in ap (λ (k : ℕ). subset k T U) (sym z)
subset_wider m (suc w) T U h l = by (ltb w m) refl (subset_wider m w T U h)
  where
    by : (b : Bool) → ltb w m ≡ b → (m ≤ w → subset w T U ≡ subset m T U) → subset (suc w) T U ≡ subset m T U
    by true e r = let s : suc w ≡ m = omega (arith, ltb-true w m e) in ap (λ (k : ℕ). subset k T U) s
    by false e r =
        let g : m ≤ w = ltb-false w m e in
        ap (λ (b : Bool). subset w T U && (not b || in_set U w)) (in_beyond m T w h g) ∙ and-true (subset w T U) ∙ r g
