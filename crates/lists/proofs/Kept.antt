-- Laws of places kept: a loop that does nothing at the places left out is the loop over those kept.
use mathlib.Core.Path.{◌≡◌, refl, sym, ap, ap₂, ◌∙◌}
use mathlib.Core.Bool.{Bool, true, false, not, cond, ◌||◌, or-false, true≢false}
use mathlib.Core.List.{List, [], ◌∷◌, ◌++◌, append-nil, map}
use Prim.Native.Nat.{ℕ, zero, suc, ◌+◌, ◌≤◌, ◌<◌}
use native.Mathlib.Nat.{zero-add, suc-add}
use native.Mathlib.Omega.{arith}
use borrow.Author.Tests.{lt-ltb, le-ltb, ltb-true, ltb-false, eqb-true, eqb-false, eq-eqb, ne_eqb}
use lib.Dec.{eqb, ltb}
use lib.ListN.{length, get_or, take, drop}
use Rattle.lists.specs.Lists.{up_to, keep}
use Rattle.lists.specs.Some.{some}
use Rattle.lists.specs.Kept.{kept, all_but, remaining, place, kept_below}

-- ---- places

-- place n has the number of those kept below it, and one more counts if it is kept
pub kept_next : (keeps : List Bool) (n : ℕ)
    → kept_below keeps (suc n) ≡ cond (kept keeps n) (suc (kept_below keeps n)) (kept_below keeps n)
unfolding kept_below
kept_next [] n = refl
kept_next (true ∷ keeps) zero = by keeps
  where
    by : (l : List Bool) → suc (kept_below l 0) ≡ 1
    by [] = refl
    by (b ∷ l) = refl
kept_next (false ∷ keeps) zero = by keeps
  where
    by : (l : List Bool) → kept_below l 0 ≡ 0
    by [] = refl
    by (b ∷ l) = refl
kept_next (true ∷ keeps) (suc n) = ap suc (kept_next keeps n) ∙ by (kept keeps n)
  where
    by : (b : Bool)
        → suc (cond b (suc (kept_below keeps n)) (kept_below keeps n))
        ≡ cond b (suc (suc (kept_below keeps n))) (suc (kept_below keeps n))
    by true = refl
    by false = refl
kept_next (false ∷ keeps) (suc n) = kept_next keeps n

pub kept_next_in : (keeps : List Bool) (n : ℕ) → kept keeps n ≡ true
    → kept_below keeps (suc n) ≡ suc (kept_below keeps n)
kept_next_in keeps n e =
    kept_next keeps n ∙ ap (λ (b : Bool). cond b (suc (kept_below keeps n)) (kept_below keeps n)) e

pub kept_next_out : (keeps : List Bool) (n : ℕ) → kept keeps n ≡ false → kept_below keeps (suc n) ≡ kept_below keeps n
kept_next_out keeps n e =
    kept_next keeps n ∙ ap (λ (b : Bool). cond b (suc (kept_below keeps n)) (kept_below keeps n)) e

pub kept_none : (keeps : List Bool) → kept_below keeps 0 ≡ 0
unfolding kept_below
kept_none [] = refl
kept_none (b ∷ keeps) = refl

pub kept_few : (keeps : List Bool) (n : ℕ) → kept_below keeps n ≤ n
unfolding kept_below
kept_few [] n = omega arith
kept_few (b ∷ keeps) zero = omega arith
kept_few (true ∷ keeps) (suc n) = omega (arith, kept_few keeps n)
kept_few (false ∷ keeps) (suc n) = omega (arith, kept_few keeps n)

pub kept_mono : (keeps : List Bool) (m n : ℕ) → m ≤ n → kept_below keeps m ≤ kept_below keeps n
unfolding kept_below
kept_mono [] m n h = h
kept_mono (b ∷ keeps) zero n h = omega arith
kept_mono (b ∷ keeps) (suc m) zero h = absurd (omega arith)
kept_mono (true ∷ keeps) (suc m) (suc n) h = omega (arith, kept_mono keeps m n (omega arith))
kept_mono (false ∷ keeps) (suc m) (suc n) h = kept_mono keeps m n (omega arith)

-- a place kept below n has a number below theirs
pub number_lt : (keeps : List Bool) (i n : ℕ) → i < n → kept keeps i ≡ true → kept_below keeps i < kept_below keeps n
number_lt keeps i n h e = omega (arith, kept_next_in keeps i e, kept_mono keeps (suc i) n (omega arith))

-- the place of a number is kept, has that number, and is the only one
pub place_kept : (keeps : List Bool) (j : ℕ) → kept keeps (place keeps j) ≡ true
unfolding place
place_kept [] j = refl
place_kept (true ∷ keeps) zero = refl
place_kept (true ∷ keeps) (suc j) = place_kept keeps j
place_kept (false ∷ keeps) j = place_kept keeps j

pub number_of_place : (keeps : List Bool) (j : ℕ) → kept_below keeps (place keeps j) ≡ j
unfolding place kept_below
number_of_place [] j = refl
number_of_place (true ∷ keeps) zero = refl
number_of_place (true ∷ keeps) (suc j) = ap suc (number_of_place keeps j)
number_of_place (false ∷ keeps) j = number_of_place keeps j

pub place_of_number : (keeps : List Bool) (i : ℕ) → kept keeps i ≡ true → place keeps (kept_below keeps i) ≡ i
unfolding place kept_below
place_of_number [] i e = refl
place_of_number (true ∷ keeps) zero e = refl
place_of_number (false ∷ keeps) zero e = absurd (true≢false (sym e))
place_of_number (true ∷ keeps) (suc i) e = ap suc (place_of_number keeps i e)
place_of_number (false ∷ keeps) (suc i) e = ap suc (place_of_number keeps i e)

pub place_lt : (keeps : List Bool) (j n : ℕ) → j < kept_below keeps n → place keeps j < n
unfolding place kept_below
place_lt [] j n h = h
place_lt (b ∷ keeps) j zero h = absurd (omega arith)
place_lt (true ∷ keeps) zero (suc n) h = omega arith
place_lt (true ∷ keeps) (suc j) (suc n) h = omega (arith, place_lt keeps j n (omega arith))
place_lt (false ∷ keeps) j (suc n) h = omega (arith, place_lt keeps j n h)

pub place_injective : (keeps : List Bool) (i j : ℕ) → place keeps i ≡ place keeps j → i ≡ j
place_injective keeps i j e = sym (number_of_place keeps i) ∙ ap (kept_below keeps) e ∙ number_of_place keeps j

-- ---- from place s on

pub kept_from : (keeps : List Bool) (s d : ℕ) → kept (drop s keeps) d ≡ kept keeps (s + d)
kept_from [] s d = nothing s
  where
    nothing : (s : ℕ) → kept (drop s []) d ≡ true
    nothing zero = refl
    nothing (suc s) = refl
kept_from (b ∷ keeps) zero d = ap (kept (b ∷ keeps)) (sym (zero-add d))
kept_from (b ∷ keeps) (suc s) d = kept_from keeps s d ∙ ap (kept (b ∷ keeps)) (sym (suc-add s d))

pub number_from : (keeps : List Bool) (s d : ℕ)
    → kept_below keeps (s + d) ≡ kept_below keeps s + kept_below (drop s keeps) d
unfolding kept_below
number_from [] s d = nothing s
  where
    nothing : (s : ℕ) → s + d ≡ s + kept_below (drop s []) d
    nothing zero = refl
    nothing (suc s) = refl
number_from (b ∷ keeps) zero d = ap (kept_below (b ∷ keeps)) (zero-add d) ∙ sym (zero-add (kept_below (b ∷ keeps) d))
number_from (true ∷ keeps) (suc s) d =
    ap (kept_below (true ∷ keeps)) (suc-add s d) ∙ ap suc (number_from keeps s d)
    ∙ sym (suc-add (kept_below keeps s) (kept_below (drop s keeps) d))
number_from (false ∷ keeps) (suc s) d = ap (kept_below (false ∷ keeps)) (suc-add s d) ∙ number_from keeps s d

pub place_from : (keeps : List Bool) (s d : ℕ) → place keeps (kept_below keeps s + d) ≡ s + place (drop s keeps) d
unfolding place kept_below
place_from [] s d = nothing s
  where
    nothing : (s : ℕ) → s + d ≡ s + place (drop s []) d
    nothing zero = refl
    nothing (suc s) = refl
place_from (b ∷ keeps) zero d = ap (place (b ∷ keeps)) (zero-add d) ∙ sym (zero-add (place (b ∷ keeps) d))
place_from (true ∷ keeps) (suc s) d =
    ap (place (true ∷ keeps)) (suc-add (kept_below keeps s) d) ∙ ap suc (place_from keeps s d)
    ∙ sym (suc-add s (place (drop s keeps) d))
place_from (false ∷ keeps) (suc s) d = ap suc (place_from keeps s d) ∙ sym (suc-add s (place (drop s keeps) d))

-- ---- elements remaining

pub remaining_length : {A : Type 0} (keeps : List Bool) (l : List A)
    → length (remaining keeps l) ≡ kept_below keeps (length l)
unfolding remaining kept_below
remaining_length [] l = refl
remaining_length (b ∷ keeps) [] = refl
remaining_length (true ∷ keeps) (x ∷ l) = ap suc (remaining_length keeps l)
remaining_length (false ∷ keeps) (x ∷ l) = remaining_length keeps l

pub remaining_at : {A : Type 0} (keeps : List Bool) (l : List A) (j : ℕ) (d : A)
    → get_or (remaining keeps l) j d ≡ get_or l (place keeps j) d
unfolding remaining place
remaining_at [] l j d = refl
remaining_at (true ∷ keeps) [] zero d = refl
remaining_at (true ∷ keeps) [] (suc j) d = refl
remaining_at (false ∷ keeps) [] j d = refl
remaining_at (true ∷ keeps) (x ∷ l) zero d = refl
remaining_at (true ∷ keeps) (x ∷ l) (suc j) d = remaining_at keeps l j d
remaining_at (false ∷ keeps) (x ∷ l) j d = remaining_at keeps l j d

pub remaining_map : {A B : Type 0} (f : A → B) (keeps : List Bool) (l : List A)
    → remaining keeps (map f l) ≡ map f (remaining keeps l)
unfolding remaining
remaining_map f [] l = refl
remaining_map f (b ∷ keeps) [] = refl
remaining_map f (true ∷ keeps) (x ∷ l) = ap (λ m. f x ∷ m) (remaining_map f keeps l)
remaining_map f (false ∷ keeps) (x ∷ l) = remaining_map f keeps l

-- ---- loops

-- two walks, the second over the places kept alone
module _ {A : Type 0} (G H : ℕ → A) (keeps : List Bool) (start : G 0 ≡ H 0) where
  pub walk_kept : (n : ℕ)
      → ((i : ℕ) → i < n → kept keeps i ≡ true → G i ≡ H (kept_below keeps i)
      → G (suc i) ≡ H (suc (kept_below keeps i)))
      → ((i : ℕ) → i < n → kept keeps i ≡ false → G (suc i) ≡ G i) → G n ≡ H (kept_below keeps n)
  walk_kept zero step out = start ∙ ap H (sym (kept_none keeps))
  walk_kept (suc n) step out =
      by (kept keeps n) refl (walk_kept n (λ i h. step i (omega arith)) (λ i h. out i (omega arith)))
    where
      by : (b : Bool) → kept keeps n ≡ b → G n ≡ H (kept_below keeps n) → G (suc n) ≡ H (kept_below keeps (suc n))
      by true e r = step n (omega arith) e r ∙ ap H (sym (kept_next_in keeps n e))
      by false e r = out n (omega arith) e ∙ r ∙ ap H (sym (kept_next_out keeps n e))

module _ (keeps : List Bool) (n : ℕ) where
  pub some_kept : (p : ℕ → Bool) → ((i : ℕ) → i < n → kept keeps i ≡ false → p i ≡ false)
      → some n p ≡ some (kept_below keeps n) (λ j. p (place keeps j))
  unfolding some
  some_kept p none =
      walk_kept (λ m. some m p) (λ m. some m (λ j. p (place keeps j))) keeps refl n
      (λ i h e r. ap₂ ◌||◌ r (ap p (sym (place_of_number keeps i e))))
      (λ i h e. ap (λ (b : Bool). some i p || b) (none i h e) ∙ or-false (some i p))

  pub up_to_kept : {A : Type 0} (f : ℕ → List A) → ((i : ℕ) → i < n → kept keeps i ≡ false → f i ≡ [])
      → up_to f n ≡ up_to (λ j. f (place keeps j)) (kept_below keeps n)
  unfolding up_to
  up_to_kept f none =
      walk_kept (λ m. up_to f m) (λ m. up_to (λ j. f (place keeps j)) m) keeps refl n
      (λ i h e r. ap₂ ◌++◌ r (ap f (sym (place_of_number keeps i e))))
      (λ i h e. ap (λ l. up_to f i ++ l) (none i h e) ∙ append-nil (up_to f i))

-- ---- those that pass a test

pub remaining_keep : {A : Type 0} (p : A → Bool) (l : List A) → remaining (map p l) l ≡ keep p l
unfolding remaining keep
remaining_keep p [] = refl
remaining_keep p (x ∷ l) = ap (λ m. cond (p x) (x ∷ m) m) (remaining_keep p l)

-- none that passes is left out
pub keep_remaining : {A : Type 0} (p : A → Bool) (d : A) (keeps : List Bool) (l : List A)
    → ((i : ℕ) → i < length l → kept keeps i ≡ false → p (get_or l i d) ≡ false)
    → keep p (remaining keeps l) ≡ keep p l
unfolding remaining keep
keep_remaining p d [] l fails = refl
keep_remaining p d (b ∷ keeps) [] fails = refl
keep_remaining p d (true ∷ keeps) (x ∷ l) fails =
    ap (λ m. cond (p x) (x ∷ m) m) (keep_remaining p d keeps l (λ i h e. fails (suc i) (omega arith) e))
keep_remaining p d (false ∷ keeps) (x ∷ l) fails =
    keep_remaining p d keeps l (λ i h e. fails (suc i) (omega arith) e)
    ∙ sym (ap (λ (b : Bool). cond b (x ∷ keep p l) (keep p l)) (fails 0 (omega arith) refl))

-- a place left out is one of the list's
pub left_out_short : (keeps : List Bool) (i : ℕ) → kept keeps i ≡ false → i < length keeps
left_out_short [] i e = absurd (true≢false e)
left_out_short (b ∷ keeps) zero e = omega arith
left_out_short (b ∷ keeps) (suc i) e = omega (arith, left_out_short keeps i e)

-- ---- all places but one

pub all_but_kept : (k i : ℕ) → kept (all_but k) i ≡ not (eqb i k)
all_but_kept zero zero = refl
all_but_kept zero (suc i) = sym (ap not (ne_eqb (suc i) 0 (λ q. omega (arith, q))))
all_but_kept (suc k) zero = sym (ap not (ne_eqb 0 (suc k) (λ q. omega (arith, q))))
all_but_kept (suc k) (suc i) = all_but_kept k i ∙ ap not (both (eqb i k) refl)
  where
    both : (b : Bool) → eqb i k ≡ b → b ≡ eqb (suc i) (suc k)
    both true e = sym (eq-eqb (suc i) (suc k) (ap suc (eqb-true i k e)))
    both false e = sym (ne_eqb (suc i) (suc k) (λ q. eqb-false i k e (omega (arith, q))))

-- numbers below k stay, those from k on are one place higher
pub all_but_place : (k j : ℕ) → place (all_but k) j ≡ cond (ltb j k) j (suc j)
unfolding place
all_but_place zero j = rw (le-ltb j 0 (omega arith))
all_but_place (suc k) zero = rw (lt-ltb 0 (suc k) (omega arith))
all_but_place (suc k) (suc j) = ap suc (all_but_place k j) ∙ by (ltb j k) refl
  where
    by : (b : Bool) → ltb j k ≡ b → suc (cond b j (suc j)) ≡ cond (ltb (suc j) (suc k)) (suc j) (suc (suc j))
    by true e = rw (lt-ltb (suc j) (suc k) (omega (arith, ltb-true j k e)))
    by false e = rw (le-ltb (suc j) (suc k) (omega (arith, ltb-false j k e)))

-- one fewer
pub all_but_below : (k n : ℕ) → k < n → suc (kept_below (all_but k) n) ≡ n
unfolding kept_below
all_but_below k zero h = absurd (omega arith)
all_but_below zero (suc n) h = refl
all_but_below (suc k) (suc n) h = ap suc (all_but_below k n (omega arith))

pub all_but_remaining : {A : Type 0} (k : ℕ) (l : List A) → remaining (all_but k) l ≡ take k l ++ drop (suc k) l
unfolding remaining
all_but_remaining zero [] = refl
all_but_remaining zero (x ∷ l) = refl
all_but_remaining (suc k) [] = refl
all_but_remaining (suc k) (x ∷ l) = ap (λ m. x ∷ m) (all_but_remaining k l)
