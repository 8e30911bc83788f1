-- Laws of a loop that appends, of the elements that pass a test, and of a mapped list.
use mathlib.Core.Path.{◌≡◌, refl, ap, ap₂, ◌∙◌}
use mathlib.Core.Bool.{Bool, true, false, cond}
use mathlib.Core.List.{List, [], ◌∷◌, ◌++◌, map}
use Prim.Native.Nat.{ℕ, zero, suc, ◌*◌, ◌≤◌, ◌<◌}
use native.Mathlib.Omega.{arith}
use lib.ListN.{length, get_or, set, replicate, length-append}
use Rattle.lists.specs.Lists.{up_to, keep}
use Rattle.lists.specs.Every.{Every}

-- ---- a loop that appends

-- the same lists give the same list
pub up_to_cong : {A : Type 0} (f f' : ℕ → List A) (m : ℕ) → ((i : ℕ) → i < m → f i ≡ f' i) → up_to f m ≡ up_to f' m
unfolding up_to
up_to_cong f f' zero e = refl
up_to_cong f f' (suc m) e = ap₂ ◌++◌ (up_to_cong f f' m (λ i h. e i (omega arith))) (e m (omega arith))

-- a function that goes through ++ goes through the loop
pub up_to_through : {A B : Type 0} (F : List A → List B) → F [] ≡ [] → ((a b : List A) → F (a ++ b) ≡ F a ++ F b)
    → (f : ℕ → List A) (m : ℕ) → F (up_to f m) ≡ up_to (λ i. F (f i)) m
unfolding up_to
up_to_through F nil cat f zero = nil
up_to_through F nil cat f (suc m) = cat (up_to f m) (f m) ∙ ap (λ l. l ++ F (f m)) (up_to_through F nil cat f m)

-- at most b each time
pub up_to_few : {A : Type 0} (f : ℕ → List A) (b m : ℕ) → ((i : ℕ) → i < m → length (f i) ≤ b)
    → length (up_to f m) ≤ m * b
unfolding up_to
up_to_few f b zero h = omega arith
up_to_few f b (suc m) h =
    rw (length-append (up_to f m) (f m)) (omega (arith, up_to_few f b m (λ i k. h i (omega arith)), h m (omega arith)))

-- ---- the elements that pass

module _ {A : Type 0} (p : A → Bool) where
  pub keep_append : (a b : List A) → keep p (a ++ b) ≡ keep p a ++ keep p b
  unfolding keep
  keep_append [] b = refl
  keep_append (x ∷ a) b = by (p x) (keep_append a b)
    where
      by : (t : Bool) → keep p (a ++ b) ≡ keep p a ++ keep p b
          → cond t (x ∷ keep p (a ++ b)) (keep p (a ++ b)) ≡ cond t (x ∷ keep p a) (keep p a) ++ keep p b
      by true e = ap (λ l. x ∷ l) e
      by false e = e

  -- one more at the end
  pub keep_push : (l : List A) (x : A) → keep p (l ++ (x ∷ [])) ≡ keep p l ++ cond (p x) (x ∷ []) []
  unfolding keep
  keep_push l x = keep_append l (x ∷ [])

  pub keep_length : (l : List A) → length (keep p l) ≤ length l
  unfolding keep
  keep_length [] = omega arith
  keep_length (x ∷ l) = by (p x) (keep_length l)
    where
      by : (b : Bool) → length (keep p l) ≤ length l → length (cond b (x ∷ keep p l) (keep p l)) ≤ suc (length l)
      by true h = omega arith
      by false h = omega arith

  -- none passes
  pub keep_none : (l : List A) → Every (λ x. p x ≡ false) l → keep p l ≡ []
  unfolding keep
  keep_none [] h = refl
  keep_none (x ∷ l) h = rw h.0 (keep_none l h.1)

  -- the same elements pass of two lists made alike, and are alike to f
  pub keep_alike : {B C : Type 0} (f : A → B) (mk mk' : C → A) → ((c : C) → p (mk c) ≡ p (mk' c))
      → ((c : C) → f (mk c) ≡ f (mk' c))
      → (l : List C) → map f (keep p (map mk l)) ≡ map f (keep p (map mk' l))
  unfolding keep
  keep_alike f mk mk' same e [] = refl
  keep_alike f mk mk' same e (c ∷ l) = rw (same c) (by (p (mk' c)) (keep_alike f mk mk' same e l))
    where
      by : (t : Bool) → map f (keep p (map mk l)) ≡ map f (keep p (map mk' l))
          → map f (cond t (mk c ∷ keep p (map mk l)) (keep p (map mk l)))
          ≡ map f (cond t (mk' c ∷ keep p (map mk' l)) (keep p (map mk' l)))
      by true r = ap₂ ◌∷◌ (e c) r
      by false r = r

-- ---- how many

pub one_or_none : {A : Type 0} (b : Bool) (x : A) → length (cond b (x ∷ []) []) ≤ 1
one_or_none true x = omega arith
one_or_none false x = omega arith

-- an element written over its like
pub set_replicate : {A : Type 0} (n p : ℕ) (x : A) → set (replicate n x) p x ≡ replicate n x
set_replicate zero p x = refl
set_replicate (suc n) zero x = refl
set_replicate (suc n) (suc p) x = ap (λ l. x ∷ l) (set_replicate n p x)

-- ---- a mapped list

module _ {A B : Type 0} (f : A → B) where
  pub map_set : (l : List A) (i : ℕ) (a : A) → map f (set l i a) ≡ set (map f l) i (f a)
  map_set [] i a = refl
  map_set (x ∷ l) zero a = refl
  map_set (x ∷ l) (suc i) a = ap (λ t. f x ∷ t) (map_set l i a)

  -- past the kit's law, each list with its own default
  pub get_d_mapped : (l : List A) (i : ℕ) (a : A) (b : B) → i < length l → get_or (map f l) i b ≡ f (get_or l i a)
  get_d_mapped [] i a b h = absurd (omega arith)
  get_d_mapped (x ∷ l) zero a b h = refl
  get_d_mapped (x ∷ l) (suc i) a b h = get_d_mapped l i a b (omega arith)
