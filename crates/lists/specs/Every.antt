-- A property of every element of a list, and its laws.
use Rattle.std.specs.Prelude.{◌≡◌, refl, Bool, true, false, cond, List, [], ◌∷◌, ◌++◌}
use Rattle.std.specs.Prelude.{map, ℕ, zero, suc, ◌<◌, length, get_or, set, replicate, take}
use Rattle.std.proofs.Common.{sym, subst, ⊎_elim, eq-or-lt_of_le, le_of_suc-le-suc, arith}
use Rattle.lists.specs.Lists.{up_to, keep}

-- P holds of every element
abbrev pub Every : {A : Type 0} → (A → Type 0) → List A → Type 0
Every P [] = Unit
Every P (x ∷ l) = P x × Every P l

pub every_append : {A : Type 0} (P : A → Type 0) (a b : List A) → Every P a → Every P b → Every P (a ++ b)
every_append P [] b h g = g
every_append P (x ∷ a) b h g = (h.0, every_append P a b h.1 g)

pub every_map : {A : Type 0} {P Q : A → Type 0} (l : List A) → ((x : A) → P x → Q x) → Every P l → Every Q l
every_map [] f h = tt
every_map (x ∷ l) f h = (f x h.0, every_map l f h.1)

pub every_both : {A : Type 0} {P Q R : A → Type 0} (l : List A) → ((x : A) → P x → Q x → R x) → Every P l → Every Q l
    → Every R l
every_both [] f h g = tt
every_both (x ∷ l) f h g = (f x h.0 g.0, every_both l f h.1 g.1)

pub every_up_to : {A : Type 0} (P : A → Type 0) (f : ℕ → List A) (m : ℕ) → ((i : ℕ) → i < m → Every P (f i))
    → Every P (up_to f m)
unfolding up_to
every_up_to P f zero h = tt
every_up_to P f (suc m) h =
    every_append P (up_to f m) (f m) (every_up_to P f m (λ i k. h i (omega arith))) (h m (omega arith))

-- the two parts of a list, and one part of a loop that appends
pub every_left : {A : Type 0} (P : A → Type 0) (a b : List A) → Every P (a ++ b) → Every P a
every_left P [] b e = tt
every_left P (x ∷ a) b e = (e.0, every_left P a b e.1)

pub every_right : {A : Type 0} (P : A → Type 0) (a b : List A) → Every P (a ++ b) → Every P b
every_right P [] b e = e
every_right P (x ∷ a) b e = every_right P a b e.1

pub every_part : {A : Type 0} (P : A → Type 0) (f : ℕ → List A) (m i : ℕ) → i < m → Every P (up_to f m) → Every P (f i)
unfolding up_to
every_part P f zero i h e = absurd (omega arith)
every_part P f (suc m) i h e =
    ⊎_elim (λ k. subst (λ (j : ℕ). Every P (f j)) (sym k) (every_right P (up_to f m) (f m) e))
    (λ k. every_part P f m i k (every_left P (up_to f m) (f m) e))
    (eq-or-lt_of_le (le_of_suc-le-suc h))

-- one element
pub every_at : {A : Type 0} (P : A → Type 0) (l : List A) (i : ℕ) (d : A) → i < length l → Every P l → P (get_or l i d)
every_at P [] i d h e = absurd (omega arith)
every_at P (x ∷ l) zero d h e = e.0
every_at P (x ∷ l) (suc i) d h e = every_at P l i d (omega arith) e.1

pub every_by_index : {A : Type 0} (P : A → Type 0) (l : List A) (d : A) → ((i : ℕ) → i < length l → P (get_or l i d))
    → Every P l
every_by_index P [] d h = tt
every_by_index P (x ∷ l) d h = (h 0 (omega arith), every_by_index P l d (λ i g. h (suc i) (omega arith)))

pub every_set : {A : Type 0} (P : A → Type 0) (l : List A) (i : ℕ) (v : A) → Every P l → (i < length l → P v)
    → Every P (set l i v)
every_set P [] i v e h = tt
every_set P (x ∷ l) zero v e h = (h (omega arith), e.1)
every_set P (x ∷ l) (suc i) v e h = (e.0, every_set P l i v e.1 (λ k. h (omega arith)))

-- what holds of anything
pub every_all : {A : Type 0} (P : A → Type 0) (l : List A) → ((x : A) → P x) → Every P l
every_all P [] h = tt
every_all P (x ∷ l) h = (h x, every_all P l h)

-- one or none
pub every_one : {A : Type 0} (P : A → Type 0) (b : Bool) (x : A) → P x → Every P (cond b (x ∷ []) [])
every_one P true x h = (h, tt)
every_one P false x h = tt

-- those that pass: what holds of each, and of its passing
pub every_kept : {A : Type 0} (P Q : A → Type 0) (p : A → Bool) (l : List A) → Every P l
    → ((x : A) → P x → p x ≡ true → Q x) → Every Q (keep p l)
unfolding keep
every_kept P Q p [] e h = tt
every_kept P Q p (x ∷ l) e h = by (p x) refl (every_kept P Q p l e.1 h)
  where
    by : (b : Bool) → p x ≡ b → Every Q (keep p l) → Every Q (cond b (x ∷ keep p l) (keep p l))
    by true t r = (h x e.0 t, r)
    by false t r = r

pub every_keep : {A : Type 0} (P : A → Type 0) (p : A → Bool) (l : List A) → Every P l → Every P (keep p l)
every_keep P p l e = every_kept P P p l e (λ x h t. h)

-- mapped, repeated and cut off
pub every_mapped : {A B : Type 0} (P : B → Type 0) (f : A → B) (l : List A) → Every (λ a. P (f a)) l → Every P (map f l)
every_mapped P f [] e = tt
every_mapped P f (a ∷ l) e = (e.0, every_mapped P f l e.1)

pub every_replicate : {A : Type 0} (P : A → Type 0) (n : ℕ) (a : A) → P a → Every P (replicate n a)
every_replicate P zero a h = tt
every_replicate P (suc n) a h = (h, every_replicate P n a h)

pub every_take : {A : Type 0} (P : A → Type 0) (n : ℕ) (l : List A) → Every P l → Every P (take n l)
every_take P zero l e = tt
every_take P (suc n) [] e = tt
every_take P (suc n) (a ∷ l) e = (e.0, every_take P n l e.1)
