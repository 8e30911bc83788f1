-- Laws of `some` and `any` along a loop.
use mathlib.Core.Path.{◌≡◌, refl, sym, ap, ap₂, ◌∙◌}
use mathlib.Core.Bool.{Bool, true, false, ◌||◌, or-false, or-true, or_assoc}
use mathlib.Core.List.{List, [], ◌∷◌, ◌++◌}
use mathlib.Core.Logic.{⊎_elim}
use Prim.Native.Nat.{ℕ, zero, suc, ◌+◌, ◌<◌}
use native.Mathlib.Nat.{eq-or-lt_of_le, le_of_suc-le-suc}
use native.Mathlib.Numerals.{add-one}
use native.Mathlib.Omega.{arith}
use lib.ListN.{length, get_or, take}
use lib.Seq.{take-suc}
use Rattle.lists.specs.Lists.{up_to}
use Rattle.lists.specs.Some.{some, any}

-- ---- some number below n

-- one number more
pub some_next : (n : ℕ) (p : ℕ → Bool) → some (n + 1) p ≡ (some n p || p n)
unfolding some
some_next n p = ap (λ m. some m p) (add-one n)

pub some_cong : (n : ℕ) (p q : ℕ → Bool) → ((i : ℕ) → i < n → p i ≡ q i) → some n p ≡ some n q
unfolding some
some_cong zero p q e = refl
some_cong (suc n) p q e = ap₂ (λ (a b : Bool). a || b) (some_cong n p q (λ i h. e i (omega arith))) (e n (omega arith))

pub some_zero : (p : ℕ → Bool) → some 0 p ≡ false
unfolding some
some_zero p = refl

-- a number that passes
pub some_of : (n : ℕ) (p : ℕ → Bool) (i : ℕ) → i < n → p i ≡ true → some n p ≡ true
unfolding some
some_of zero p i h e = absurd (omega arith)
some_of (suc n) p i h e =
    ⊎_elim
    (λ k. ap (λ (b : Bool). some n p || b) (ap p (sym k) ∙ e) ∙ or-true (some n p))
    (λ k. ap (λ (b : Bool). b || p n) (some_of n p i k e))
    (eq-or-lt_of_le (le_of_suc-le-suc h))

-- none passes
pub some_none : (n : ℕ) (p : ℕ → Bool) → ((i : ℕ) → i < n → p i ≡ false) → some n p ≡ false
unfolding some
some_none zero p h = refl
some_none (suc n) p h = ap₂ (λ (a b : Bool). a || b) (some_none n p (λ i k. h i (omega arith))) (h n (omega arith))

-- ---- some element of a list

pub any_append : {A : Type 0} (p : A → Bool) (l m : List A) → any p (l ++ m) ≡ (any p l || any p m)
unfolding any
any_append p [] m = refl
any_append p (x ∷ l) m = ap (λ (b : Bool). p x || b) (any_append p l m) ∙ sym (or_assoc (p x) (any p l) (any p m))

any_one : {A : Type 0} (p : A → Bool) (x : A) → any p (x ∷ []) ≡ p x
unfolding any
any_one p x = or-false (p x)

pub any_none : {A : Type 0} (p : A → Bool) (l : List A) → any p (take 0 l) ≡ false
unfolding any
any_none p l = refl

-- one element more
pub any_next : {A : Type 0} (p : A → Bool) (l : List A) (k : ℕ) (d : A) → k < length l
    → any p (take (k + 1) l) ≡ (any p (take k l) || p (get_or l k d))
any_next p l k d h =
    ap (λ (m : ℕ). any p (take m l)) (add-one k) ∙ ap (any p) (take-suc l k d h)
    ∙ any_append p (take k l) (get_or l k d ∷ [])
    ∙ ap (λ (b : Bool). any p (take k l) || b) (any_one p (get_or l k d))

-- an element of the list that passes
pub any_of : {A : Type 0} (p : A → Bool) (l : List A) (k n : ℕ) (d : A) → k < length l → k < n → p (get_or l k d) ≡ true
    → any p (take n l) ≡ true
unfolding any
any_of p [] k n d h g e = absurd (omega arith)
any_of p (x ∷ l) k zero d h g e = absurd (omega arith)
any_of p (x ∷ l) zero (suc n) d h g e = ap (λ (b : Bool). b || any p (take n l)) e
any_of p (x ∷ l) (suc k) (suc n) d h g e =
    ap (λ (b : Bool). p x || b) (any_of p l k n d (omega arith) (omega arith) e) ∙ or-true (p x)

-- some element of a loop that appends
pub any_up_to : {A : Type 0} (p : A → Bool) (f : ℕ → List A) (m : ℕ) → any p (up_to f m) ≡ some m (λ k. any p (f k))
unfolding up_to some any
any_up_to p f zero = refl
any_up_to p f (suc m) = any_append p (up_to f m) (f m) ∙ ap (λ (b : Bool). b || any p (f m)) (any_up_to p f m)
