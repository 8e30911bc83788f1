-- Laws of a list made by its index, and of a list whose first places are written.
use mathlib.Core.Path.{◌≡◌, refl, sym, ap, ap₂, ◌∙◌}
use mathlib.Core.List.{List, [], ◌∷◌, ◌++◌, append_assoc, append-nil, map, map-append}
use mathlib.Core.Logic.{⊎_elim}
use Prim.Native.Nat.{ℕ, zero, suc, ◌+◌, ◌-◌, ◌≤◌, ◌<◌}
use native.Mathlib.Decide.{le_ind}
use native.Mathlib.Nat.{eq-or-lt_of_le, le_of_suc-le-suc, le_refl}
use native.Mathlib.Numerals.{add-one}
use native.Mathlib.Omega.{arith}
use lib.ListN.{length, get_or, set, take, drop, length-append, length-drop, get_or-append, drop_of_length-le}
use lib.Seq.{get_or-append-add, get_or-drop, get_or_at, drop-cons, drop-append-add}
use lib.Seq.{drop-drop, set_at, take-append-le, take_all, take-suc}
use Rattle.lists.specs.Written.{tab, written}

module _ {A : Type 0} (f : ℕ → A) where
  pub length_tab : (m : ℕ) → length (tab f m) ≡ m
  unfolding tab
  length_tab zero = refl
  length_tab (suc m) = length-append (tab f m) (f m ∷ []) ∙ (let h = length_tab m in omega arith)

  pub get_d_tab : (m i : ℕ) (d : A) → i < m → get_or (tab f m) i d ≡ f i
  unfolding tab
  get_d_tab zero i d h = absurd (omega arith)
  get_d_tab (suc m) i d h =
      ⊎_elim
      (λ e. rw e (get_or_at (tab f m) (f m) [] d m (length_tab m)))
      (λ k. get_or-append (tab f m) (f m ∷ []) d i (rw (length_tab m) k) ∙ get_d_tab m i d k)
      (eq-or-lt_of_le (le_of_suc-le-suc h))

  pub take_tab : (m n : ℕ) → n ≤ m → take n (tab f m) ≡ tab f n
  unfolding tab
  take_tab zero zero h = refl
  take_tab zero (suc n) h = absurd (omega arith)
  take_tab (suc m) n h =
      ⊎_elim
      (λ e. rw e
      (take_all (suc m) (tab f m ++ (f m ∷ []))
      (let l = length-append (tab f m) (f m ∷ []) in let k = length_tab m in omega arith)))
      (λ k. take-append-le n (tab f m) (f m ∷ []) (rw (length_tab m) (le_of_suc-le-suc k))
      ∙ take_tab m n (le_of_suc-le-suc k))
      (eq-or-lt_of_le h)

  pub length_written : (m : ℕ) (l : List A) → m ≤ length l → length (written f m l) ≡ length l
  length_written m l h = omega (arith, length-append (tab f m) (drop m l), length_tab m, length-drop m l)

  -- a place that is written, and one that is not
  pub written_before : (m k : ℕ) (l : List A) (d : A) → k < m → get_or (written f m l) k d ≡ f k
  written_before m k l d h = get_or-append (tab f m) (drop m l) d k (omega (arith, length_tab m)) ∙ get_d_tab m k d h

  pub written_past : (m k : ℕ) (l : List A) (d : A) → m ≤ k → get_or (written f m l) k d ≡ get_or l k d
  written_past m k l d h =
      let e : length (tab f m) + (k - m) ≡ k = omega (arith, length_tab m) in
      let e' : m + (k - m) ≡ k = omega arith in
      ap (λ (x : ℕ). get_or (written f m l) x d) (sym e) ∙ get_or-append-add (tab f m) (drop m l) (k - m) d
      ∙ get_or-drop m l (k - m) d
      ∙ ap (λ (x : ℕ). get_or l x d) e'

  -- nothing is written, and then the next place
  pub written_none : (l : List A) → l ≡ written f 0 l
  unfolding tab
  written_none l = refl

  pub write_next : (m : ℕ) (l : List A) (v d : A) → m < length l → v ≡ f m
      → set (written f m l) m v ≡ written f (m + 1) l
  unfolding tab
  write_next m l v d h e =
      ap (λ (x : List A). set (tab f m ++ x) m v) (drop-cons l m d h)
      ∙ set_at (tab f m) (get_or l m d) (drop (suc m) l) v m (length_tab m)
      ∙ ap (λ (x : A). tab f m ++ x ∷ drop (suc m) l) e
      ∙ sym (append_assoc (tab f m) (f m ∷ []) (drop (suc m) l))
      ∙ ap (λ (x : ℕ). written f x l) (sym (add-one m))

  -- a place that keeps what it holds is as good as written, and so are all up to some place
  pub written_keep : (m : ℕ) (l : List A) (d : A) → m < length l → f m ≡ get_or l m d
      → written f m l ≡ written f (m + 1) l
  unfolding tab
  written_keep m l d h e =
      ap (λ (x : List A). tab f m ++ x) (drop-cons l m d h)
      ∙ ap (λ (x : A). tab f m ++ x ∷ drop (suc m) l) (sym e)
      ∙ sym (append_assoc (tab f m) (f m ∷ []) (drop (suc m) l))
      ∙ ap (λ (x : ℕ). written f x l) (sym (add-one m))

  pub written_on : (m n : ℕ) (l : List A) (d : A) → m ≤ n → n ≤ length l
      → ((i : ℕ) → m ≤ i → i < n → f i ≡ get_or l i d) → written f m l ≡ written f n l
  written_on m n l d h k e =
      le_ind (λ (i : ℕ). i ≤ n → written f m l ≡ written f i l) (λ g. refl)
      (λ i g ih more. ih (omega arith) ∙ written_keep i l d (omega arith) (e i g (omega arith))
      ∙ ap (λ (x : ℕ). written f x l) (add-one i)) n h (le_refl n)

  -- what is beyond the written places
  pub drop_written : (m n : ℕ) (l : List A) → m ≤ n → drop n (written f m l) ≡ drop n l
  drop_written m n l h =
      let e : length (tab f m) + (n - m) ≡ n = omega (arith, length_tab m) in
      let e' : m + (n - m) ≡ n = omega arith in
      ap (λ (x : ℕ). drop x (written f m l)) (sym e) ∙ drop-append-add (tab f m) (drop m l) (n - m)
      ∙ drop-drop (n - m) m l
      ∙ ap (λ (x : ℕ). drop x l) e'

  -- all of it is written
  pub written_whole : (m n : ℕ) (l : List A) → m ≡ n → length l ≡ n → written f m l ≡ tab f n
  written_whole m n l e h = rw (e, drop_of_length-le l {i = n} (omega arith)) (append-nil (tab f n))

-- the first m of a list, read by their index and mapped
pub tab_map : {A B : Type 0} (f : A → B) (l : List A) (d : A) (m : ℕ) → m ≤ length l
    → tab (λ i. f (get_or l i d)) m ≡ map f (take m l)
unfolding tab
tab_map f l d zero h = refl
tab_map f l d (suc m) h =
    ap (λ t. t ++ (f (get_or l m d) ∷ [])) (tab_map f l d m (omega arith))
    ∙ sym (ap (map f) (take-suc l m d (omega arith)) ∙ map-append f (take m l) (get_or l m d ∷ []))

pub tab_cong : {A : Type 0} (f g : ℕ → A) (m : ℕ) → ((i : ℕ) → i < m → f i ≡ g i) → tab f m ≡ tab g m
unfolding tab
tab_cong f g zero e = refl
tab_cong f g (suc m) e = ap₂ (λ l x. l ++ (x ∷ [])) (tab_cong f g m (λ i h. e i (omega arith))) (e m (omega arith))

-- what is written by another rule that agrees, over another list with the same rest
pub written_cong : {A : Type 0} (f g : ℕ → A) (m : ℕ) (k l : List A) → ((i : ℕ) → i < m → f i ≡ g i)
    → drop m k ≡ drop m l → written f m k ≡ written g m l
written_cong f g m k l e d = ap₂ ◌++◌ (tab_cong f g m e) d
