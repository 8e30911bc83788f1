-- The numbers of arcs, listed in turn, and an array that is filled at the places of a list.
use mathlib.Core.Path.{◌≡◌, refl, sym, ap, ◌∙◌}
use mathlib.Core.Bool.{Bool, true, false, true≢false}
use mathlib.Core.List.{List, [], ◌∷◌, ◌++◌, foldl}
use mathlib.Core.Logic.{⊎_elim}
use Prim.Native.Nat.{ℕ, ◌+◌, ◌-◌, ◌*◌, ◌/◌, ◌%◌, ◌^◌, ◌<◌, ◌≤◌}
use native.Mathlib.Omega.{arith}
use borrow.Author.Tests.{le-ltb, lt-ltb, ltb-true, ltb-false, eq-eqb, ne_eqb, eqb-true, eqb-false}
use lib.Dec.{ltb, eqb}
use lib.ListN.{length, get_or, set, length-set, length-append, get_or-eq_default}
use lib.Seq.{get_or-set_same, get_or-set_other}
use Rattle.std.specs.List.{Contains}
use Rattle.std.proofs.lemmas.List.Elements.{Contains-append_left, Contains-push}
use Rattle.std.proofs.lemmas.List.Elements.{Contains-push_cases, Contains-append_cases}
use Rattle.masks.specs.Mask.{in_set}
use Rattle.std.proofs.lemmas.List.{get_or_default}
use Rattle.std.specs.Int.Bits.{bit_and}
use Rattle.masks.specs.Operations.{bit_beyond, in_of_zero, in_by_shift}
use Rattle.lists.specs.Every.{Every, every_append, every_at, every_map}
use Rattle.gaps.specs.declared.marks.HeadMarks.{HeadMarks}
use Rattle.gaps.specs.Marks.{unmarked}
use Rattle.sums.specs.declared.pass.Pass.{Pass}
use Rattle.sums.specs.Walk.{marks_of, standing, Placed}
use Rattle.sums.specs.Values.{Standing}
use Rattle.sums.proofs.Held.{standing_near, standing_whole, held_many, marks_few, placed_near}

-- ---- the numbers of arcs

-- all those below n are listed, and no others
pub record Below (needed : ℕ) (heads : List HeadMarks) (n : ℕ) (list : List ℕ) : Type 0 where
  pub each : Every (λ p. (p < 330) × (standing needed heads p ≡ true)) list
  pub all : (p : ℕ) → p < n → standing needed heads p ≡ true → Contains list p
  pub room : length list ≤ n

module _ {needed : ℕ} {heads : List HeadMarks} where
  -- the next is one
  pub below_next : {n m p : ℕ} {list : List ℕ} → Below needed heads n list → p ≡ n → m ≡ n + 1 → n < 330
      → standing needed heads n ≡ true → Below needed heads m (list ++ p ∷ [])
  below_next {n} {m} {p} {list} so_far ep em h is =
      record {
        each = every_append (λ p. (p < 330) × (standing needed heads p ≡ true)) list (p ∷ []) so_far.each
            (rw ep (h, is), tt);
        all = λ q k on. by q (omega (arith, k, em)) on (ltb q n) refl;
        room = omega (arith, length-append list (p ∷ []), so_far.room, em);
      }
    where
      by : (q : ℕ) → q < n + 1 → standing needed heads q ≡ true → (b : Bool) → ltb q n ≡ b → Contains (list ++ p ∷ []) q
      by q k on true e = Contains-append_left list (p ∷ []) q (so_far.all q (ltb-true q n e) on)
      by q k on false e =
          let same : q ≡ p = omega (arith, k, ltb-false q n e, ep) in rw same (Contains-push list p)

  -- there are no others up to m
  pub below_past : {n m : ℕ} {list : List ℕ} → Below needed heads n list → n ≤ m
      → ((p : ℕ) → n ≤ p → p < m → standing needed heads p ≡ false) → Below needed heads m list
  below_past {n} {m} {list} so_far h none =
      record {
        each = so_far.each;
        all = λ p k on. by p k on (ltb p n) refl;
        room = omega (arith, so_far.room, h);
      }
    where
      by : (p : ℕ) → p < m → standing needed heads p ≡ true → (b : Bool) → ltb p n ≡ b → Contains list p
      by p k on true e = so_far.all p (ltb-true p n e) on
      by p k on false e = absurd (true≢false (sym on ∙ none p (ltb-false p n e) k))

  pub below_all : {list : List ℕ} → Below needed heads 330 list → Standing needed heads list
  below_all done = record { each = done.each; all = done.all }

module _ (pass : Pass) where
  abbrev heads : List HeadMarks
  heads = pass.heads.now.items

  -- a mark of head j
  pub mark_stands : (j i : ℕ) → j < 10 → i < length (marks_of pass.heads.now.items j)
      → standing pass.needed pass.heads.now.items (j * 32 + i) ≡ true
  mark_stands j i h k =
      let few = marks_few pass j in
      let low : j * 32 + i < 320 = omega (arith, h, k, few) in
      let head : (j * 32 + i) / 32 ≡ j = omega (arith, k, few) in
      let mark : (j * 32 + i) % 32 ≡ i = omega (arith, k, few) in
      standing_near pass.needed heads (j * 32 + i) low ∙ rw (head, mark) (lt-ltb i (length (marks_of heads j)) k)

  -- its last mark is past
  pub marks_past : (j n : ℕ) → j < 10 → n ≡ length (marks_of pass.heads.now.items j) → (p : ℕ) → j * 32 + n ≤ p
      → p < (j + 1) * 32
      → standing pass.needed pass.heads.now.items p ≡ false
  marks_past j n h e p l u =
      let low : p < 320 = omega (arith, h, u) in
      let head : p / 32 ≡ j = omega (arith, l, u) in
      standing_near pass.needed heads p low
      ∙ rw head (le-ltb (p % 32) (length (marks_of heads j)) (omega (arith, e, l, u)))

  -- the last head is past
  pub heads_past : (p : ℕ) → length pass.heads.now.items * 32 ≤ p → p < 320
      → standing pass.needed pass.heads.now.items p ≡ false
  heads_past p l u =
      let past : length heads ≤ p / 32 = omega (arith, l) in
      let none = ap (λ m. length m.marks.items) (get_or-eq_default heads unmarked past) in
      standing_near pass.needed heads p u ∙ le-ltb (p % 32) (length (marks_of heads (p / 32))) (omega (arith, none))

  -- and the last whole circle
  pub whole_past : (p : ℕ) → 320 + length pass.circles.now ≤ p → p < 330
      → standing pass.needed pass.heads.now.items p ≡ false
  whole_past p l u =
      standing_whole pass.needed heads p (omega (arith, l))
      ∙ in_of_zero pass.needed (p - 320)
      (bit_beyond (length pass.circles.now) pass.needed (p - 320) pass.below (omega (arith, l)))

  -- the whole circle of head j
  whole_is : (j : ℕ) → standing pass.needed pass.heads.now.items (320 + j) ≡ in_set pass.needed j
  whole_is j =
      let same : 320 + j - 320 ≡ j = omega arith in
      standing_whole pass.needed heads (320 + j) (omega arith) ∙ ap (in_set pass.needed) same

  pub whole_stands : (j : ℕ) → bit_and (pass.needed / 2 ^ j) 1 ≡ 1
      → standing pass.needed pass.heads.now.items (320 + j) ≡ true
  whole_stands j e = whole_is j ∙ sym (in_by_shift pass.needed j) ∙ eq-eqb _ 1 e

  pub whole_stands_not : (j : ℕ) → (bit_and (pass.needed / 2 ^ j) 1 ≡ 1 → ⊥) → (p : ℕ) → 320 + j ≤ p → p < 320 + (j + 1)
      → standing pass.needed pass.heads.now.items p ≡ false
  whole_stands_not j e p l u =
      let same : p ≡ 320 + j = omega (arith, l, u) in
      rw same (whole_is j ∙ sym (in_by_shift pass.needed j) ∙ ne_eqb _ 1 e)

  -- how many marks head j has, as code reads it
  pub marks_counted : {head : HeadMarks} {items : List HeadMarks} {j n : ℕ} → items ≡ pass.heads.now.items
      → head ≡ get_or items j head → j < length items → n ≡ length head.marks.items
      → n ≡ length (marks_of pass.heads.now.items j)
  marks_counted {head} {items} {j} el eh h en =
      en ∙ ap (λ (m : HeadMarks). length m.marks.items)
      (eh ∙ get_or_default items j head unmarked h ∙ ap (λ l. get_or l j unmarked) el)

  pub head_few : {items : List HeadMarks} {j : ℕ} → items ≡ pass.heads.now.items → j < length items → j < 10
  head_few el h = omega (arith, h, ap length el, held_many pass, pass.ten)

-- ---- an array

module _ {A : Type 0} (f : ℕ → A) where
  abbrev put : List A → ℕ → List A
  put l p = set l p (f p)

  pub filled_long : (list : List ℕ) (l : List A) → length (foldl (λ l p. set l p (f p)) l list) ≡ length l
  filled_long [] l = refl
  filled_long (p ∷ list) l = filled_long list (put l p) ∙ length-set l p (f p)

  -- what is right stays right
  stays : (list : List ℕ) (l : List A) (q : ℕ) (none : A) → q < length l → get_or l q none ≡ f q
      → get_or (foldl (λ l p. set l p (f p)) l list) q none ≡ f q
  stays [] l q none h e = e
  stays (p ∷ list) l q none h e =
      stays list (put l p) q none (omega (arith, h, length-set l p (f p))) (by (eqb q p) refl)
    where
      by : (b : Bool) → eqb q p ≡ b → get_or (set l p (f p)) q none ≡ f q
      by true t = let same = eqb-true q p t in rw same (get_or-set_same l p (f p) none (omega (arith, same, h)))
      by false t = get_or-set_other l p q (f p) none (eqb-false q p t) ∙ e

  pub filled : (list : List ℕ) (l : List A) → Every (λ p. p < length l) list → (q : ℕ) → Contains list q → (none : A)
      → get_or (foldl (λ l p. set l p (f p)) l list) q none ≡ f q
  filled [] l within q c none = absurd (omega (arith, c.1))
  filled (p ∷ list) l within q c none =
      ⊎_elim (λ here. first (single here))
      (λ later. filled list (put l p) (rw (length-set l p (f p)) within.1) q later none)
      (Contains-append_cases (p ∷ []) list q c)
    where
      single : Contains (p ∷ []) q → p ≡ q
      single here = ⊎_elim (λ nowhere. absurd (omega (arith, nowhere.1))) (λ e. e) (Contains-push_cases [] p q here)

      first : p ≡ q → get_or (foldl (λ l p. set l p (f p)) (put l p) list) q none ≡ f q
      first e =
          stays list (put l p) q none (omega (arith, sym e, within.0, length-set l p (f p)))
          (rw (sym e) (get_or-set_same l p (f p) none within.0))

-- ---- the numbers of arcs, as they are listed

module _ {needed : ℕ} {heads : List HeadMarks} {list : List ℕ} (all : Standing needed heads list) where
  pub listed_low : {items : List ℕ} {i : ℕ} → items ≡ list → i < length items → get_or items i 0 < 330
  listed_low {items} {i} e h =
      let k : i < length list = omega (arith, h, ap length e) in
      rw e (every_at (λ p. (p < 330) × (standing needed heads p ≡ true)) list i 0 k all.each).0

  pub listed_placed : {items : List ℕ} {i : ℕ} → items ≡ list → i < length items
      → Placed needed heads (get_or items i 0)
  listed_placed {items} {i} e h =
      let k : i < length list = omega (arith, h, ap length e) in
      let on = every_at (λ p. (p < 330) × (standing needed heads p ≡ true)) list i 0 k all.each in
      rw e (placed_near needed heads (get_or list i 0) on.0 on.1)

  -- an array that is filled at them
  pub all_filled : {A : Type 0} (f : ℕ → A) (l : List A) → length l ≡ 330 → (none : A) → (p : ℕ) → p < 330
      → standing needed heads p ≡ true → get_or (foldl (λ v p. set v p (f p)) l list) p none ≡ f p
  all_filled f l long none p h is =
      filled f list l (every_map list (λ q on. omega (arith, on.0, long)) all.each) p (all.all p h is) none

pub ruleset listing = (listed_low, listed_placed, all_filled, filled_long)
