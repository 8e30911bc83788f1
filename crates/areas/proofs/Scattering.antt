-- Laws of scattering: where entries stand, and that changing an entry by position and scattering is scattering and changing the entry
-- where it stands. One law for every change of an entry.
use mathlib.Core.Path.{◌≡◌, refl, sym, ap, ◌∙◌}
use mathlib.Core.Bool.{Bool, true, false, cond, true≢false}
use mathlib.Core.List.{List, [], ◌∷◌, ◌++◌}
use Prim.Native.Nat.{ℕ, zero, suc, ◌+◌, ◌*◌, ◌≤◌, ◌<◌}
use native.Mathlib.Numerals.{unary_clauses}
use native.Mathlib.Omega.{arith}
use lib.ListN.{length, get_or, set, replicate, length-set, length-append, length-replicate, get_or-replicate, get_or-append}
use lib.Seq.{get_or-set_same, get_or-set_other, set-set, set_comm, get_or-append-add}
use lib.Ieee.{Float, nan}
use Rattle.binary64.specs.Constants.{zero64}
use Rattle.masks.specs.Mask.{in_set}
use Rattle.lists.specs.Lists.{up_to}
use Rattle.lists.proofs.Lists.{set_replicate}
use Rattle.lists.specs.Every.{Every, every_append, every_map, every_up_to}
use Rattle.intersections.specs.Members.{heads_of}
use Rattle.intersections.specs.Counts.{heads_below}
use Rattle.areas.specs.Scatter.{entries_of, box_entries, put, scatter, Scatters}

-- ---- increasing lists

-- each is below all that come after it
abbrev pub Increasing : List ℕ → Type 0
Increasing [] = Unit
Increasing (p ∷ ps) = Every (λ q. p < q) ps × Increasing ps

pub increasing_append : (m : ℕ) (a b : List ℕ) → Increasing a → Increasing b → Every (λ p. p < m) a → Every (λ p. m ≤ p) b → Increasing (a ++ b)
increasing_append m [] b ia ib below above = ib
increasing_append m (p ∷ a) b ia ib below above = (
  every_append (λ q. p < q) a b ia.0 (every_map b (λ q h. omega (arith, below.0)) above),
  increasing_append m a b ia.1 ib below.1 above,
)

-- the heads of a set are in order
pub heads_increasing : (n S : ℕ) → Increasing (heads_of n S)
unfolding heads_of up_to
heads_increasing zero S = tt
heads_increasing (suc n) S = by (in_set S n) (heads_increasing n S)
  where
    by : (b : Bool) → Increasing (heads_of n S) → Increasing (heads_of n S ++ cond b (n ∷ []) [])
    by true i = increasing_append n (heads_of n S) (n ∷ []) i (tt, tt) (heads_below n S) (omega arith, tt)
    by false i = increasing_append n (heads_of n S) [] i tt (heads_below n S) tt

-- ---- where entries stand

-- what holds of the three entries of each head holds of all
pub entries_every : (P Q : ℕ → Type 0) → ((j : ℕ) → P j → Q (j * 3) × (Q (j * 3 + 1) × Q (j * 3 + 2))) → (js : List ℕ) → Every P js → Every Q (entries_of js)
unfolding entries_of
entries_every P Q f [] h = tt
entries_every P Q f (j ∷ js) h =
    let own = f j h.0 in
    (own.0, (own.1.0, (own.1.1, entries_every P Q f js h.1)))

pub entries_below : (n : ℕ) (js : List ℕ) → Every (λ j. j < n) js → Every (λ p. p < n * 3) (entries_of js)
entries_below n js h = entries_every (λ j. j < n) (λ p. p < n * 3) (λ j k. (omega arith, (omega arith, omega arith))) js h

pub entries_increasing : (js : List ℕ) → Increasing js → Increasing (entries_of js)
unfolding entries_of
entries_increasing [] h = tt
entries_increasing (j ∷ js) h =
    let after : Every (λ p. j * 3 + 2 < p) (entries_of js) =
    entries_every (λ j'. j < j') (λ p. j * 3 + 2 < p) (λ j' k. (omega arith, (omega arith, omega arith))) js h.0 in (
      (omega arith, (omega arith, every_map (entries_of js) (λ p k. omega arith) after)),
      ((omega arith, every_map (entries_of js) (λ p k. omega arith) after), (after, entries_increasing js h.1)),
    )

pub entries_many : (js : List ℕ) → length (entries_of js) ≡ length js * 3
unfolding entries_of
entries_many [] = refl
entries_many (j ∷ js) = omega (arith, entries_many js)

-- the places of a set's heads and of the box's four, among n heads
module _ (n : ℕ) (js : List ℕ) (below : Every (λ j. j < n) js) where
  pub places_increasing : Increasing js → Increasing (entries_of js ++ box_entries n)
  places_increasing up =
      increasing_append (n * 3) (entries_of js) (box_entries n)
      (entries_increasing js up)
      ((omega arith, (omega arith, (omega arith, tt))), ((omega arith, (omega arith, tt)), ((omega arith, tt), (tt, tt))))
      (entries_below n js below)
      (omega arith, (omega arith, (omega arith, (omega arith, tt))))

  pub places_below : Every (λ p. p < n * 3 + 4) (entries_of js ++ box_entries n)
  places_below =
      every_append (λ p. p < n * 3 + 4) (entries_of js) (box_entries n)
      (every_map (entries_of js) (λ p h. omega (arith, h)) (entries_below n js below))
      (omega arith, (omega arith, (omega arith, (omega arith, tt))))

-- the entry i of position k stands at the entry i of its head
pub entry_at : (js : List ℕ) (k i : ℕ) → k < length js → i < 3 → get_or (entries_of js) (k * 3 + i) 0 ≡ get_or js k 0 * 3 + i
unfolding entries_of
entry_at [] k i h g = absurd (omega arith)
entry_at (j ∷ js) zero zero h g = omega arith
entry_at (j ∷ js) zero (suc zero) h g = refl
entry_at (j ∷ js) zero (suc (suc zero)) h g = refl
entry_at (j ∷ js) zero (suc (suc (suc i))) h g = absurd (omega arith)
entry_at (j ∷ js) (suc k) i h g =
    let at : suc k * 3 + i ≡ suc (suc (suc (k * 3 + i))) = omega arith in
    ap (λ q. get_or ((j * 3) ∷ ((j * 3 + 1) ∷ ((j * 3 + 2) ∷ entries_of js))) q 0) at ∙ entry_at js k i (omega arith) g

-- ---- putting

-- another place is not looked at
pub put_other : (ps : List ℕ) (g out : List Float) (p : ℕ) (d : Float) → Every (λ q. p ≡ q → ⊥) ps → get_or (put ps g out) p d ≡ get_or out p d
unfolding put
put_other [] g out p d h = refl
put_other (q ∷ ps) [] out p d h = refl
put_other (q ∷ ps) (x ∷ g) out p d h = put_other ps g (set out q x) p d h.1 ∙ get_or-set_other out q p x d h.0

put_past : (ps : List ℕ) (g out : List Float) (p : ℕ) (v : Float) → Every (λ q. p ≡ q → ⊥) ps → set (put ps g out) p v ≡ put ps g (set out p v)
unfolding put
put_past [] g out p v h = refl
put_past (q ∷ ps) [] out p v h = refl
put_past (q ∷ ps) (x ∷ g) out p v h =
    put_past ps g (set out q x) p v h.1 ∙ ap (put ps g) (set_comm out q p x v (λ e. h.0 (sym e)))

apart : (p : ℕ) (ps : List ℕ) → Every (λ q. p < q) ps → Every (λ q. p ≡ q → ⊥) ps
apart p ps h = every_map ps (λ q k e. omega arith) h

-- what stands at the place of entry q is entry q
pub put-at : (ps : List ℕ) (g out : List Float) (m q : ℕ) (d : Float) → Increasing ps → Every (λ p. p < m) ps → length out ≡ m
    → length g ≡ length ps → q < length ps → get_or (put ps g out) (get_or ps q 0) d ≡ get_or g q d
unfolding put
put-at [] g out m q d i b l e h = absurd (omega arith)
put-at (p ∷ ps) [] out m q d i b l e h = absurd (omega arith)
put-at (p ∷ ps) (x ∷ g) out m zero d i b l e h =
    put_other ps g (set out p x) p d (apart p ps i.0) ∙ get_or-set_same out p x d (omega (arith, b.0))
put-at (p ∷ ps) (x ∷ g) out m (suc q) d i b l e h =
    put-at ps g (set out p x) m q d i.1 b.1 (length-set out p x ∙ l) (omega arith) (omega arith)

-- to change what stands there is to change the entry
pub put_set : (ps : List ℕ) (g out : List Float) (q : ℕ) (v : Float) → Increasing ps → length g ≡ length ps → q < length ps
    → set (put ps g out) (get_or ps q 0) v ≡ put ps (set g q v) out
unfolding put
put_set [] g out q v i e h = absurd (omega arith)
put_set (p ∷ ps) [] out q v i e h = absurd (omega arith)
put_set (p ∷ ps) (x ∷ g) out zero v i e h =
    put_past ps g (set out p x) p v (apart p ps i.0) ∙ ap (put ps g) (set-set out p x v)
put_set (p ∷ ps) (x ∷ g) out (suc q) v i e h = put_set ps g (set out p x) q v i.1 (omega arith) (omega arith)

-- equal numbers put among equal numbers
pub put_equal : (ps : List ℕ) (m n : ℕ) (x : Float) → put ps (replicate m x) (replicate n x) ≡ replicate n x
unfolding put
put_equal [] m n x = refl
put_equal (p ∷ ps) zero n x = refl
put_equal (p ∷ ps) (suc m) n x = ap (put ps (replicate m x)) (set_replicate n p x) ∙ put_equal ps m n x

-- ---- a gradient by position and one by head

-- G is g scattered over `out`
pub record Scattered (ps : List ℕ) (out g G : List Float) : Type 0 where
  pub many : length g ≡ length ps
  pub same : G ≡ put ps g out

-- entry q by position stands at p
abbrev pub Stands : List ℕ → ℕ → ℕ → Type 0
Stands ps q p = (q < length ps) × (p ≡ get_or ps q 0)

-- m entries from off on by position stand from off' on
abbrev pub StandFrom : List ℕ → ℕ → ℕ → ℕ → Type 0
StandFrom ps m off off' = (i : ℕ) → i < m → Stands ps (off + i) (off' + i)

pub stands_first : (ps : List ℕ) (m off off' : ℕ) → 0 < m → StandFrom ps m off off' → Stands ps off off'
stands_first ps m off off' h at = simp unary_clauses at (at 0 h)

-- those of each head
pub entries_stand : (heads : List ℕ) (k : ℕ) → k < length heads → StandFrom (entries_of heads) 3 (k * 3) (get_or heads k 0 * 3)
entries_stand heads k h i l = (omega (arith, entries_many heads), sym (entry_at heads k i h l))

pub stand_append : (ps more : List ℕ) (q p : ℕ) → Stands ps q p → Stands (ps ++ more) q p
stand_append ps more q p at = (omega (arith, at.0, length-append ps more), at.1 ∙ sym (get_or-append ps more 0 q at.0))

-- those of the box
pub box_stands : (heads : List ℕ) (n : ℕ) → StandFrom (entries_of heads ++ box_entries n) 4 (length heads * 3) (n * 3)
box_stands heads n i l =
    let many = entries_many heads in
    (omega (arith, many, length-append (entries_of heads) (box_entries n)), rw (sym many) (sym (get_or-append-add (entries_of heads) (box_entries n) i 0 ∙ each i l)))
  where
    each : (i : ℕ) → i < 4 → get_or (box_entries n) i 0 ≡ n * 3 + i
    each zero h = omega arith
    each (suc zero) h = refl
    each (suc (suc zero)) h = refl
    each (suc (suc (suc zero))) h = refl
    each (suc (suc (suc (suc i)))) h = absurd (omega arith)

-- both stay so when an entry is changed, by position and where it stands, in the same way
pub entry_changed : (ps : List ℕ) (out g G : List Float) (q p : ℕ) (f : Float → Float) → Increasing ps → Every (λ p. p < length out) ps
    → Stands ps q p → Scattered ps out g G → Scattered ps out (set g q (f (get_or g q nan))) (set G p (f (get_or G p nan)))
entry_changed ps out g G q p f i b at s = record {
  many = length-set g q (f (get_or g q nan)) ∙ s.many;
  same =
      rw (s.same, at.1, put-at ps g out (length out) q nan i b refl s.many at.0)
      (put_set ps g out q (f (get_or g q nan)) i s.many at.0);
}

-- ---- what scattering does

pub put_length : (ps : List ℕ) (g out : List Float) → length (put ps g out) ≡ length out
unfolding put
put_length [] g out = refl
put_length (p ∷ ps) [] out = refl
put_length (p ∷ ps) (x ∷ g) out = put_length ps g (set out p x) ∙ length-set out p x

pub heads-in : (n S : ℕ) → Every (λ j. in_set S j ≡ true) (heads_of n S)
unfolding heads_of
heads-in n S = every_up_to (λ j. in_set S j ≡ true) (λ j. cond (in_set S j) (j ∷ []) []) n (λ j h. by j (in_set S j) refl)
  where
    by : (j : ℕ) (b : Bool) → in_set S j ≡ b → Every (λ j. in_set S j ≡ true) (cond b (j ∷ []) [])
    by j true e = (e, tt)
    by j false e = tt

module _ (n S : ℕ) (g : List Float) where
  many_scattered : length (scatter (heads_of n S) n g) ≡ 3 * n
  unfolding scatter
  many_scattered = put_length (entries_of (heads_of n S)) g (replicate (3 * n) zero64) ∙ length-replicate (3 * n) zero64

  scattered_at : length g ≡ 3 * length (heads_of n S) → (k i : ℕ) → k < length (heads_of n S) → i < 3
      → get_or (scatter (heads_of n S) n g) (get_or (heads_of n S) k 0 * 3 + i) nan ≡ get_or g (k * 3 + i) nan
  unfolding scatter
  scattered_at lg k i h l =
      let heads = heads_of n S in
      let many = entries_many heads in
      rw (sym (entry_at heads k i h l))
      (put-at (entries_of heads) g (replicate (3 * n) zero64) (3 * n) (k * 3 + i) nan
      (entries_increasing heads (heads_increasing n S))
      (every_map (entries_of heads) (λ p b. omega (arith, b)) (entries_below n heads (heads_below n S)))
      (length-replicate (3 * n) zero64) (omega (arith, lg, many)) (omega (arith, many)))

  pub scattered_elsewhere : (j i : ℕ) → j < n → i < 3 → in_set S j ≡ false
      → get_or (scatter (heads_of n S) n g) (j * 3 + i) nan ≡ zero64
  unfolding scatter
  scattered_elsewhere j i h l e =
      put_other (entries_of (heads_of n S)) g (replicate (3 * n) zero64) (j * 3 + i) nan
      (entries_every (λ j'. in_set S j' ≡ true) (λ q. j * 3 + i ≡ q → ⊥) other (heads_of n S) (heads-in n S))
      ∙ get_or-replicate (3 * n) (j * 3 + i) zero64 nan (omega arith)
    where
      other : (j' : ℕ) → in_set S j' ≡ true
          → (j * 3 + i ≡ j' * 3 → ⊥) × ((j * 3 + i ≡ j' * 3 + 1 → ⊥) × (j * 3 + i ≡ j' * 3 + 2 → ⊥))
      other j' t =
          let differ : j ≡ j' → ⊥ = λ d. true≢false (sym t ∙ ap (in_set S) (sym d) ∙ e) in
          (λ q. differ (omega (arith, q, l)), (λ q. differ (omega (arith, q, l)), λ q. differ (omega (arith, q, l))))

pub scatters : (n S : ℕ) (g : List Float) → length g ≡ 3 * length (heads_of n S) → Scatters n S g
scatters n S g lg = record { many = many_scattered n S g; own = scattered_at n S g lg; elsewhere = scattered_elsewhere n S g }
