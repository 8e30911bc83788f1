-- The sort of finite angles is ordered and stable.
use mathlib.Core.Path.{◌≡◌, refl, sym, ap, ◌∙◌}
use mathlib.Core.Bool.{Bool, true, false, not, ◌&&◌, cond}
use mathlib.Core.List.{List, [], ◌∷◌, ◌++◌, append_assoc, append-nil}
use Prim.Native.Nat.{ℕ}
use native.Mathlib.Omega.{arith}
use lib.Ieee.{Float, lt}
use Rattle.binary64.specs.Units.{Finite}
use Rattle.binary64.proofs.Units.{units_of_lt, units_of_not_lt, lt_of_units, not_lt_of_units}
use Rattle.lists.specs.Lists.{keep}
use Rattle.lists.proofs.Lists.{keep_none}
use Rattle.lists.specs.Every.{Every, every_both}
use Rattle.boundary.specs.Sort.{insert, sort_onto, sorted, Ordered, level, insert_by, sort_onto_by, sorted_by}

-- a property of x and of every element of l
pub insert_every : (P : Float → Type 0) (x : Float) (l : List Float) → P x → Every P l → Every P (insert x l)
unfolding insert_by
insert_every P x [] h g = (h, tt)
insert_every P x (y ∷ l) h g = by (lt x y) (insert_every P x l h g.1)
  where
    by : (b : Bool) → Every P (insert x l) → Every P (cond b (x ∷ y ∷ l) (y ∷ insert x l))
    by true r = (h, g)
    by false r = (g.0, r)

sort_onto_every : (P : Float → Type 0) (done l : List Float) → Every P done → Every P l → Every P (sort_onto done l)
unfolding sort_onto_by
sort_onto_every P done [] h g = h
sort_onto_every P done (x ∷ l) h g = sort_onto_every P (insert x done) l (insert_every P x done g.0 h) g.1

-- a property of every element of l
pub sorted_every : (P : Float → Type 0) (l : List Float) → Every P l → Every P (sorted l)
unfolding sorted_by
sorted_every P l g = sort_onto_every P [] l tt g

-- x below y, and no z below y: no z below x
below_rest : {x y z : Float} → Finite x → Finite y → Finite z → lt x y ≡ true → lt z y ≡ false → lt z x ≡ false
below_rest fx fy fz h g = not_lt_of_units fz fx (omega (arith, units_of_lt fx fy h, units_of_not_lt fz fy g))

below_not : {x y : Float} → Finite x → Finite y → lt x y ≡ true → lt y x ≡ false
below_not fx fy h = not_lt_of_units fy fx (omega (arith, units_of_lt fx fy h))

insert_ordered : (x : Float) (l : List Float) → Finite x → Every Finite l → Ordered l → Ordered (insert x l)
unfolding insert_by
insert_ordered x [] fx fl o = (tt, tt)
insert_ordered x (y ∷ l) fx fl o = by (lt x y) refl (insert_ordered x l fx fl.1 o.1)
  where
    by : (b : Bool) → lt x y ≡ b → Ordered (insert x l) → Ordered (cond b (x ∷ y ∷ l) (y ∷ insert x l))
    by true e r =
        ((below_not fx fl.0 e, every_both l (λ z fz h. below_rest fx fl.0 fz e h) fl.1 o.0), o)
    by false e r = (insert_every (λ z. lt z y ≡ false) x l e o.0, r)

sort_onto_ordered : (done l : List Float) → Every Finite done → Every Finite l → Ordered done → Ordered (sort_onto done l)
unfolding sort_onto_by
sort_onto_ordered done [] fd fl o = o
sort_onto_ordered done (x ∷ l) fd fl o =
    sort_onto_ordered (insert x done) l (insert_every Finite x done fl.0 fd) fl.1 (insert_ordered x done fl.0 fd o)

-- The sorted list is ordered.
pub sorted_ordered : (l : List Float) → Every Finite l → Ordered (sorted l)
unfolding sorted_by
sorted_ordered l h = sort_onto_ordered [] l tt h tt

-- a z above x is not level with what is level with x
above_level : {a x z : Float} → Finite a → Finite x → Finite z → level a x ≡ true → lt x z ≡ true → level a z ≡ false
unfolding level
above_level {a} {x} {z} fa fx fz h g =
    let up = units_of_not_lt fx fa (right (not (lt a x)) (lt x a) h) in
    rw (lt_of_units fa fz (omega (arith, up, units_of_lt fx fz g)))
  where
    right : (s t : Bool) → s && not t ≡ true → t ≡ false
    right true false h = refl
    right true true h = sym h
    right false t h = let z : ◌≡◌ {A = ℕ} 0 1 = cc in absurd (omega arith)

module _ (a : Float) (fa : Finite a) where
  -- put in, x is the last of those level with it
  insert_level : (x : Float) (l : List Float) → Finite x → Every Finite l → Ordered l
      → keep (level a) (insert x l) ≡ keep (level a) l ++ keep (level a) (x ∷ [])
  unfolding insert_by keep
  insert_level x [] fx fl o = refl
  insert_level x (y ∷ l) fx fl o = by (lt x y) refl (insert_level x l fx fl.1 o.1)
    where
      above : lt x y ≡ true → Every (λ z. lt x z ≡ true) (y ∷ l)
      above e = (e, every_both l (λ z fz h. lt_of_units fx fz (omega (arith, units_of_lt fx fl.0 e, units_of_not_lt fz fl.0 h))) fl.1 o.0)

      first : (b : Bool) → level a x ≡ b → lt x y ≡ true
          → cond b (x ∷ keep (level a) (y ∷ l)) (keep (level a) (y ∷ l)) ≡ keep (level a) (y ∷ l) ++ cond b (x ∷ []) []
      first true h e = rw (keep_none (level a) (y ∷ l) (every_both (y ∷ l) (λ z fz g. above_level fa fx fz h g) fl (above e)))
      first false h e = sym (append-nil (keep (level a) (y ∷ l)))

      rest : (b : Bool) → keep (level a) (insert x l) ≡ keep (level a) l ++ keep (level a) (x ∷ [])
          → cond b (y ∷ keep (level a) (insert x l)) (keep (level a) (insert x l)) ≡ cond b (y ∷ keep (level a) l) (keep (level a) l) ++ keep (level a) (x ∷ [])
      rest true r = ap (λ t. y ∷ t) r
      rest false r = r

      by : (b : Bool) → lt x y ≡ b → keep (level a) (insert x l) ≡ keep (level a) l ++ keep (level a) (x ∷ [])
          → keep (level a) (cond b (x ∷ y ∷ l) (y ∷ insert x l)) ≡ keep (level a) (y ∷ l) ++ keep (level a) (x ∷ [])
      by true e r = first (level a x) refl e
      by false e r = rest (level a y) r

  sort_onto_level : (done l : List Float) → Every Finite done → Every Finite l → Ordered done
      → keep (level a) (sort_onto done l) ≡ keep (level a) done ++ keep (level a) l
  unfolding sort_onto_by keep
  sort_onto_level done [] fd fl o = sym (append-nil (keep (level a) done))
  sort_onto_level done (x ∷ l) fd fl o =
      sort_onto_level (insert x done) l (insert_every Finite x done fl.0 fd) fl.1 (insert_ordered x done fl.0 fd o)
      ∙ rw (insert_level x done fl.0 fd o) (append_assoc (keep (level a) done) (keep (level a) (x ∷ [])) (keep (level a) l)
      ∙ ap (λ t. keep (level a) done ++ t) (joined (level a x)))
    where
      joined : (b : Bool) → cond b (x ∷ []) [] ++ keep (level a) l ≡ cond b (x ∷ keep (level a) l) (keep (level a) l)
      joined true = refl
      joined false = refl

  -- The sort is stable: those that are level with a stand in the order in which they came.
  pub sorted_stable : (l : List Float) → Every Finite l → keep (level a) (sorted l) ≡ keep (level a) l
  unfolding sorted_by keep
  sorted_stable l h = sort_onto_level [] l tt h tt
