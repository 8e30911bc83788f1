-- The heads of a set gathered one after another, numbers and circles; the head of a set of one, by its trailing zeros.
use mathlib.Core.Path.{◌≡◌, refl, sym, ap, ◌∙◌}
use mathlib.Core.Bool.{Bool, true, false, cond}
use mathlib.Core.List.{List, [], ◌∷◌, ◌++◌, map, map-append, append-nil}
use mathlib.Core.Logic.{⊎_elim}
use Prim.Native.Nat.{ℕ, zero, suc, ◌+◌, ◌^◌, ◌≤◌, ◌<◌}
use native.Mathlib.Nat.{eq-or-lt_of_le}
use native.Mathlib.Numerals.{add-one}
use native.Mathlib.Omega.{arith}
use borrow.Author.Tests.{lt-ltb, le-ltb, ltb-true, ltb-false, eqb-true, eqb-false}
use lib.Count.{ones, count_trailing_zeros}
use lib.Dec.{eqb, ltb}
use lib.ListN.{length, length-map}
use Rattle.masks.specs.Mask.{in_set}
use Rattle.masks.specs.Operations.{in_power}
use Rattle.masks.specs.Lowest.{one_single}
use Rattle.lists.specs.Lists.{up_to}
use Rattle.geometry.specs.declared.circle.Circle.{Circle}
use Rattle.intersections.specs.declared.members.HeadCircle.{HeadCircle}
use Rattle.intersections.specs.Heads.{head_circle, heads_with}
use Rattle.intersections.specs.Counts.{heads_few}
use Rattle.intersections.specs.Members.{heads_of, circle_at}

module _ (circles : List Circle) (S : ℕ) where
  -- the heads of S below j, each with its circle
  pub heads_to : ℕ → List HeadCircle
  heads_to j = map (head_circle circles) (heads_of j S)

  pub gathered_none : heads_to 0 ≡ []
  unfolding heads_to heads_of up_to
  gathered_none = refl

  pub gathered_all : (j : ℕ) → j ≡ length circles → heads_to j ≡ heads_with circles S
  unfolding heads_to heads_with
  gathered_all j e = rw e

  module _ (j : ℕ) {found : List HeadCircle} (so_far : found ≡ heads_to j) where
    -- a head more
    pub gathered_with : {more : List HeadCircle} {c : Circle} → in_set S j ≡ true → c ≡ circle_at circles j
        → more ≡ found ++ record { head = j; circle = c } ∷ [] → more ≡ heads_to (j + 1)
    unfolding heads_to heads_of up_to
    gathered_with e f g = g ∙ rw (so_far, f, add-one j, e) (sym (map-append (head_circle circles) (heads_of j S) (j ∷ [])))

    -- a head that is not in the set
    pub gathered_without : in_set S j ≡ false → found ≡ heads_to (j + 1)
    unfolding heads_to heads_of up_to
    gathered_without e = so_far ∙ rw (add-one j, e) (ap (map (head_circle circles)) (sym (append-nil (heads_of j S))))

    -- there is room for one more
    pub gathered_few : length found ≤ j
    unfolding heads_to
    gathered_few = omega (arith, ap length so_far, length-map (heads_of j S) (head_circle circles), heads_few j S)

-- the heads of a set of one, by its trailing zeros
heads_power : (n j : ℕ) → heads_of n (2 ^ j) ≡ cond (ltb j n) (j ∷ []) []
unfolding heads_of up_to
heads_power zero j = rw (le-ltb j 0 (omega arith))
heads_power (suc n) j = rw (in_power j n, heads_power n j) (by (ltb j n) (eqb n j) refl refl)
  where
    by : (b t : Bool) → ltb j n ≡ b → eqb n j ≡ t → cond b (j ∷ []) [] ++ cond t (n ∷ []) [] ≡ cond (ltb j (suc n)) (j ∷ []) []
    by true true e f = absurd (omega (arith, ltb-true j n e, eqb-true n j f))
    by true false e f = rw (lt-ltb j (suc n) (omega (arith, ltb-true j n e)))
    by false true e f = rw (eqb-true n j f, lt-ltb j (suc j) (omega arith))
    by false false e f = rw (le-ltb j (suc n) (apart (ltb-false j n e) (eqb-false n j f)))
      where
        apart : n ≤ j → (n ≡ j → ⊥) → suc n ≤ j
        apart h g = ⊎_elim (λ k. absurd (g k)) (λ k. k) (eq-or-lt_of_le h)

pub single_heads : (n S : ℕ) → S < 2 ^ 64 → ones S ≡ 1 → heads_of n S ≡ cond (ltb (count_trailing_zeros 64 S) n) (count_trailing_zeros 64 S ∷ []) []
single_heads n S h e = ap (heads_of n) (one_single 64 S h e) ∙ heads_power n (count_trailing_zeros 64 S)

module _ (circles : List Circle) (S : ℕ) (h : S < 2 ^ 64) (e : ones S ≡ 1) where
  abbrev j : ℕ
  j = count_trailing_zeros 64 S

  pub single_with : j < length circles → heads_with circles S ≡ head_circle circles j ∷ []
  unfolding heads_with
  single_with l = rw (single_heads (length circles) S h e, lt-ltb j (length circles) l)

  pub single_none : length circles ≤ j → heads_with circles S ≡ []
  unfolding heads_with
  single_none l = rw (single_heads (length circles) S h e, le-ltb j (length circles) l)
