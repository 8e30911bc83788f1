-- Heads that do not meet, and of which neither contains the other, are apart and share no area (specs/Pairs.antt).
use mathlib.Core.Path.{◌≡◌, refl, sym, ap, ◌∙◌, subst}
use mathlib.Core.Bool.{Bool, true, false, ◌&&◌, false≢true}
use mathlib.Core.Logic.{◌⊎◌, inl, inr}
use Prim.Native.Nat.{ℕ, ◌+◌, ◌*◌, ◌≤◌, ◌<◌}
use native.Mathlib.Omega.{arith}
use borrow.Author.Tests.{leb-false, le-leb}
use lib.Dec.{leb}
use lib.Ieee.{lt, of_bits}
use Rattle.heads.specs.declared.Relation.{Relation}
use Rattle.heads.specs.declared.Relation.TheVariants.{Apart, TouchingOutside, Crossing, TouchingInside, Holding, Identical}
use Rattle.heads.specs.Relation.{either_closed, relation, meets, contains, meeting, covering}
use Rattle.heads.specs.Cases.{Case, case_of, meets_relation, contains_relation, relation_comm}
use Rattle.heads.specs.Distance.{squared_distance_comm}
use Rattle.heads.specs.Pair.{squared_distance, radius_of}
use Rattle.binary64.specs.Constants.{zero64, ten_to_minus10}
use Rattle.geometry.specs.Circle.{intersection_area}
use Rattle.exact.specs.Circle.{circle_of}
use Rattle.exact.proofs.Theorem.{no_area_beyond, no_area_closed}
use Rattle.discovered.specs.Pairs.{NoPairByArea}

-- heads that do not meet, and of which neither contains the other, are apart
only_apart : (r : Relation) (u v : Bool) → meeting r ≡ false → (u && covering r) ≡ false → (v && covering r) ≡ false → (u ≡ true) ⊎ (v ≡ true) → r ≡ Apart
only_apart Apart u v m a b e = refl
only_apart TouchingOutside u v m a b e = absurd (false≢true (sym m))
only_apart Crossing u v m a b e = absurd (false≢true (sym m))
only_apart TouchingInside u v m a b e = absurd (false≢true (sym m))
only_apart Holding true v m a b e = absurd (false≢true (sym a))
only_apart Holding false true m a b e = absurd (false≢true (sym b))
only_apart Holding false false m a b (inl e) = absurd (false≢true e)
only_apart Holding false false m a b (inr e) = absurd (false≢true e)
only_apart Identical true v m a b e = absurd (false≢true (sym a))
only_apart Identical false true m a b e = absurd (false≢true (sym b))
only_apart Identical false false m a b (inl e) = absurd (false≢true e)
only_apart Identical false false m a b (inr e) = absurd (false≢true e)

one_larger : (a b : ℕ) → (leb b a ≡ true) ⊎ (leb a b ≡ true)
one_larger a b = go (leb b a) refl
  where
    go : (t : Bool) → leb b a ≡ t → (leb b a ≡ true) ⊎ (leb a b ≡ true)
    go true e = inl e
    go false e = inr (le-leb a b (omega (arith, leb-false b a e)))

apart_beyond : (D a b : ℕ) → either_closed a b ≡ false → meets D a b ≡ false → contains D a b ≡ false
    → contains D b a ≡ false → (a + b) * (a + b) ≤ D
apart_beyond D a b o m c d =
    let e = only_apart (relation D a b) (leb b a) (leb a b) (sym (meets_relation D a b) ∙ m) (sym (contains_relation D a b) ∙ c)
    (ap (λ (r : Relation). leb a b && covering r) (relation_comm D a b) ∙ sym (contains_relation D b a) ∙ d) (one_larger a b) in
    far (subst (λ (r : Relation). Case r D a b) e (case_of D a b))
  where
    far : (either_closed a b ≡ true) ⊎ ((a + b) * (a + b) < D) → (a + b) * (a + b) ≤ D
    far (inl z) = absurd (false≢true (sym o ∙ z))
    far (inr h) = omega arith

none_above : lt ten_to_minus10 zero64 ≡ false
unfolding lt of_bits
none_above = refl

pub no_pair_by_area : NoPairByArea
no_pair_by_area a b ha hb m c d =
    ap (lt ten_to_minus10) (by (either_closed (radius_of a) (radius_of b)) refl) ∙ none_above
  where
    by : (p : Bool) → either_closed (radius_of a) (radius_of b) ≡ p
        → intersection_area (circle_of a) (circle_of b) ≡ zero64
    by true e = no_area_closed a b ha hb e
    by false e =
        no_area_beyond a b ha hb
        (apart_beyond (squared_distance a b) (radius_of a) (radius_of b) e m c
        (ap (λ (D : ℕ). contains D (radius_of b) (radius_of a)) (squared_distance_comm a b) ∙ d))
