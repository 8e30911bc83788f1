-- A closed circle is not counted in an overlap.
use mathlib.Core.Path.{◌≡◌, refl, sym, ap, ◌∙◌}
use mathlib.Core.Bool.{Bool, true, false, not, cond}
use mathlib.Core.List.{List, [], ◌∷◌, ◌++◌, map, map-append}
use Prim.Native.Nat.{ℕ, ◌<◌}
use lib.Ieee.{mul, round, of_bits}
use lib.ListN.{length}
use Rattle.binary64.specs.Constants.{zero64}
use Rattle.lists.specs.Every.{Every}
use Rattle.lists.specs.Lists.{up_to, keep}
use Rattle.lists.proofs.Lists.{up_to_cong, up_to_through, keep_append}
use Rattle.masks.specs.Mask.{in_set}
use Rattle.geometry.specs.Circle.{is_closed}
use Rattle.geometry.specs.declared.circle.Circle.{Circle}
use Rattle.boundary.specs.Outline.{outline}
use Rattle.outline.specs.Area.{area_of, open_area}
use Rattle.intersections.specs.Members.{circle_at, heads_of, members_of}
use Rattle.overlaps.specs.Overlap.{together, not_closed, overlap, chosen}
use Rattle.overlaps.specs.Closed.{ClosedNotCounted}
use Rattle.overlaps.proofs.Keeping.{not_closed_none}

not_closed_append : (a b : List Circle) → not_closed (a ++ b) ≡ not_closed a ++ not_closed b
unfolding not_closed
not_closed_append a b = keep_append (λ c. not (is_closed c)) a b

left_out : (c : Circle) (b : List Circle) → is_closed c ≡ true → not_closed (c ∷ b) ≡ not_closed b
unfolding not_closed keep
left_out c b e = ap (λ (t : Bool). cond (not t) (c ∷ not_closed b) (not_closed b)) e

one_left_out : (a b : List Circle) (c : Circle) → is_closed c ≡ true → not_closed (a ++ (c ∷ b)) ≡ not_closed (a ++ b)
one_left_out a b c e =
    not_closed_append a (c ∷ b) ∙ ap (λ (l : List Circle). not_closed a ++ l) (left_out c b e)
    ∙ sym (not_closed_append a b)

none_left : (cs : List Circle) → Every (λ c. is_closed c ≡ true) cs → not_closed cs ≡ not_closed []
none_left [] e = refl
none_left (c ∷ cs) e = left_out c cs e.0 ∙ none_left cs e.1

module _ (cs : List Circle) where
  -- of some heads, by number, the circles that are not closed
  abbrev through : List ℕ → List Circle
  through js = not_closed (map (circle_at cs) js)

  -- head j, if it is of the set
  abbrev one : ℕ → ℕ → List ℕ
  one S j = cond (in_set S j) (j ∷ []) []

  module _ (S T : ℕ)
      (same : (j : ℕ) → j < length cs → is_closed (circle_at cs j) ≡ false → in_set S j ≡ in_set T j) where
    one_same : (j : ℕ) → j < length cs → through (one S j) ≡ through (one T j)
    one_same j h = go (is_closed (circle_at cs j)) refl
      where
        gone : is_closed (circle_at cs j) ≡ true → (b : Bool) → through (cond b (j ∷ []) []) ≡ through []
        gone e true = left_out (circle_at cs j) [] e
        gone e false = refl

        go : (p : Bool) → is_closed (circle_at cs j) ≡ p → through (one S j) ≡ through (one T j)
        go true e = gone e (in_set S j) ∙ sym (gone e (in_set T j))
        go false e = ap (λ (b : Bool). through (cond b (j ∷ []) [])) (same j h e)

    pub chosen_same : not_closed (chosen cs S) ≡ not_closed (chosen cs T)
    unfolding heads_of
    chosen_same = by (one S) ∙ up_to_cong _ _ (length cs) one_same ∙ sym (by (one T))
      where
        by : (f : ℕ → List ℕ) → through (up_to f (length cs)) ≡ up_to (λ j. through (f j)) (length cs)
        by f =
            up_to_through through not_closed_none
            (λ a b. ap not_closed (map-append (circle_at cs) a b)
            ∙ not_closed_append (map (circle_at cs) a) (map (circle_at cs) b))
            f (length cs)

nothing : overlap [] ≡ zero64
unfolding not_closed keep members_of heads_of up_to open_area outline area_of mul round of_bits
nothing = refl

pub closed_not_counted : ClosedNotCounted
closed_not_counted = record {
  circle = λ a b c e. ap together (one_left_out a b c e);
  mask = λ cs S T same. ap together (chosen_same cs S T same);
  all_closed = λ cs e. ap together (none_left cs e);
  of_none = nothing;
}
