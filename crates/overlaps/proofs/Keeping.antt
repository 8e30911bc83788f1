-- The circles that are not closed, one after another: of the first i, and one more.
use mathlib.Core.Path.{◌≡◌, refl, sym, ap, ◌∙◌}
use mathlib.Core.Bool.{Bool, true, false, not, cond}
use mathlib.Core.List.{List, [], ◌∷◌, ◌++◌, append-nil}
use Prim.Native.Nat.{ℕ, ◌+◌, ◌≤◌, ◌<◌}
use native.Mathlib.Numerals.{add-one}
use native.Mathlib.Omega.{arith}
use lib.ListN.{length, get_or, take, length-take}
use lib.Seq.{take-suc}
use Rattle.lists.specs.Lists.{keep}
use Rattle.lists.proofs.Lists.{keep_append, keep_length}
use Rattle.geometry.specs.Circle.{is_closed}
use Rattle.geometry.specs.declared.circle.Circle.{Circle}
use Rattle.overlaps.specs.Overlap.{not_closed}

pub not_closed_few : (cs : List Circle) → length (not_closed cs) ≤ length cs
unfolding not_closed
not_closed_few cs = keep_length (λ c. not (is_closed c)) cs

pub not_closed_none : not_closed [] ≡ []
unfolding not_closed keep
not_closed_none = refl

module _ (cs : List Circle) (i : ℕ) (d : Circle) (h : i < length cs) where
  -- the circles before place i + 1
  one_more : take (i + 1) cs ≡ take i cs ++ (get_or cs i d ∷ [])
  one_more = rw (add-one i) (take-suc cs i d h)

  kept_one : (b : Bool) → is_closed (get_or cs i d) ≡ b
      → not_closed (take (i + 1) cs) ≡ not_closed (take i cs) ++ cond (not b) (get_or cs i d ∷ []) []
  unfolding not_closed keep
  kept_one b e =
      rw (one_more, keep_append (λ c. not (is_closed c)) (take i cs) (get_or cs i d ∷ []), e) refl

  module _ {found : List Circle} (so_far : found ≡ not_closed (take i cs)) where
    pub kept_with : {more : List Circle} → is_closed (get_or cs i d) ≡ false → more ≡ found ++ (get_or cs i d ∷ [])
        → more ≡ not_closed (take (i + 1) cs)
    kept_with e g = g ∙ ap (λ (l : List Circle). l ++ (get_or cs i d ∷ [])) so_far ∙ sym (kept_one false e)

    pub kept_without : is_closed (get_or cs i d) ≡ true → found ≡ not_closed (take (i + 1) cs)
    kept_without e = so_far ∙ sym (append-nil (not_closed (take i cs))) ∙ sym (kept_one true e)

    -- there is room for one more
    pub kept_few : length found ≤ i
    kept_few = omega (arith, ap length so_far, not_closed_few (take i cs), length-take i cs)
