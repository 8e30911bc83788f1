-- The stable sort of angles: each is put in before the first that is greater.
use Rattle.std.specs.Prelude.{◌≡◌, Bool, false, not, ◌&&◌, cond, ℕ, ◌+◌, ltb, Float}
use Rattle.std.specs.Prelude.{List, [], ◌∷◌, ◌++◌, length, take, drop}
use Rattle.lists.specs.Every.{Every}
use Rattle.binary64.specs.Floats.{◌<ᶠ◌}

-- of what is ordered by an angle
module _ {A : Type 0} (angle_of : A → Float) where
  -- x before the first of a greater angle than x
  unfoldable pub insert_by : A → List A → List A
  insert_by x [] = x ∷ []
  insert_by x (y ∷ ys) = cond (angle_of x <ᶠ angle_of y) (x ∷ y ∷ ys) (y ∷ insert_by x ys)

  -- x put in so among the n from place `at` on: what stands before `at`, and from `at + n + 1` on, stays. What stood at
  -- `at + n` gives its place up, and all stays where there is no such place.
  abbrev pub insert_among : ℕ → ℕ → A → List A → List A
  insert_among at n x all =
      cond (ltb (at + n) (length all)) (take at all ++ insert_by x (take n (drop at all)) ++ drop (at + n + 1) all) all

  -- one after another of the list, put into those before it
  unfoldable pub sort_onto_by : List A → List A → List A
  unfolding insert_by
  sort_onto_by done [] = done
  sort_onto_by done (x ∷ xs) = sort_onto_by (insert_by x done) xs

  unfoldable pub sorted_by : List A → List A
  unfolding sort_onto_by
  sorted_by l = sort_onto_by [] l

-- angles themselves
abbrev pub insert : Float → List Float → List Float
insert = insert_by (λ x. x)

abbrev pub sort_onto : List Float → List Float → List Float
sort_onto = sort_onto_by (λ x. x)

abbrev pub sorted : List Float → List Float
sorted = sorted_by (λ x. x)

-- ---- what is claimed of the sort, and proved in proofs/Ordering.antt: `sorted_ordered`, `sorted_stable`

-- none is below one that stands before it
abbrev pub Ordered : List Float → Type 0
Ordered [] = Unit
Ordered (x ∷ l) = Every (λ y. (y <ᶠ x) ≡ false) l × Ordered l

-- neither is below the other, as +0 and -0
unfoldable pub level : Float → Float → Bool
level x y = not (x <ᶠ y) && not (y <ᶠ x)
