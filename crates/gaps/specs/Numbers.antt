-- Which arc a number stands for, as code takes it apart: its head and the places of its ends among the head's marks.
-- And the number of the arc that a gap of a head is in a set, from the marks of the head.
use Rattle.std.specs.Prelude.{ℕ, ◌+◌, ◌*◌, ◌-◌, ◌/◌, ◌%◌, ◌≤◌, ◌<◌, ◌≡◌, ◌&&◌, eqb}
use Rattle.std.specs.Prelude.{Option, None, Some, List, length, get_or, take}
use Rattle.std.proofs.Math.Bool.{cond}
use Rattle.std.proofs.Math.Dec.{ltb}
use Rattle.masks.specs.Mask.{subset}
use Rattle.geometry.specs.declared.circle.Circle.{Circle}
use Rattle.boundary.specs.declared.sort.Mark.{Mark}
use Rattle.boundary.specs.Marks.{no_mark}
use Rattle.gaps.specs.declared.numbers.ArcNumber.{ArcNumber}
use Rattle.gaps.specs.declared.numbers.ArcNumber.TheVariants.{Next, Whole, Far}
use Rattle.gaps.specs.Gaps.{is_arc, next_of}
use Rattle.gaps.specs.Marks.{phi_at}

-- p is the number of this arc
abbrev pub Names : ℕ → ArcNumber → Type 0
Names p (Next j a) = (p < 320) × (j ≡ p / 32) × (a ≡ p % 32)
Names p (Whole j) = (320 ≤ p) × (p < 330) × (j ≡ p - 320)
Names p (Far j a b) =
    (330 ≤ p) × (j ≡ (p - 330) / 320 / 32) × (a ≡ (p - 330) / 320 % 32) × (b ≡ (p - 330) % 320 % 32)

-- the number of an arc
abbrev pub number_of : ArcNumber → ℕ
number_of (Next j a) = j * 32 + a
number_of (Whole j) = 320 + j
number_of (Far j a b) = 330 + (j * 32 + a) * 320 + (j * 32 + b)

-- what is read of the marks of a head, of which any list may be handed over
abbrev pub first_places : List Mark → List Mark
first_places marks = take 32 marks

-- n is how many angles there are round the head, whatever the marks are; where all stand for angles, it is their length
module _ (circles : List Circle) (marks : List Mark) (n S j a b : ℕ) where
  -- between neighbours: the place of the angle that it begins at, if all heads of S are among those held to let head j
  -- have the gap
  unfoldable pub neighbour_number : Option ℕ
  neighbour_number = cond (subset 64 S (get_or marks a no_mark).lets) (Some (j * 32 + a)) None

  -- between any other two: by the places of both, if the gap is an arc
  unfoldable pub other_number : Option ℕ
  unfolding is_arc
  other_number =
      cond (is_arc circles S j (phi_at marks a) (phi_at marks b)) (Some (330 + (j * 32 + a) * 320 + (j * 32 + b))) None

  -- the number of the arc from the a-th mark of head j to the b-th, 32 places a head, if that gap is an arc
  unfoldable pub gap_number : Option ℕ
  unfolding next_of neighbour_number other_number
  gap_number =
      let m = length marks in
      cond (ltb j (length circles) && ltb a m && ltb b m)
      (cond (eqb b (next_of a n)) neighbour_number other_number)
      None
