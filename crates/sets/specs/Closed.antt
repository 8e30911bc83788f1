-- "A closed head is in no set", whichever phase a mask would be found in: of any circles and their meeting points, and
-- with no bound on how many they are. Proved in proofs/Closed.antt as `closed_in_no_set`.
use Rattle.std.specs.Prelude.{ℕ, ◌<◌, ◌≡◌, true, false, List, length}
use Rattle.geometry.specs.declared.circle.Circle.{Circle}
use Rattle.intersections.specs.Points.{collected}
use Rattle.masks.specs.Mask.{in_set}
use Rattle.sets.specs.Regions.{closed_at, in_regions}

abbrev pub ClosedInNoSet : Type 0
ClosedInNoSet =
    (circles : List Circle) (k : ℕ) → k < length circles → closed_at circles k ≡ true
    → (S : ℕ) → in_set S k ≡ true → in_regions circles (collected circles) S ≡ false
