-- Answers that say the same give the same sets. So the sets of circles of radii above 0 are the former ones, those of
-- outlines alone.
use Rattle.std.specs.Prelude.{ℕ, ◌<◌, ◌≡◌, Bool, List}
use Rattle.geometry.specs.declared.circle.Circle.{Circle}
use Rattle.intersections.specs.declared.points.IntersectionPoint.{IntersectionPoint}
use Rattle.intersections.specs.Alike.{RadiiAbove}
use Rattle.intersections.specs.Points.{collected, collected_by, outline_rule}
use Rattle.sets.specs.Sets.{is_set}
use Rattle.sets.specs.Regions.{in_regions, in_outline_regions}

-- Singles and adopter masks are the same masks; of the n heads the same pairs meet, and the same heads contain each
-- other. Then the sets are the same. Proved as `sets_alike`, proofs/Alike.antt.
abbrev pub SetsAlike : Type 0
SetsAlike =
    (n : ℕ) (singles singles' adopters adopters' : ℕ → Bool) (meets meets' contains contains' : ℕ → ℕ → Bool)
    → ((S : ℕ) → singles S ≡ singles' S) → ((S : ℕ) → adopters S ≡ adopters' S)
    → ((i j : ℕ) → j < i → i < n → meets i j ≡ meets' i j) → ((i j : ℕ) → i < n → j < n → contains i j ≡ contains' i j)
    → (S : ℕ) → is_set n singles adopters meets contains S ≡ is_set n singles' adopters' meets' contains' S

-- Where every radius is above 0, the sets are the former ones, whatever the points. Proved as `regions_as_before`.
abbrev pub RegionsAsBefore : Type 0
RegionsAsBefore =
    (circles : List Circle) (points : List IntersectionPoint) → RadiiAbove circles
    → (S : ℕ) → in_regions circles points S ≡ in_outline_regions circles points S

-- And with their own points, the former sets of the former points. Proved as `sets_as_before`.
abbrev pub SetsAsBefore : Type 0
SetsAsBefore =
    (circles : List Circle) → RadiiAbove circles
    → (S : ℕ) → in_regions circles (collected circles) S
    ≡ in_outline_regions circles (collected_by outline_rule circles) S
