-- What is said of heads of radii above 0 did not move when heads could be closed: they lie to each other, meet and
-- contain as their outlines do. It is said of the radii, not of what counts as closed; and so it is of the check of a
-- radius, which moved for 0 alone. proofs/AsBefore.antt proves both: `heads_as_before`, `radii_as_before`.
use Rattle.std.specs.Prelude.{ℕ, ◌<◌, ◌≡◌, ℤ, pos}
use Rattle.heads.specs.Limits.{radius_limit, within, radius_in_limits}
use Rattle.heads.specs.Relation.{outlines_meet, outlines_meet_once, covers, outline_relation}
use Rattle.heads.specs.Relation.{meets, meets_once, contains, relation}

-- of heads of radii a and b whose centres have the squared distance D
pub record AsBefore (D a b : ℕ) : Type 0 where
  pub relation : relation D a b ≡ outline_relation D a b
  pub meets : meets D a b ≡ outlines_meet D a b
  pub meets_once : meets_once D a b ≡ outlines_meet_once D a b
  pub contains : contains D a b ≡ covers D a b

abbrev pub HeadsAsBefore : Type 0
HeadsAsBefore = (D a b : ℕ) → 0 < a → 0 < b → AsBefore D a b

-- a radius other than 0 is taken, or refused, as it was
abbrev pub RadiiAsBefore : Type 0
RadiiAsBefore = (v : ℤ) → (v ≡ pos 0 → ⊥) → radius_in_limits v ≡ within (pos 1) (pos radius_limit) v
