-- Two rules that say the same give the same meeting points: of one point, of a pair, of all. What is asked is asked
-- of the circles at hand alone, and of the points in which they meet.
use Rattle.std.specs.Prelude.{ℕ, ◌<◌, ◌≡◌, List, length}
use Rattle.lists.specs.Every.{Every}
use Rattle.geometry.specs.AsBefore.{RadiusAbove}
use Rattle.geometry.specs.declared.point.Point.{Point}
use Rattle.geometry.specs.declared.circle.Circle.{Circle}
use Rattle.intersections.specs.Members.{circle_at}
use Rattle.intersections.specs.Points.{Rule, outline_rule, with_adopters_by, pair_points_by, collected_by}
use Rattle.intersections.specs.Points.{collected}

module _ (r s : Rule) (cs : List Circle) where
  -- both say the same of who adopts p, a meeting point of heads i and j: of each other head that there is
  abbrev pub AdoptAlike : ℕ → ℕ → Point → Type 0
  AdoptAlike i j p =
      (l : ℕ) → l < length cs → (l ≡ i → ⊥) → (l ≡ j → ⊥)
      → r.adopting (circle_at cs i) (circle_at cs j) (circle_at cs l) p
      ≡ s.adopting (circle_at cs i) (circle_at cs j) (circle_at cs l) p

  -- both say the same of heads i and j: in which points they meet, and who adopts each of these
  pub record PairAlike (i j : ℕ) : Type 0 where
    pub meet : r.meeting (circle_at cs i) (circle_at cs j) ≡ s.meeting (circle_at cs i) (circle_at cs j)
    pub adopt : Every (AdoptAlike i j) (r.meeting (circle_at cs i) (circle_at cs j))

  -- ---- what follows, proved in proofs/Alike.antt

  -- one point: its adopters are the same. `adopters_alike`
  abbrev pub AdoptersAlike : Type 0
  AdoptersAlike = (i j : ℕ) (p : Point) → AdoptAlike i j p → with_adopters_by r cs i j p ≡ with_adopters_by s cs i j p

  -- one pair: its points with their adopters are the same. `pair_alike`
  abbrev pub PointsAlike : Type 0
  PointsAlike = (i j : ℕ) → PairAlike i j → pair_points_by r cs i j ≡ pair_points_by s cs i j

  -- all pairs: so are all points, in the same order. `collected_alike`
  abbrev pub CollectedAlike : Type 0
  CollectedAlike = ((i j : ℕ) → i < j → j < length cs → PairAlike i j) → collected_by r cs ≡ collected_by s cs

-- the radius of each circle is above 0
abbrev pub RadiiAbove : List Circle → Type 0
RadiiAbove cs = (i : ℕ) → i < length cs → RadiusAbove (circle_at cs i)

-- Where they are, the points are the former ones. `collected_as_before`
abbrev pub CollectedAsBefore : Type 0
CollectedAsBefore = (cs : List Circle) → RadiiAbove cs → collected cs ≡ collected_by outline_rule cs
