-- The meeting points of circles, with parents and adopters, in the order of the Rust's two loops. The circles are a
-- list. Over any rule of meeting and adopting, so that what a change of the rule moves, and what not, can be said of
-- both.
use Rattle.std.specs.Prelude.{ℕ, ◌+◌, ◌-◌, Bool, ◌||◌, List, map, eqb, length}
use Rattle.masks.specs.Mask.{gather}
use Rattle.lists.specs.Lists.{up_to}
use Rattle.geometry.specs.Circle.{contains_point, covers_point, intersection_points, outline_points}
use Rattle.geometry.specs.declared.point.Point.{Point}
use Rattle.geometry.specs.declared.circle.Circle.{Circle}
use Rattle.intersections.specs.declared.points.IntersectionPoint.{IntersectionPoint}
use Rattle.intersections.specs.Members.{circle_at}

-- The one predicate of who adopts a point: the circle c adopts p, whose parents are a and b, if p is not outside it.
unfoldable pub adopts_point : Circle → Circle → Circle → Point → Bool
adopts_point a b c p = contains_point c p

-- What all of this rests on: in which points two circles meet, and which others adopt such a point.
pub record Rule : Type 0 where
  pub meeting : Circle → Circle → List Point
  pub adopting : Circle → Circle → Circle → Point → Bool

module _ (r : Rule) (cs : List Circle) where
  -- head l adopts p, a meeting point of heads i and j: a parent without the test
  unfoldable pub adopts_by : ℕ → ℕ → Point → ℕ → Bool
  adopts_by i j p l = eqb l i || (eqb l j || r.adopting (circle_at cs i) (circle_at cs j) (circle_at cs l) p)

  -- the point p of heads i and j, with its adopters
  unfoldable pub with_adopters_by : ℕ → ℕ → Point → IntersectionPoint
  with_adopters_by i j p = record { point = p; first = i; second = j; adopters = gather (length cs) (adopts_by i j p) }

  -- the meeting points of heads i and j
  unfoldable pub pair_points_by : ℕ → ℕ → List IntersectionPoint
  unfolding with_adopters_by
  pair_points_by i j = map (with_adopters_by i j) (r.meeting (circle_at cs i) (circle_at cs j))

  -- those of head i with the heads after it
  unfoldable pub later_points_by : ℕ → List IntersectionPoint
  unfolding up_to pair_points_by
  later_points_by i = up_to (λ d. pair_points_by i (i + 1 + d)) (length cs - (i + 1))

  -- all of them: i from 0, j from i + 1
  unfoldable pub collected_by : List IntersectionPoint
  unfolding up_to later_points_by
  collected_by = up_to later_points_by (length cs)

-- ---- the meeting points that everything else is worked out from

abbrev pub rule : Rule
rule = record { meeting = intersection_points; adopting = adopts_point }

abbrev pub adopts : List Circle → ℕ → ℕ → Point → ℕ → Bool
adopts = adopts_by rule

abbrev pub with_adopters : List Circle → ℕ → ℕ → Point → IntersectionPoint
with_adopters = with_adopters_by rule

abbrev pub pair_points : List Circle → ℕ → ℕ → List IntersectionPoint
pair_points = pair_points_by rule

abbrev pub later_points : List Circle → ℕ → List IntersectionPoint
later_points = later_points_by rule

abbrev pub collected : List Circle → List IntersectionPoint
collected = collected_by rule

-- ---- the former meeting points, of outlines alone

-- Points and adopters as they were before a circle could be closed: nothing asks whether it is.
abbrev pub outline_rule : Rule
outline_rule = record { meeting = outline_points; adopting = λ a b c p. covers_point c p }
