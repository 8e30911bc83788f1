-- The sets of circles and their meeting points, as the Rust's discover_regions finds them: the four questions of
-- specs/Sets.antt, each answered in one place, and the presence bytes.
use Rattle.std.specs.Prelude.{ℕ, ◌^◌, Bool, not, ◌&&◌, ◌||◌, List, eqb, length, replicate, false}
use Rattle.geometry.specs.Circle.{is_closed, contains, covers}
use Rattle.geometry.specs.declared.circle.Circle.{Circle}
use Rattle.intersections.specs.declared.points.IntersectionPoint.{IntersectionPoint}
use Rattle.intersections.specs.Members.{circle_at}
use Rattle.lists.specs.Some.{some, any}
use Rattle.lists.specs.Written.{written}
use Rattle.masks.specs.Mask.{single}
use Rattle.masks.specs.Presence.{byte}
use Rattle.sets.specs.Sets.{is_set}

-- S is the single of a head below n that is not closed
unfoldable pub is_one_head : ℕ → (ℕ → Bool) → ℕ → Bool
unfolding some
is_one_head n closed S = some n (λ i. eqb S (single n i) && not (closed i))

-- head i is closed
abbrev pub closed_at : List Circle → ℕ → Bool
closed_at circles i = is_closed (circle_at circles i)

-- S has just the adopters of a meeting point
abbrev pub is_adopters_of : List IntersectionPoint → ℕ → Bool
is_adopters_of points S = any (λ q. eqb S q.adopters) points

-- heads i and j are the parents of the point
abbrev pub parents : ℕ → ℕ → IntersectionPoint → Bool
parents i j q = (eqb q.first i && eqb q.second j) || (eqb q.first j && eqb q.second i)

-- heads i and j meet: they are the parents of a meeting point
abbrev pub meets_at : List IntersectionPoint → ℕ → ℕ → Bool
meets_at points i j = any (parents i j) points

-- head i contains head j
abbrev pub contains_at : List Circle → ℕ → ℕ → Bool
contains_at circles i j = contains (circle_at circles i) (circle_at circles j)

-- The mask S is among the sets of these circles.
abbrev pub in_regions : List Circle → List IntersectionPoint → ℕ → Bool
in_regions circles points S =
    is_set (length circles) (is_one_head (length circles) (closed_at circles)) (is_adopters_of points) (meets_at points)
    (contains_at circles) S

-- The presence bytes: byte S for each mask S of the heads, and 0 beyond.
abbrev pub set_bytes : List Circle → List IntersectionPoint → List ℕ
set_bytes circles points = written (λ S. byte (in_regions circles points S)) (2 ^ length circles) (replicate 1024 0)

-- ---- the former sets, of outlines alone

-- the outline of head i holds that of head j
abbrev pub covers_at : List Circle → ℕ → ℕ → Bool
covers_at circles i j = covers (circle_at circles i) (circle_at circles j)

-- The sets as they were before a circle could be closed: every head has its single, and a head contains what its
-- outline holds.
abbrev pub in_outline_regions : List Circle → List IntersectionPoint → ℕ → Bool
in_outline_regions circles points S =
    is_set (length circles) (is_one_head (length circles) (λ i. false)) (is_adopters_of points) (meets_at points)
    (covers_at circles) S
